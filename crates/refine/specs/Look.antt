-- The looks of the main loop, of the error column and of the search: the model's are the rules', by the cell and by whether there
-- is a lookahead token.
use Rattle.std.specs.Prelude.{◌≡◌, refl, Bool, ltb, eqb, length}
use Rattle.std.proofs.Math.Bool.{true, false}
use Prim.Native.Nat.{ℕ, zero, suc, ◌+◌, ◌<◌}
use native.Mathlib.Omega.{arith}
use borrow.Author.Tests.{ltb-true}
use Rattle.words.specs.Words.{pick}
use Rattle.rules.specs.declared.Cell.{Cell}
use Rattle.rules.specs.declared.Cell.TheVariants.{Shift, Reduce, Error}
use Rattle.rules.specs.declared.Formed.{Formed}
use Rattle.rules.specs.declared.Answer.TheVariants.{Accepted, AcceptedEarly, ExtraToken}
use Rattle.rules.specs.Tables.{flag}
use Rattle.rules.specs.Driving.{Mode, main, column, search, Run, more, done, root_of, top_state, answer_of}
use Rattle.rules.specs.Driving
use Rattle.model.specs.Model.{Call}
use Rattle.model.specs.Model
use Rattle.refine.specs.Fits.{Word}
use Rattle.refine.specs.Stack.{top_at_law, root_at_law}
use Rattle.refine.specs.Tokens.{Rooms, Fit, job_for, length_tokens, CellFits}
use Rattle.refine.specs.Holds.{Beside, beside_of, st_of, world_at, Kept, ModeKept, FormedFits, Related, goes, stopped}
use Rattle.refine.specs.Arrive.{kept_in_mode, kept_advanced, arrive_holds}
use Rattle.refine.specs.Reduce.{shift_holds, reduce_holds}

module _ {C : Call} {b x : Rooms} {u : ℕ} {r : Run} (K : Kept C b u r x) where
  -- the root and the top state
  root_of_law : (a : Beside) → Model.root_at (world_at x (st_of r a)) ≡ root_of r.stack
  unfolding Model.root_at
  root_of_law a = root_at_law r.stack x.stack K.stack

  -- nothing but the mode changes
  turns : (a : Beside) (m : Mode) → ModeKept C x r.stack a m → Related C b u (more (Driving.in_mode r m)) (world_at x (st_of r (beside_of m a)))
  turns a m M = goes (record { rooms = x; beside = a; is = refl; kept = kept_in_mode K m; mode = M })

  -- ---- an error

  formed_at_law : (a : Beside) (token : Bool) → Model.formed_at (world_at x (st_of r a)) token ≡ Driving.formed r token
  unfolding Model.formed_at Driving.formed
  formed_at_law a true = rw (top_at_law r.stack x.stack K.stack)
  formed_at_law a false = rw (top_at_law r.stack x.stack K.stack)

  fail_by : (a : Beside) (t : Bool) (f : Formed) → FormedFits f → Related C b u (pick t (more (Driving.in_mode r (column f))) (done (answer_of f) r)) (world_at x (pick t (Model.failing (st_of r a) f) (Model.ended (st_of r a) (answer_of f))))
  fail_by a true f w = turns a (column f) w
  fail_by a false f w = stopped a K (answer_of f)

  formed_fits : Fit C b → (token : Bool) → FormedFits (Driving.formed r token)
  unfolding Driving.formed
  formed_fits F true =
      let f = F.few in
      let g = K.read in
      record { number = omega arith; at = omega arith; from = omega arith }
  formed_fits F false =
      let f = F.few in
      let g = K.read in
      record { number = omega arith; at = K.last; from = omega arith }

  fail_holds : Fit C b → (a : Beside) (token : Bool) → Related C b u (Driving.fail (job_for C b) r (Driving.formed r token)) (Model.fail C (world_at x (st_of r a)) (Model.formed_at (world_at x (st_of r a)) token))
  unfolding Driving.fail Model.fail
  fail_holds F a token =
      rw (formed_at_law a token) (fail_by a (eqb (flag C.tables) 1) (Driving.formed r token) (formed_fits F token))

  -- ---- the search goes on: further down, or behind the dropped lookahead

  module _ (F : Fit C b) (A : Beside) (w : FormedFits A.formed) where
    drop_by : (t : Bool) → (t ≡ true → r.next < C.count) → Related C b u (pick t (Driving.arrive (job_for C b) (Driving.advanced r (search A.formed 0))) (done (answer_of A.formed) r)) (world_at x (pick t (Model.arrived C (Model.dropped (st_of r A)) (top_state r.stack)) (Model.ended (st_of r A) (answer_of A.formed))))
    drop_by true h =
        arrive_holds (Driving.advanced r (search A.formed 0)) A (kept_advanced K (search A.formed 0) (h refl)) (w, omega arith) F (top_state r.stack) refl
    drop_by false h = stopped A K (answer_of A.formed)

    drop_token_holds : Related C b u (Driving.drop_token (job_for C b) r A.formed) (Model.drop_token C (world_at x (st_of r A)))
    unfolding Driving.drop_token Model.drop_token
    drop_token_holds =
        rw (length_tokens F, top_at_law r.stack x.stack K.stack)
        (drop_by (ltb r.next C.count) (λ e. ltb-true r.next C.count e))

    further_by : (t : Bool) → (t ≡ true → A.popped < length r.stack) → Related C b u (pick t (more (Driving.in_mode r (search A.formed (A.popped + 1)))) (Driving.drop_token (job_for C b) r A.formed)) (pick t (world_at x (Model.searching (st_of r A) (A.popped + 1))) (Model.drop_token C (world_at x (st_of r A))))
    further_by true h = let k = h refl in turns A (search A.formed (A.popped + 1)) (w, omega arith)
    further_by false h = drop_token_holds

    pub further_holds : Related C b u (Driving.further (job_for C b) r A.formed A.popped) (Model.further C (world_at x (st_of r A)))
    unfolding Driving.further Model.further
    further_holds =
        further_by (ltb A.popped (length r.stack)) (λ e. ltb-true A.popped (length r.stack) e)

-- ---- the main loop and the error column

module _ {C : Call} {b : Rooms} {u : ℕ} (F : Fit C b) {x : Rooms} {r : Run} (a : Beside) (K : Kept C b u r x) (room : length r.nodes < r.units) (small : Word r.units) where
  main_reduce_holds : (token : Bool) (p : ℕ) → Word p → Related C b u (Driving.main_reduce (job_for C b) r token p) (Model.main_reduce C (world_at x (st_of r (beside_of main a))) token p)
  unfolding Driving.main_reduce Model.main_reduce
  main_reduce_holds true zero w = stopped (beside_of main a) K (ExtraToken r.next)
  main_reduce_holds false zero w =
      rw (root_of_law K (beside_of main a)) (stopped (beside_of main a) K (Accepted (root_of r.stack)))
  main_reduce_holds token (suc p) w = reduce_holds F a K room small (suc p) main w (λ y l. tt)

  pub main_look_holds : (token : Bool) (c : Cell) → (token ≡ true → r.next < C.count) → CellFits c → Related C b u (Driving.main_look (job_for C b) r token c) (Model.main_look C (world_at x (st_of r (beside_of main a))) token c)
  unfolding Driving.main_look Model.main_look
  main_look_holds true (Shift s) h w = shift_holds F a K room small s w.0 (h refl)
  main_look_holds false (Shift s) h w = fail_holds K F (beside_of main a) false
  main_look_holds token (Reduce p) h w = main_reduce_holds token p.0 w.1
  main_look_holds token Error h w = fail_holds K F (beside_of main a) token

  column_reduce_holds : (f : Formed) (p : ℕ) → FormedFits f → Word p → Related C b u (Driving.column_reduce (job_for C b) r f p) (Model.column_reduce C (world_at x (st_of r (beside_of (column f) a))) p)
  unfolding Driving.column_reduce Model.column_reduce
  column_reduce_holds f zero w v =
      rw (root_of_law K (beside_of (column f) a)) (stopped (beside_of (column f) a) K (AcceptedEarly (root_of r.stack) f.from))
  column_reduce_holds f (suc p) w v = reduce_holds F a K room small (suc p) (column f) v (λ y l. w)

  pub column_look_holds : (f : Formed) (c : Cell) → FormedFits f → CellFits c → Related C b u (Driving.column_look (job_for C b) r f c) (Model.column_look C (world_at x (st_of r (beside_of (column f) a))) c)
  unfolding Driving.column_look Model.column_look
  column_look_holds f (Shift s) w v = turns K a (search f 0) (w, omega arith)
  column_look_holds f (Reduce p) w v = column_reduce_holds f p.0 w v.1
  column_look_holds f Error w v = turns K a (search f 0) (w, omega arith)
