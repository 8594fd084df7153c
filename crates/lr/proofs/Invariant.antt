-- Over passing tables, what one step does, and that the invariant holds at every look of every run.
use Rattle.std.specs.Prelude.{Bool, ◌≡◌, ltb, take}
use Rattle.std.proofs.Math.Bool.{true, false}
use mathlib.Core.List.{List, ◌∷◌}
use Rattle.std.proofs.Math.Path.{refl, ap, subst}
use Rattle.std.proofs.Common.{sym, ◌∙◌, arith}
use Prim.Native.Nat.{ℕ, zero, suc, ◌+◌, ◌≤◌}
use Rattle.std.proofs.Math.ListN.{length, drop}
use borrow.Author.Tests.{ltb-true}
use Rattle.words.specs.Laws.{pick_case}
use Rattle.rules.specs.declared.Cell.{Cell}
use Rattle.rules.specs.declared.Cell.TheVariants.{Shift, Reduce, Error}
use Rattle.rules.specs.declared.StateNo.{StateNo}
use Rattle.rules.specs.declared.Formed.{Formed}
use Rattle.rules.specs.declared.Answer.TheVariants.{OutOfDepth, OutOfChildren, OutOfNodes, OutOfRecords}
use Rattle.rules.specs.Tables.{error_column, symbol_of, action, goto, target, left, size}
use Rattle.rules.specs.Driving.{Job, Run, Mode, main, column, search, simulate, top_state, top_of, root_of, has_token, look_column, depth_over, counted, shift, reduce_over, reduce, main_reduce, formed, fail, main_look, column_reduce, column_look, drop_token, further, states_of, start_simulation, search_look, place_mark, recover, simulate_over, simulate_reduce, simulate_look, look, step}
use Rattle.lr.specs.Stack.{Along, above, move_terminal}
use Rattle.lr.proofs.Stack.{reducible, whole}
use Rattle.lr.specs.Invariant.{refuses, gives_up, forms, drops, Carries, Does, Fits, ModeOK, OK, Reaches, Reduces, StaysOK, accepts, along_drop, begins, begins_ok, column_at_end, column_of_token, early, extra, goes, marks, needs, only_one, reduces, shifts, stays, symbols_of, top_of_states, turns}

-- ---- what a step does

module _ (J : Job) (fits : Fits J) (r : Run) (ok : OK J r) where
  -- a look at the top state's cell in a column
  at_top : (c : ℕ) (x : Cell) → action J.tables (top_state r.stack) c ≡ x → action J.tables (top_of (states_of r.stack)) c ≡ x
  at_top c x e = rw top_of_states e

  does_reduce : (c p : ℕ) (m : Mode) → r.mode ≡ m → Reduces m → action J.tables (top_state r.stack) c ≡ Reduce (record { 0 = suc p })
      → Does J r (reduce J (counted r) (suc p) m)
  unfolding reduce reduce_over
  does_reduce c p m e l a =
      let n : ℕ = size J.tables (suc p) in
      needs (J.depth_fits (depth_over (drop n r.stack))) OutOfDepth tt
      (needs (J.children_fit (length r.children + length (take n r.stack))) OutOfChildren tt
      (needs (J.nodes_fit (length r.nodes + 1)) OutOfNodes tt
      (reduces e l (reducible fits.laws ok.along c p (at_top c _ a)))))

  does_main_reduce : (token : Bool) (p : ℕ) → r.mode ≡ main → has_token J r ≡ token
      → action J.tables (top_state r.stack) (look_column J r) ≡ Reduce (record { 0 = p }) → Does J r (main_reduce J (counted r) token p)
  unfolding main_reduce
  does_main_reduce token (suc p) e h a = does_reduce (look_column J r) p main e tt a
  does_main_reduce true zero e h a =
      let w = only_one J r.stack (whole fits.laws ok.along (look_column J r) (at_top _ _ a)) in extra e h w.1
  does_main_reduce false zero e h a =
      let w = only_one J r.stack (whole fits.laws ok.along (look_column J r) (at_top _ _ a)) in
      let q : root_of r.stack ≡ w.0.node = ap root_of w.1 in
      rw q (accepts e h w.1 w.2)

  does_fail : (token : Bool) → r.mode ≡ main → has_token J r ≡ token → Does J r (fail J (counted r) (formed (counted r) token))
  unfolding fail
  does_fail token e h =
      rw (← h) (pick_case (Does J r) J.recovers _ _ (λ t. forms e t) (λ t. refuses e t))

  does_main : (token : Bool) (c : Cell) → r.mode ≡ main → has_token J r ≡ token → action J.tables (top_state r.stack) (look_column J r) ≡ c
      → Does J r (main_look J (counted r) token c)
  unfolding main_look shift
  does_main true (Shift s) e h a =
      needs (J.depth_fits (depth_over r.stack)) OutOfDepth tt
      (needs (J.nodes_fit (length r.nodes + 1)) OutOfNodes tt (shifts e h (rw (column_of_token J r h) at a)))
  does_main false (Shift s) e h a = absurd (fits.laws.shift_not_at_end (top_state r.stack) (rw (column_at_end J r h) at a))
  does_main token (Reduce p) e h a = does_main_reduce token p.0 e h a
  does_main token Error e h a = does_fail token e h

  does_column_reduce : (f : Formed) (p : ℕ) → r.mode ≡ column f → action J.tables (top_state r.stack) (error_column J.tables) ≡ Reduce (record { 0 = p })
      → Does J r (column_reduce J (counted r) f p)
  unfolding column_reduce
  does_column_reduce f zero e a =
      let w = only_one J r.stack (whole fits.laws ok.along (error_column J.tables) (at_top _ _ a)) in
      let q : root_of r.stack ≡ w.0.node = ap root_of w.1 in
      rw q (early e w.1 w.2)
  does_column_reduce f (suc p) e a = does_reduce (error_column J.tables) p (column f) e tt a

  carried : {m : Mode} (f : Formed) → r.mode ≡ m → Carries m f → Carries r.mode f
  carried {m} f e c = subst (λ x. Carries x f) (sym e) c

  does_column : (f : Formed) (c : Cell) → r.mode ≡ column f → action J.tables (top_state r.stack) (error_column J.tables) ≡ c
      → Does J r (column_look J (counted r) f c)
  unfolding column_look
  does_column f (Shift s) e a = turns f {m = search f 0} (carried f e refl) refl (omega arith)
  does_column f (Reduce p) e a = does_column_reduce f p.0 e a
  does_column f Error e a = turns f {m = search f 0} (carried f e refl) refl (omega arith)

  does_further : (f : Formed) (k : ℕ) → Carries r.mode f → Does J r (further J (counted r) f k)
  unfolding further drop_token
  does_further f k c =
      pick_case (Does J r) (ltb k (length r.stack)) _ _ (λ t. turns f {m = search f (k + 1)} c refl (omega (arith, ltb-true k (length r.stack) t)))
      (λ t. pick_case (Does J r) (has_token J r) _ _ (λ h. drops f c h) (λ h. gives_up f c h))

  does_recover : (f : Formed) (k : ℕ) {s : StateNo} → Carries r.mode f → k ≤ length r.stack
      → action J.tables (top_state (drop k r.stack)) (error_column J.tables) ≡ Shift s → Does J r (recover J (counted r) f k)
  unfolding recover place_mark
  does_recover f k c l a =
      needs (J.nodes_fit (length r.nodes + 1)) OutOfNodes tt
      (needs (J.records_fit (length r.marks + 1)) OutOfRecords tt (marks f k c l a))

  -- the path of transitions below a place of the stack
  pub below : (k : ℕ) → Along J.tables (states_of (drop k r.stack)) (symbols_of J (drop k r.stack))
  below k = along_drop J r.stack k ok.along

  does_search : (f : Formed) (k : ℕ) (c : Cell) → r.mode ≡ search f k
      → action J.tables (top_state (drop k r.stack)) (error_column J.tables) ≡ c → Does J r (search_look J (counted r) f k c)
  unfolding search_look start_simulation
  does_search f k (Shift s) e a =
      let l : k ≤ length r.stack = subst (ModeOK J r.stack) e ok.mode_ok in
      needs (J.depth_fits (depth_over (states_of (drop k r.stack)))) OutOfDepth tt
      (turns f {m = simulate f k (s.0 ∷ states_of (drop k r.stack))} (carried f e refl) refl
      (l, (s, a), (_, above {X = error_column J.tables} (move_terminal J.tables _ (error_column J.tables) (omega arith) ∙ rw top_of_states a) (below k))))
  does_search f k (Reduce p) e a = does_further f k (carried f e refl)
  does_search f k Error e a = does_further f k (carried f e refl)

  does_simulate_reduce : (f : Formed) (k : ℕ) (sim : List ℕ) (p : ℕ) → r.mode ≡ simulate f k sim
      → action J.tables (top_of sim) (look_column J r) ≡ Reduce (record { 0 = p }) → Does J r (simulate_reduce J (counted r) f k sim p)
  unfolding simulate_reduce simulate_over
  does_simulate_reduce f k sim zero e a =
      let g = subst (ModeOK J r.stack) e ok.mode_ok in does_recover f k (carried f e refl) g.0 g.1.1
  does_simulate_reduce f k sim (suc p) e a =
      let g = subst (ModeOK J r.stack) e ok.mode_ok in
      let d = reducible fits.laws g.2.1 (look_column J r) p a in
      let rest : List ℕ = drop (size J.tables (suc p)) sim in
      needs (J.depth_fits (depth_over rest)) OutOfDepth tt
      (turns f {m = simulate f k (target (goto J.tables (top_of rest) (left J.tables (suc p))) ∷ rest)} (carried f e refl) refl
      (g.0, g.1, (symbol_of J.tables (left J.tables (suc p)) ∷ drop (size J.tables (suc p)) g.2.0, rw d.goes d.along)))

  does_simulate : (f : Formed) (k : ℕ) (sim : List ℕ) (c : Cell) → r.mode ≡ simulate f k sim → action J.tables (top_of sim) (look_column J r) ≡ c
      → Does J r (simulate_look J (counted r) f k sim c)
  unfolding simulate_look
  does_simulate f k sim (Shift s) e a =
      let g = subst (ModeOK J r.stack) e ok.mode_ok in does_recover f k (carried f e refl) g.0 g.1.1
  does_simulate f k sim (Reduce p) e a = does_simulate_reduce f k sim p.0 e a
  does_simulate f k sim Error e a = does_further f k (carried f e refl)

  does_in : (m : Mode) → r.mode ≡ m → Does J r (look J (counted r) m)
  unfolding look look_column
  does_in main e = does_main (has_token J r) _ e refl refl
  does_in (column f) e = does_column f _ e refl
  does_in (search f k) e = does_search f k _ e refl
  does_in (simulate f k sim) e = does_simulate f k sim _ e refl

  -- what a step does, over passing tables
  pub does : Does J r (step J r)
  unfolding step
  does = does_in r.mode refl

-- ---- along every run

pub always_ok : {J : Job} → Fits J → {r : Run} → Reaches J r → OK J r
always_ok {J} F (begins e) = subst (StaysOK J) e (begins_ok J)
always_ok {J} F (goes {r = r} h e) =
    let ok = always_ok F h in subst (StaysOK J) e (stays F ok (does J F r ok))
