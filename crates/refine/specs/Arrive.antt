-- What changes no list: a look is counted, a token is read, the mode changes.
-- The model's `arrived` is the rules' `arrive`, whatever stack and rooms stand beside it.
use Rattle.std.specs.Prelude.{◌≡◌, refl, Bool, ℕ, ◌+◌, ◌*◌, ◌<◌, ltb, eqb}
use Rattle.std.proofs.Common.{ap, arith}
use Rattle.std.proofs.Math.Bool.{true, false}
use Rattle.words.specs.Words.{pick}
use Rattle.rules.specs.declared.Answer.{Answer}
use Rattle.rules.specs.declared.Answer.TheVariants.{TokenizerError, UnrecognizedToken}
use Rattle.rules.specs.Tables.{kinds}
use Rattle.rules.specs.Driving.{Mode, Run, more, done, top_state}
use Rattle.rules.specs.Driving
use Rattle.model.specs.Model.{Call}
use Rattle.model.specs.Model
use Rattle.refine.specs.Fits.{Word}
use Rattle.refine.specs.Tokens.{Rooms, Fit, job_for, token_of, token_at_law, length_tokens, word32_small}
use Rattle.refine.specs.Holds.{Beside, beside_of, st_of, world_at, Kept, ModeKept, Related, goes, ends}

module _ {C : Call} {b x : Rooms} {u : ℕ} {r : Run} (K : Kept C b u r x) where
  pub kept_counted : Kept C b (u + 1) (Driving.counted r) x
  kept_counted =
      record { nodes = K.nodes; children = K.children; records = K.records; stack = K.stack; stack_length = K.stack_length; scratch_length = K.scratch_length; sized = K.sized; last = K.last; units = ap (λ (n : ℕ). n + 1) K.units; few = omega arith; read = K.read }

  pub kept_in_mode : (m : Mode) → Kept C b u (Driving.in_mode r m) x
  kept_in_mode m =
      record { nodes = K.nodes; children = K.children; records = K.records; stack = K.stack; stack_length = K.stack_length; scratch_length = K.scratch_length; sized = K.sized; last = K.last; units = K.units; few = K.few; read = K.read }

  kept_read_to : (last : ℕ) → Word last → Kept C b u (Driving.read_to r last) x
  kept_read_to last w =
      record { nodes = K.nodes; children = K.children; records = K.records; stack = K.stack; stack_length = K.stack_length; scratch_length = K.scratch_length; sized = K.sized; last = w; units = K.units; few = K.few; read = K.read }

  pub kept_advanced : (m : Mode) → r.next < C.count → Kept C b u (Driving.advanced r m) x
  kept_advanced m h =
      record { nodes = K.nodes; children = K.children; records = K.records; stack = K.stack; stack_length = K.stack_length; scratch_length = K.scratch_length; sized = K.sized; last = K.last; units = K.units; few = K.few; read = omega arith }

-- ---- the token at `next`

module _ {C : Call} {b x : Rooms} {u : ℕ} (r : Run) (a : Beside) (K : Kept C b u r x) (M : ModeKept C x r.stack a r.mode) where
  read_on : (last : ℕ) → Word last → Related C b u (more (Driving.read_to r last)) (world_at x (Model.read_to (st_of r (beside_of r.mode a)) last))
  read_on last w = goes (record { rooms = x; beside = a; is = refl; kept = kept_read_to K last w; mode = M })

  judge_by : (odd readable : Bool) (last : ℕ) (answer : Answer) → Word last → Related C b u (pick odd (done (TokenizerError r.next) r) (pick readable (more (Driving.read_to r last)) (done answer (Driving.read_to r last)))) (world_at x (pick odd (Model.ended (st_of r (beside_of r.mode a)) (TokenizerError r.next)) (pick readable (Model.read_to (st_of r (beside_of r.mode a)) last) (Model.ended (Model.read_to (st_of r (beside_of r.mode a)) last) answer))))
  judge_by true readable last answer w = ends (record { rooms = x; beside = beside_of r.mode a; is = refl; kept = K })
  judge_by false true last answer w = read_on last w
  judge_by false false last answer w =
      ends (record { rooms = x; beside = beside_of r.mode a; is = refl; kept = kept_read_to K last w })

  arrive_by : Fit C b → (t : Bool) → Related C b u (pick t (Driving.judge_kind (job_for C b) r (token_of C r.next)) (more r)) (world_at x (pick t (Model.judged C (st_of r (beside_of r.mode a)) (top_state r.stack)) (st_of r (beside_of r.mode a))))
  unfolding Driving.judge_kind Model.judged
  arrive_by F true =
      judge_by (eqb (Model.token_kind C r.next) 65535) (ltb (Model.token_kind C r.next) (kinds C.tables))
      (Model.token_end C r.next)
      (UnrecognizedToken r.next (record { 0 = top_state r.stack }))
      (word32_small C.tokens (12 * r.next + 8) F.bytes)
  arrive_by F false = goes (record { rooms = x; beside = a; is = refl; kept = K; mode = M })

  pub arrive_holds : Fit C b → (top : ℕ) → top ≡ top_state r.stack → Related C b u (Driving.arrive (job_for C b) r) (world_at x (Model.arrived C (st_of r (beside_of r.mode a)) top))
  unfolding Driving.arrive Model.arrived
  arrive_holds F top e =
      rw (e, length_tokens F, token_at_law F r.next) (arrive_by F (ltb r.next C.count))
