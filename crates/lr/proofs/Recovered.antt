-- What an accepted run over passing tables leaves, early or not: the tree at the root, side by side over all tokens that were read.
use Rattle.std.specs.Prelude.{◌≡◌, ◌⊎◌, ℕ, ◌≤◌, ◌<◌, length}
use Rattle.std.proofs.Common.{sym, ◌∙◌, subst, inl, inr, arith, ltb-false}
use Rattle.rules.specs.declared.Formed.{Formed}
use Rattle.rules.specs.declared.Answer.{Answer}
use Rattle.rules.specs.declared.Answer.TheVariants.{Accepted, AcceptedEarly}
use Rattle.rules.specs.Answers.{number_of}
use Rattle.rules.specs.Driving.{Job, Run, Mode, Outcome, begin, step, drive}
use Rattle.lr.specs.Invariant.{Fits}
use Rattle.lr.proofs.Invariant.{does, always_ok}
use Rattle.lr.specs.Runs.{Holds, Reached, LastStep, last_step, other_end}
use Rattle.lr.specs.Ranges.{Joined, RangesIn, ranges_reached}
use Rattle.lr.specs.Choice.{FormedBy, Known, known}
use Rattle.lr.specs.Recovered.{AcceptsFrom, From, RootOver, accepts_from, begin_not, reached_reaches, small_not_units, whole_of}

-- the step that accepted
last_from : (J : Job) → Fits J → (a : Answer) (r : Run) → number_of a < 3 → (begin J ≡ Outcome.done a r) ⊎ LastStep J a r
    → (s : Run) × Reached J s × AcceptsFrom J s a r
last_from J F a r small (inl e) =
    let h : 3 ≤ number_of a = subst (λ (o : Outcome). Holds (λ x. Unit {0}) (λ b x. 3 ≤ number_of b) o) e (begin_not J) in absurd (omega arith)
last_from J F a r small (inr l) =
    (l.run, l.reached, subst (From J l.run) l.ends (accepts_from J l.run (step J l.run) (does J F l.run (always_ok F (reached_reaches l.reached)))))

accepted_at : (J : Job) → Fits J → (budget : ℕ) (a : Answer) (r : Run) → number_of a < 3 → drive J budget ≡ Outcome.done a r
    → (s : Run) × Reached J s × AcceptsFrom J s a r
accepted_at J F budget a r small e =
    last_from J F a r small (last_step J budget a r (other_end J budget a r (small_not_units a small) e))

module _ (J : Job) (F : Fits J) (budget root : ℕ) (r : Run) where
  -- answer 1: over all tokens
  pub accepted_whole : drive J budget ≡ Outcome.done (Accepted root) r → RootOver J r root (length J.tokens)
  accepted_whole e = from_step (accepted_at J F budget (Accepted root) r (omega arith) e)
    where
      from_step : (s : Run) × Reached J s × AcceptsFrom J s (Accepted root) r → RootOver J r root (length J.tokens)
      from_step (s, w, (x, m, t, q, n, same)) =
          let g = ranges_reached J s w in
          let j : Joined s.stack s.next = subst (RangesIn J s.stack s.next) m g.ranges in
          let reach = g.reach in
          let over = ltb-false s.next (length J.tokens) t in
          let end : s.next ≡ length J.tokens = omega arith in
          whole_of J s r x root (length J.tokens) w q (subst (Joined s.stack) end j) n same

  -- answer 2: over the tokens before the one at which the error arose, or all of them where it arose at the end
  pub early_whole : (i : ℕ) → drive J budget ≡ Outcome.done (AcceptedEarly root i) r
      → RootOver J r root i × ((f : Formed) × FormedBy J f r.marks × (f.from ≡ i)) × (i ≤ length J.tokens)
  early_whole i e = from_step (accepted_at J F budget (AcceptedEarly root i) r (omega arith) e)
    where
      from_step : (s : Run) × Reached J s × AcceptsFrom J s (AcceptedEarly root i) r
          → RootOver J r root i × ((f : Formed) × FormedBy J f r.marks × (f.from ≡ i)) × (i ≤ length J.tokens)
      from_step (s, w, (x, f, m, q, n, at, same)) =
          let g = ranges_reached J s w in
          let j : RangesIn J s.stack s.next (Mode.column f) = subst (RangesIn J s.stack s.next) m g.ranges in
          let known-here : Known J s (Mode.column f) = subst (λ (y : Mode). Known J s y) m (known J s w) in
          let place : s.next ≡ i = sym j.1 ∙ at in
          let reach = g.reach in
          (whole_of J s r x root i w q (subst (Joined s.stack) place j.0) n same, (f, subst (λ (y : Run). FormedBy J f y.marks) (sym same) known-here.0, at), omega arith)
