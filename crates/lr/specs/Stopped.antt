-- 20 to 23 are given exactly where a limit cuts the run: the run without limits never gives them, and the step at which a run is cut,
-- and the demand that cuts it, are the first ones.
use Rattle.std.specs.Prelude.{◌≡◌, refl, ◌↔◌, true, false, List, [], ◌∷◌, ℕ, ◌≤◌, ◌<◌, eqb}
use Rattle.std.proofs.Common.{sym, ap, ◌∙◌, subst, true≢false, arith}
use Rattle.std.proofs.Math.Decide.{dec_lt}
use Rattle.words.specs.Laws.{pick_case}
use Rattle.rules.specs.declared.Formed.{Formed}
use Rattle.rules.specs.declared.Answer.{Answer}
use Rattle.rules.specs.declared.Answer.TheVariants.{OutOfUnits, OutOfDepth}
use Rattle.rules.specs.Answers.{number_of}
use Rattle.rules.specs.Driving.{Job, Run, Mode, Outcome, counted, advanced, has_token, answer_of, formed, arrive, step, first_run, begin, drive}
use Rattle.lr.specs.Steps.{Demand, depth, NoLimit, Arrival, arrival, View, view, shifted}
use Rattle.lr.specs.Runs.{Holds, along, walk, out_of_units, drive_walk}
use Rattle.lr.specs.Limits.{unlimited, demands, StopsAt, FitsFor, Driven, driven, not_both}

-- ---- without limits

-- an outcome that no limit stopped
abbrev pub Unstopped : Outcome → Type 0
Unstopped o = Holds (λ r. Unit {0}) (λ a r. number_of a ≤ 6) o

unstopped_arrival : (J : Job) (r : Run) (o : Outcome) → Arrival J r o → Unstopped o
unstopped_arrival J r o (Arrival.at_end t) = tt
unstopped_arrival J r o (Arrival.reads t e) = tt
unstopped_arrival J r o (Arrival.unread t e) = omega arith
unstopped_arrival J r o (Arrival.broken t e) = omega arith

unstopped_error : (f : Formed) → number_of (answer_of f) ≤ 6
unfolding answer_of
unstopped_error f = pick_case (λ (a : Answer). number_of a ≤ 6) (eqb f.number 3) _ _ (λ e. omega arith) (λ e. omega arith)

-- a step that no demand stops
unstopped_view : (J : Job) (r : Run) (m : Mode) (o : Outcome) → NoLimit J → View J r m o → Unstopped o
unstopped_view J r m o free (View.stops d l) = absurd (true≢false (sym (free d) ∙ l))
unstopped_view J r m o free (View.shifts s t e a) = unstopped_arrival J (shifted J r s) o a
unstopped_view J r m o free (View.reduces p e) = tt
unstopped_view J r m o free (View.extra t e) = omega arith
unstopped_view J r m o free (View.accepts t e) = omega arith
unstopped_view J r m o free (View.fails t e) = unstopped_error (formed r (has_token J r))
unstopped_view J r m o free (View.forms t e) = tt
unstopped_view J r m o free (View.column_reduces p e) = tt
unstopped_view J r m o free (View.accepts_early e) = omega arith
unstopped_view J r m o free (View.column_ends e) = tt
unstopped_view J r m o free (View.tries s e) = tt
unstopped_view J r m o free (View.deeper n l) = tt
unstopped_view J r m o free (View.drops {f = f} n l t a) = unstopped_arrival J (advanced r (Mode.search f 0)) o a
unstopped_view J r m o free (View.gives_up {f = f} n l t) = unstopped_error f
unstopped_view J r m o free (View.simulates p e) = tt
unstopped_view J r m o free (View.marks e) = tt

unstopped_step : (J : Job) → NoLimit J → (r : Run) → Unstopped (step J r)
unstopped_step J free r = unstopped_view J (counted r) r.mode (step J r) free (view J r)

unstopped_begin : (J : Job) → NoLimit J → Unstopped (begin J)
unfolding begin
unstopped_begin J free = rw (free (depth 1)) (unstopped_arrival J (first_run J) (arrive J (first_run J)) (arrival J (first_run J)))

pub unlimited_free : (J : Job) → NoLimit (unlimited J)
unfolding unlimited
unlimited_free J (Demand.depth n) = refl
unlimited_free J (Demand.children n) = refl
unlimited_free J (Demand.nodes n) = refl
unlimited_free J (Demand.records n) = refl

-- a run that no limit stops gives 1 to 6, or 19
pub never_stopped : (J : Job) → NoLimit J → (budget : ℕ) (a : Answer) (r : Run) → drive J budget ≡ Outcome.done a r → number_of a ≤ 19
never_stopped J free budget a r e =
    ended (walk J budget (begin J)) (sym (drive_walk J budget) ∙ e) (along J (λ x. Unit {0}) (λ b x. number_of b ≤ 6) (λ x h. unstopped_step J free x) budget (begin J) (unstopped_begin J free))
  where
    ended : (o : Outcome) → out_of_units o ≡ Outcome.done a r → Unstopped o → number_of a ≤ 19
    ended (Outcome.more s) q h = let same : OutOfUnits ≡ a = cc in let n : 19 ≡ number_of a = ap number_of same in omega arith
    ended (Outcome.done b s) q h = let same : b ≡ a = cc in let n : number_of b ≡ number_of a = ap number_of same in omega arith

-- ---- exactly there

-- the run is cut by a limit with this answer: depth 0; or the first k steps of the run without limits fit, and the next one asks for
-- more than fits, the first of its demands that does not fit having this answer
pub data CutBy (J : Job) (budget : ℕ) (a : Answer) (r : Run) : Type 0 where
  no_depth : J.depth_fits 1 ≡ false → a ≡ OutOfDepth → r ≡ first_run J → CutBy J budget a r
  cut_after : (k : ℕ) (s : Run) → J.depth_fits 1 ≡ true → k < budget → FitsFor J k (begin (unlimited J))
      → walk (unlimited J) k (begin (unlimited J)) ≡ Outcome.more s → StopsAt J a (demands J s) → r ≡ counted s → CutBy J budget a r

cut_of : (J : Job) (budget : ℕ) (a : Answer) (r : Run) → 20 ≤ number_of a → drive J budget ≡ Outcome.done a r → Driven J budget → CutBy J budget a r
cut_of J budget a r big e (Driven.unhindered h fit same) =
    let small = never_stopped (unlimited J) (unlimited_free J) budget a r (sym same ∙ e) in absurd (omega arith)
cut_of J budget a r big e (Driven.no_depth h same) =
    let p : a ≡ OutOfDepth = cc in let q : r ≡ first_run J = cc in CutBy.no_depth h p q
cut_of J budget a r big e (Driven.cut_after k s b h less fit at stop same) =
    let p : b ≡ a = cc in
    let q : r ≡ counted s = cc in
    CutBy.cut_after k s h less fit at (subst (λ (x : Answer). StopsAt J x (demands J s)) p stop) q

one_limit : (J : Job) (a b : Answer) (ds : List Demand) → StopsAt J a ds → StopsAt J b ds → a ≡ b
one_limit J a b [] x y = elim x [ ]
one_limit J a b (d ∷ ds) (StopsAt.here e l) (StopsAt.here f m) = sym l ∙ m
one_limit J a b (d ∷ ds) (StopsAt.here e l) (StopsAt.later f m) = absurd (true≢false (sym f ∙ e))
one_limit J a b (d ∷ ds) (StopsAt.later e l) (StopsAt.here f m) = absurd (true≢false (sym e ∙ f))
one_limit J a b (d ∷ ds) (StopsAt.later e l) (StopsAt.later f m) = one_limit J a b ds l m

module _ (J : Job) (budget : ℕ) (a : Answer) (k : ℕ) (s : Run) (deep : J.depth_fits 1 ≡ true) (less : k < budget) (fit : FitsFor J k (begin (unlimited J))) (at : walk (unlimited J) k (begin (unlimited J)) ≡ Outcome.more s) (stop : StopsAt J a (demands J s)) where
  same_place : (j : ℕ) (t : Run) (b : Answer) → k ≡ j → walk (unlimited J) j (begin (unlimited J)) ≡ Outcome.more t → StopsAt J b (demands J t)
      → drive J budget ≡ Outcome.done b (counted t) → drive J budget ≡ Outcome.done a (counted s)
  same_place j t b q w halt e =
      let here : walk (unlimited J) j (begin (unlimited J)) ≡ Outcome.more s = rw (← q) at in
      let same : t ≡ s = cc in
      let halt-here : StopsAt J b (demands J s) = subst (λ (x : Run). StopsAt J b (demands J x)) same halt in
      let limit : b ≡ a = one_limit J b a (demands J s) halt-here stop in
      rw (← limit, ← same) e

  by_place : (j : ℕ) (t : Run) (b : Answer) → FitsFor J j (begin (unlimited J)) → walk (unlimited J) j (begin (unlimited J)) ≡ Outcome.more t
      → StopsAt J b (demands J t) → drive J budget ≡ Outcome.done b (counted t) → Dec (j < k) → Dec (k < j) → drive J budget ≡ Outcome.done a (counted s)
  by_place j t b fit' w halt e (yes before) d = absurd (not_both J b (demands J t) halt (fit j t before w))
  by_place j t b fit' w halt e (no n) (yes after) = absurd (not_both J a (demands J s) stop (fit' k s after at))
  by_place j t b fit' w halt e (no n) (no m) = same_place j t b (omega arith) w halt e

  cut_there : Driven J budget → drive J budget ≡ Outcome.done a (counted s)
  cut_there (Driven.unhindered h fit' same) = absurd (not_both J a (demands J s) stop (fit' k s less at))
  cut_there (Driven.no_depth h same) = absurd (true≢false (sym deep ∙ h))
  cut_there (Driven.cut_after j t b h less' fit' w halt same) = by_place j t b fit' w halt same (dec_lt j k) (dec_lt k j)

cut_so : (J : Job) (budget : ℕ) (a : Answer) (r : Run) → CutBy J budget a r → Driven J budget → drive J budget ≡ Outcome.done a r
cut_so J budget a r (CutBy.no_depth h p q) (Driven.unhindered g fit same) = absurd (true≢false (sym g ∙ h))
cut_so J budget a r (CutBy.no_depth h p q) (Driven.no_depth g same) = rw (p, q) same
cut_so J budget a r (CutBy.no_depth h p q) (Driven.cut_after k s b g less fit at stop same) = absurd (true≢false (sym g ∙ h))
cut_so J budget a r (CutBy.cut_after k s h less fit at stop q) d = rw q (cut_there J budget a k s h less fit at stop d)

-- 20 to 23 are given exactly if a limit cuts the run
pub limits_exactly : (J : Job) (budget : ℕ) (a : Answer) (r : Run) → 20 ≤ number_of a → (drive J budget ≡ Outcome.done a r) ↔ CutBy J budget a r
limits_exactly J budget a r big = (λ e. cut_of J budget a r big e (driven J budget), λ c. cut_so J budget a r c (driven J budget))
