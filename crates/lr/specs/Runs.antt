-- A run as so many steps: where it stands after them, how many it made, and what is kept by every step holds at its end.
-- The budget is the fuel, so the units are the steps made, and 19 is a step that is wanted with the budget used up.
use Rattle.std.specs.Prelude.{◌≡◌, refl, Bool, true, false, ◌↔◌, ◌⊎◌, ℕ, zero, suc, ◌+◌, ◌≤◌, eqb}
use Rattle.std.proofs.Common.{sym, ap, ◌∙◌, subst, true≢false, inl, inr, zero-add, suc-add, arith, ne_eqb}
use Rattle.words.specs.Laws.{pick_case}
use Rattle.rules.specs.declared.Formed.{Formed}
use Rattle.rules.specs.declared.Answer.{Answer}
use Rattle.rules.specs.declared.Answer.TheVariants.{OutOfUnits, OutOfDepth}
use Rattle.rules.specs.Answers.{number_of}
use Rattle.rules.specs.Driving.{Job, Run, Mode, Outcome, counted, advanced, need, grow, has_token, arrive, answer_of, formed, step, run_from, begin, drive, first_run}
use Rattle.lr.specs.Steps.{limit_of, limit_numbers, Arrival, arrival, View, view, shifted}

-- what the two ends of an outcome must be
abbrev pub Holds : (Run → Type 0) → (Answer → Run → Type 0) → Outcome → Type 0
Holds P Q (Outcome.more r) = P r
Holds P Q (Outcome.done a r) = Q a r

pub need_case : (P : Outcome → Type 0) (t : Bool) (a : Answer) (r : Run) (o : Outcome) → (t ≡ false → P (Outcome.done a r)) → (t ≡ true → P o)
    → P (need t a r o)
need_case P true a r o f g = g refl
need_case P false a r o f g = f refl

-- the outcome after at most n steps; a run that is done makes none
unfoldable pub walk : Job → ℕ → Outcome → Outcome
walk J zero o = o
walk J (suc n) o = elim o [ Outcome.more r ↦ walk J n (step J r) | Outcome.done a r ↦ Outcome.done a r ]

-- how many of at most n steps are made
unfoldable pub looks : Job → ℕ → Outcome → ℕ
looks J zero o = 0
looks J (suc n) o = elim o [ Outcome.more r ↦ suc (looks J n (step J r)) | Outcome.done a r ↦ 0 ]

-- a run that wants another look with the budget used up is 19
abbrev pub out_of_units : Outcome → Outcome
out_of_units (Outcome.more r) = Outcome.done OutOfUnits r
out_of_units (Outcome.done a r) = Outcome.done a r

pub walk_done : (J : Job) (n : ℕ) (a : Answer) (r : Run) → walk J n (Outcome.done a r) ≡ Outcome.done a r
unfolding walk
walk_done J zero a r = refl
walk_done J (suc n) a r = refl

pub run_walk : (J : Job) (n : ℕ) (o : Outcome) → run_from J n o ≡ out_of_units (walk J n o)
unfolding run_from walk
run_walk J zero (Outcome.more r) = refl
run_walk J zero (Outcome.done a r) = refl
run_walk J (suc n) (Outcome.more r) = run_walk J n (step J r)
run_walk J (suc n) (Outcome.done a r) = refl

-- what every step keeps holds after any number of steps
pub along : (J : Job) (P : Run → Type 0) (Q : Answer → Run → Type 0) → ((r : Run) → P r → Holds P Q (step J r)) → (n : ℕ) (o : Outcome) → Holds P Q o
    → Holds P Q (walk J n o)
unfolding walk
along J P Q keeps zero o h = h
along J P Q keeps (suc n) (Outcome.more r) h = along J P Q keeps n (step J r) (keeps r h)
along J P Q keeps (suc n) (Outcome.done a r) h = h

-- ---- each step is one unit, and none of them ends in 19

-- an outcome with so many units that is not 19
abbrev pub Units : ℕ → Outcome → Type 0
Units u o = Holds (λ r. r.units ≡ u) (λ a r. (r.units ≡ u) × (eqb (number_of a) 19 ≡ false)) o

units_arrival : (J : Job) (r : Run) (o : Outcome) → Arrival J r o → Units r.units o
units_arrival J r o (Arrival.at_end h) = refl
units_arrival J r o (Arrival.reads h e) = refl
units_arrival J r o (Arrival.unread h e) = (refl, refl)
units_arrival J r o (Arrival.broken h e) = (refl, refl)

not_nineteen : (f : Formed) → eqb (number_of (answer_of f)) 19 ≡ false
unfolding answer_of
not_nineteen f = pick_case (λ (a : Answer). eqb (number_of a) 19 ≡ false) (eqb f.number 3) _ _ (λ e. refl) (λ e. refl)

units_view : (J : Job) (r : Run) (m : Mode) (o : Outcome) → View J r m o → Units r.units o
unfolding grow
units_view J r m o (View.stops d h) =
    let n = limit_numbers d in (refl, ne_eqb (number_of (limit_of d)) 19 (λ e. omega arith))
units_view J r m o (View.shifts s h e a) = units_arrival J (shifted J r s) o a
units_view J r m o (View.reduces p e) = refl
units_view J r m o (View.extra h e) = (refl, refl)
units_view J r m o (View.accepts h e) = (refl, refl)
units_view J r m o (View.fails h e) = (refl, not_nineteen (formed r (has_token J r)))
units_view J r m o (View.forms h e) = refl
units_view J r m o (View.column_reduces p e) = refl
units_view J r m o (View.accepts_early e) = (refl, refl)
units_view J r m o (View.column_ends e) = refl
units_view J r m o (View.tries s e) = refl
units_view J r m o (View.deeper n h) = refl
units_view J r m o (View.drops {f = f} n h t a) = units_arrival J (advanced r (Mode.search f 0)) o a
units_view J r m o (View.gives_up {f = f} n h t) = (refl, not_nineteen f)
units_view J r m o (View.simulates p e) = refl
units_view J r m o (View.marks h) = refl

pub units_step : (J : Job) (r : Run) → Units (r.units + 1) (step J r)
units_step J r = units_view J (counted r) r.mode (step J r) (view J r)

pub units_begin : (J : Job) → Units 0 (begin J)
unfolding begin first_run
units_begin J =
    need_case (Units 0) (J.depth_fits 1) OutOfDepth (first_run J) (arrive J (first_run J)) (λ e. (refl, refl)) (λ e.
    units_arrival J (first_run J) (arrive J (first_run J)) (arrival J (first_run J)))

abbrev pub units_of : Outcome → ℕ
units_of (Outcome.more r) = r.units
units_of (Outcome.done a r) = r.units

units_of_law : (u : ℕ) (o : Outcome) → Units u o → units_of o ≡ u
units_of_law u (Outcome.more r) h = h
units_of_law u (Outcome.done a r) h = h.0

-- the units grow by the looks made
pub units_walk : (J : Job) (n : ℕ) (o : Outcome) → units_of (walk J n o) ≡ units_of o + looks J n o
unfolding walk looks
units_walk J zero o = omega arith
units_walk J (suc n) (Outcome.more r) =
    let here = units_of_law (r.units + 1) (step J r) (units_step J r) in
    let rest = units_walk J n (step J r) in
    omega arith
units_walk J (suc n) (Outcome.done a r) = omega arith

-- a run that goes on has made all of its steps
pub looks_all : (J : Job) (n : ℕ) (o : Outcome) (r : Run) → walk J n o ≡ Outcome.more r → looks J n o ≡ n
unfolding walk looks
looks_all J zero o r e = refl
looks_all J (suc n) (Outcome.more s) r e = ap suc (looks_all J n (step J s) r e)
looks_all J (suc n) (Outcome.done a s) r e = let z : ◌≡◌ {A = ℕ} 0 1 = cc in absurd (omega arith)

-- no step ends in 19
abbrev NotNineteen : Outcome → Type 0
NotNineteen o = Holds (λ r. Unit {0}) (λ a r. eqb (number_of a) 19 ≡ false) o

only_number : (u : ℕ) (o : Outcome) → Units u o → NotNineteen o
only_number u (Outcome.more r) h = tt
only_number u (Outcome.done a r) h = h.1

pub never_nineteen : (J : Job) (n : ℕ) → NotNineteen (walk J n (begin J))
never_nineteen J n =
    along J (λ r. Unit {0}) (λ a r. eqb (number_of a) 19 ≡ false) (λ r h. only_number (r.units + 1) (step J r) (units_step J r)) n (begin J)
    (only_number 0 (begin J) (units_begin J))

-- a run that is done stays so
pub walk_longer : (J : Job) (n m : ℕ) (o : Outcome) (a : Answer) (r : Run) → n ≤ m → walk J n o ≡ Outcome.done a r → walk J m o ≡ Outcome.done a r
unfolding walk
walk_longer J zero m o a r h e = rw e (walk_done J m a r)
walk_longer J (suc n) zero o a r h e = absurd (omega arith)
walk_longer J (suc n) (suc m) (Outcome.more s) a r h e = walk_longer J n m (step J s) a r (omega arith) e
walk_longer J (suc n) (suc m) (Outcome.done b s) a r h e = e

-- ---- the whole run

pub drive_walk : (J : Job) (budget : ℕ) → drive J budget ≡ out_of_units (walk J budget (begin J))
unfolding drive
drive_walk J budget = run_walk J budget (begin J)

is_nineteen : (o : Outcome) (r : Run) → NotNineteen o → out_of_units o ≡ Outcome.done OutOfUnits r → o ≡ Outcome.more r
is_nineteen (Outcome.more s) r h e = let q : s ≡ r = cc in ap Outcome.more q
is_nineteen (Outcome.done a s) r h e =
    let q : a ≡ OutOfUnits = cc in
    let z : eqb 19 19 ≡ false = subst (λ (x : Answer). eqb (number_of x) 19 ≡ false) q h in absurd (true≢false z)

-- "19 is given exactly if another is needed"
pub nineteen : (J : Job) (budget : ℕ) (r : Run) → (drive J budget ≡ Outcome.done OutOfUnits r) ↔ (walk J budget (begin J) ≡ Outcome.more r)
nineteen J budget r = (
  λ e. is_nineteen (walk J budget (begin J)) r (never_nineteen J budget) (sym (drive_walk J budget) ∙ e),
  λ e. drive_walk J budget ∙ ap out_of_units e,
)

is_done : (o : Outcome) (a : Answer) (r : Run) → (a ≡ OutOfUnits → ⊥) → out_of_units o ≡ Outcome.done a r → o ≡ Outcome.done a r
is_done (Outcome.more s) a r h e = let q : a ≡ OutOfUnits = cc in absurd (h q)
is_done (Outcome.done b s) a r h e = e

pub other_end : (J : Job) (budget : ℕ) (a : Answer) (r : Run) → (a ≡ OutOfUnits → ⊥) → drive J budget ≡ Outcome.done a r
    → walk J budget (begin J) ≡ Outcome.done a r
other_end J budget a r h e = is_done (walk J budget (begin J)) a r h (sym (drive_walk J budget) ∙ e)

-- an answer that is not 19 is the same with a larger budget
pub more_budget : (J : Job) (budget larger : ℕ) (a : Answer) (r : Run) → budget ≤ larger → (a ≡ OutOfUnits → ⊥) → drive J budget ≡ Outcome.done a r
    → drive J larger ≡ Outcome.done a r
more_budget J budget larger a r h n e =
    drive_walk J larger ∙ ap out_of_units (walk_longer J budget larger (begin J) a r h (other_end J budget a r n e))

units_out : (o : Outcome) → units_of (out_of_units o) ≡ units_of o
units_out (Outcome.more r) = refl
units_out (Outcome.done a r) = refl

-- the units are the looks made
pub units_drive : (J : Job) (budget : ℕ) → units_of (drive J budget) ≡ looks J budget (begin J)
units_drive J budget =
    let first = units_of_law 0 (begin J) (units_begin J) in
    let rest = units_walk J budget (begin J) in
    let out = units_out (walk J budget (begin J)) in
    rw drive_walk (omega arith)

-- ---- runs that are reached

-- some number of steps leads to it
pub record Reached (J : Job) (r : Run) : Type 0 where
  pub steps : ℕ
  pub reached : walk J steps (begin J) ≡ Outcome.more r

pub walk_snoc : (J : Job) (n : ℕ) (o : Outcome) (r : Run) → walk J n o ≡ Outcome.more r → walk J (suc n) o ≡ step J r
unfolding walk
walk_snoc J zero (Outcome.more s) r e = let q : s ≡ r = cc in ap (step J) q
walk_snoc J zero (Outcome.done a s) r e = let z : ◌≡◌ {A = ℕ} 0 1 = cc in absurd (omega arith)
walk_snoc J (suc n) (Outcome.more s) r e = walk_snoc J n (step J s) r e
walk_snoc J (suc n) (Outcome.done a s) r e = let z : ◌≡◌ {A = ℕ} 0 1 = cc in absurd (omega arith)

-- one more step of a walk
holds_snoc : (J : Job) (P : Run → Type 0) (Q : Answer → Run → Type 0) → ((r : Run) → Reached J r → P r → Holds P Q (step J r)) → (n : ℕ) (o : Outcome)
    → walk J n (begin J) ≡ o → Holds P Q o → Holds P Q (walk J (suc n) (begin J))
holds_snoc J P Q keeps n (Outcome.more r) e h = rw (walk_snoc J n (begin J) r e) (keeps r (record { steps = n; reached = e }) h)
holds_snoc J P Q keeps n (Outcome.done a r) e h = rw (walk_longer J n (suc n) (begin J) a r (omega arith) e) h

-- what every step from a run that is reached keeps holds after any number of steps
pub along_reached : (J : Job) (P : Run → Type 0) (Q : Answer → Run → Type 0) → ((r : Run) → Reached J r → P r → Holds P Q (step J r)) → Holds P Q (begin J)
    → (n : ℕ) → Holds P Q (walk J n (begin J))
unfolding walk
along_reached J P Q keeps h zero = h
along_reached J P Q keeps h (suc n) = holds_snoc J P Q keeps n (walk J n (begin J)) refl (along_reached J P Q keeps h n)

-- the step that ended a walk
pub record LastStep (J : Job) (a : Answer) (r : Run) : Type 0 where
  pub run : Run
  pub reached : Reached J run
  pub ends : step J run ≡ Outcome.done a r

last_of : (J : Job) (n : ℕ) (a : Answer) (r : Run) (o : Outcome) → walk J n (begin J) ≡ o
    → (o ≡ Outcome.done a r → (begin J ≡ Outcome.done a r) ⊎ LastStep J a r) → walk J (suc n) (begin J) ≡ Outcome.done a r
    → (begin J ≡ Outcome.done a r) ⊎ LastStep J a r
last_of J n a r (Outcome.more s) w before e =
    inr (record { run = s; reached = record { steps = n; reached = w }; ends = sym (walk_snoc J n (begin J) s w) ∙ e })
last_of J n a r (Outcome.done b s) w before e =
    before (sym (walk_longer J n (suc n) (begin J) b s (omega arith) w) ∙ e)

-- a run that is done was done at once, or ended in a step from a run that was reached
pub last_step : (J : Job) (n : ℕ) (a : Answer) (r : Run) → walk J n (begin J) ≡ Outcome.done a r → (begin J ≡ Outcome.done a r) ⊎ LastStep J a r
unfolding walk
last_step J zero a r e = inl e
last_step J (suc n) a r e = last_of J n a r (walk J n (begin J)) refl (λ w. last_step J n a r w) e

pub holds_both : (P P' : Run → Type 0) (Q Q' : Answer → Run → Type 0) (o : Outcome) → Holds P Q o → Holds P' Q' o
    → Holds (λ r. P r × P' r) (λ a r. Q a r × Q' a r) o
holds_both P P' Q Q' (Outcome.more r) g h = (g, h)
holds_both P P' Q Q' (Outcome.done a r) g h = (g, h)

reached_of : (J : Job) (r : Run) → Reached J r → (o : Outcome) → step J r ≡ o → Holds (Reached J) (λ a x. Unit {0}) o
reached_of J r w (Outcome.more s) e =
    record { steps = suc w.steps; reached = walk_snoc J w.steps (begin J) r w.reached ∙ e }
reached_of J r w (Outcome.done a s) e = tt

-- a step from a run that is reached leads to one that is reached
pub reached_step : (J : Job) (r : Run) → Reached J r → Holds (Reached J) (λ a x. Unit {0}) (step J r)
reached_step J r w = reached_of J r w (step J r) refl

-- n steps and then m
pub walk_add : (J : Job) (n m : ℕ) (o : Outcome) → walk J (n + m) o ≡ walk J m (walk J n o)
unfolding walk
walk_add J zero m o = rw zero-add
walk_add J (suc n) m (Outcome.more r) = rw suc-add (walk_add J n m (step J r))
walk_add J (suc n) m (Outcome.done a r) = rw suc-add (sym (walk_done J m a r))

-- a run that is done and one that goes on, after as many steps or fewer
pub not_past_done : (J : Job) (n m : ℕ) (a : Answer) (r s : Run) → walk J n (begin J) ≡ Outcome.done a r → walk J m (begin J) ≡ Outcome.more s → n ≤ m → ⊥
not_past_done J n m a r s e f h =
    let g = walk_longer J n m (begin J) a r h e in let z : ◌≡◌ {A = ℕ} 0 1 = cc in omega arith

-- what holds of every run that goes on, and of every one that is done, holds of the run that `drive` gives back
pub at_end_law : (J : Job) (P : Run → Type 0) (R : Run → Type 0) → ((r : Run) → P r → R r) → ((n : ℕ) → Holds P (λ a r. R r) (walk J n (begin J)))
    → (budget : ℕ) (a : Answer) (r : Run) → drive J budget ≡ Outcome.done a r → R r
at_end_law J P R weaker all budget a r e = ended (walk J budget (begin J)) (sym (drive_walk J budget) ∙ e) (all budget)
  where
    ended : (o : Outcome) → out_of_units o ≡ Outcome.done a r → Holds P (λ b x. R x) o → R r
    ended (Outcome.more s) q h = let same : s ≡ r = cc in subst R same (weaker s h)
    ended (Outcome.done b s) q h = let same : s ≡ r = cc in subst R same h

-- a run that is stopped by its budget has used all of it
pub nineteen_uses_all : (J : Job) (budget : ℕ) (r : Run) → drive J budget ≡ Outcome.done OutOfUnits r → r.units ≡ budget
nineteen_uses_all J budget r e =
    let made = units_drive J budget in
    let all = looks_all J budget (begin J) r ((nineteen J budget r).0 e) in
    let here : units_of (drive J budget) ≡ r.units = ap units_of e in
    omega arith
