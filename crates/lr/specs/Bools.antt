-- What a test that is true says: of both, of either, of one that implies another, of all or any number below a bound, and of the
-- first place at which a test is false.
use Rattle.std.specs.Prelude.{Bool, true, false, not, ◌&&◌, ◌||◌, List, [], ◌∷◌, ◌⊎◌, ◌≡◌, refl, ℕ, zero, suc, ◌+◌, ◌≤◌, ◌<◌, Err}
use Rattle.std.proofs.Common.{inl, inr, ⊎_elim, sym, ap, ◌∙◌, arith}
use Rattle.std.proofs.Math.Logic.{by_cases}
use Rattle.std.proofs.Math.Decide.{dec_lt}
use Rattle.words.specs.Words.{pick}
use Rattle.rules.specs.Basics.{all_below, any_below}
use Rattle.rules.specs.declared.Refusal.{Refusal}
use Rattle.rules.specs.Verdict.{Verdict, Passes, Refused}
use Rattle.rules.specs.Check.{first_false, judge}

-- a test is true or it is not, with the equation
pub whether : (b : Bool) → (b ≡ true) ⊎ (b ≡ false)
whether true = inl refl
whether false = inr refl

pub not_both : {A : Type 0} {b : Bool} → b ≡ true → b ≡ false → A
not_both p q = let z : ◌≡◌ {A = ℕ} 0 1 = cc in absurd (omega arith)

pub and_left : (a b : Bool) → (a && b) ≡ true → a ≡ true
and_left true b e = refl
and_left false b e = e

pub and_right : (a b : Bool) → (a && b) ≡ true → b ≡ true
and_right true b e = e
and_right false b e = not_both refl (sym e)

pub and_both : {a b : Bool} → a ≡ true → b ≡ true → (a && b) ≡ true
and_both p q = rw (p, q)

pub or_cases : (a b : Bool) → (a || b) ≡ true → (a ≡ true) ⊎ (b ≡ true)
or_cases true b e = inl refl
or_cases false b e = inr e

pub or_left : {a : Bool} (b : Bool) → a ≡ true → (a || b) ≡ true
or_left b p = rw p

pub or_right : (a : Bool) {b : Bool} → b ≡ true → (a || b) ≡ true
or_right true p = refl
or_right false p = p

-- `not a || b` is "a implies b"
pub implied : (a b : Bool) → (not a || b) ≡ true → a ≡ true → b ≡ true
implied true b e p = e
implied false b e p = not_both p refl

pub pick_true : {A : Type 0} {t : Bool} (x y : A) → t ≡ true → pick t x y ≡ x
pick_true x y p = rw p

pub pick_false : {A : Type 0} {t : Bool} (x y : A) → t ≡ false → pick t x y ≡ y
pick_false x y p = rw p

-- ---- all, and any, below a bound

pub all_below_law : (n : ℕ) (f : ℕ → Bool) → all_below n f ≡ true → (i : ℕ) → i < n → f i ≡ true
unfolding all_below
all_below_law zero f e i h = absurd (omega arith)
all_below_law (suc n) f e i h =
    by_cases (dec_lt i n) (λ k. all_below_law n f (and_left (all_below n f) (f n) e) i k)
    (λ k. let q : i ≡ n = omega arith in rw q (and_right (all_below n f) (f n) e))

pub below_all : (n : ℕ) (f : ℕ → Bool) → ((i : ℕ) → i < n → f i ≡ true) → all_below n f ≡ true
unfolding all_below
below_all zero f h = refl
below_all (suc n) f h = and_both (below_all n f (λ i k. h i (omega arith))) (h n (omega arith))

pub any_below_law : (n : ℕ) (f : ℕ → Bool) → any_below n f ≡ true → (i : ℕ) × (i < n) × (f i ≡ true)
unfolding any_below
any_below_law zero f e = not_both refl (sym e)
any_below_law (suc n) f e =
    ⊎_elim (λ p. let r = any_below_law n f p in (r.0, omega arith, r.2)) (λ p. (n, omega arith, p)) (or_cases (any_below n f) (f n) e)

pub below_any : (n : ℕ) (f : ℕ → Bool) (i : ℕ) → i < n → f i ≡ true → any_below n f ≡ true
unfolding any_below
below_any zero f i h p = absurd (omega arith)
below_any (suc n) f i h p =
    by_cases (dec_lt i n) (λ k. or_left (f n) (below_any n f i k p))
    (λ k. let q : i ≡ n = omega arith in or_right (any_below n f) (rw q at p))

-- ---- the first place at which a test is false

-- a number of the check, with its test and how many places it has
pub record Row : Type 0 where
  pub number : ℕ
  pub test : ℕ → Bool
  pub places : ℕ

-- the rows judged in order
abbrev pub judge_all : List Row → Verdict
judge_all [] = Passes
judge_all (row ∷ rows) = judge row.number row.test row.places (judge_all rows)

-- the test of every row holds at every place
abbrev pub AllHold : List Row → Type 0
AllHold [] = Unit
AllHold (row ∷ rows) = ((i : ℕ) → i < row.places → row.test i ≡ true) × AllHold rows

-- The first bad place in the order of the rows: every test of an earlier row holds at all its places, this row's holds at all lower
-- places, and fails at this one.
pub data FirstBad : List Row → ℕ → ℕ → Type 0 where
  here : {row : Row} {rows : List Row} {n p : ℕ} → row.number ≡ n → p < row.places → ((i : ℕ) → i < p → row.test i ≡ true)
      → row.test p ≡ false → FirstBad (row ∷ rows) n p
  later : {row : Row} {rows : List Row} {n p : ℕ} → ((i : ℕ) → i < row.places → row.test i ≡ true) → FirstBad rows n p
      → FirstBad (row ∷ rows) n p

first_holds : (m : ℕ) (ok : ℕ → Bool) (i n : ℕ) (rest : Verdict) → ok i ≡ true → first_false m ok i (suc n) rest ≡ first_false m ok (suc i) n rest
unfolding first_false
first_holds m ok i n rest e =
    ap (λ (b : Bool). elim b as (λ x. Verdict) [ true ↦ first_false m ok (suc i) n rest | false ↦ Refused m i ]) e

first_fails : (m : ℕ) (ok : ℕ → Bool) (i n : ℕ) (rest : Verdict) → ok i ≡ false → first_false m ok i (suc n) rest ≡ Refused m i
unfolding first_false
first_fails m ok i n rest e =
    ap (λ (b : Bool). elim b as (λ x. Verdict) [ true ↦ first_false m ok (suc i) n rest | false ↦ Refused m i ]) e

-- all places hold: the rest judges
all_hold : (m : ℕ) (ok : ℕ → Bool) (i n : ℕ) (rest : Verdict) → ((j : ℕ) → i ≤ j → j < i + n → ok j ≡ true) → first_false m ok i n rest ≡ rest
unfolding first_false
all_hold m ok i zero rest h = refl
all_hold m ok i (suc n) rest h =
    first_holds m ok i n rest (h i (omega arith) (omega arith)) ∙ all_hold m ok (suc i) n rest (λ j p q. h j (omega arith) (omega arith))

-- the places below p hold and p does not: p is refused
first_bad_law : (m : ℕ) (ok : ℕ → Bool) (i n : ℕ) (rest : Verdict) (p : ℕ) → i ≤ p → p < i + n → ((j : ℕ) → i ≤ j → j < p → ok j ≡ true) → ok p ≡ false
    → first_false m ok i n rest ≡ Refused m p
first_bad_law m ok i zero rest p a b h f = absurd (omega arith)
first_bad_law m ok i (suc n) rest p a b h f =
    by_cases (dec_lt i p)
    (λ k. first_holds m ok i n rest (h i (omega arith) k)
    ∙ first_bad_law m ok (suc i) n rest p k (omega arith) (λ j u v. h j (omega arith) v) f)
    (λ k. let q : p ≡ i = omega arith in first_fails m ok i n rest (rw q at f) ∙ rw q)

-- a test is true at every place, or there is a first one at which it is false
scan : (ok : ℕ → Bool) (n : ℕ) → ((i : ℕ) → i < n → ok i ≡ true) ⊎ ((p : ℕ) × (p < n) × ((i : ℕ) → i < p → ok i ≡ true) × (ok p ≡ false))
scan ok zero = inl (λ i h. absurd (omega arith))
scan ok (suc n) = ⊎_elim (λ h. last h (whether (ok n))) (λ r. inr (r.0, omega arith, r.2, r.3)) (scan ok n)
  where
    Found : Type 0
    Found = ((i : ℕ) → i < suc n → ok i ≡ true) ⊎ ((p : ℕ) × (p < suc n) × ((i : ℕ) → i < p → ok i ≡ true) × (ok p ≡ false))

    one : ((i : ℕ) → i < n → ok i ≡ true) → ok n ≡ true → (i : ℕ) → i < suc n → Dec (i < n) → ok i ≡ true
    one h e i k (yes l) = h i l
    one h e i k (no l) = let q : i ≡ n = omega arith in rw q e

    last : ((i : ℕ) → i < n → ok i ≡ true) → (ok n ≡ true) ⊎ (ok n ≡ false) → Found
    last h (inl e) = inl (λ i k. one h e i k (dec_lt i n))
    last h (inr e) = inr (n, omega arith, h, e)

judged_all : (rows : List Row) → AllHold rows ⊎ ((n : ℕ) × (p : ℕ) × FirstBad rows n p)
judged_all [] = inl tt
judged_all (row ∷ rows) = go (scan row.test row.places) (judged_all rows)
  where
    go : ((i : ℕ) → i < row.places → row.test i ≡ true) ⊎ ((p : ℕ) × (p < row.places) × ((i : ℕ) → i < p → row.test i ≡ true) × (row.test p ≡ false))
        → AllHold rows ⊎ ((n : ℕ) × (p : ℕ) × FirstBad rows n p) → AllHold (row ∷ rows) ⊎ ((n : ℕ) × (p : ℕ) × FirstBad (row ∷ rows) n p)
    go (inr r) rest = inr (row.number, r.0, here refl r.1 r.2 r.3)
    go (inl h) (inl rest) = inl (h, rest)
    go (inl h) (inr rest) = inr (rest.0, rest.1, later h rest.2)

-- what the verdict is in either case
pub passes_of : (rows : List Row) → AllHold rows → judge_all rows ≡ Passes
unfolding judge
passes_of [] h = refl
passes_of (row ∷ rows) h =
    all_hold row.number row.test 0 row.places (judge_all rows) (λ j a b. h.0 j (omega arith)) ∙ passes_of rows h.1

pub refused_of : (rows : List Row) (n p : ℕ) → FirstBad rows n p → judge_all rows ≡ Refused n p
unfolding judge
refused_of [] n p x = elim x [ ]
refused_of (row ∷ rows) n p (here e k h f) =
    first_bad_law row.number row.test 0 row.places (judge_all rows) p (omega arith) (omega arith) (λ j a b. h j b) f ∙ rw e
refused_of (row ∷ rows) n p (later h b) =
    all_hold row.number row.test 0 row.places (judge_all rows) (λ j u v. h j (omega arith)) ∙ refused_of rows n p b

-- and what the verdict says
pub all_of_passes : (rows : List Row) → judge_all rows ≡ Passes → AllHold rows
all_of_passes rows e = ⊎_elim (λ h. h) (λ r. other r.0 r.1 (refused_of rows r.0 r.1 r.2)) (judged_all rows)
  where
    other : (n p : ℕ) → judge_all rows ≡ Refused n p → AllHold rows
    other n p f = let z : ◌≡◌ {A = ℕ} 0 1 = cc in absurd (omega arith)

one_reason : (r s : Refusal) → ◌≡◌ {A = Verdict} (Err r) (Err s) → (r.number ≡ s.number) × (r.place ≡ s.place)
one_reason r s e = let h : r ≡ s = cc in ((λ i. (h i).number), (λ i. (h i).place))

pub bad_of_refused : (rows : List Row) (n p : ℕ) → judge_all rows ≡ Refused n p → FirstBad rows n p
bad_of_refused rows n p e = ⊎_elim (λ h. other (passes_of rows h)) (λ r. same r.0 r.1 r.2 (refused_of rows r.0 r.1 r.2)) (judged_all rows)
  where
    other : judge_all rows ≡ Passes → FirstBad rows n p
    other f = let z : ◌≡◌ {A = ℕ} 0 1 = cc in absurd (omega arith)

    same : (m q : ℕ) → FirstBad rows m q → judge_all rows ≡ Refused m q → FirstBad rows n p
    same m q b f = let h = one_reason _ _ (sym f ∙ e) in let u : m ≡ n = h.0 in let v : q ≡ p = h.1 in rw (← u, ← v) b
