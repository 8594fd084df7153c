-- The form of the check's scans: the seven slices of a call as the rules' `Tables`, the first place at which a test is false,
-- and a turn of a loop that looks for it. `judge` of the rules is the verdict at that place.
use Rattle.std.specs.Prelude.{Bool, true, false, ◌&&◌, ◌||◌, not, List, ◌≡◌, refl, Option, Some, None}
use Prim.Native.Nat.{ℕ, zero, suc, ◌+◌, ◌-◌, ◌<◌, ◌≤◌}
use Rattle.std.proofs.Math.Numerals.{add-one}
use native.Mathlib.Omega.{arith}
use Rattle.std.proofs.Math.Decide.{dec_lt}
use borrow.Author.Tests.{not-true, not-false}
use Rattle.words.specs.Words.{pick}
use Rattle.rules.specs.Verdict.{Verdict, Refused}
use Rattle.rules.specs.Basics.{all_below, any_below}
use Rattle.rules.specs.Tables.{Tables}
use Rattle.rules.specs.Check.{first_false, judge}

-- the tables of a call, from its slices in the file's order
abbrev pub call_tables : List ℕ → List ℕ → List ℕ → List ℕ → List ℕ → List ℕ → List ℕ → Tables
call_tables s a g p r i f =
    record { sizes = s; actions = a; gotos = g; productions = p; rights = r; items = i; sets = f }

-- "lowest place first": the first of the n places from i on at which the test is false
unfoldable pub first_bad : (ℕ → Bool) → ℕ → ℕ → Option ℕ
first_bad ok i zero = None
first_bad ok i (suc n) = pick (ok i) (first_bad ok (suc i) n) (Some i)

-- what a scan of the check finds in the tables
abbrev pub found : (Tables → ℕ → Bool) → (Tables → ℕ) → Tables → Option ℕ
found ok count T = first_bad (ok T) 0 (count T)

-- the verdict that a scan gives: the number and the place, or what the rest of the check says
abbrev pub verdict_at : ℕ → Option ℕ → Verdict → Verdict
verdict_at number (Some i) rest = Refused number i
verdict_at number None rest = rest

verdict_step : (number i : ℕ) (b : Bool) (x : Verdict) (y : Option ℕ) (rest : Verdict) → x ≡ verdict_at number y rest → elim b [ true ↦ x | false ↦ Refused number i ] ≡ verdict_at number (pick b y (Some i)) rest
verdict_step number i true x y rest e = e
verdict_step number i false x y rest e = refl

first_false_law : (number : ℕ) (ok : ℕ → Bool) (i n : ℕ) (rest : Verdict) → first_false number ok i n rest ≡ verdict_at number (first_bad ok i n) rest
unfolding first_false first_bad
first_false_law number ok i zero rest = refl
first_false_law number ok i (suc n) rest = verdict_step number i (ok i) _ _ rest (first_false_law number ok (suc i) n rest)

pub judge_at : (number : ℕ) (ok : ℕ → Bool) (n : ℕ) (rest : Verdict) → judge number ok n rest ≡ verdict_at number (first_bad ok 0 n) rest
unfolding judge
judge_at number ok n rest = first_false_law number ok 0 n rest

-- where there is no such place, the test holds at each
pick_nowhere : (b : Bool) (p : Option ℕ) (i : ℕ) → pick b p (Some i) ≡ None → (b ≡ true) × (p ≡ None)
pick_nowhere true p i e = (refl, e)
pick_nowhere false p i e = let z : ◌≡◌ {A = ℕ} 0 1 = cc in absurd (omega arith)

pub good_at : (ok : ℕ → Bool) (i n : ℕ) → first_bad ok i n ≡ None → (k : ℕ) → i ≤ k → k < i + n → ok k ≡ true
unfolding first_bad
good_at ok i zero e k h l = absurd (omega arith)
good_at ok i (suc n) e k h l =
    let r = pick_nowhere (ok i) (first_bad ok (suc i) n) i e in
    elim (dec_lt i k) [
      | yes m ↦ good_at ok (suc i) n r.1 k (omega arith) (omega arith)
      | no m ↦ let q : k ≡ i = omega arith in rw q r.0
    ]

-- two tests that agree at every place are first false at the same one
pub bad_same : (f g : ℕ → Bool) → ((i : ℕ) → f i ≡ g i) → (i n : ℕ) → first_bad f i n ≡ first_bad g i n
unfolding first_bad
bad_same f g e i zero = refl
bad_same f g e i (suc n) = rw (e i, bad_same f g e (suc i) n)

pub below_same : (f g : ℕ → Bool) → ((i : ℕ) → f i ≡ g i) → (n : ℕ) → all_below n f ≡ all_below n g
unfolding all_below
below_same f g e zero = refl
below_same f g e (suc n) = rw (below_same f g e n, e n)

-- ---- where a loop that looks for the place begins
pub bad_start : (ok : ℕ → Bool) (n : ℕ) → first_bad ok 0 (n - 0) ≡ first_bad ok 0 n
bad_start ok n = let e : n - 0 ≡ n = omega arith in rw e

-- ---- a turn of a loop that looks for the place, with the test's value as the code has it: what is left gives the whole
module _ (ok : ℕ → Bool) (i n : ℕ) where
  pub bad_turn : (b : Bool) (v : Option ℕ) → i < n → b ≡ ok i → not b ≡ false → first_bad ok i (n - i) ≡ v → first_bad ok (i + 1) (n - (i + 1)) ≡ v
  unfolding first_bad
  bad_turn b v h e q r =
      let p : n - i ≡ suc (n - suc i) = omega arith in rw add-one (rw (p, ← e, not-false b q) at r)

  pub bad_here : (b : Bool) → i < n → b ≡ ok i → not b ≡ true → first_bad ok i (n - i) ≡ Some i
  unfolding first_bad
  bad_here b h e q = let p : n - i ≡ suc (n - suc i) = omega arith in rw (p, ← e, not-true b q)

  pub bad_none : n ≤ i → first_bad ok i (n - i) ≡ None
  unfolding first_bad
  bad_none h = let p : n - i ≡ 0 = omega arith in rw p

-- ---- and of a loop that tests every number below a bound
and_false : (a b : Bool) → b ≡ false → (a && b) ≡ false
and_false true b e = e
and_false false b e = refl

pub below_none : (f : ℕ → Bool) → all_below 0 f ≡ true
unfolding all_below
below_none f = refl

pub below_turn : (f : ℕ → Bool) (i : ℕ) (b : Bool) → b ≡ f i → not b ≡ false → all_below i f ≡ true → all_below (i + 1) f ≡ true
unfolding all_below
below_turn f i b e q h = rw (add-one, h, ← e, not-false b q)

fails : (f : ℕ → Bool) (i n : ℕ) → i < n → f i ≡ false → all_below n f ≡ false
unfolding all_below
fails f i zero h e = absurd (omega arith)
fails f i (suc n) h e =
    elim (dec_lt i n) [
      | yes k ↦ rw (fails f i n k e)
      | no k ↦ let q : i ≡ n = omega arith in and_false (all_below n f) (f n) (rw q at e)
    ]

pub below_fails : (f : ℕ → Bool) (i n : ℕ) (b : Bool) → i < n → b ≡ f i → not b ≡ true → all_below n f ≡ false
below_fails f i n b h e q = fails f i n h (rw (← e) (not-true b q))

-- ---- and of a loop that looks for some number below a bound
or_true : (x : Bool) → x || true ≡ true
or_true true = refl
or_true false = refl

pub any_none : (f : ℕ → Bool) → any_below 0 f ≡ false
unfolding any_below
any_none f = refl

pub any_turn : (f : ℕ → Bool) (i : ℕ) (b : Bool) → b ≡ f i → b ≡ false → any_below i f ≡ false → any_below (i + 1) f ≡ false
unfolding any_below
any_turn f i b e k h = rw (add-one, h, ← e, k)

holds : (f : ℕ → Bool) (n i : ℕ) → i < n → f i ≡ true → any_below n f ≡ true
unfolding any_below
holds f zero i h k = absurd (omega arith)
holds f (suc n) i h k =
    elim (dec_lt i n) [
      | yes l ↦ rw (holds f n i l k)
      | no l ↦ let e : n ≡ i = omega arith in rw (e, k, or_true)
    ]

pub any_found : (f : ℕ → Bool) (n i : ℕ) (b : Bool) → i < n → b ≡ f i → b ≡ true → any_below n f ≡ true
any_found f n i b h e k = holds f n i h (rw (← e) k)
