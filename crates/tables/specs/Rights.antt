-- Right sides from a place on, as lists of symbols: the rules' right sides are such lists. And a turn of a loop over one.
use Rattle.std.specs.Prelude.{Bool, true, false, not, List, [], ◌∷◌, ◌≡◌, refl, eqb, drop}
use Prim.Native.Nat.{ℕ, zero, suc, ◌+◌, ◌*◌, ◌-◌, ◌<◌, ◌≤◌}
use Rattle.std.proofs.Math.Numerals.{add-one}
use native.Mathlib.Omega.{arith}
use borrow.Author.Tests.{le-leb, lt-leb, not-true, not-false}
use Rattle.words.specs.Words.{word16}
use Rattle.rules.specs.Tables.{Tables, kinds, size, right_start, symbol, symbols_from, rhs, nullable_byte, in_set, nullable, in_first, nonterminal_of}
use Rattle.rules.specs.Check.{all_nullable, begins_with}

-- the symbol at a place of the right sides, and the n symbols from a place on
unfoldable pub symbol_in : List ℕ → ℕ → ℕ
symbol_in rights at = word16 rights (2 * at)

unfoldable pub symbols_in : List ℕ → ℕ → ℕ → List ℕ
symbols_in rights at zero = []
symbols_in rights at (suc n) = symbol_in rights at ∷ symbols_in rights (suc at) n

-- ---- a symbol by what it is

module _ (T : Tables) (X : ℕ) where
  pub nullable_terminal : X ≤ kinds T → nullable T X ≡ false
  unfolding nullable
  nullable_terminal h = simp (le-leb _ _ h)

  pub nullable_other : kinds T < X → nullable T X ≡ eqb (nullable_byte T (nonterminal_of T X)) 1
  unfolding nullable
  nullable_other h = simp (lt-leb _ _ h)

  pub first_terminal : (k : ℕ) → X ≤ kinds T → in_first T X k ≡ eqb X k
  unfolding in_first
  first_terminal k h = simp (le-leb _ _ h)

  pub first_other : (k : ℕ) → kinds T < X → in_first T X k ≡ in_set T (nonterminal_of T X) k
  unfolding in_first
  first_other k h = simp (lt-leb _ _ h)

-- nothing is before the first production, and where one more is behind, the sum grows by its size
pub start_none : (T : Tables) → 0 ≡ right_start T 0
unfolding right_start
start_none T = refl

pub start_more : (T : Tables) (p sum n : ℕ) → sum ≡ right_start T p → n ≡ size T p → sum + n ≡ right_start T (p + 1)
unfolding right_start
start_more T p sum n e f = rw (add-one, e, f)

-- ---- a turn of a loop over the symbols: d are passed, X is the next, and what is left gives the whole

module _ (T : Tables) (rights : List ℕ) (at n d X : ℕ) (isNullable : Bool) (h : d < n) (x : X ≡ symbol_in rights (at + d)) (e : isNullable ≡ nullable T X) where
  pub all_turn : (v : Bool) → not isNullable ≡ false → all_nullable T (symbols_in rights (at + d) (n - d)) ≡ v → all_nullable T (symbols_in rights (at + (d + 1)) (n - (d + 1))) ≡ v
  unfolding all_nullable symbols_in
  all_turn v q r =
      let p : n - d ≡ suc (n - (d + 1)) = omega arith in
      let s : at + (d + 1) ≡ suc (at + d) = omega arith in rw s (rw (p, ← x, ← e, not-false isNullable q) at r)

  pub all_stop : not isNullable ≡ true → all_nullable T (symbols_in rights (at + d) (n - d)) ≡ false
  unfolding all_nullable symbols_in
  all_stop q = let p : n - d ≡ suc (n - (d + 1)) = omega arith in rw (p, ← x, ← e, not-true isNullable q)

  pub begins_turn : (k : ℕ) (isFirst v : Bool) → isFirst ≡ in_first T X k → isFirst ≡ false → not isNullable ≡ false → begins_with T (symbols_in rights (at + d) (n - d)) k ≡ v → begins_with T (symbols_in rights (at + (d + 1)) (n - (d + 1))) k ≡ v
  unfolding begins_with symbols_in
  begins_turn k isFirst v f w q r =
      let p : n - d ≡ suc (n - (d + 1)) = omega arith in
      let s : at + (d + 1) ≡ suc (at + d) = omega arith in rw s (rw (p, ← x, ← f, ← e, w, not-false isNullable q) at r)

  pub begins_stop : (k : ℕ) (isFirst : Bool) → isFirst ≡ in_first T X k → isFirst ≡ false → not isNullable ≡ true → begins_with T (symbols_in rights (at + d) (n - d)) k ≡ false
  unfolding begins_with symbols_in
  begins_stop k isFirst f w q =
      let p : n - d ≡ suc (n - (d + 1)) = omega arith in rw (p, ← x, ← f, ← e, w, not-true isNullable q)

pub begins_found : (T : Tables) (rights : List ℕ) (at n d X k : ℕ) (isFirst : Bool) → d < n → X ≡ symbol_in rights (at + d) → isFirst ≡ in_first T X k → isFirst ≡ true → begins_with T (symbols_in rights (at + d) (n - d)) k ≡ true
unfolding begins_with symbols_in
begins_found T rights at n d X k isFirst h x f w =
    let p : n - d ≡ suc (n - (d + 1)) = omega arith in rw (p, ← x, ← f, w)

pub all_none : (T : Tables) (rights : List ℕ) (at n : ℕ) → n ≡ 0 → all_nullable T (symbols_in rights at n) ≡ true
unfolding all_nullable symbols_in
all_none T rights at n h = rw h

pub begins_none : (T : Tables) (rights : List ℕ) (at n k : ℕ) → n ≡ 0 → begins_with T (symbols_in rights at n) k ≡ false
unfolding begins_with symbols_in
begins_none T rights at n k h = rw h

-- ---- the rules' right sides

pub symbol_in_law : (T : Tables) (p d : ℕ) → symbol T p d ≡ symbol_in T.rights (right_start T p + d)
unfolding symbol symbol_in
symbol_in_law T p d = refl

pub symbols_in_law : (T : Tables) (p d n : ℕ) → symbols_from T p d n ≡ symbols_in T.rights (right_start T p + d) n
unfolding symbols_from symbols_in symbol symbol_in
symbols_in_law T p d zero = refl
symbols_in_law T p d (suc n) =
    let e : suc (right_start T p + d) ≡ right_start T p + suc d = omega arith in rw (e, symbols_in_law T p (suc d) n)

pub rhs_in : (T : Tables) (p : ℕ) → rhs T p ≡ symbols_in T.rights (right_start T p) (size T p)
unfolding rhs
rhs_in T p = let e : right_start T p + 0 ≡ right_start T p = omega arith in rw e at (symbols_in_law T p 0 (size T p))

-- what stands behind the first d symbols
pub drop_symbols : (rights : List ℕ) (at n d : ℕ) → d ≤ n → drop d (symbols_in rights at n) ≡ symbols_in rights (at + d) (n - d)
unfolding symbols_in
drop_symbols rights at n zero h = let e : at + 0 ≡ at = omega arith in let f : n - 0 ≡ n = omega arith in rw (e, f)
drop_symbols rights at zero (suc d) h = absurd (omega arith)
drop_symbols rights at (suc n) (suc d) h =
    let e : at + suc d ≡ suc at + d = omega arith in
    let f : suc n - suc d ≡ n - d = omega arith in rw (e, f) (drop_symbols rights (suc at) n d (omega arith))
