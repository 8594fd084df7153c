-- 12 and 13 at a production whose right side starts at a known place, and that each is the rules' own test where that place is the
-- production's own: so a scan reads the place once for each production.
use Rattle.std.specs.Prelude.{Bool, ◌&&◌, ◌||◌, not, ◌≡◌, refl, ℕ, zero, suc, ◌+◌, leb, ltb, eqb}
use Rattle.rules.specs.Basics.{all_below}
use Rattle.rules.specs.Tables.{Tables, kinds, nonterminals, left, size, right_start, symbol, symbol_of, nullable, in_first}
use Rattle.rules.specs.Check.{symbol_fits, left_fits, ok12, all_nullable, begins_with, ok13}
use Rattle.tables.specs.Rights.{symbol_in, symbols_in, rhs_in}

-- "a .. left side is out of range; nonterminal 0 is .. left of another production; production 0 is misshapen": `first` is the first
-- symbol of its right side
unfoldable pub left_allowed : Tables → ℕ → ℕ → Bool
left_allowed T zero first = eqb (left T 0) 0 && eqb (size T 0) 1 && not (leb first (kinds T))
left_allowed T (suc p) first = not (eqb (left T (suc p)) 0) && ltb (left T (suc p)) (nonterminals T)

unfoldable pub production_allowed : Tables → ℕ → ℕ → Bool
production_allowed T p start =
    left_allowed T p (symbol_in T.rights start) && all_below (size T p) (λ d. symbol_fits T (symbol_in T.rights (start + d)))

unfoldable pub production_closed : Tables → ℕ → ℕ → Bool
production_closed T p start =
    (not (all_nullable T (symbols_in T.rights start (size T p))) || nullable T (symbol_of T (left T p)))
    && all_below (kinds T + 1) (λ k. not (begins_with T (symbols_in T.rights start (size T p)) k) || in_first T (symbol_of T (left T p)) k)

-- ---- each is the rules' own

left_same : (T : Tables) (p : ℕ) → left_allowed T p (symbol_in T.rights (right_start T p)) ≡ left_fits T p
unfolding left_allowed left_fits symbol symbol_in right_start
left_same T zero = refl
left_same T (suc p) = refl

pub allowed_same : (T : Tables) (p : ℕ) → production_allowed T p (right_start T p) ≡ ok12 T p
unfolding production_allowed ok12 symbol symbol_in
allowed_same T p = rw (left_same T p)

pub closed_same : (T : Tables) (p : ℕ) → production_closed T p (right_start T p) ≡ ok13 T p
unfolding production_closed ok13
closed_same T p = rw (rhs_in T p)
