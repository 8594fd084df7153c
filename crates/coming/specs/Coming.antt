-- Test 15 in the steps of `coming`: the transitions from one state, and the scan that walks only once for items that share state,
-- production and dot.
use Rattle.std.specs.Prelude.{Bool, true, ◌&&◌, ◌||◌, not, ◌≡◌, refl, eqb, ℕ, zero, suc, ◌-◌, ◌≤◌}
use native.Mathlib.Omega.{arith}
use Rattle.rules.specs.Basics.{all_below}
use Rattle.rules.specs.Tables.{Tables, states, item_count, symbol_count, move, goes_to, symbol, item_at}
use Rattle.rules.specs.Check.{has_item, comes_well, dot_fits, ok15}
use Rattle.tables.specs.Places.{first_bad}
use Rattle.items.specs.Lookup.{same_place, repeats}
use Rattle.items.specs.Ranges.{bad_skips}

-- "some shift or goto into its state is not over the symbol before the dot, or comes from a state with no item of that production
-- at d-1": every transition from r, where it enters s, is over the symbol B, and r has the item
unfoldable pub comes_from : Tables → ℕ → ℕ → ℕ → ℕ → ℕ → Bool
comes_from T s p d B r =
    all_below (symbol_count T) (λ X. not (goes_to (move T r X) s) || (eqb X B && has_item T r p d))

-- and that of every state
unfoldable pub comes_in : Tables → ℕ → ℕ → ℕ → ℕ → Bool
comes_in T s p d B = all_below (states T) (comes_from T s p d B)

-- with the symbol before the dot it is the rules' own
pub comes_in_law : (T : Tables) (s p d : ℕ) → comes_in T s p d (symbol T p d) ≡ comes_well T s p d
unfolding comes_in comes_well comes_from
comes_in_law T s p d = refl

-- ---- "dot > 0 in state 0; production 0 at dot 0 elsewhere; or dot d > 0 and .."

pub at_front : (T : Tables) (s p d : ℕ) → (1 ≤ d → ⊥) → dot_fits T s p d ≡ (not (eqb p 0) || eqb s 0)
unfolding dot_fits
at_front T s p zero h = refl
at_front T s p (suc d) h = absurd (h (omega arith))

pub past_front : (T : Tables) (s p d e : ℕ) → 1 ≤ d → e ≡ d - 1 → dot_fits T s p d ≡ (not (eqb s 0) && comes_well T s p e)
unfolding dot_fits
past_front T s p zero e h q = absurd (omega arith)
past_front T s p (suc d) e h q = let r : e ≡ d = omega arith in rw r

-- an item that repeats the one before it passes where that passes
same_fits : (T : Tables) (i : ℕ) → repeats T (suc i) ≡ true → ok15 T (suc i) ≡ ok15 T i
unfolding repeats ok15
same_fits T i h = let e = same_place _ _ _ (item_at T (suc i)) h in rw (e.0, e.1, e.2)

pub passing : (T : Tables) → first_bad (λ k. repeats T k || ok15 T k) 0 (item_count T) ≡ first_bad (ok15 T) 0 (item_count T)
unfolding repeats
passing T = bad_skips (ok15 T) (repeats T) (same_fits T) 0 (item_count T) (λ k. let z : ◌≡◌ {A = ℕ} 0 1 = cc in absurd (omega arith))
