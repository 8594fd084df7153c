-- The places of 17, and what stands behind the symbol behind an item's dot, as `following` holds it.
use Rattle.std.specs.Prelude.{Bool, ◌||◌, not, List, ◌≡◌, ℕ, suc, ◌+◌, ◌-◌, ◌<◌, ◌^◌, drop}
use Rattle.std.proofs.Common.{arith}
use Rattle.rules.specs.Basics.{all_below}
use Rattle.rules.specs.Tables.{Tables, item_count, columns, size, right_start, rhs}
use Rattle.rules.specs.Check.{all_nullable, can_begin, has_item_for}
use Rattle.tables.specs.Rights.{symbols_in, rhs_in, drop_symbols}
use Rattle.following.specs.declared.Rest.TheInside.{Inside}

-- "item; item count where (0, 0, 0, end) is missing, tested last": the places of 17
abbrev pub place_count : Tables → ℕ
place_count T = item_count T + 1

-- "what follows B and then a": the symbols and the lookahead
pub record Behind : Type 0 where
  pub tables : Tables
  pub symbols : List ℕ
  pub lookahead : ℕ

-- the n symbols from a place of the right sides on, and a lookahead
abbrev pub behind : Tables → ℕ → ℕ → ℕ → Behind
behind T from n a = record { tables = T; symbols = symbols_in T.rights from n; lookahead = a }

-- "s also has (q, 0, b) for .. each b that can begin what follows B and then a"
abbrev pub opens_each : Behind → ℕ → ℕ → Bool
opens_each r s q =
    all_below (columns r.tables) (λ b. not (can_begin r.tables r.symbols r.lookahead b) || has_item_for r.tables s q 0 b)

abbrev pub behind_of : Inside → Behind
behind_of r = behind r.t.now r.from r.n r.lookahead

-- the place is not too far, and whether the symbols can all be nothing is the rules'
pub record RestRead (r : Inside) : Type 0 where
  pub near : r.from + r.n < 2 ^ 62
  pub empty_read : r.empty ≡ all_nullable r.t.now (symbols_in r.t.now.rights r.from r.n)

-- what stands behind the symbol behind the dot
pub behind_dot : (T : Tables) (p d : ℕ) → d < size T p → drop (suc d) (rhs T p) ≡ symbols_in T.rights (right_start T p + d + 1) (size T p - (d + 1))
behind_dot T p d h =
    let e : right_start T p + d + 1 ≡ right_start T p + suc d = omega arith in
    let f : size T p - (d + 1) ≡ size T p - suc d = omega arith in
    rw (rhs_in, e, f) (drop_symbols T.rights (right_start T p) (size T p) (suc d) (omega arith))
