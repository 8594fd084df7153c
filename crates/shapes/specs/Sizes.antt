-- 10 has one place. And right sides that are short start early.
use Rattle.std.specs.Prelude.{true, ◌≡◌, ℕ, zero, suc, ◌*◌, ◌≤◌, leb}
use Rattle.std.proofs.Common.{arith, leb-true}
use Rattle.rules.specs.Basics.{all_below}
use Rattle.rules.specs.Tables.{Tables, size, right_start}
use Rattle.tables.specs.Fit.{and_left, and_right}

-- "place 0" is the only one
abbrev pub one_place : Tables → ℕ
one_place T = 1

-- "each right side 0 to 32 symbols": so none starts behind the 32nd symbol of each before it
pub starts_early : (T : Tables) (n : ℕ) → all_below n (λ p. leb (size T p) 32) ≡ true → right_start T n ≤ 32 * n
unfolding all_below right_start
starts_early T zero e = omega arith
starts_early T (suc n) e =
    let h : size T n ≤ 32 = leb-true _ _ (and_right (all_below n (λ p. leb (size T p) 32)) (leb (size T n) 32) e) in
    let r : right_start T n ≤ 32 * n = starts_early T n (and_left (all_below n (λ p. leb (size T p) 32)) (leb (size T n) 32) e) in
    omega arith
