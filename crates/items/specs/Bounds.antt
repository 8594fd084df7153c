-- Where the sizes are within what test 10 allows, the places of a table of cells are few.
-- Assumes nothing.
use Rattle.std.specs.Prelude.{ℕ, ◌+◌, ◌*◌, ◌≤◌}
use Rattle.std.proofs.Common.{mul-le-mul, arith}

-- how many action cells there can be
pub cells_le : (n t : ℕ) → n ≤ 1024 → t ≤ 254 → n * (t + 2) ≤ 262144
cells_le n t h k = let l : t + 2 ≤ 256 = omega arith in omega (arith, mul-le-mul h l)
