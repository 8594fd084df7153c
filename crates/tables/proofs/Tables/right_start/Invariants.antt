-- `Tables::right_start`: the sum of the sizes passed, each below 2 ^ 16.
-- Assumes nothing.
use Rattle.std.proofs.Common.{◌≡◌, ◌*◌, ◌≤◌}
use Rattle.rules.specs.Tables.{right_start}
use Rattle.tables.proofs.Tables.right_start.Given as goal

abbrev pub invariant-loop-p : goal.invariant-loop-p
invariant-loop-p l = (l.sum ≤ 65535 * l.p) × (l.sum ≡ right_start l.self l.p)
