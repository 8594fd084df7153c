-- `Tables::all_nullable`: what is left decides.
-- Assumes nothing.
use Rattle.std.proofs.Common.{◌≡◌, ◌+◌, ◌-◌, ◌≤◌}
use Rattle.rules.specs.Check.{all_nullable}
use Rattle.tables.specs.Rights.{symbols_in}
use Rattle.tables.proofs.Tables.all_nullable.Given as goal

abbrev pub invariant-loop-d : goal.invariant-loop-d
invariant-loop-d l =
    (l.d ≤ l.n)
    × (all_nullable l.self (symbols_in l.self.rights (l.from + l.d) (l.n - l.d)) ≡ all_nullable l.self (symbols_in l.self.rights l.from l.n))
