-- `Tables::begins_with`: what is left decides.
-- Assumes nothing.
use Rattle.std.proofs.Common.{◌≡◌, ◌+◌, ◌-◌, ◌≤◌}
use Rattle.rules.specs.Check.{begins_with}
use Rattle.tables.specs.Rights.{symbols_in}
use Rattle.tables.proofs.Tables.begins_with.Given as goal

abbrev pub invariant-loop-d : goal.invariant-loop-d
invariant-loop-d l =
    (l.d ≤ l.n)
    × (begins_with l.self (symbols_in l.self.rights (l.from + l.d) (l.n - l.d)) l.kind ≡ begins_with l.self (symbols_in l.self.rights l.from l.n) l.kind)
