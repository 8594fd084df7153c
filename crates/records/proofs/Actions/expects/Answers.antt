-- `records::Actions::expects` is the test of the rules: a kind below t whose cell is no error.
-- Assumes nothing.
use Rattle.std.proofs.Common.{◌<◌, ◌≤◌, arith, lt-ltb, le-ltb}
use Rattle.records.specs.Expected.{expects_in}
use Rattle.records.proofs.Actions.expects.Goals as goal

pub returns-then-kind-self : goal.returns-then-kind-self
unfolding expects_in
returns-then-kind-self c =
    let h : c.args.kind < c.args.self.kinds = omega arith in rw (lt-ltb _ _ h, ← c.cell_in.ensures) c.is_said.ensures

pub returns-else-kind-self : goal.returns-else-kind-self
unfolding expects_in
returns-else-kind-self c = let h : c.args.self.kinds ≤ c.args.kind = omega arith in simp (le-ltb _ _ h)
