-- `driver::drive` runs from the beginning, where the bounds hold since nothing is counted yet.
-- Assumes nothing.
use mathlib.Core.Path.{◌≡◌}
use native.Mathlib.Omega.{arith}
use lib.ListN.{length}
use Rattle.driver.specs.Running.{Onward, begin_onward}
use Rattle.driver.proofs.drive.Goals as goal

pub run-requires : goal.run-requires
run-requires c = let p = c.requires in
    let x = c.args in
    let b = c.ranges.budget in
    let o : Onward (length x.rooms.now.stack.now) (length x.rooms.now.scratch.now) x.g.now 0 c.begin.result =
    begin_onward x.g.now (length x.rooms.now.stack.now) (length x.rooms.now.scratch.now) c.begin.result p.1 p.2 c.begin.ensures in (
      (p.0, o.fine),
      o.simulable,
      let u : c.begin.result.units ≡ 0 = o.units_are in
          omega arith,
    )
