-- `entries::cell_fits` judges an action cell, and behind those a goto, by the place.
-- Assumes nothing.
use Rattle.std.proofs.Common.{lt-ltb, le-ltb}
use Rattle.rules.specs.Check.{ok11}
use Rattle.shapes.proofs.entries.cell_fits.Goals as goal

pub returns-then-i-actions : goal.returns-then-i-actions
unfolding ok11
returns-then-i-actions c =
    rw (← c.kinds-columns.ensures.value, ← c.states.ensures.value, lt-ltb _ _ c.if-i-actions.true, ← c.action_cell.ensures) c.action_fits.ensures

pub returns-else-i-actions : goal.returns-else-i-actions
unfolding ok11
returns-else-i-actions c =
    rw (← c.kinds-columns.ensures.value, ← c.states.ensures.value, le-ltb _ _ c.if-i-actions.false, ← c.goto_cell.ensures) c.goto_fits.ensures
