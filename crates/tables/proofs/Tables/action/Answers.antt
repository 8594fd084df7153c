-- `Tables::action` reads the cell at the sizes that the struct holds, which are the rules'.
-- Assumes nothing.
use Rattle.tables.specs.Readers.{action_read}
use Rattle.tables.proofs.Tables.action.Goals as goal

pub returns : goal.returns
returns c = rw (← c.self.view_is) (action_read _ _ _ _ _ _ c.self.invariant.states_read c.self.invariant.kinds_read c.cell_in.ensures)
