-- `Tables::symbol` is the symbol at the dot's place, as `symbol_at` reads it.
-- Assumes nothing.
use Rattle.rules.specs.Tables.{symbol}
use Rattle.tables.specs.Rights.{symbol_in}
use Rattle.tables.proofs.Tables.symbol.Goals as goal

pub returns-clause-value : goal.returns-clause-value
unfolding symbol symbol_in
returns-clause-value c = rw (← c.right_start.ensures.value) c.symbol_at.ensures.value
