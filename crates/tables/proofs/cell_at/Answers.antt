-- `tables::cell_at` is the decoding of the 16 bits at its place: what `word16` reads, and what `decode` says of it.
-- Assumes nothing.
use Rattle.rules.specs.Tables.{cell_at}
use Rattle.tables.proofs.cell_at.Goals as goal

pub returns : goal.returns
unfolding cell_at
returns c = rw (← c.word.ensures) c.decode.ensures
