-- `Tables::nullable`: a terminal is not nullable, a nonterminal is by its flag.
-- Assumes nothing.
use mathlib.Core.Path.{sym}
use Rattle.tables.specs.Rights.{nullable_other, nullable_terminal}
use Rattle.tables.proofs.Tables.nullable.Goals as goal

pub returns-then-symbol-kinds : goal.returns-then-symbol-kinds
returns-then-symbol-kinds c =
    let a = c.args in sym (nullable_terminal a.self.now a.symbol (rw (← c.kinds-kinds.ensures.value) c.if-symbol-kinds.true))

pub returns-else-symbol-kinds : goal.returns-else-symbol-kinds
returns-else-symbol-kinds c =
    let a = c.args in
    rw (nullable_other a.self.now a.symbol (rw (← c.kinds-kinds.ensures.value) c.if-symbol-kinds.false), ← c.kinds-kinds.ensures.value, ← c.nullable_byte.ensures)
