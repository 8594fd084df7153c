-- `Tables::in_first`: a terminal begins with itself, a nonterminal by its set.
-- Assumes nothing.
use mathlib.Core.Path.{sym}
use Rattle.tables.specs.Rights.{first_other, first_terminal}
use Rattle.tables.proofs.Tables.in_first.Goals as goal

pub returns-then-symbol-kinds : goal.returns-then-symbol-kinds
returns-then-symbol-kinds c =
    let a = c.args in sym (first_terminal a.self.now a.symbol a.kind (rw (← c.kinds-kinds.ensures.value) c.if-symbol-kinds.true))

pub returns-else-symbol-kinds : goal.returns-else-symbol-kinds
returns-else-symbol-kinds c =
    let a = c.args in
    rw (first_other a.self.now a.symbol a.kind (rw (← c.kinds-kinds.ensures.value) c.if-symbol-kinds.false), ← c.kinds-kinds.ensures.value) c.in_set.ensures
