-- `Tables::transition` is the shift on a terminal, the goto on another symbol.
-- Assumes nothing.
use mathlib.Core.Path.{sym, ◌∙◌}
use Rattle.tables.specs.Readers.{move_terminal, move_nonterminal}
use Rattle.tables.proofs.Tables.transition.Goals as goal

pub returns-then-symbol-kinds : goal.returns-then-symbol-kinds
returns-then-symbol-kinds c =
    let a = c.args in c.action.ensures ∙ sym (move_terminal a.self.now a.state a.symbol (rw (← c.kinds-kinds.ensures.value) c.if-symbol-kinds.true))

pub returns-else-symbol-kinds : goal.returns-else-symbol-kinds
returns-else-symbol-kinds c =
    let a = c.args in
    rw (move_nonterminal a.self.now a.state a.symbol (rw (← c.kinds-kinds.ensures.value) c.if-symbol-kinds.false), ← c.kinds-kinds.ensures.value) c.goto.ensures
