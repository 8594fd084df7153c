-- `Page::answer_lines` writes `answer_lines_text`, line by line.
-- Assumes nothing.
use Rattle.printer.specs.Page.{chained}
use Rattle.printer.specs.TreeText.{answer_lines_text}
use Rattle.printer.proofs.Page.answer_lines.Goals as goal

pub returns : goal.returns
unfolding answer_lines_text
returns c = chained (chained (chained c.answer_line.ensures c.units_line.ensures) c.tree_lines.ensures) c.mark_lines.ensures
