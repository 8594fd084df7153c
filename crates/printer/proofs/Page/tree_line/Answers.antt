-- `Page::tree_line` writes `tree_line_text`, part by part.
-- Assumes nothing.
use Rattle.rules.specs.Basics.{text, codes_from}
use Rattle.printer.specs.Page.{chained}
use Rattle.printer.specs.TreeText.{tree_line_text}
use Rattle.printer.proofs.Page.tree_line.Goals as goal

pub returns : goal.returns
unfolding tree_line_text text codes_from
returns c = chained (chained c.text.ensures c.tree.ensures) c.byte.ensures
