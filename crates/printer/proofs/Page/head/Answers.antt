-- `Page::head` writes `head_text`, part by part.
-- Assumes nothing.
use Rattle.rules.specs.Basics.{text, codes_from}
use Rattle.printer.specs.Page.{chained}
use Rattle.printer.specs.TreeText.{head_text}
use Rattle.printer.proofs.Page.head.Goals as goal

pub returns : goal.returns
unfolding head_text text codes_from
returns c = rw (← c.word-left.ensures) (chained (chained c.byte.ensures c.number.ensures) c.text.ensures)
