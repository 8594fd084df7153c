-- `Page::answer_line` writes `answer_text`, part by part.
-- Assumes nothing.
use Rattle.rules.specs.Basics.{text, codes_from}
use Rattle.printer.specs.Page.{chained}
use Rattle.printer.specs.Lines.{answer_text}
use Rattle.printer.proofs.Page.answer_line.Goals as goal

pub returns : goal.returns
unfolding answer_text text codes_from
returns c = chained (chained (chained c.labelled.ensures c.place.ensures) c.kinds.ensures) c.byte.ensures
