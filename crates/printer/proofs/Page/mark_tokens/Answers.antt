-- `Page::mark_tokens` writes `mark_tokens`, part by part.
-- Assumes nothing.
use Rattle.rules.specs.Basics.{text, codes_from}
use Rattle.printer.specs.Page.{chained}
use Rattle.printer.specs.Lines.{mark_tokens}
use Rattle.printer.proofs.Page.mark_tokens.Goals as goal

pub returns : goal.returns
unfolding mark_tokens text codes_from
returns c = chained (chained (chained c.labelled.ensures c.labelled-2.ensures) c.spaced.ensures) c.labelled-3.ensures
