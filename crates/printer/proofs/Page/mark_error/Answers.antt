-- `Page::mark_error` writes `mark_error`, part by part.
-- Assumes nothing.
use Rattle.rules.specs.Basics.{text, codes_from}
use Rattle.printer.specs.Page.{chained}
use Rattle.printer.specs.Lines.{mark_error}
use Rattle.printer.proofs.Page.mark_error.Goals as goal

pub returns : goal.returns
unfolding mark_error text codes_from
returns c = chained (chained (chained c.labelled.ensures c.spaced.ensures) c.labelled-2.ensures) c.labelled-3.ensures
