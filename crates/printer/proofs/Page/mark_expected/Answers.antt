-- `Page::mark_expected` writes `mark_expected`, part by part.
-- Assumes nothing.
use Rattle.rules.specs.Basics.{text, codes_from}
use Rattle.printer.specs.Page.{chained}
use Rattle.printer.specs.Lines.{mark_expected}
use Rattle.printer.proofs.Page.mark_expected.Goals as goal

pub returns : goal.returns
unfolding mark_expected text codes_from
returns c = chained (chained c.text.ensures c.kinds.ensures) c.byte.ensures
