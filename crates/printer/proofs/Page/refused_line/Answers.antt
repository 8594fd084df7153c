-- `Page::refused_line` writes `refused_line`, part by part.
-- Assumes nothing.
use Rattle.rules.specs.Basics.{text, codes_from}
use Rattle.rules.specs.File.{refused_line}
use Rattle.printer.specs.Page.{chained}
use Rattle.printer.proofs.Page.refused_line.Goals as goal

pub returns : goal.returns
unfolding refused_line text codes_from
returns c = chained (chained c.labelled.ensures c.spaced.ensures) c.byte.ensures
