-- `Page::comma` writes nothing before the first child, and `, ` before another.
-- Assumes nothing.
use Rattle.std.proofs.Common.{arith}
use Rattle.rules.specs.Basics.{text, codes_from}
use Rattle.printer.specs.Page.{nothing}
use Rattle.printer.specs.TreeText.{comma_none, comma_some}
use Rattle.printer.proofs.Page.comma.Goals as goal

pub returns-then-j-ne0 : goal.returns-then-j-ne0
unfolding text codes_from
returns-then-j-ne0 c = rw (comma_some _ c.if-j-ne0.true) c.text.ensures

pub returns-else-j-ne0 : goal.returns-else-j-ne0
returns-else-j-ne0 c = rw (comma_none c.args.j (omega arith)) (nothing _)
