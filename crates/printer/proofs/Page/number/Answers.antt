-- `Page::number` writes the digits that std's decimal text has.
-- Assumes nothing.
use Rattle.std.proofs.Common.{◌∙◌, arith}
use Rattle.printer.specs.Digits.{decimal_is}
use Rattle.printer.proofs.Page.number.Goals as goal

pub returns : goal.returns
returns c =
    let e = c.as_bytes.ensures.value ∙ c.format.ensures.text ∙ decimal_is c.args.n (omega arith) in
    rw e at c.text.ensures
