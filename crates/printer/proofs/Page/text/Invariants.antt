-- `Page::text` writes the text. The loop's invariant: with the bytes from the index on behind, the whole text is written.
use Rattle.std.proofs.Common.{drop}
use Rattle.printer.specs.Page.{Left}
use Rattle.printer.proofs.Page.text.Given as goal

abbrev pub invariant-loop-x : goal.invariant-loop-x
invariant-loop-x l = Left l.initial.self l.text l.self (drop l.x-index l.text)
