-- `Page::word` writes the kinds of a word. The loop's invariant: with the kinds of the bits from `i` on behind, all are written.
use Rattle.rules.specs.File.{spaced_all, kinds_in}
use Rattle.printer.specs.Page.{Left}
use Rattle.printer.specs.Lines.{word_left}
use Rattle.printer.proofs.Page.word.Given as goal

abbrev pub invariant-loop-i : goal.invariant-loop-i
invariant-loop-i l = Left l.initial.self (spaced_all (kinds_in 32 l.first l.word)) l.self (word_left l.first l.w l.i)
