-- `Page::kinds` writes the kinds of eight words. The loop's invariant: with those of the words from the i-th on behind, all are written.
use Rattle.printer.specs.Page.{Left}
use Rattle.printer.specs.Lines.{kinds_text, words_left}
use Rattle.printer.proofs.Page.kinds.Given as goal

abbrev pub invariant-loop-i : goal.invariant-loop-i
invariant-loop-i l = Left l.initial.self (kinds_text l.words l.from) l.self (words_left l.words l.from l.i)
