-- `Page::mark_lines` writes the records' lines. The loop's invariant: with those from the i-th on behind, all are written.
use Rattle.printer.specs.Page.{Left}
use Rattle.printer.specs.Lines.{marks_text, marks_left}
use Rattle.printer.proofs.Page.mark_lines.Given as goal

abbrev pub invariant-loop-i : goal.invariant-loop-i
invariant-loop-i l = Left l.initial.self (marks_text l.count 0 l.records 0) l.self (marks_left l.count l.records l.i)
