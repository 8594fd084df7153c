-- `Page::mark_line` writes `mark_text`: the three parts of the line, from the record's words.
-- Assumes nothing.
use Rattle.printer.specs.Page.{chained}
use Rattle.printer.specs.Lines.{mark_text}
use Rattle.printer.proofs.Page.mark_line.Goals as goal

pub returns : goal.returns
unfolding mark_text
returns c = rw (← c.word-number.ensures, ← c.word-place.ensures, ← c.word-first.ensures, ← c.word-after.ensures, ← c.word-dropped.ensures, ← c.word-start.ensures, ← c.word-end.ensures) (chained (chained c.mark_tokens.ensures c.mark_error.ensures) c.mark_expected.ensures)
