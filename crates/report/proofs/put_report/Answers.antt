-- `report::put_report` writes the 16 words of a report, eight and eight.
-- Assumes nothing.
use Rattle.std.proofs.Common.{rules}
use Rattle.report.specs.Report.{report_bytes}
use Rattle.report.proofs.put_report.Goals as goal

pub returns : goal.returns
returns c = λ T m. rw (
  c.put_words-2.ensures,
  c.put_words.ensures,
  c.place_of.ensures,
  c.root_of.ensures,
  c.number_of.ensures,
  c.ones_of.ensures,
)
    (report_bytes T _ _ _ _ _ _ _ (search rules) (c.expected_of-words.ensures T m))
