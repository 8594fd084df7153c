-- `reader::cut` is `is_cut` where the head is there: too short for the payload that the head tells. The sum that could wrap is a
-- difference. Assumes nothing.
use Rattle.std.proofs.Common.{sym, arith}
use Rattle.reader.specs.Reading.{cut_payload}
use Rattle.reader.proofs.cut.Goals as goal

pub returns-else-s-at-lt6 : goal.returns-else-s-at-lt6
returns-else-s-at-lt6 c = rw c.get.ensures (sym (cut_payload _ _ (omega arith)))
