-- `reader::seen_at` reads the head of a record that is not cut, so that it is there.
-- Assumes nothing.
use mathlib.Core.Path.{sym, ◌∙◌}
use native.Mathlib.Omega.{arith}
use Rattle.reader.specs.Records.{whole}
use Rattle.reader.proofs.seen_at.Goals as goal

pub get-requires : goal.get-requires
get-requires c = omega (arith, whole _ _ (sym c.cut.ensures ∙ c.if-cut.false))

pub get-requires-2 : goal.get-requires-2
get-requires-2 c = omega (arith, whole _ _ (sym c.cut.ensures ∙ c.if-cut.false))
