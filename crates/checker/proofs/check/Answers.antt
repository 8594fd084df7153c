-- `checker::check`: behind 10 the tables fit.
-- Assumes nothing.
use Rattle.checker.specs.Chain.{fits}
use Rattle.checker.proofs.check.Goals as goal

pub scan11-requires : goal.scan11-requires
scan11-requires c = fits _ _ _ c.scan10.ensures c.in_ok-none_at.ensures
