-- `scans::any_below`: the first number of which the test holds decides.
-- Assumes nothing.
use borrow.Author.Rules.{rules}
use mathlib.Core.Path.{sym}
use Rattle.tables.specs.Places.{any_none, any_turn, any_found}
use Rattle.tables.proofs.scans.any_below.Goals as goal

pub loop-i-init : goal.loop-i-init
loop-i-init g c = (search rules, λ f h. any_none f)

pub returns-then-holds : goal.returns-then-holds
returns-then-holds g c =
    λ f h. sym (any_found f _ _ _ c.loop-i-test.true (h _ _ c.loop-i-test.true c.holds.ensures) c.if-holds.true)

pub loop-i-preserved : goal.loop-i-preserved
loop-i-preserved g c =
    (search rules, λ f h. any_turn f _ _ (h _ _ c.loop-i-test.true c.holds.ensures) c.if-holds.false (c.loop-i.invariant.1 f h))
