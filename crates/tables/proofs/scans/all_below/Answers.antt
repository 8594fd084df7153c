-- `scans::all_below`: the first number of which the test does not hold decides.
-- Assumes nothing.
use borrow.Author.Rules.{rules}
use mathlib.Core.Path.{sym}
use Rattle.std.proofs.lemmas.Bool.{not_from_false, not_from_true}
use Rattle.tables.specs.Places.{below_none, below_turn, below_fails}
use Rattle.tables.proofs.scans.all_below.Goals as goal

pub loop-i-init : goal.loop-i-init
loop-i-init g c = (search rules, λ f h. below_none f)

pub returns-then-not-holds : goal.returns-then-not-holds
returns-then-not-holds g c =
    λ f h. sym (below_fails f _ _ _ c.loop-i-test.true (h _ _ c.loop-i-test.true c.holds.ensures) (not_from_false _ c.if-not-holds.true))

pub loop-i-preserved : goal.loop-i-preserved
loop-i-preserved g c =
    (search rules, λ f h. below_turn f _ _ (h _ _ c.loop-i-test.true c.holds.ensures) (not_from_true _ c.if-not-holds.false) (c.loop-i.invariant.1 f h))
