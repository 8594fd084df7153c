-- `scans::first_bad`: the first place at which the test is false ends the loop; where there is none, nothing is left.
-- Assumes nothing.
use borrow.Author.Rules.{rules}
use mathlib.Core.Path.{sym, ◌∙◌}
use Rattle.std.proofs.lemmas.Bool.{not_from_false, not_from_true}
use Rattle.tables.specs.Places.{bad_turn, bad_here, bad_none}
use Rattle.tables.proofs.scans.first_bad.Goals as goal

pub returns-then-not-fits : goal.returns-then-not-fits
returns-then-not-fits g c =
    λ ok h.
    sym (bad_here ok _ _ _ c.loop-i-test.true (h _ _ c.loop-i-test.true c.fits.ensures) (not_from_false _ c.if-not-fits.true))
    ∙ c.loop-i.invariant.1 ok h

pub loop-i-preserved : goal.loop-i-preserved
loop-i-preserved g c =
    (search rules, λ ok h. bad_turn ok _ _ _ _ c.loop-i-test.true (h _ _ c.loop-i-test.true c.fits.ensures) (not_from_true _ c.if-not-fits.false) (c.loop-i.invariant.1 ok h))

pub returns : goal.returns
returns g c = λ ok h. sym (bad_none ok _ _ (search rules)) ∙ c.loop-i.invariant.1 ok h
