-- `scans::first_bad_production`: as `scans::first_bad`, with the start that the scan carries.
-- Assumes nothing.
use borrow.Author.Rules.{rules}
use mathlib.Core.Path.{sym, ◌∙◌}
use native.Mathlib.Omega.{arith}
use Rattle.std.proofs.lemmas.Bool.{not_from_false, not_from_true}
use Rattle.tables.specs.Places.{bad_start, bad_turn, bad_here, bad_none}
use Rattle.tables.specs.Rights.{start_none, start_more}
use Rattle.tables.proofs.scans.first_bad_production.Goals as goal

pub loop-p-init : goal.loop-p-init
loop-p-init g c = (search rules, search rules, start_none _, λ ok h. bad_start ok _)

pub returns-then-not-fits : goal.returns-then-not-fits
returns-then-not-fits g c =
    λ ok h.
    sym (bad_here ok _ _ _ (search rules) (h _ _ (search rules) (rw c.loop-p.invariant.2 at c.fits.ensures)) (not_from_false _ c.if-not-fits.true))
    ∙ c.loop-p.invariant.3 ok h

pub loop-p-preserved : goal.loop-p-preserved
loop-p-preserved g c =
    (omega arith, omega arith, start_more _ _ _ _ c.loop-p.invariant.2 c.size-start.ensures.value, λ ok h. bad_turn ok _ _ _ _ (search rules) (h _ _ (search rules) (rw c.loop-p.invariant.2 at c.fits.ensures)) (not_from_true _ c.if-not-fits.false) (c.loop-p.invariant.3 ok h))

pub returns : goal.returns
returns g c = λ ok h. sym (bad_none ok _ _ (omega arith)) ∙ c.loop-p.invariant.3 ok h
