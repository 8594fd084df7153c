-- `coming::dot_fits` goes by the dot, the production and the state.
-- Assumes nothing.
use borrow.Author.Tests.{eq-eqb, ne_eqb}
use Rattle.coming.specs.Coming.{at_front, past_front, comes_in_law}
use Rattle.coming.proofs.dot_fits.Goals as goal

pub returns-then-production-ne0 : goal.returns-then-production-ne0
returns-then-production-ne0 c =
    rw (at_front _ _ _ _ c.in-None.ensures) (simp (ne_eqb _ _ c.if-production-ne0.true))

pub returns-else-production-ne0 : goal.returns-else-production-ne0
returns-else-production-ne0 c =
    rw (at_front _ _ _ _ c.in-None.ensures) (simp (eq-eqb _ _ c.if-production-ne0.false))

pub returns-then-state-ne0 : goal.returns-then-state-ne0
returns-then-state-ne0 c =
    let a = c.args in
    rw (past_front _ _ _ _ _ c.in-Some.ensures.0 c.in-Some.ensures.1)
    (simp (ne_eqb _ _ c.if-state-ne0.true) (rw (← comes_in_law a.t.now a.state a.production c.in-Some.d, ← c.symbol.ensures.value) c.comes_well.ensures))

pub returns-else-state-ne0 : goal.returns-else-state-ne0
returns-else-state-ne0 c =
    rw (past_front _ _ _ _ _ c.in-Some.ensures.0 c.in-Some.ensures.1) (simp (eq-eqb _ _ c.if-state-ne0.false))
