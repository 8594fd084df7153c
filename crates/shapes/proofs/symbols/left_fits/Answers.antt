-- `symbols::left_fits`: production 0, and another.
-- Assumes nothing.
use Rattle.std.specs.Prelude.{◌&&◌, not, ◌≢◌, refl, ℕ, zero, suc, ltb, eqb}
use Rattle.std.proofs.Math.Path.{◌≡◌}
use Rattle.rules.specs.Tables.{Tables, left, nonterminals}
use Rattle.shapes.specs.Productions.{left_allowed}
use Rattle.shapes.proofs.symbols.left_fits.Goals as goal

of_another : (T : Tables) (p first : ℕ) → p ≢ 0 → left_allowed T p first ≡ (not (eqb (left T p) 0) && ltb (left T p) (nonterminals T))
unfolding left_allowed
of_another T zero first h = absurd (h refl)
of_another T (suc p) first h = refl

pub returns-then-p-eq0 : goal.returns-then-p-eq0
unfolding left_allowed
returns-then-p-eq0 c = rw (c.left-side.ensures.value, c.size.ensures.value, c.kinds.ensures.value, c.if-p-eq0.true)

pub returns-else-p-eq0 : goal.returns-else-p-eq0
returns-else-p-eq0 c =
    rw (c.left-side.ensures.value, c.nonterminals.ensures.value, of_another c.args.t.now c.args.p c.args.first c.if-p-eq0.false)
