-- `items::ascends`: the first item follows none, and another the one before it.
-- Assumes nothing.
use Rattle.std.specs.Prelude.{◌≢◌, refl, ℕ, zero, suc, ◌-◌}
use Rattle.std.proofs.Math.Path.{◌≡◌}
use native.Mathlib.Omega.{arith}
use Rattle.rules.specs.Tables.{Tables, item_at}
use Rattle.rules.specs.Check.{before, ascends}
use Rattle.shapes.proofs.items.ascends.Goals as goal

of_another : (T : Tables) (i : ℕ) → i ≢ 0 → ascends T i ≡ before (item_at T (i - 1)) (item_at T i)
unfolding ascends
of_another T zero h = absurd (h refl)
of_another T (suc i) h = let q : suc i - 1 ≡ i = omega arith in rw q

pub returns-then-i-eq0 : goal.returns-then-i-eq0
unfolding ascends
returns-then-i-eq0 c = rw c.if-i-eq0.true

pub returns : goal.returns
returns c =
    rw (of_another c.args.t.now c.args.i c.if-i-eq0.false, ← c.item-2.ensures, ← c.item.ensures) c.before-2.ensures
