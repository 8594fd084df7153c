-- `reader::widen_tokens` leaves what `Widened` says. The loop's invariant: the first `i` tokens stand in the form of a call, and behind
-- them the room is as it was.
-- Assumes nothing.
use mathlib.Core.Path.{◌≡◌, refl, ◌∙◌}
use native.Mathlib.Omega.{arith}
use Rattle.reader.specs.Tokens.{fitting_le, widen_none, widen_step, widened}
use Rattle.reader.proofs.widen_tokens.Goals as goal

pub loop-i-init : goal.loop-i-init
loop-i-init c = record { same_length = refl; widened = widen_none _ _ }

pub loop-i-preserved : goal.loop-i-preserved
loop-i-preserved c =
    let v = c.loop-i.invariant in
    let f = fitting_le _ _ _ c.min-n.ensures in
    record {
      same_length = c.widen_token.auto.out ∙ v.same_length;
      widened = c.widen_token.ensures ∙ widen_step _ _ _ _ (omega arith) v.widened;
    }

pub returns : goal.returns
returns c =
    let e : c.loop-i.i ≡ c.min-n.result = omega arith in
    widened _ _ _ _ (λ k. omega (arith, c.type_inv.payload k)) c.min-n.ensures (rw e at c.loop-i.invariant.widened)
