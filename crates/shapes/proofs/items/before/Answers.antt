-- `items::before`: the derived order of items is the rules', number by number.
-- Assumes nothing.
use Rattle.std.specs.Prelude.{Bool, true, false, ◌&&◌, ◌||◌, ◌≡◌, refl, cond, ltb, eqb, Some, Option}
use Rattle.std.specs.Ordering.{partial_ordering_then, is_some_and, is_lt}
use Rattle.std.specs.declared.cmp.Ordering.{Ordering}
use Rattle.std.specs.declared.cmp.Ordering.TheVariants.{Less, Equal, Greater}
use Rattle.std.proofs.Common.{◌∙◌}
use Rattle.rules.specs.Check.{before}
use Rattle.shapes.proofs.items.before.Goals as goal

-- by the values of the two tests of a number
step : (less same : Bool) (o : Option Ordering) → is_some_and is_lt (partial_ordering_then (Some (cond less Less (cond same Equal Greater))) o) ≡ (less || (same && is_some_and is_lt o))
step true same o = refl
step false true o = refl
step false false o = refl

last : (less same : Bool) → is_some_and is_lt (Some (cond less Less (cond same Equal Greater))) ≡ less
last true same = refl
last false true = refl
last false false = refl

pub returns : goal.returns
unfolding before
returns c =
    let x = c.args.x in
    let y = c.args.y in
    c.lt.ensures
    ∙ rw (
      step (ltb x.state y.state) (eqb x.state y.state) _,
      step (ltb x.production y.production) (eqb x.production y.production) _,
      step (ltb x.dot y.dot) (eqb x.dot y.dot) _,
      last (ltb x.lookahead y.lookahead) (eqb x.lookahead y.lookahead),
    )
