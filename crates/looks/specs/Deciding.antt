-- An act of the code is an act of the byte model; and what a decision promises, so that the act is safe.
use Rattle.std.specs.Prelude.{◌+◌, ◌<◌, ◌^◌}
use Rattle.model.specs.declared.Mode.TheVariants.{Simulate}
use Rattle.model.specs.declared.St.{St}
use Rattle.model.specs.Model.{Call, World, has_token, stop, with_st, searching, shift, reduce, fail, formed_at, further, simulate_on, recover}
use Rattle.moves.specs.declared.Given.{Given}
use Rattle.moves.specs.Bounds.{Within}
use Rattle.looks.specs.declared.Act.{Act}
use Rattle.looks.specs.declared.Act.TheVariants.{ShiftTo, ReduceBy, EndWith, FailNow, SearchTop, LookFurther, SimulateFrom, Recover, Stay}

unfoldable pub on_act : Call → World → Act → World
on_act C w (ShiftTo to) = shift C w to
on_act C w (ReduceBy p) = reduce C w p.0
on_act C w (EndWith a) = stop w a
on_act C w FailNow = fail C w (formed_at w (has_token C w.st))
on_act C w SearchTop = with_st w (searching w.st 0)
on_act C w LookFurther = further C w
on_act C w (SimulateFrom base pushed s) = simulate_on C w base pushed s
on_act C w Recover = recover C w
on_act C w Stay = w

abbrev pub Sure : Given → St → Act → Type 0
Sure g s (ShiftTo to) = s.next < g.count
Sure g s (ReduceBy p) = Unit
Sure g s (EndWith a) = Unit
Sure g s FailNow = Unit
Sure g s SearchTop = Unit
Sure g s LookFurther = Unit
Sure g s (SimulateFrom base pushed to) = base + pushed < 2 ^ 63
Sure g s Recover = Within Simulate g.depth s.popped s.height
Sure g s Stay = Unit
