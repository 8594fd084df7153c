use Rattle.rules.specs.Check.{enters_well}
use Rattle.shapes.proofs.entries.enters_well.Goals as goal

pub returns : goal.returns
unfolding enters_well
returns c = rw (← c.states.ensures.value)
