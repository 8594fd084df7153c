-- `coming::comes_well` tests every state.
-- Assumes nothing.
use Rattle.std.proofs.Common.{rules}
use Rattle.coming.specs.Coming.{comes_from, comes_in}
use Rattle.coming.proofs.comes_well.Goals as goal

pub returns : goal.returns
unfolding comes_in
returns c =
    let a = c.args in
    rw (← c.states.ensures.value)
    (c.all_below.ensures (comes_from a.t.now a.state a.production a.dot a.before) (λ i b h e. search rules))
