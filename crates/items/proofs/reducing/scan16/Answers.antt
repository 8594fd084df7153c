-- `reducing::scan16` is the rules' test 16.
-- Assumes nothing.
use Rattle.std.proofs.Common.{rules}
use Rattle.rules.specs.Check.{ok16}
use Rattle.items.proofs.reducing.scan16.Goals as goal

pub returns : goal.returns
unfolding ok16
returns c =
    rw (← c.states.ensures.value, ← c.kinds.ensures.value)
    (c.first_bad.ensures (ok16 c.args.t.now) (λ i b h e. search rules))
