-- `Rest::opens`: each production of the nonterminal.
-- Assumes nothing.
use Rattle.std.proofs.Common.{rules, ◌||◌}
use Rattle.std.specs.Prelude.{not}
use Rattle.std.proofs.Math.Dec.{eqb}
use Rattle.rules.specs.Tables.{left}
use Rattle.rules.specs.Check.{opens}
use Rattle.following.specs.Following.{opens_each}
use Rattle.following.proofs.Rest.opens.Goals as goal

pub returns : goal.returns
unfolding opens
returns c =
    let a = c.args in
    let T = c.self.inside.t.now in
    rw (← c.self.view_is, ← c.production_count.ensures.value)
    (rw (← c.self.view_is) at (c.all_below.ensures (λ q. not (eqb (left T q) a.nonterminal) || opens_each a.self.now a.state q) (λ i b h e. search rules)))
