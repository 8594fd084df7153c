-- `Rest::opens_each`: each kind that can begin what stands behind.
-- Assumes nothing.
use Rattle.std.proofs.Common.{rules, ◌||◌}
use Rattle.std.specs.Prelude.{not}
use Rattle.rules.specs.Check.{can_begin, has_item_for}
use Rattle.items.specs.Lookup.{has_item_with}
use Rattle.following.proofs.Rest.opens_each.Goals as goal

pub returns : goal.returns
unfolding has_item_with
returns c =
    let r = c.args.self.now in
    let T = c.self.inside.t.now in
    rw (← c.self.view_is, ← c.kinds.ensures.value)
    (rw (← c.self.view_is) at (c.all_below.ensures (λ b. not (can_begin r.tables r.symbols r.lookahead b) || has_item_for T c.args.state c.args.q 0 b) (λ i b h e. search rules)))
