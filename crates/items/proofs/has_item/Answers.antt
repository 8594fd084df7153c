-- `items::has_item` is the scan of the rules, for any lookahead or for a given one.
-- Assumes nothing.
use Rattle.std.proofs.Common.{rules, ◌&&◌}
use Rattle.std.proofs.Math.Dec.{eqb}
use Rattle.rules.specs.Tables.{item_at}
use Rattle.rules.specs.Check.{is_at, has_item, has_item_for}
use Rattle.items.specs.Lookup.{has_item_with}
use Rattle.items.proofs.has_item.Goals as goal

pub returns-in-None : goal.returns-in-None
unfolding has_item_with has_item
returns-in-None c =
    let a = c.args in
    rw (c.in-None.is, ← c.item_count.ensures.value)
    (c.any_below.ensures (λ i. is_at a.state a.production a.dot (item_at a.t.now i)) (λ i b h e. search rules))

pub returns-in-Some : goal.returns-in-Some
unfolding has_item_with has_item_for
returns-in-Some c =
    let a = c.args in
    rw (c.in-Some.is, ← c.item_count-in-Some.ensures.value)
    (c.any_below-in-Some.ensures (λ i. is_at a.state a.production a.dot (item_at a.t.now i) && eqb (item_at a.t.now i).lookahead c.in-Some.a) (λ i b h e. search rules))
