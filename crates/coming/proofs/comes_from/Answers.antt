-- `coming::comes_from` tests every symbol.
-- Assumes nothing.
use Rattle.std.proofs.Common.{rules, ◌&&◌, ◌||◌, not}
use Rattle.std.proofs.Math.Dec.{eqb}
use Rattle.rules.specs.Tables.{move, goes_to}
use Rattle.rules.specs.Check.{has_item}
use Rattle.items.specs.Lookup.{has_item_with}
use Rattle.coming.specs.Coming.{comes_from}
use Rattle.coming.proofs.comes_from.Goals as goal

pub returns : goal.returns
unfolding comes_from has_item_with
returns c =
    let a = c.args in
    rw (← c.kinds.ensures.value, ← c.nonterminals.ensures.value)
    (c.all_below.ensures (λ X. not (goes_to (move a.t.now a.from X) a.state) || (eqb X a.before && has_item a.t.now a.from a.production a.dot)) (λ i b h e. search rules))
