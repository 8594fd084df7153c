-- `items::is_at` reads the state first; where it is another's the rest need not be read.
-- Assumes nothing.
use Rattle.items.specs.Lookup.{other_state, other_production, by_the_dot}
use Rattle.items.proofs.is_at.Goals as goal

pub returns-then-item_state-state : goal.returns-then-item_state-state
returns-then-item_state-state c = other_state _ _ _ _ _ c.item_state.ensures c.if-item_state-state.true

pub returns-then-item-production : goal.returns-then-item-production
returns-then-item-production c =
    by_the_dot _ _ _ _ _ c.item_state.ensures c.if-item_state-state.false _ c.item-item.ensures c.if-item-production.true

pub returns-else-item-production : goal.returns-else-item-production
returns-else-item-production c =
    other_production _ _ _ _ _ c.item_state.ensures c.if-item_state-state.false _ c.item-item.ensures c.if-item-production.false
