-- A call's lent tables as the rules' `Tables`, and what holds of the numbers beside the slices.
use Rattle.std.specs.Prelude.{◌≡◌, length}
use Rattle.rules.specs.Tables.{Tables, states, kinds, nonterminals, production_count, item_count, Item}
use Rattle.tables.specs.Places.{call_tables}
use Rattle.tables.specs.declared.Item as lent
use Rattle.tables.specs.declared.Lengths.{Lengths}
use Rattle.tables.specs.declared.Tables.TheInside.{Inside}

abbrev pub tables_of : Inside → Tables
tables_of a =
    call_tables a.sizes.now a.actions.now a.gotos.now a.productions.now a.rights.now a.items.now a.sets.now

-- each number is the rules'
pub record NumbersRead (a : Inside) : Type 0 where
  pub states_read : a.states ≡ states (tables_of a)
  pub kinds_read : a.kinds ≡ kinds (tables_of a)
  pub nonterminals_read : a.nonterminals ≡ nonterminals (tables_of a)
  pub production_count_read : a.production_count ≡ production_count (tables_of a)
  pub item_count_read : a.item_count ≡ item_count (tables_of a)

-- an item as the rules have it
abbrev pub item_of : lent.Item → Item
item_of x = record { state = x.state; production = x.production; dot = x.dot; lookahead = x.lookahead }

-- the slices' lengths
abbrev pub lengths_of : Tables → Lengths
lengths_of T =
    record {
      sizes = length T.sizes;
      actions = length T.actions;
      gotos = length T.gotos;
      productions = length T.productions;
      rights = length T.rights;
      items = length T.items;
      sets = length T.sets;
    }
