-- `Tables::new` reads each number where the rules read it.
-- Assumes nothing.
use Rattle.rules.specs.Tables.{states, kinds, nonterminals, production_count, item_count}
use Rattle.tables.proofs.Tables.new.Goals as goal

pub invariant_of-result : goal.invariant_of-result
unfolding states kinds nonterminals production_count item_count
invariant_of-result c =
    record {
      states_read = c.word.ensures;
      kinds_read = c.word-2.ensures;
      nonterminals_read = c.word-3.ensures;
      production_count_read = c.word-4.ensures;
      item_count_read = c.word-5.ensures;
    }
