-- "The plain driver of demand 3 is these rules with flag 0, no limits, no refusal 18, and kind t read as column t; it accepts if it
-- reaches answer 1."
use Rattle.std.specs.Prelude.{true, false, List, ◌≡◌, ℕ, leb}
use Rattle.rules.specs.declared.Token.{Token}
use Rattle.rules.specs.declared.Answer.TheVariants.{Accepted}
use Rattle.rules.specs.Tables.{Tables, kinds}
use Rattle.rules.specs.Driving.{Job, Run, Outcome, drive}
use Rattle.rules.specs.Trees.{Tree, Leaf, tree_at}

unfoldable pub plain_job : Tables → List Token → ℕ → Job
plain_job T tokens origin =
    record {
      tables = T;
      tokens = tokens;
      origin = origin;
      recovers = false;
      reads = λ k. leb k (kinds T);
      depth_fits = λ n. true;
      children_fit = λ n. true;
      nodes_fit = λ n. true;
      records_fit = λ n. true;
    }

-- some number of looks ends in answer 1, with this tree at the root
pub record PlainAccepts (T : Tables) (tokens : List Token) (origin : ℕ) (tree : Tree Leaf) : Type 0 where
  pub looks : ℕ
  pub root : ℕ
  pub run : Run
  pub accepted : drive (plain_job T tokens origin) looks ≡ Outcome.done (Accepted root) run
  pub built : tree_at run.nodes run.children root ≡ tree
