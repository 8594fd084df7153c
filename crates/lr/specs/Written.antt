-- What any run, however it ends, leaves written: each record says where its error arose and holds a stretch, and each node's token
-- words are those of the tree that it holds. A node is read back from its words, so all that is said of nodes is said of words.
use Rattle.std.specs.Prelude.{◌≡◌, refl, List, [], ◌∷◌, map, ℕ, zero, suc, ◌<◌, length, get_or}
use Rattle.rules.specs.declared.What.{What}
use Rattle.rules.specs.declared.What.TheVariants.{Read, Mark, Production}
use Rattle.rules.specs.declared.Answer.{Answer}
use Rattle.rules.specs.Answers.{kind_of, which_of, node_words}
use Rattle.rules.specs.Driving.{Job, Run, Outcome, Node, drive}
use Rattle.rules.specs.Trees.{tree_at}
use Rattle.lr.specs.Each.{Each}
use Rattle.lr.specs.Built.{node_at, built_tree}
use Rattle.lr.specs.Runs.{at_end_law}
use Rattle.lr.specs.Ranges.{Ranges, Recorded, ranges_walk}
use Rattle.lr.specs.Tiles.{TilesT}
use Rattle.lr.specs.Tiled.{NodeSays, Tiled, tiled_walk}

pub record Written (J : Job) (r : Run) : Type 0 where
  pub records : Each (Recorded J) r.marks
  pub says : Each (NodeSays r.marks) r.nodes
  pub trees : (i : ℕ) → i < length r.nodes → TilesT (tree_at r.nodes r.children i) r.marks (node_at r.nodes i).first (node_at r.nodes i).after

node_tree : (r : Run) → Tiled r → (i : ℕ) → i < length r.nodes
    → TilesT (tree_at r.nodes r.children i) r.marks (node_at r.nodes i).first (node_at r.nodes i).after
node_tree r h i l = let n = h.ranged i l in rw (built_tree n.built) n.tiles

pub written : (J : Job) (budget : ℕ) (a : Answer) (r : Run) → drive J budget ≡ Outcome.done a r → Written J r
written J budget a r e =
    let records = at_end_law J (λ x. Ranges J x x.mode) (λ x. Each (Recorded J) x.marks) (λ x h. h.recorded) (ranges_walk J) budget a r e in
    let tiled = at_end_law J Tiled Tiled (λ x h. h) (tiled_walk J) budget a r e in
    record { records = records; says = tiled.says; trees = node_tree r tiled }

-- ---- a node's eight words

abbrev pub what_from : ℕ → ℕ → What
what_from zero i = Read i
what_from (suc zero) i = Mark i
what_from (suc (suc n)) i = Production i

-- the node that eight words are
unfoldable pub node_from : List ℕ → Node
node_from ws =
    record {
      what = what_from (get_or ws 0 0) (get_or ws 1 0);
      child = get_or ws 2 0;
      count = get_or ws 3 0;
      start = get_or ws 4 0;
      end = get_or ws 5 0;
      first = get_or ws 6 0;
      after = get_or ws 7 0;
    }

what_back : (w : What) → what_from (kind_of w) (which_of w) ≡ w
what_back (Read i) = refl
what_back (Mark i) = refl
what_back (Production p) = refl

pub node_back : (n : Node) → node_from (node_words n) ≡ n
unfolding node_from node_words
node_back n =
    λ i. record { what = what_back n.what i; child = n.child; count = n.count; start = n.start; end = n.end; first = n.first; after = n.after }

pub nodes_back : (ns : List Node) → map node_from (map node_words ns) ≡ ns
nodes_back [] = refl
nodes_back (n ∷ ns) = λ i. node_back n i ∷ nodes_back ns i
