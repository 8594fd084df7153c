-- Trees, the tree that nodes and child entries hold, and derivations: "Derivations are the ordinary context-free ones".
use Rattle.std.specs.Prelude.{List, [], ◌∷◌, ◌≡◌, ℕ, zero, suc, ◌<◌, ◌≤◌, get_or, take, drop}
use Rattle.rules.specs.declared.What.{What}
use Rattle.rules.specs.declared.What.TheVariants.{Read, Mark, Production}
use Rattle.rules.specs.Tables.{Tables, kinds, symbol_of, left, rhs, production_count}
use Rattle.rules.specs.Driving.{Node}

mutual
  -- a leaf, or a production over its children
  pub data Tree (A : Type 0) : Type 0 where
    leaf : A → Tree A
    branch : ℕ → Forest A → Tree A

  pub data Forest (A : Type 0) : Type 0 where
    nil : Forest A
    cons : Tree A → Forest A → Forest A

-- a leaf of a run's tree: a token by its index, or a mark by its record's number
pub data Leaf : Type 0 where
  token : ℕ → Leaf
  mark : ℕ → Leaf

abbrev pub leaf_or : What → Forest Leaf → Tree Leaf
leaf_or (Read i) f = leaf (token i)
leaf_or (Mark i) f = leaf (mark i)
leaf_or (Production p) f = branch p f

abbrev pub forest_by : (ℕ → Tree Leaf) → List ℕ → Forest Leaf
forest_by f [] = nil
forest_by f (i ∷ is) = cons (f i) (forest_by f is)

abbrev pub no_node : Node
no_node = record { what = Read 0; child = 0; count = 0; start = 0; end = 0; first = 0; after = 0 }

-- The tree at node i. A child's number is smaller than its parent's, so a fuel above i is enough.
unfoldable pub tree_from : ℕ → List Node → List ℕ → ℕ → Tree Leaf
tree_from zero nodes children i = leaf (token i)
tree_from (suc n) nodes children i =
    leaf_or (get_or nodes i no_node).what
    (forest_by (λ c. tree_from n nodes children c) (take (get_or nodes i no_node).count (drop (get_or nodes i no_node).child children)))

unfoldable pub tree_at : List Node → List ℕ → ℕ → Tree Leaf
tree_at nodes children i = tree_from (suc i) nodes children i

-- the leaves from left to right, and then the rest
abbrev mutual
  pub leaves_t : {A : Type 0} → Tree A → List A → List A
  leaves_t (leaf x) rest = x ∷ rest
  leaves_t (branch p f) rest = leaves_f f rest

  pub leaves_f : {A : Type 0} → Forest A → List A → List A
  leaves_f nil rest = rest
  leaves_f (cons t f) rest = leaves_t t (leaves_f f rest)

abbrev pub leaves : {A : Type 0} → Tree A → List A
leaves t = leaves_t t []

-- A tree derives a symbol: a leaf derives its terminal, and a production over children that derive its right side derives its
-- left side. `symbolOfLeaf` gives a leaf's terminal.
mutual
  pub data Derives {A : Type 0} (T : Tables) (terminal : A → ℕ) : ℕ → Tree A → Type 0 where
    reads : {x : A} {X : ℕ} → terminal x ≡ X → X ≤ kinds T → Derives T terminal X (leaf x)
    produces : {p X : ℕ} {f : Forest A} → p < production_count T → symbol_of T (left T p) ≡ X → DerivesAll T terminal (rhs T p) f → Derives T terminal X (branch p f)

  pub data DerivesAll {A : Type 0} (T : Tables) (terminal : A → ℕ) : List ℕ → Forest A → Type 0 where
    none : DerivesAll T terminal [] nil
    then : {X : ℕ} {β : List ℕ} {t : Tree A} {f : Forest A} → Derives T terminal X t → DerivesAll T terminal β f → DerivesAll T terminal (X ∷ β) (cons t f)
