-- The marks of a tree are distinct, and their numbers ascend from left to right: each is given the next number when it is placed, above
-- all that is on the stack. So a mark's record belongs to one leaf, and the records of the tree's marks stand in the input's order.
use Rattle.std.proofs.Math.Path.{refl}
use mathlib.Core.List.{List, [], ◌∷◌, ◌++◌, map, reverse_aux}
use Rattle.std.specs.Prelude.{ℕ, zero, suc, ◌+◌, ◌≤◌, ◌<◌, length, take, drop}
use native.Mathlib.Omega.{arith}
use Rattle.std.proofs.Math.ListN.{length-append}
use Rattle.rules.specs.declared.StateNo.{StateNo}
use Rattle.rules.specs.declared.Entry.{Entry}
use Rattle.rules.specs.declared.Formed.{Formed}
use Rattle.rules.specs.Tables.{size}
use Rattle.rules.specs.Driving.{Job, Run, Mode, Marked, Node, node_of, nodes_of, grow, token_entry, production_entry, mark_entry}
use Rattle.rules.specs.Trees.{Tree, Forest, Leaf, leaves_t, leaves_f}
use Rattle.lr.specs.Built.{Built, BuiltAll, built_below, still_built, push_token, push_mark, push_production}
use Rattle.lr.specs.Steps.{shifted, reduced, recovered, record_of}
use Rattle.lr.specs.Ranges.{pushed_reached}
use Rattle.lr.specs.Runs.{Reached}

-- the numbers of the marks, from left to right, ascend from lo on and stay below hi
abbrev pub LeafNumbers : Leaf → ℕ → ℕ → Type 0
LeafNumbers (Leaf.token i) lo hi = lo ≤ hi
LeafNumbers (Leaf.mark i) lo hi = (lo ≤ i) × (i < hi)

abbrev mutual
  pub NumbersT : Tree Leaf → ℕ → ℕ → Type 0
  NumbersT (Tree.leaf x) lo hi = LeafNumbers x lo hi
  NumbersT (Tree.branch p f) lo hi = NumbersF f lo hi

  pub NumbersF : Forest Leaf → ℕ → ℕ → Type 0
  NumbersF Forest.nil lo hi = lo ≤ hi
  NumbersF (Forest.cons t f) lo hi = (c : ℕ) × NumbersT t lo c × NumbersF f c hi

-- the same of the leaves in a row
abbrev pub Ascends : List Leaf → ℕ → Type 0
Ascends [] lo = Unit {0}
Ascends (Leaf.token i ∷ xs) lo = Ascends xs lo
Ascends (Leaf.mark i ∷ xs) lo = (lo ≤ i) × Ascends xs (i + 1)

-- ---- bounds may be loosened

leaf_range : (x : Leaf) (lo hi : ℕ) → LeafNumbers x lo hi → lo ≤ hi
leaf_range (Leaf.token i) lo hi h = h
leaf_range (Leaf.mark i) lo hi h = omega arith

mutual
  tree_range : (t : Tree Leaf) (lo hi : ℕ) → NumbersT t lo hi → lo ≤ hi
  tree_range (Tree.leaf x) lo hi h = leaf_range x lo hi h
  tree_range (Tree.branch p f) lo hi h = forest_range f lo hi h

  forest_range : (f : Forest Leaf) (lo hi : ℕ) → NumbersF f lo hi → lo ≤ hi
  forest_range Forest.nil lo hi h = h
  forest_range (Forest.cons t f) lo hi h =
      let a = tree_range t lo h.0 h.1 in let b = forest_range f h.0 hi h.2 in omega arith

leaf_higher : (x : Leaf) (lo hi top : ℕ) → hi ≤ top → LeafNumbers x lo hi → LeafNumbers x lo top
leaf_higher (Leaf.token i) lo hi top l h = omega arith
leaf_higher (Leaf.mark i) lo hi top l h = (h.0, omega arith)

mutual
  tree_higher : (t : Tree Leaf) (lo hi top : ℕ) → hi ≤ top → NumbersT t lo hi → NumbersT t lo top
  tree_higher (Tree.leaf x) lo hi top l h = leaf_higher x lo hi top l h
  tree_higher (Tree.branch p f) lo hi top l h = forest_higher f lo hi top l h

  forest_higher : (f : Forest Leaf) (lo hi top : ℕ) → hi ≤ top → NumbersF f lo hi → NumbersF f lo top
  forest_higher Forest.nil lo hi top l h = omega arith
  forest_higher (Forest.cons t f) lo hi top l h = (h.0, h.1, forest_higher f h.0 hi top l h.2)

-- ---- from the tree to its leaves

ascends_lower : (xs : List Leaf) (lo hi : ℕ) → lo ≤ hi → Ascends xs hi → Ascends xs lo
ascends_lower [] lo hi l h = tt
ascends_lower (Leaf.token i ∷ xs) lo hi l h = ascends_lower xs lo hi l h
ascends_lower (Leaf.mark i ∷ xs) lo hi l h = (omega arith, h.1)

leaf_ascends : (x : Leaf) (lo hi : ℕ) (rest : List Leaf) → LeafNumbers x lo hi → Ascends rest hi → Ascends (x ∷ rest) lo
leaf_ascends (Leaf.token i) lo hi rest h k = ascends_lower rest lo hi h k
leaf_ascends (Leaf.mark i) lo hi rest h k = (h.0, ascends_lower rest (i + 1) hi (omega arith) k)

mutual
  tree_ascends : (t : Tree Leaf) (lo hi : ℕ) (rest : List Leaf) → NumbersT t lo hi → Ascends rest hi → Ascends (leaves_t t rest) lo
  tree_ascends (Tree.leaf x) lo hi rest h k = leaf_ascends x lo hi rest h k
  tree_ascends (Tree.branch p f) lo hi rest h k = forest_ascends f lo hi rest h k

  forest_ascends : (f : Forest Leaf) (lo hi : ℕ) (rest : List Leaf) → NumbersF f lo hi → Ascends rest hi → Ascends (leaves_f f rest) lo
  forest_ascends Forest.nil lo hi rest h k = ascends_lower rest lo hi h k
  forest_ascends (Forest.cons t f) lo hi rest h k =
      tree_ascends t lo h.0 (leaves_f f rest) h.1 (forest_ascends f h.0 hi rest h.2 k)

pub marks_ascend : (t : Tree Leaf) (lo hi : ℕ) → NumbersT t lo hi → Ascends (leaves_t t []) 0
marks_ascend t lo hi h = ascends_lower (leaves_t t []) 0 lo (omega arith) (tree_ascends t lo hi [] h tt)

-- ---- along runs

pub record EntryNumbers (ns : List Node) (cs : List ℕ) (e : Entry) (lo hi : ℕ) : Type 0 where
  pub tree : Tree Leaf
  pub built : Built ns cs e.node tree
  pub numbers : NumbersT tree lo hi

-- from the top down, each entry's marks are below those above it
abbrev pub Stacked : List Node → List ℕ → List Entry → ℕ → Type 0
Stacked ns cs [] hi = Unit {0}
Stacked ns cs (e ∷ rest) hi = (lo : ℕ) × EntryNumbers ns cs e lo hi × Stacked ns cs rest lo

abbrev pub Ordered : Run → Type 0
Ordered r = Stacked r.nodes r.children r.stack (length r.marks)

stacked_higher : (ns : List Node) (cs : List ℕ) (es : List Entry) (hi top : ℕ) → hi ≤ top → Stacked ns cs es hi → Stacked ns cs es top
stacked_higher ns cs [] hi top l h = tt
stacked_higher ns cs (e ∷ rest) hi top l h =
    (h.0, record { tree = h.1.tree; built = h.1.built; numbers = tree_higher h.1.tree h.0 hi top l h.1.numbers }, h.2)

stacked_drop : (ns : List Node) (cs : List ℕ) (n : ℕ) (es : List Entry) (hi : ℕ) → Stacked ns cs es hi → Stacked ns cs (drop n es) hi
stacked_drop ns cs zero es hi h = h
stacked_drop ns cs (suc n) [] hi h = tt
stacked_drop ns cs (suc n) (e ∷ rest) hi h =
    stacked_higher ns cs (drop n rest) h.0 hi (tree_range h.1.tree h.0 hi h.1.numbers) (stacked_drop ns cs n rest h.0 h.2)

stacked_more : (ns more-ns : List Node) (cs more-cs : List ℕ) (es : List Entry) (hi : ℕ) → Stacked ns cs es hi → Stacked (ns ++ more-ns) (cs ++ more-cs) es hi
stacked_more ns more-ns cs more-cs [] hi h = tt
stacked_more ns more-ns cs more-cs (e ∷ rest) hi h =
    (h.0, record { tree = h.1.tree; built = still_built h.1.built more-ns more-cs; numbers = h.1.numbers }, stacked_more ns more-ns cs more-cs rest h.0 h.2)

-- the popped symbols' trees, and what is left below them
record Gathered (ns : List Node) (cs : List ℕ) (is : List ℕ) (rest : List Entry) (hi : ℕ) : Type 0 where
  forest : Forest Leaf
  low : ℕ
  built : BuiltAll ns cs (length ns) is forest
  numbers : NumbersF forest low hi
  below : Stacked ns cs rest low

gather : (ns : List Node) (cs : List ℕ) (n : ℕ) (es : List Entry) (is : List ℕ) (hi : ℕ) → Gathered ns cs is es hi
    → Gathered ns cs (reverse_aux (map (λ (e : Entry). e.node) (take n es)) is) (drop n es) hi
gather ns cs zero es is hi g = g
gather ns cs (suc n) [] is hi g = g
gather ns cs (suc n) (e ∷ rest) is hi g =
    let h = g.below in
    gather ns cs n rest (e.node ∷ is) hi
    (record { forest = Forest.cons h.1.tree g.forest; low = h.0; built = BuiltAll.then (built_below h.1.built) h.1.built g.built; numbers = (g.low, h.1.numbers, g.numbers); below = h.2 })

module _ (J : Job) where
  -- a run with the same marks, and one entry more on what is left
  pushed : (r : Run) (rest : List Entry) (e : Entry) (kids : List ℕ) (marks : List Marked) (m : Mode) (lo : ℕ)
      → EntryNumbers (r.nodes ++ (node_of e (length r.children) kids ∷ [])) (r.children ++ kids) e lo (length (r.marks ++ marks))
      → Stacked r.nodes r.children rest lo → Ordered (grow r rest e kids marks m)
  unfolding grow
  pushed r rest e kids marks m lo here below =
      (lo, here, stacked_more r.nodes (node_of e (length r.children) kids ∷ []) r.children kids rest lo below)

  ordered_shifted : (r : Run) (s : StateNo) → Ordered r → Ordered (shifted J r s)
  unfolding token_entry grow
  ordered_shifted r s h =
      pushed r r.stack (token_entry J r s) [] [] Mode.main (length r.marks)
      (record { tree = Tree.leaf (Leaf.token r.next); built = push_token r.nodes r.children (token_entry J r s) r.next refl; numbers = simp length-append (omega arith) }) h

  ordered_over : (r : Run) (p n : ℕ) (m : Mode) → Gathered r.nodes r.children (nodes_of (take n r.stack)) (drop n r.stack) (length r.marks)
      → Ordered (grow r (drop n r.stack) (production_entry J r p (take n r.stack) (drop n r.stack)) (nodes_of (take n r.stack)) [] m)
  unfolding production_entry
  ordered_over r p n m g =
      pushed r (drop n r.stack) (production_entry J r p (take n r.stack) (drop n r.stack)) (nodes_of (take n r.stack)) [] m g.low
      (record {
        tree = Tree.branch p g.forest;
        built = push_production r.nodes r.children (production_entry J r p (take n r.stack) (drop n r.stack)) p (nodes_of (take n r.stack)) g.forest refl g.built;
        numbers = forest_higher g.forest g.low (length r.marks) (length (r.marks ++ [])) (simp length-append (omega arith)) g.numbers;
      }) g.below

  ordered_reduced : (r : Run) (p : ℕ) (m : Mode) → Ordered r → Ordered (reduced J r p m)
  ordered_reduced r p m h =
      ordered_over r p (size J.tables p) m
      (gather r.nodes r.children (size J.tables p) r.stack [] (length r.marks) (record { forest = Forest.nil; low = length r.marks; built = BuiltAll.none; numbers = omega arith; below = h }))

  ordered_recovered : (r : Run) (f : Formed) (k : ℕ) → Ordered r → Ordered (recovered J r f k)
  unfolding mark_entry
  ordered_recovered r f k h =
      pushed r (drop k r.stack) (mark_entry J r (record_of J r f k) (drop k r.stack)) [] (record_of J r f k ∷ []) Mode.main (length r.marks)
      (record { tree = Tree.leaf (Leaf.mark (length r.marks)); built = push_mark r.nodes r.children (mark_entry J r (record_of J r f k) (drop k r.stack)) (length r.marks) refl; numbers = (omega arith, simp length-append (omega arith)) })
      (stacked_drop r.nodes r.children k r.stack (length r.marks) h)

  -- after any number of steps
  pub ordered_reached : (r : Run) → Reached J r → Ordered r
  ordered_reached r w =
      pushed_reached J (λ ns cs ms stack. Stacked ns cs stack (length ms)) tt ordered_shifted (λ x p m j h. ordered_reduced x p m h) (λ x f k j l h. ordered_recovered x f k h) r w
