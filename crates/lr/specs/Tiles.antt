-- A tree whose leaves lie side by side: a token is its own index, a mark is its record's stretch, and each leaf begins where the one
-- before it ended. So each token of the range is one leaf or lies in exactly one mark's stretch, in order, and no stretch is broken.
use Rattle.std.specs.Prelude.{◌≡◌, refl, Bool, true, false, ◌&&◌, List, [], ◌∷◌, ◌++◌, ℕ, suc, ◌+◌, ◌≤◌, ◌<◌, leb, ltb, eqb, length, get_or}
use Rattle.std.proofs.Common.{sym, subst, arith, length-append, lt-ltb, le-ltb, le-leb, eq-eqb, ne_eqb}
use Rattle.std.proofs.Math.Bool.{and-false}
use Rattle.std.proofs.Math.Decide.{dec_lt}
use Rattle.std.proofs.Math.ListN.{get_or-append}
use Rattle.std.proofs.lemmas.Bool.{lt-leb}
use Rattle.words.specs.Words.{pick}
use Rattle.rules.specs.Driving.{Marked}
use Rattle.rules.specs.Trees.{Tree, Forest, Leaf, leaves_t, leaves_f}

abbrev pub no_mark : Marked
no_mark =
    record { error = record { number = 0; at = 0; from = 0; top = record { 0 = 0 } }; first = 0; after = 0; start = 0; end = 0 }

abbrev pub mark_at : List Marked → ℕ → Marked
mark_at ms i = get_or ms i no_mark

-- the leaf holds the tokens from a up to b: a token is one, a mark holds its record's stretch
abbrev pub LeafTiles : Leaf → List Marked → ℕ → ℕ → Type 0
LeafTiles (Leaf.token i) ms a b = (i ≡ a) × (b ≡ a + 1)
LeafTiles (Leaf.mark i) ms a b =
    (i < length ms) × ((mark_at ms i).first ≡ a) × ((mark_at ms i).after ≡ b) × (a ≤ b)

abbrev mutual
  pub TilesT : Tree Leaf → List Marked → ℕ → ℕ → Type 0
  TilesT (Tree.leaf x) ms a b = LeafTiles x ms a b
  TilesT (Tree.branch p f) ms a b = TilesF f ms a b

  pub TilesF : Forest Leaf → List Marked → ℕ → ℕ → Type 0
  TilesF Forest.nil ms a b = a ≡ b
  TilesF (Forest.cons t f) ms a b = (c : ℕ) × TilesT t ms a c × TilesF f ms c b

-- the same of the leaves in a row
abbrev pub Covers : List Leaf → List Marked → ℕ → ℕ → Type 0
Covers [] ms a b = a ≡ b
Covers (x ∷ xs) ms a b = (c : ℕ) × LeafTiles x ms a c × Covers xs ms c b

-- ---- records that are added change nothing

leaf_tiles_more : (x : Leaf) (ms more : List Marked) (a b : ℕ) → LeafTiles x ms a b → LeafTiles x (ms ++ more) a b
leaf_tiles_more (Leaf.token i) ms more a b h = h
leaf_tiles_more (Leaf.mark i) ms more a b h =
    let l = h.0 in
    let same = get_or-append ms more no_mark i l in
    (rw length-append (omega arith), rw same h.1, rw same h.2, h.3)

mutual
  pub tiles_more : (t : Tree Leaf) (ms more : List Marked) (a b : ℕ) → TilesT t ms a b → TilesT t (ms ++ more) a b
  tiles_more (Tree.leaf x) ms more a b h = leaf_tiles_more x ms more a b h
  tiles_more (Tree.branch p f) ms more a b h = forest_tiles_more f ms more a b h

  forest_tiles_more : (f : Forest Leaf) (ms more : List Marked) (a b : ℕ) → TilesF f ms a b → TilesF f (ms ++ more) a b
  forest_tiles_more Forest.nil ms more a b h = h
  forest_tiles_more (Forest.cons t f) ms more a b h =
      (h.0, tiles_more t ms more a h.0 h.1, forest_tiles_more f ms more h.0 b h.2)

-- ---- from the tree to its leaves

mutual
  tree_covers : (t : Tree Leaf) (ms : List Marked) (a b c : ℕ) (rest : List Leaf) → TilesT t ms a b → Covers rest ms b c → Covers (leaves_t t rest) ms a c
  tree_covers (Tree.leaf x) ms a b c rest h k = (b, h, k)
  tree_covers (Tree.branch p f) ms a b c rest h k = forest_covers f ms a b c rest h k

  forest_covers : (f : Forest Leaf) (ms : List Marked) (a b c : ℕ) (rest : List Leaf) → TilesF f ms a b → Covers rest ms b c → Covers (leaves_f f rest) ms a c
  forest_covers Forest.nil ms a b c rest h k = subst (λ (x : ℕ). Covers rest ms x c) (sym h) k
  forest_covers (Forest.cons t f) ms a b c rest h k =
      tree_covers t ms a h.0 c (leaves_f f rest) h.1 (forest_covers f ms h.0 b c rest h.2 k)

pub covered : (t : Tree Leaf) (ms : List Marked) (a b : ℕ) → TilesT t ms a b → Covers (leaves_t t []) ms a b
covered t ms a b h = tree_covers t ms a b b [] h refl

-- ---- each token is in exactly one leaf

-- does the leaf hold token k
abbrev pub holds_token : List Marked → ℕ → Leaf → Bool
holds_token ms k (Leaf.token i) = eqb i k
holds_token ms k (Leaf.mark i) = leb (mark_at ms i).first k && ltb k (mark_at ms i).after

-- how many leaves hold it
unfoldable pub holders : List Marked → ℕ → List Leaf → ℕ
holders ms k [] = 0
holders ms k (x ∷ xs) = pick (holds_token ms k x) (suc (holders ms k xs)) (holders ms k xs)

leaf_after : (x : Leaf) (ms : List Marked) (a b k : ℕ) → LeafTiles x ms a b → k < a → holds_token ms k x ≡ false
leaf_after (Leaf.token i) ms a b k h l = let e = h.0 in ne_eqb i k (λ q. omega arith)
leaf_after (Leaf.mark i) ms a b k h l = let e = h.1 in rw (lt-leb (mark_at ms i).first k (omega arith)) refl

leaf_before : (x : Leaf) (ms : List Marked) (a b k : ℕ) → LeafTiles x ms a b → b ≤ k → holds_token ms k x ≡ false
leaf_before (Leaf.token i) ms a b k h l = let e = h.0 in let f = h.1 in ne_eqb i k (λ q. omega arith)
leaf_before (Leaf.mark i) ms a b k h l = let e = h.2 in rw (le-ltb k (mark_at ms i).after (omega arith)) (and-false (leb (mark_at ms i).first k))

leaf_inside : (x : Leaf) (ms : List Marked) (a b k : ℕ) → LeafTiles x ms a b → a ≤ k → k < b → holds_token ms k x ≡ true
leaf_inside (Leaf.token i) ms a b k h l m = let e = h.0 in let f = h.1 in eq-eqb i k (omega arith)
leaf_inside (Leaf.mark i) ms a b k h l m =
    let e = h.1 in let f = h.2 in
    rw (le-leb (mark_at ms i).first k (omega arith), lt-ltb k (mark_at ms i).after (omega arith)) refl

leaf_range : (x : Leaf) (ms : List Marked) (a b : ℕ) → LeafTiles x ms a b → a ≤ b
leaf_range (Leaf.token i) ms a b h = let f = h.1 in omega arith
leaf_range (Leaf.mark i) ms a b h = h.3

none_before : (xs : List Leaf) (ms : List Marked) (a b k : ℕ) → Covers xs ms a b → k < a → holders ms k xs ≡ 0
unfolding holders
none_before [] ms a b k h l = refl
none_before (x ∷ xs) ms a b k h l =
    let n = leaf_range x ms a h.0 h.1 in
    rw (leaf_after x ms a h.0 k h.1 l) (none_before xs ms h.0 b k h.2 (omega arith))

pub one_holder : (xs : List Leaf) (ms : List Marked) (a b k : ℕ) → Covers xs ms a b → a ≤ k → k < b → holders ms k xs ≡ 1
unfolding holders
one_holder [] ms a b k h l m = absurd (omega arith)
one_holder (x ∷ xs) ms a b k h l m = by_first (dec_lt k h.0) (λ over. one_holder xs ms h.0 b k h.2 over m)
  where
    by_first : Dec (k < h.0) → (h.0 ≤ k → holders ms k xs ≡ 1) → pick (holds_token ms k x) (suc (holders ms k xs)) (holders ms k xs) ≡ 1
    by_first (yes less) later =
        rw (leaf_inside x ms a h.0 k h.1 l less, none_before xs ms h.0 b k h.2 less) refl
    by_first (no over) later = rw (leaf_before x ms a h.0 k h.1 (omega arith)) (later (omega arith))
