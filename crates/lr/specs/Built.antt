-- The tree that stands at a node of a run: what was written stays, and `tree_at` reads it back.
-- A child's number is smaller than its parent's, and all pushes append, so a tree that is built once is built for good.
use Rattle.std.specs.Prelude.{List, [], ◌∷◌, ◌++◌, ◌≡◌, refl, ℕ, zero, suc, ◌+◌, ◌≤◌, ◌<◌, length, get_or, take, drop}
use Rattle.std.proofs.Common.{ap, ◌∙◌, arith, length-append, length-drop, take_all, drop_at}
use Rattle.std.proofs.Math.ListN.{get_or-append}
use Rattle.std.proofs.lemmas.List.{take-append-le, drop-append-le}
use Rattle.std.proofs.Math.Seq.{get_or-append_seam}
use Rattle.rules.specs.declared.What.{What}
use Rattle.rules.specs.declared.What.TheVariants.{Read, Mark, Production}
use Rattle.rules.specs.declared.Entry.{Entry}
use Rattle.rules.specs.Driving.{Node, node_of, child_of}
use Rattle.rules.specs.Trees.{Tree, leaf, branch, Forest, nil, cons, Leaf, token, mark, leaf_or, forest_by, no_node, tree_from, tree_at}

abbrev pub node_at : List Node → ℕ → Node
node_at ns i = get_or ns i no_node

-- a node's child entries
abbrev pub kids_at : List Node → List ℕ → ℕ → List ℕ
kids_at ns cs i = take (node_at ns i).count (drop (node_at ns i).child cs)

mutual
  -- node i holds the tree; the children of a node are below it
  pub data Built (ns : List Node) (cs : List ℕ) : ℕ → Tree Leaf → Type 0 where
    reads : {i k : ℕ} → i < length ns → (node_at ns i).what ≡ Read k → Built ns cs i (leaf (token k))
    marks : {i k : ℕ} → i < length ns → (node_at ns i).what ≡ Mark k → Built ns cs i (leaf (mark k))
    produces : {i p : ℕ} {is : List ℕ} {f : Forest Leaf} → i < length ns → (node_at ns i).what ≡ Production p
        → (node_at ns i).child + (node_at ns i).count ≤ length cs → kids_at ns cs i ≡ is → BuiltAll ns cs i is f → Built ns cs i (branch p f)

  -- the nodes of the list, each below n, hold the forest
  pub data BuiltAll (ns : List Node) (cs : List ℕ) : ℕ → List ℕ → Forest Leaf → Type 0 where
    none : {n : ℕ} → BuiltAll ns cs n [] nil
    then : {n i : ℕ} {is : List ℕ} {t : Tree Leaf} {f : Forest Leaf} → i < n → Built ns cs i t → BuiltAll ns cs n is f → BuiltAll ns cs n (i ∷ is) (cons t f)

-- ---- `tree_at` reads it back

opened : (n : ℕ) (ns : List Node) (cs : List ℕ) (i : ℕ) (w : What) → (node_at ns i).what ≡ w → tree_from (suc n) ns cs i ≡ leaf_or w (forest_by (λ c. tree_from n ns cs c) (kids_at ns cs i))
unfolding tree_from
opened n ns cs i w e = ap (λ x. leaf_or x (forest_by (λ c. tree_from n ns cs c) (kids_at ns cs i))) e

mutual
  read_back : {ns : List Node} {cs : List ℕ} {i : ℕ} {t : Tree Leaf} → Built ns cs i t → (n : ℕ) → i < n → tree_from n ns cs i ≡ t
  read_back (reads h e) zero k = absurd (omega arith)
  read_back {ns} {cs} (reads {i = i} {k = x} h e) (suc n) k = opened n ns cs i (Read x) e
  read_back (marks h e) zero k = absurd (omega arith)
  read_back {ns} {cs} (marks {i = i} {k = x} h e) (suc n) k = opened n ns cs i (Mark x) e
  read_back (produces h e l q b) zero k = absurd (omega arith)
  read_back {ns} {cs} (produces {i = i} {p = p} h e l q b) (suc n) k =
      opened n ns cs i (Production p) e ∙ ap {B = Tree Leaf} (λ f. branch p f) (ap (λ is. forest_by (λ c. tree_from n ns cs c) is) q ∙ read_all b n (omega arith))

  read_all : {ns : List Node} {cs : List ℕ} {n : ℕ} {is : List ℕ} {f : Forest Leaf} → BuiltAll ns cs n is f → (m : ℕ) → n ≤ m → forest_by (λ c. tree_from m ns cs c) is ≡ f
  read_all none m k = refl
  read_all (then h b bs) m k = λ i. cons (read_back b m (omega arith) i) (read_all bs m k i)

pub built_tree : {ns : List Node} {cs : List ℕ} {i : ℕ} {t : Tree Leaf} → Built ns cs i t → tree_at ns cs i ≡ t
unfolding tree_at
built_tree {i = i} b = read_back b (suc i) (omega arith)

-- ---- what was written stays

node_stays : (ns ms : List Node) (i : ℕ) → i < length ns → node_at (ns ++ ms) i ≡ node_at ns i
node_stays ns ms i h = get_or-append ns ms no_node i h

kids_stay : (ns ms : List Node) (cs ds : List ℕ) (i : ℕ) → i < length ns → (node_at ns i).child + (node_at ns i).count ≤ length cs → kids_at (ns ++ ms) (cs ++ ds) i ≡ kids_at ns cs i
kids_stay ns ms cs ds i h l =
    let k : (node_at ns i).child ≤ length cs = omega arith in
    let j : (node_at ns i).count ≤ length (drop (node_at ns i).child cs) = simp length-drop (omega arith) in
    rw (node_stays ns ms i h, drop-append-le (node_at ns i).child cs ds k, take-append-le (node_at ns i).count (drop (node_at ns i).child cs) ds j)

longer : (ns ms : List Node) (i : ℕ) → i < length ns → i < length (ns ++ ms)
longer ns ms i h = simp length-append (omega arith)

mutual
  pub still_built : {ns : List Node} {cs : List ℕ} {i : ℕ} {t : Tree Leaf} → Built ns cs i t → (ms : List Node) (ds : List ℕ) → Built (ns ++ ms) (cs ++ ds) i t
  still_built {ns} (reads {i = i} {k = k} h e) ms ds = reads {k = k} (longer ns ms i h) (rw (node_stays ns ms i h) e)
  still_built {ns} (marks {i = i} {k = k} h e) ms ds = marks {k = k} (longer ns ms i h) (rw (node_stays ns ms i h) e)
  still_built {ns} {cs} (produces {i = i} {p = p} {is = is} h e l q b) ms ds =
      produces {p = p} {is = is} (longer ns ms i h) (rw (node_stays ns ms i h) e) (rw (node_stays ns ms i h) (simp length-append (omega arith))) (kids_stay ns ms cs ds i h l ∙ q) (all_still_built b ms ds)

  pub all_still_built : {ns : List Node} {cs : List ℕ} {n : ℕ} {is : List ℕ} {f : Forest Leaf} → BuiltAll ns cs n is f → (ms : List Node) (ds : List ℕ) → BuiltAll (ns ++ ms) (cs ++ ds) n is f
  all_still_built none ms ds = none
  all_still_built (then h b bs) ms ds = then h (still_built b ms ds) (all_still_built bs ms ds)

-- ---- what a push writes

pushed_node : (ns : List Node) (x : Node) → node_at (ns ++ (x ∷ [])) (length ns) ≡ x
pushed_node ns x = get_or-append_seam ns x [] no_node

pub built_below : {ns : List Node} {cs : List ℕ} {i : ℕ} {t : Tree Leaf} → Built ns cs i t → i < length ns
built_below (reads h e) = h
built_below (marks h e) = h
built_below (produces h e l q b) = h

one_longer : (ns : List Node) (x : Node) → length ns < length (ns ++ (x ∷ []))
one_longer ns x = simp length-append (omega arith)

pub push_token : (ns : List Node) (cs : List ℕ) (e : Entry) (i : ℕ) → e.what ≡ Read i
    → Built (ns ++ (node_of e (length cs) [] ∷ [])) (cs ++ []) (length ns) (leaf (token i))
unfolding node_of
push_token ns cs e i q = reads {k = i} (one_longer ns _) (rw pushed_node q)

pub push_mark : (ns : List Node) (cs : List ℕ) (e : Entry) (i : ℕ) → e.what ≡ Mark i
    → Built (ns ++ (node_of e (length cs) [] ∷ [])) (cs ++ []) (length ns) (leaf (mark i))
unfolding node_of
push_mark ns cs e i q = marks {k = i} (one_longer ns _) (rw pushed_node q)

kids_pushed : (cs kids : List ℕ) → take (length kids) (drop (child_of (length cs) kids) (cs ++ kids)) ≡ kids
kids_pushed cs [] = refl
kids_pushed cs (k ∷ kids) = rw (drop_at cs (k ∷ kids) (length cs) refl) (take_all (length (k ∷ kids)) (k ∷ kids) (omega arith))

kids_inside : (cs kids : List ℕ) → child_of (length cs) kids + length kids ≤ length (cs ++ kids)
kids_inside cs [] = omega arith
kids_inside cs (k ∷ kids) = simp length-append (omega arith)

pub push_production : (ns : List Node) (cs : List ℕ) (e : Entry) (p : ℕ) (kids : List ℕ) (f : Forest Leaf) → e.what ≡ Production p → BuiltAll ns cs (length ns) kids f
    → Built (ns ++ (node_of e (length cs) kids ∷ [])) (cs ++ kids) (length ns) (branch p f)
unfolding node_of
push_production ns cs e p kids f q b =
    let x : Node = node_of e (length cs) kids in
    produces {p = p} {is = kids} (one_longer ns x) (rw pushed_node q) (rw (pushed_node ns x) (kids_inside cs kids)) (rw (pushed_node ns x) (kids_pushed cs kids)) (all_still_built b (x ∷ []) kids)
