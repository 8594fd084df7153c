-- The tree's text is the rules' tree, where the bytes are those of the nodes and child entries that a run leaves; and so are all lines.
use mathlib.Core.List.{List, [], ◌∷◌, ◌++◌, append_assoc}
use Rattle.std.specs.Prelude.{◌≡◌, get_or, take, drop}
use Rattle.std.proofs.Math.Path.{refl}
use Rattle.std.proofs.Common.{sym, ap, ◌∙◌, arith, length-append, length-drop, take-append-drop, length-take-le, take_at}
use Prim.Native.Nat.{ℕ, zero, suc, ◌+◌, ◌*◌, ◌≤◌, ◌<◌}
use Rattle.std.proofs.Math.Decide.{dec_lt}
use Rattle.std.proofs.Math.Numerals.{add-one}
use Rattle.std.proofs.Math.ListN.{length, get_or-eq_default}
use Rattle.words.specs.Words.{le4, word16, word32}
use Rattle.words.specs.Laws.{length_le4, word32_out}
use Rattle.rules.specs.declared.What.{What}
use Rattle.rules.specs.declared.Answer.{Answer}
use Rattle.rules.specs.Basics.{text, codes_from}
use Rattle.rules.specs.Tables.{Tables, left}
use Rattle.rules.specs.Driving.{Node, Run}
use Rattle.rules.specs.Trees.{Tree, Forest, Leaf, leaf_or, forest_by, no_node, tree_from, tree_at}
use Rattle.rules.specs.Answers.{number_of, roots_of, expected_of, kind_of, which_of, node_words, bytes_of, nodes_bytes, records_bytes, Reply}
use Rattle.rules.specs.File.{decimal, show_tree, show_first, show_next, tree_line, show_reply}
use Rattle.printer.specs.Lines.{words_from}
use Rattle.printer.specs.TreeText.{leaf_byte, leaf_text, head_text, comma_text, entries_text, node_text, tree_text, tree_line_text, tree_lines_text, answer_lines_text, comma_some}
use Rattle.printer.specs.Stored.{Small, bytes_append, length_bytes, word_in_law, words_in_law, word_nth}
use Rattle.printer.specs.Shown.{AllFit, place_in, answer_shown, units_shown, marks_shown}

-- ---- a node's words in the bytes of the nodes

-- of each node: its words have 32 bits, and its child entries are there
abbrev pub AllSound : ℕ → List Node → Type 0
AllSound n [] = Unit
AllSound n (x ∷ ns) = Small (node_words x) × (x.child + x.count ≤ n) × AllSound n ns

length_node : (x : Node) → length (bytes_of (node_words x)) ≡ 32
unfolding node_words
length_node x = length_bytes (node_words x)

length_nodes : (ns : List Node) → length (nodes_bytes ns) ≡ 32 * length ns
unfolding nodes_bytes
length_nodes [] = refl
length_nodes (x ∷ ns) = simp (length-append, length_node, length_nodes ns) (omega arith)

-- the bytes of the nodes and of the child entries, cut out of the rooms that hold them
pub nodes_cut : (ns : List Node) (rest : List ℕ) → take (32 * length ns) (nodes_bytes ns ++ rest) ≡ nodes_bytes ns
nodes_cut ns rest = take_at (nodes_bytes ns) rest (32 * length ns) (length_nodes ns)

pub children_cut : (ks rest : List ℕ) → take (4 * length ks) (bytes_of ks ++ rest) ≡ bytes_of ks
children_cut ks rest = take_at (bytes_of ks) rest (4 * length ks) (length_bytes ks)

node_words_law : (n : ℕ) (ns : List Node) (i : ℕ) (s pre : List ℕ) (at : ℕ) → i < length ns → s ≡ pre ++ nodes_bytes ns → at ≡ length pre → AllSound n ns → words_from 8 s (at + 32 * i) ≡ node_words (get_or ns i no_node)
unfolding nodes_bytes node_words
node_words_law n [] i s pre at h e p a = absurd (omega arith)
node_words_law n (x ∷ ns) zero s pre at h e p a =
    let z : at + 32 * 0 ≡ at = omega arith in
    rw z (words_in_law (node_words x) s pre (nodes_bytes ns) at (e ∙ sym (append_assoc pre (bytes_of (node_words x)) (nodes_bytes ns))) p a.0)
node_words_law n (x ∷ ns) (suc i) s pre at h e p a =
    let z : at + 32 * suc i ≡ at + 32 + 32 * i = omega arith in
    let l : at + 32 ≡ length (pre ++ bytes_of (node_words x)) = simp (length-append, length_node) (omega arith) in
    rw z
    (node_words_law n ns i s (pre ++ bytes_of (node_words x)) (at + 32) (omega arith) (e ∙ sym (append_assoc pre (bytes_of (node_words x)) (nodes_bytes ns))) l a.2)

-- past the last node there are zeros, as `no_node` has them
no_word : (j : ℕ) → get_or (node_words no_node) j 0 ≡ 0
unfolding node_words
no_word zero = refl
no_word (suc zero) = refl
no_word (suc (suc zero)) = refl
no_word (suc (suc (suc zero))) = refl
no_word (suc (suc (suc (suc zero)))) = refl
no_word (suc (suc (suc (suc (suc zero))))) = refl
no_word (suc (suc (suc (suc (suc (suc zero)))))) = refl
no_word (suc (suc (suc (suc (suc (suc (suc zero))))))) = refl
no_word (suc (suc (suc (suc (suc (suc (suc (suc j)))))))) = refl

node_word : (n : ℕ) (ns : List Node) → AllSound n ns → (i j : ℕ) → j < 8 → word32 (nodes_bytes ns) (32 * i + 4 * j) ≡ get_or (node_words (get_or ns i no_node)) j 0
node_word n ns a i j h =
    elim (dec_lt i (length ns)) [
      | yes k ↦
          let z : 0 + 32 * i ≡ 32 * i = omega arith in
          let w : words_from 8 (nodes_bytes ns) (32 * i) ≡ node_words (get_or ns i no_node) = rw z at (node_words_law n ns i (nodes_bytes ns) [] 0 k refl refl a) in
          sym (word_nth 8 (nodes_bytes ns) (32 * i) j h) ∙ ap (λ (ws : List ℕ). get_or ws j 0) w
      | no k ↦
          let l : length ns ≤ i = omega arith in
          let o : length (nodes_bytes ns) < 32 * i + 4 * j + 4 = rw length_nodes (omega arith) in
          rw (word32_out (nodes_bytes ns) (32 * i + 4 * j) o, get_or-eq_default ns no_node {n = i} l, no_word j)
    ]

node_inside : (n : ℕ) (ns : List Node) → AllSound n ns → (i : ℕ) → (get_or ns i no_node).child + (get_or ns i no_node).count ≤ n
node_inside n [] a i = omega arith
node_inside n (x ∷ ns) a zero = a.1
node_inside n (x ∷ ns) a (suc i) = node_inside n ns a.2 i

-- ---- the children

small_part : (ks : List ℕ) → Small ks → (a b : ℕ) → Small (take b (drop a ks))
small_part [] h zero zero = tt
small_part [] h zero (suc b) = tt
small_part [] h (suc a) zero = tt
small_part [] h (suc a) (suc b) = tt
small_part (k ∷ ks) h zero zero = tt
small_part (k ∷ ks) h zero (suc b) = (h.0, small_part ks h.1 zero b)
small_part (k ∷ ks) h (suc a) b = small_part ks h.1 a b

module _ (T : Tables) (f : ℕ → List ℕ) (g : ℕ → Tree Leaf) (same : (x : ℕ) → f x ≡ show_tree T (g x)) where
  entries_next : (xs : List ℕ) (j : ℕ) (s pre post : List ℕ) (at : ℕ) → s ≡ pre ++ bytes_of xs ++ post → at ≡ length pre → Small xs → entries_text (length xs) (suc j) f s at ++ text "]" ≡ show_next T (forest_by g xs)
  unfolding entries_text show_next bytes_of
  entries_next [] j s pre post at e p h = refl
  entries_next (x ∷ xs) j s pre post at e p h =
      let w : word32 s at ≡ x = word_in_law s pre (bytes_of xs ++ post) at x (e ∙ simp append_assoc) p h.0 in
      let l : at + 4 ≡ length (pre ++ le4 x) = simp (length-append, length_le4) (omega arith) in
      let r : entries_text (length xs) (suc (suc j)) f s (at + 4) ++ text "]" ≡ show_next T (forest_by g xs) = entries_next xs (suc j) s (pre ++ le4 x) post (at + 4) (e ∙ simp append_assoc) l h.1 in
      let n : suc j + 1 ≡ suc (suc j) = add-one (suc j) in
      rw (w, n, same x, comma_some (suc j) (λ z. omega arith), append_assoc (text ", " ++ show_tree T (g x)) (entries_text (length xs) (suc (suc j)) f s (at + 4)) (text "]"), r)

  entries_first : (xs s pre post : List ℕ) (at : ℕ) → s ≡ pre ++ bytes_of xs ++ post → at ≡ length pre → Small xs → entries_text (length xs) 0 f s at ++ text "]" ≡ show_first T (forest_by g xs)
  unfolding entries_text show_first bytes_of comma_text
  entries_first [] s pre post at e p h = refl
  entries_first (x ∷ xs) s pre post at e p h =
      let w : word32 s at ≡ x = word_in_law s pre (bytes_of xs ++ post) at x (e ∙ simp append_assoc) p h.0 in
      let l : at + 4 ≡ length (pre ++ le4 x) = simp (length-append, length_le4) (omega arith) in
      let r : entries_text (length xs) 1 f s (at + 4) ++ text "]" ≡ show_next T (forest_by g xs) = entries_next xs 0 s (pre ++ le4 x) post (at + 4) (e ∙ simp append_assoc) l h.1 in
      rw (w, same x, append_assoc (show_tree T (g x)) (entries_text (length xs) 1 f s (at + 4)) (text "]"), r)

  -- the entries from `child` on, of which there are enough
  entries_part : (ks : List ℕ) (child count : ℕ) → Small ks → child + count ≤ length ks → entries_text count 0 f (bytes_of ks) (4 * child) ++ text "]" ≡ show_first T (forest_by g (take count (drop child ks)))
  entries_part ks child count h q =
      let xs : List ℕ = take count (drop child ks) in
      let c : count ≤ length (drop child ks) = simp length-drop (omega arith) in
      let n : length xs ≡ count = length-take-le count (drop child ks) c in
      let m : length (take child ks) ≡ child = length-take-le child ks (omega arith) in
      let p : 4 * child ≡ length (bytes_of (take child ks)) = rw (length_bytes, m) in
      let k : ks ≡ take child ks ++ xs ++ drop count (drop child ks) = sym (append_assoc (take child ks) xs (drop count (drop child ks)) ∙ rw (take-append-drop count (drop child ks)) (take-append-drop child ks)) in
      let e : bytes_of ks ≡ bytes_of (take child ks) ++ bytes_of xs ++ bytes_of (drop count (drop child ks)) = ap bytes_of k ∙ rw (bytes_append (take child ks ++ xs) (drop count (drop child ks)), bytes_append (take child ks) xs) in
      rw n at (entries_first xs (bytes_of ks) (bytes_of (take child ks)) (bytes_of (drop count (drop child ks))) (4 * child) e p (small_part ks h child count))

-- ---- the tree

node_shown : (T : Tables) (w : What) (inner : List ℕ) (forest : Forest Leaf) → inner ++ text "]" ≡ show_first T forest → node_text T.productions (kind_of w) (which_of w) inner ≡ show_tree T (leaf_or w forest)
unfolding node_text leaf_text leaf_byte head_text show_tree left text codes_from
node_shown T (What.Read i) inner forest e = refl
node_shown T (What.Mark i) inner forest e = refl
node_shown T (What.Production p) inner forest e =
    append_assoc (text "[" ++ decimal (word16 T.productions (4 * p)) ++ text ": ") inner (text "]") ∙ rw e

leaf_shown : (T : Tables) (i : ℕ) → leaf_text 0 i ≡ show_tree T (Tree.leaf (Leaf.token i))
unfolding leaf_text leaf_byte show_tree text codes_from
leaf_shown T i = refl

pub tree_from_law : (T : Tables) (ns : List Node) (ks : List ℕ) → AllSound (length ks) ns → Small ks → (n i : ℕ) → tree_text n T.productions (nodes_bytes ns) (bytes_of ks) i ≡ show_tree T (tree_from n ns ks i)
unfolding tree_text tree_from node_words
tree_from_law T ns ks a h zero i = leaf_shown T i
tree_from_law T ns ks a h (suc n) i =
    let node : Node = get_or ns i no_node in
    let z : 32 * i + 4 * 0 ≡ 32 * i = omega arith in
    let kind : word32 (nodes_bytes ns) (32 * i) ≡ kind_of node.what = rw z at (node_word (length ks) ns a i 0 (omega arith)) in
    let number : word32 (nodes_bytes ns) (32 * i + 4) ≡ which_of node.what = node_word (length ks) ns a i 1 (omega arith) in
    let child : word32 (nodes_bytes ns) (32 * i + 8) ≡ node.child = node_word (length ks) ns a i 2 (omega arith) in
    let count : word32 (nodes_bytes ns) (32 * i + 12) ≡ node.count = node_word (length ks) ns a i 3 (omega arith) in
    let f : ℕ → List ℕ = λ c. tree_text n T.productions (nodes_bytes ns) (bytes_of ks) c in
    let g : ℕ → Tree Leaf = λ c. tree_from n ns ks c in
    let e = entries_part T f g (λ x. tree_from_law T ns ks a h n x) ks node.child node.count h (node_inside (length ks) ns a i) in
    rw (kind, number, child, count)
    (node_shown T node.what (entries_text node.count 0 f (bytes_of ks) (4 * node.child)) (forest_by g (take node.count (drop node.child ks))) e)

-- ---- the tree's line, and all lines

-- the root of the answers that have one
abbrev pub root_in : Answer → ℕ
root_in (Answer.Accepted root) = root
root_in (Answer.AcceptedEarly root token) = root
root_in (Answer.UnrecognizedToken token top) = 0
root_in (Answer.UnrecognizedEnd location top) = 0
root_in (Answer.ExtraToken token) = 0
root_in (Answer.TokenizerError token) = 0
root_in Answer.OutOfUnits = 0
root_in Answer.OutOfDepth = 0
root_in Answer.OutOfChildren = 0
root_in Answer.OutOfNodes = 0
root_in Answer.OutOfRecords = 0

-- What a run leaves can be told by its words: numbers of 32 bits, and child entries that are there.
pub record Told (r : Run) : Type 0 where
  pub nodes : AllSound (length r.children) r.nodes
  pub children : Small r.children
  pub marks : AllFit r.marks

module _ (T : Tables) (r : Run) (t : Told r) where
  tree_told : (root : ℕ) → tree_line_text T.productions (nodes_bytes r.nodes) (bytes_of r.children) root ≡ tree_line T r (root ∷ [])
  unfolding tree_line_text tree_line tree_at
  tree_told root = rw (add-one, tree_from_law T r.nodes r.children t.nodes t.children (suc root) root)

  trees_told : (a : Answer) → tree_lines_text (number_of a) T.productions (nodes_bytes r.nodes) (bytes_of r.children) (root_in a) ≡ tree_line T r (roots_of a)
  unfolding tree_lines_text tree_line
  trees_told (Answer.Accepted root) = tree_told root
  trees_told (Answer.AcceptedEarly root token) = tree_told root
  trees_told (Answer.UnrecognizedToken token top) = refl
  trees_told (Answer.UnrecognizedEnd location top) = refl
  trees_told (Answer.ExtraToken token) = refl
  trees_told (Answer.TokenizerError token) = refl
  trees_told Answer.OutOfUnits = refl
  trees_told Answer.OutOfDepth = refl
  trees_told Answer.OutOfChildren = refl
  trees_told Answer.OutOfNodes = refl
  trees_told Answer.OutOfRecords = refl

  -- All lines of an answer are the rules' lines: the node and child entry slices are cut at their counts, the record slice need not be.
  pub lines_told : (a : Answer) (expected rest : List ℕ) → words_from 8 expected 0 ≡ expected_of T a → answer_lines_text (number_of a) (place_in a) (root_in a) r.units expected T.productions (nodes_bytes r.nodes) (bytes_of r.children) (records_bytes T r.marks ++ rest) (length r.marks) ≡ show_reply T (Reply.answered a r)
  unfolding answer_lines_text show_reply
  lines_told a expected rest e =
      rw (answer_shown T a expected e, units_shown r, trees_told a, marks_shown T r.marks rest t.marks)
