-- The tree's text from the bytes of productions, nodes and child entries, on any bytes, and the laws that its loop goes by.
use Rattle.std.specs.Prelude.{◌&&◌, List, [], ◌∷◌, ◌++◌, ◌≢◌, ◌≡◌, refl, leb, ltb, eqb}
use Prim.Native.Nat.{ℕ, zero, suc, ◌+◌, ◌*◌, ◌-◌, ◌≤◌, ◌<◌}
use Rattle.std.proofs.Common.{◌∙◌, sub-one}
use native.Mathlib.Omega.{arith}
use borrow.Author.Tests.{lt-ltb, le-ltb, lt-leb, le-leb, ne_eqb}
use Rattle.words.specs.Words.{pick, word16, word32}
use Rattle.rules.specs.Basics.{text}
use Rattle.rules.specs.File.{decimal, newline}
use Rattle.printer.specs.Lines.{units_text, answer_text, marks_text}

-- `t` before a token, `!` before a mark
unfoldable pub leaf_byte : ℕ → ℕ
leaf_byte kind = pick (eqb kind 0) 116 33

unfoldable pub leaf_text : ℕ → ℕ → List ℕ
leaf_text kind number = (leaf_byte kind ∷ []) ++ decimal number

-- `[N: `
unfoldable pub head_text : List ℕ → ℕ → List ℕ
head_text productions p = text "[" ++ decimal (word16 productions (4 * p)) ++ text ": "

unfoldable pub comma_text : ℕ → List ℕ
comma_text j = pick (eqb j 0) [] (text ", ")

-- n child entries from a place on, the first of which is the j-th, each by `f`
unfoldable pub entries_text : ℕ → ℕ → (ℕ → List ℕ) → List ℕ → ℕ → List ℕ
entries_text zero j f children at = []
entries_text (suc n) j f children at = comma_text j ++ f (word32 children at) ++ entries_text n (j + 1) f children (at + 4)

-- a node by its kind, its number and its children's text
unfoldable pub node_text : List ℕ → ℕ → ℕ → List ℕ → List ℕ
node_text productions kind number inner =
    pick (ltb kind 2) (leaf_text kind number) (head_text productions number ++ inner ++ text "]")

unfoldable pub tree_text : ℕ → List ℕ → List ℕ → List ℕ → ℕ → List ℕ
tree_text zero productions nodes children i = leaf_text 0 i
tree_text (suc n) productions nodes children i =
    node_text productions (word32 nodes (32 * i)) (word32 nodes (32 * i + 4))
    (entries_text (word32 nodes (32 * i + 12)) 0 (λ c. tree_text n productions nodes children c) children (4 * word32 nodes (32 * i + 8)))

unfoldable pub children_text : ℕ → ℕ → List ℕ → List ℕ → List ℕ → ℕ → ℕ → List ℕ
children_text n j productions nodes children at fuel =
    entries_text n j (λ c. tree_text fuel productions nodes children c) children at

-- ---- the cases of a tree

module _ (productions nodes children : List ℕ) (i : ℕ) where
  pub tree_none : (fuel : ℕ) → fuel ≡ 0 → tree_text fuel productions nodes children i ≡ leaf_text 0 i
  unfolding tree_text
  tree_none fuel e = rw e

  pub tree_leaf : (fuel : ℕ) → fuel ≢ 0 → word32 nodes (32 * i) < 2 → tree_text fuel productions nodes children i ≡ leaf_text (word32 nodes (32 * i)) (word32 nodes (32 * i + 4))
  unfolding tree_text node_text
  tree_leaf zero z h = absurd (z refl)
  tree_leaf (suc m) z h = rw (lt-ltb _ _ h)

  pub tree_token : (fuel : ℕ) → fuel ≢ 0 → word32 nodes (32 * i) ≡ 0 → tree_text fuel productions nodes children i ≡ 116 ∷ decimal (word32 nodes (32 * i + 4))
  unfolding leaf_text leaf_byte
  tree_token fuel z e = let h : word32 nodes (32 * i) < 2 = omega arith in tree_leaf fuel z h ∙ rw e

  pub tree_mark : (fuel : ℕ) → fuel ≢ 0 → word32 nodes (32 * i) ≡ 1 → tree_text fuel productions nodes children i ≡ 33 ∷ decimal (word32 nodes (32 * i + 4))
  unfolding leaf_text leaf_byte
  tree_mark fuel z e = let h : word32 nodes (32 * i) < 2 = omega arith in tree_leaf fuel z h ∙ rw e

  pub tree_branch : (fuel : ℕ) → fuel ≢ 0 → 2 ≤ word32 nodes (32 * i) → tree_text fuel productions nodes children i ≡ head_text productions (word32 nodes (32 * i + 4)) ++ children_text (word32 nodes (32 * i + 12)) 0 productions nodes children (4 * word32 nodes (32 * i + 8)) (fuel - 1) ++ text "]"
  unfolding tree_text node_text children_text
  tree_branch zero z h = absurd (z refl)
  tree_branch (suc m) z h = rw (le-ltb _ _ h, sub-one)

-- ---- the loop over the children

pub comma_none : (j : ℕ) → j ≡ 0 → comma_text j ≡ []
unfolding comma_text
comma_none j e = rw e

pub comma_some : (j : ℕ) → j ≢ 0 → comma_text j ≡ text ", "
unfolding comma_text
comma_some j e = rw (ne_eqb _ _ e)

-- what is left from the j-th of n children on
abbrev pub children_left : ℕ → List ℕ → List ℕ → List ℕ → ℕ → ℕ → ℕ → List ℕ
children_left n productions nodes children from fuel j = children_text (n - j) j productions nodes children (from + 4 * j) fuel

module _ (n : ℕ) (productions nodes children : List ℕ) (from fuel : ℕ) where
  pub children_all : children_text n 0 productions nodes children from fuel ≡ children_left n productions nodes children from fuel 0
  children_all =
      let a : n - 0 ≡ n = omega arith in
      let b : from + 4 * 0 ≡ from = omega arith in rw (a, b)

  pub children_turn : (j : ℕ) → j < n → children_left n productions nodes children from fuel j ≡ (comma_text j ++ tree_text fuel productions nodes children (word32 children (from + 4 * j))) ++ children_left n productions nodes children from fuel (j + 1)
  unfolding children_text entries_text
  children_turn j h =
      let a : n - j ≡ suc (n - (j + 1)) = omega arith in
      let b : from + 4 * j + 4 ≡ from + 4 * (j + 1) = omega arith in rw (a, ← b)

  pub children_none : (j : ℕ) → n ≤ j → children_left n productions nodes children from fuel j ≡ []
  unfolding children_text entries_text
  children_none j h = let e : n - j ≡ 0 = omega arith in rw e

-- ---- the tree's line, and all lines

unfoldable pub tree_line_text : List ℕ → List ℕ → List ℕ → ℕ → List ℕ
tree_line_text productions nodes children root =
    text "tree " ++ tree_text (root + 1) productions nodes children root ++ newline

-- "1 and 2 print the tree"
unfoldable pub tree_lines_text : ℕ → List ℕ → List ℕ → List ℕ → ℕ → List ℕ
tree_lines_text number productions nodes children root =
    pick (leb 1 number && leb number 2) (tree_line_text productions nodes children root) []

unfoldable pub answer_lines_text : ℕ → ℕ → ℕ → ℕ → List ℕ → List ℕ → List ℕ → List ℕ → List ℕ → ℕ → List ℕ
answer_lines_text number place root units expected productions nodes children records count =
    answer_text number place expected ++ units_text units ++ tree_lines_text number productions nodes children root
    ++ marks_text count 0 records 0

module _ (number : ℕ) (productions nodes children : List ℕ) (root : ℕ) where
  pub tree_low : number < 1 → tree_lines_text number productions nodes children root ≡ []
  unfolding tree_lines_text
  tree_low h = rw (lt-leb _ _ h)

  pub tree_high : 1 ≤ number → 2 < number → tree_lines_text number productions nodes children root ≡ []
  unfolding tree_lines_text
  tree_high l h = rw (le-leb _ _ l, lt-leb _ _ h)

  pub tree_shown : 1 ≤ number → number ≤ 2 → tree_lines_text number productions nodes children root ≡ tree_line_text productions nodes children root
  unfolding tree_lines_text
  tree_shown l h = rw (le-leb _ _ l, le-leb _ _ h)
