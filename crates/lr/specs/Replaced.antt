-- The list with one error token for each stretch, and the tree over it: the same productions, with leaf number k for the k-th leaf.
-- If the tree derives a symbol with marks as error tokens, then the tree over that list derives it with plain tokens.
use Rattle.std.specs.Prelude.{◌≡◌, refl, List, [], ◌∷◌, map, ℕ, zero, suc, length, get_or, drop}
use Rattle.std.proofs.Common.{ap, ◌∙◌, arith}
use Rattle.std.proofs.lemmas.List.{length-map}
use Rattle.rules.specs.declared.Token.{Token}
use Rattle.rules.specs.Tables.{Tables, kinds, symbol}
use Rattle.rules.specs.Driving.{Job, Marked, no_token, token_at}
use Rattle.rules.specs.Trees.{Tree, Forest, Leaf, leaves_t, leaves_f, leaves, Derives, DerivesAll}
use Rattle.lr.specs.Stands.{kind_in, terminal}
use Rattle.lr.specs.Sound.{in_order, Derivation}
use Rattle.lr.specs.Tiles.{mark_at}

-- what stands for a leaf: the token itself; for a mark one error token, kind t, with the mark's span
abbrev pub token_for : Job → List Marked → Leaf → Token
token_for J ms (Leaf.token i) = token_at J i
token_for J ms (Leaf.mark i) = record { kind = kinds J.tables; start = (mark_at ms i).start; end = (mark_at ms i).end }

-- the leaves of a run's tree, as a token list
unfoldable pub replaced : Job → List Marked → Tree Leaf → List Token
replaced J ms t = map (token_for J ms) (leaves t)

-- the same productions, with the leaves numbered from n on
abbrev mutual
  pub next_t : {A : Type 0} → Tree A → ℕ → ℕ
  next_t (Tree.leaf x) n = suc n
  next_t (Tree.branch p f) n = next_f f n

  pub next_f : {A : Type 0} → Forest A → ℕ → ℕ
  next_f Forest.nil n = n
  next_f (Forest.cons t f) n = next_f f (next_t t n)

abbrev mutual
  pub number_t : {A : Type 0} → Tree A → ℕ → Tree Leaf
  number_t (Tree.leaf x) n = Tree.leaf (Leaf.token n)
  number_t (Tree.branch p f) n = Tree.branch p (number_f f n)

  pub number_f : {A : Type 0} → Forest A → ℕ → Forest Leaf
  number_f Forest.nil n = Forest.nil
  number_f (Forest.cons t f) n = Forest.cons (number_t t n) (number_f f (next_t t n))

unfoldable pub numbered : {A : Type 0} → Tree A → Tree Leaf
numbered t = number_t t 0

-- a tree with each leaf replaced, the productions left as they are
abbrev mutual
  pub map_t : {A B : Type 0} → (A → B) → Tree A → Tree B
  map_t g (Tree.leaf x) = Tree.leaf (g x)
  map_t g (Tree.branch p f) = Tree.branch p (map_f g f)

  pub map_f : {A B : Type 0} → (A → B) → Forest A → Forest B
  map_f g Forest.nil = Forest.nil
  map_f g (Forest.cons t f) = Forest.cons (map_t g t) (map_f g f)

-- leaf number k is the k-th of the list
abbrev pub leaf_of : List Leaf → Leaf → Leaf
leaf_of ls (Leaf.token k) = get_or ls k (Leaf.token k)
leaf_of ls (Leaf.mark k) = Leaf.mark k

-- ---- places in a list

at_place : {A : Type 0} (n : ℕ) (ls : List A) (x d : A) (xs : List A) → drop n ls ≡ x ∷ xs → get_or ls n d ≡ x
at_place zero [] x d xs e = let z : ◌≡◌ {A = ℕ} 0 1 = cc in absurd (omega arith)
at_place zero (y ∷ ls) x d xs e = cc
at_place (suc n) [] x d xs e = let z : ◌≡◌ {A = ℕ} 0 1 = cc in absurd (omega arith)
at_place (suc n) (y ∷ ls) x d xs e = at_place n ls x d xs e

past_place : {A : Type 0} (n : ℕ) (ls : List A) (x : A) (xs : List A) → drop n ls ≡ x ∷ xs → drop (suc n) ls ≡ xs
past_place zero [] x xs e = let z : ◌≡◌ {A = ℕ} 0 1 = cc in absurd (omega arith)
past_place zero (y ∷ ls) x xs e = cc
past_place (suc n) [] x xs e = let z : ◌≡◌ {A = ℕ} 0 1 = cc in absurd (omega arith)
past_place (suc n) (y ∷ ls) x xs e = past_place n ls x xs e

-- where a tree's leaves stand at place n, what follows them stands at the place behind
module _ {A B : Type 0} (g : A → B) (ls : List B) where
  mutual
    behind_tree : (t : Tree A) (n : ℕ) (rest : List A) → drop n ls ≡ map g (leaves_t t rest) → drop (next_t t n) ls ≡ map g rest
    behind_tree (Tree.leaf x) n rest e = past_place n ls (g x) (map g rest) e
    behind_tree (Tree.branch p f) n rest e = behind_forest f n rest e

    behind_forest : (f : Forest A) (n : ℕ) (rest : List A) → drop n ls ≡ map g (leaves_f f rest) → drop (next_f f n) ls ≡ map g rest
    behind_forest Forest.nil n rest e = e
    behind_forest (Forest.cons t f) n rest e = behind_forest f (next_t t n) rest (behind_tree t n (leaves_f f rest) e)

-- ---- the order of the leaves

mutual
  order_tree : {A : Type 0} (t : Tree A) (n : ℕ) (rest : List A)
      → leaves_t (number_t t n) (in_order (next_t t n) (length rest)) ≡ in_order n (length (leaves_t t rest))
  order_tree (Tree.leaf x) n rest = refl
  order_tree (Tree.branch p f) n rest = order_forest f n rest

  order_forest : {A : Type 0} (f : Forest A) (n : ℕ) (rest : List A)
      → leaves_f (number_f f n) (in_order (next_f f n) (length rest)) ≡ in_order n (length (leaves_f f rest))
  order_forest Forest.nil n rest = refl
  order_forest (Forest.cons t f) n rest =
      ap (λ (l : List Leaf). leaves_t (number_t t n) l) (order_forest f (next_t t n) rest) ∙ order_tree t n (leaves_f f rest)

-- ---- what it derives

module _ (T : Tables) (tok : Leaf → Token) (kind-of : Leaf → ℕ) (same : (x : Leaf) → (tok x).kind ≡ kind-of x) (ls : List Token) where
  mutual
    derives_tree : {X : ℕ} {t : Tree Leaf} → Derives T kind-of X t → (n : ℕ) (rest : List Leaf) → drop n ls ≡ map tok (leaves_t t rest)
        → Derives T (kind_in T ls) X (number_t t n)
    derives_tree (Derives.reads {x = x} e l) n rest q =
        Derives.reads (ap (λ (k : Token). k.kind) (at_place n ls (tok x) no_token (map tok rest) q) ∙ same x ∙ e) l
    derives_tree (Derives.produces h e d) n rest q = Derives.produces h e (derives_forest d n rest q)

    derives_forest : {β : List ℕ} {f : Forest Leaf} → DerivesAll T kind-of β f → (n : ℕ) (rest : List Leaf) → drop n ls ≡ map tok (leaves_f f rest)
        → DerivesAll T (kind_in T ls) β (number_f f n)
    derives_forest DerivesAll.none n rest q = DerivesAll.none
    derives_forest (DerivesAll.then {t = t} {f = f} d ds) n rest q =
        DerivesAll.then (derives_tree d n (leaves_f f rest) q) (derives_forest ds (next_t t n) rest (behind_tree tok ls t n (leaves_f f rest) q))

same_kind : (J : Job) (ms : List Marked) (x : Leaf) → (token_for J ms x).kind ≡ terminal J x
same_kind J ms (Leaf.token i) = refl
same_kind J ms (Leaf.mark i) = refl

-- the tree over the list with one error token for each stretch
pub replaced_derivation : (J : Job) (ms : List Marked) (t : Tree Leaf) → Derives J.tables (terminal J) (symbol J.tables 0 0) t
    → Derivation J.tables (replaced J ms t) (numbered t)
unfolding replaced numbered
replaced_derivation J ms t d =
    record {
      derives = derives_tree J.tables (token_for J ms) (terminal J) (same_kind J ms) (map (token_for J ms) (leaves t)) d 0 [] refl;
      order = rw length-map (order_tree t 0 []);
    }

-- ---- the same leaves

module _ (ls : List Leaf) where
  mutual
    back_tree : (t : Tree Leaf) (n : ℕ) (rest : List Leaf) → drop n ls ≡ map (λ x. x) (leaves_t t rest) → map_t (leaf_of ls) (number_t t n) ≡ t
    back_tree (Tree.leaf x) n rest q = ap Tree.leaf (at_place n ls x (Leaf.token n) (map (λ y. y) rest) q)
    back_tree (Tree.branch p f) n rest q = ap (Tree.branch p) (back_forest f n rest q)

    back_forest : (f : Forest Leaf) (n : ℕ) (rest : List Leaf) → drop n ls ≡ map (λ x. x) (leaves_f f rest) → map_f (leaf_of ls) (number_f f n) ≡ f
    back_forest Forest.nil n rest q = refl
    back_forest (Forest.cons t f) n rest q =
        λ i. Forest.cons (back_tree t n (leaves_f f rest) q i) (back_forest f (next_t t n) rest (behind_tree (λ x. x) ls t n (leaves_f f rest) q) i)

map_same : {A : Type 0} (xs : List A) → xs ≡ map (λ x. x) xs
map_same [] = refl
map_same (x ∷ xs) = ap (λ (l : List _). x ∷ l) (map_same xs)

-- with the k-th leaf put back for leaf number k it is the tree that it was
pub put_back : (t : Tree Leaf) → map_t (leaf_of (leaves t)) (numbered t) ≡ t
unfolding numbered
put_back t = back_tree (leaves t) t 0 [] (map_same (leaves t))
