-- The plain driver in small: a stack of states, a stack of trees, and the leaves ahead, of any type that has kinds. It shifts and
-- reduces by the tables, and from a derivation it finds its way: with item (p, d, a) on top and the forest of the rest of p's right
-- side in front of a, it comes to item (p, length, a) with that forest pushed. By induction on the tree, forward.
use Rattle.std.specs.Prelude.{true, List, [], ◌∷◌, ◌++◌, ◌⊎◌, ◌≡◌, refl, ℕ, zero, suc, ◌+◌, ◌≤◌, ◌<◌, length, take, drop}
use Rattle.std.proofs.Common.{inl, inr, sym, ap, subst, ◌∙◌, arith, length-append, take_at, drop_at, eq-eqb, le-leb}
use Rattle.std.proofs.Math.Seq.{append_snoc, drop-length}
use Rattle.rules.specs.declared.Cell.TheVariants.{Shift, Reduce}
use Rattle.rules.specs.Tables.{Tables, kinds, end_column, symbol_of, action, goto, move, left, size, symbol, rhs, production_count, nullable, in_first}
use Rattle.rules.specs.Check.{all_nullable, begins_with, can_begin}
use Rattle.rules.specs.Driving.{top_of}
use Rattle.rules.specs.Trees.{Tree, leaf, branch, Forest, nil, cons, leaves_t, leaves_f, leaves, Derives, DerivesAll, reads, produces, none, then}
use Rattle.lr.specs.Bools.{and_both, or_left, or_right, pick_true}
use Rattle.lr.specs.Checked.{Has, Laws, length_rhs, dot_behind, dot_at_end}
use Rattle.lr.specs.Stack.{move_terminal, move_nonterminal}
use Rattle.lr.specs.Stands.{forest_of}

-- the column of what is ahead
abbrev pub column_of : {A : Type 0} → Tables → (A → ℕ) → List A → ℕ
column_of T kind [] = end_column T
column_of T kind (x ∷ w) = kind x

pub record Config (A : Type 0) : Type 0 where
  pub states : List ℕ
  pub trees : List (Tree A)
  pub input : List A

abbrev pub config : {A : Type 0} → List ℕ → List (Tree A) → List A → Config A
config ss ts w = record { states = ss; trees = ts; input = w }

pub data Step {A : Type 0} (T : Tables) (kind : A → ℕ) : Config A → Config A → Type 0 where
  shift : {ss : List ℕ} {ts : List (Tree A)} {x : A} {w : List A} {s : ℕ} → kind x ≤ kinds T → action T (top_of ss) (kind x) ≡ Shift (record { 0 = s })
      → Step T kind (config ss ts (x ∷ w)) (config (s ∷ ss) (leaf x ∷ ts) w)
  reduce : {ss : List ℕ} {ts : List (Tree A)} {w : List A} {p s : ℕ} → action T (top_of ss) (column_of T kind w) ≡ Reduce (record { 0 = suc p })
      → size T (suc p) ≤ length ss → goto T (top_of (drop (size T (suc p)) ss)) (left T (suc p)) ≡ Shift (record { 0 = s })
      → Step T kind (config ss ts w) (config (s ∷ drop (size T (suc p)) ss) (branch (suc p) (forest_of (take (size T (suc p)) ts) nil) ∷ drop (size T (suc p)) ts) w)

pub data Steps {A : Type 0} (T : Tables) (kind : A → ℕ) : Config A → Config A → Type 0 where
  stay : {c : Config A} → Steps T kind c c
  go : {c d e : Config A} → Step T kind c d → Steps T kind d e → Steps T kind c e

pub joined : {A : Type 0} {T : Tables} {kind : A → ℕ} {c d e : Config A} → Steps T kind c d → Steps T kind d e → Steps T kind c e
joined stay m = m
joined (go s l) m = go s (joined l m)

-- it accepts a list with a tree: from nothing to that tree alone, where production 0 is reduced at the end
pub record SmallAccepts {A : Type 0} (T : Tables) (kind : A → ℕ) (w : List A) (t : Tree A) : Type 0 where
  pub state : ℕ
  pub way : Steps T kind (config [] [] w) (config (state ∷ []) (t ∷ []) [])
  pub at_end_law : action T state (end_column T) ≡ Reduce (record { 0 = 0 })

-- ---- what a tree can begin with, by the given sets

abbrev pub Starts : {A : Type 0} → Tables → (A → ℕ) → ℕ → Tree A → Type 0
Starts {A} T kind X t =
    ((k : ℕ) × (k ≤ kinds T) × (in_first T X k ≡ true) × ((w : List A) → column_of T kind (leaves_t t w) ≡ k))
    ⊎ ((nullable T X ≡ true) × ((w : List A) → leaves_t t w ≡ w))

abbrev pub StartsAll : {A : Type 0} → Tables → (A → ℕ) → List ℕ → Forest A → Type 0
StartsAll {A} T kind β f =
    ((k : ℕ) × (k ≤ kinds T) × (begins_with T β k ≡ true) × ((w : List A) → column_of T kind (leaves_f f w) ≡ k))
    ⊎ ((all_nullable T β ≡ true) × ((w : List A) → leaves_f f w ≡ w))

itself : (T : Tables) (X : ℕ) → X ≤ kinds T → in_first T X X ≡ true
unfolding in_first
itself T X h = pick_true _ _ (le-leb X (kinds T) h) ∙ eq-eqb X X refl

produced : {A : Type 0} {T : Tables} (kind : A → ℕ) → Laws T → (p X : ℕ) (f : Forest A) → p < production_count T → symbol_of T (left T p) ≡ X → StartsAll T kind (rhs T p) f → Starts T kind X (branch p f)
produced {T = T} kind L p X f h e (inl r) = inl (r.0, r.1, subst (λ Y. in_first T Y r.0 ≡ true) e (L.first_closed p r.0 h r.1 r.2), r.3)
produced {T = T} kind L p X f h e (inr r) = inr (subst (λ Y. nullable T Y ≡ true) e (L.null_closed p h r.0), r.1)

in_turn : {A : Type 0} (T : Tables) (kind : A → ℕ) (X : ℕ) (β : List ℕ) (t : Tree A) (f : Forest A) → Starts T kind X t → StartsAll T kind β f → StartsAll T kind (X ∷ β) (cons t f)
unfolding begins_with all_nullable
in_turn T kind X β t f (inl r) q = inl (r.0, r.1, or_left _ r.2, λ w. r.3 (leaves_f f w))
in_turn T kind X β t f (inr r) (inl q) =
    inl (q.0, q.1, or_right (in_first T X q.0) (and_both r.0 q.2), λ w. ap (column_of T kind) (r.1 (leaves_f f w)) ∙ q.3 w)
in_turn T kind X β t f (inr r) (inr q) = inr (and_both r.0 q.0, λ w. r.1 (leaves_f f w) ∙ q.1 w)

mutual
  unfolding all_nullable

  pub starts : {A : Type 0} {T : Tables} {kind : A → ℕ} {X : ℕ} {t : Tree A} → Derives T kind X t → Laws T → Starts T kind X t
  starts {T = T} (reads {X = X} e h) L = inl (X, h, itself T X h, λ w. e)
  starts {kind = kind} (produces {p = p} {X = X} {f = f} h e d) L = produced kind L p X f h e (starts_all d L)

  pub starts_all : {A : Type 0} {T : Tables} {kind : A → ℕ} {β : List ℕ} {f : Forest A} → DerivesAll T kind β f → Laws T → StartsAll T kind β f
  starts_all none L = inr (refl, λ w. refl)
  starts_all {T = T} {kind = kind} (then {X = X} {β = β} {t = t} {f = f} d ds) L = in_turn T kind X β t f (starts d L) (starts_all ds L)

-- so what stands behind a symbol can begin what is ahead, and what is ahead has a column
pub can_begin_law : {A : Type 0} {T : Tables} {kind : A → ℕ} {β : List ℕ} {f : Forest A} → DerivesAll T kind β f → Laws T → (w : List A) (a : ℕ) → a ≤ end_column T → column_of T kind w ≡ a
    → (column_of T kind (leaves_f f w) ≤ end_column T) × (can_begin T β a (column_of T kind (leaves_f f w)) ≡ true)
unfolding can_begin
can_begin_law {T = T} {kind = kind} {β = β} {f = f} d L w a h e = by (starts_all d L)
  where
    by : StartsAll T kind β f → (column_of T kind (leaves_f f w) ≤ end_column T) × (can_begin T β a (column_of T kind (leaves_f f w)) ≡ true)
    by (inl r) =
        let q : column_of T kind (leaves_f f w) ≡ r.0 = r.3 w in
        let l : r.0 ≤ kinds T = r.1 in
        (omega arith, or_left {a = begins_with T β (column_of T kind (leaves_f f w))} _ (rw q r.2))
    by (inr r) =
        let q : column_of T kind (leaves_f f w) ≡ a = ap (column_of T kind) (r.1 w) ∙ e in
        (omega arith, or_right (begins_with T β (column_of T kind (leaves_f f w))) (and_both r.0 (eq-eqb _ _ q)))

-- ---- from a derivation to its steps

-- with symbol X behind the dot and a tree of X ahead, that tree is pushed and the dot has moved over X
pub record TreeGoes {A : Type 0} (T : Tables) (kind : A → ℕ) (ss : List ℕ) (ts : List (Tree A)) (w : List A) (p d a : ℕ) (t : Tree A) : Type 0 where
  pub state : ℕ
  pub item : Has T state p (suc d) a
  pub way : Steps T kind (config ss ts (leaves_t t w)) (config (state ∷ ss) (t ∷ ts) w)

-- with the rest of p's right side behind the dot and its forest ahead, the forest is pushed and the dot is at the end
pub record ForestGoes {A : Type 0} (T : Tables) (kind : A → ℕ) (ss : List ℕ) (ts : List (Tree A)) (w : List A) (p d a : ℕ) (f : Forest A) : Type 0 where
  pub states : List ℕ
  pub trees : List (Tree A)
  pub many : length states + d ≡ size T p
  pub same : length trees ≡ length states
  pub gathers : forest_of trees nil ≡ f
  pub item : Has T (top_of (states ++ ss)) p (size T p) a
  pub way : Steps T kind (config ss ts (leaves_f f w)) (config (states ++ ss) (trees ++ ts) w)

gathered_snoc : {A : Type 0} (ts : List (Tree A)) (t : Tree A) (f : Forest A) → forest_of (ts ++ (t ∷ [])) f ≡ cons t (forest_of ts f)
gathered_snoc [] t f = refl
gathered_snoc (u ∷ ts) t f = gathered_snoc ts t (cons u f)

nothing_left : {A : Type 0} {T : Tables} {kind : A → ℕ} → Laws T → (ss : List ℕ) (ts : List (Tree A)) (w : List A) (p d a : ℕ) → Has T (top_of ss) p d a → drop d (rhs T p) ≡ []
    → ForestGoes T kind ss ts w p d a nil
nothing_left {T = T} L ss ts w p d a x e =
    let q : d ≡ size T p = dot_at_end T p d (L.item_in x).dot_in_law e in
    record {
      states = [];
      trees = [];
      many = omega arith;
      same = refl;
      gathers = refl;
      item = subst (λ n. Has T (top_of ss) p n a) q x;
      way = stay;
    }

one_more : {A : Type 0} {T : Tables} {kind : A → ℕ} (ss : List ℕ) (ts : List (Tree A)) (w : List A) (p d a : ℕ) (t : Tree A) (f : Forest A)
    → (g : TreeGoes T kind ss ts (leaves_f f w) p d a t) → ForestGoes T kind (g.state ∷ ss) (t ∷ ts) w p (suc d) a f → ForestGoes T kind ss ts w p d a (cons t f)
one_more {T = T} {kind = kind} ss ts w p d a t f g h =
    let e : h.states ++ (g.state ∷ []) ++ ss ≡ h.states ++ (g.state ∷ ss) = append_snoc h.states g.state ss in
    let q : h.trees ++ (t ∷ []) ++ ts ≡ h.trees ++ (t ∷ ts) = append_snoc h.trees t ts in
    record {
      states = h.states ++ (g.state ∷ []);
      trees = h.trees ++ (t ∷ []);
      many = simp length-append (omega (arith, h.many));
      same = simp length-append (omega (arith, h.same));
      gathers = gathered_snoc h.trees t nil ∙ ap {B = Forest _} (λ x. cons t x) h.gathers;
      item = rw e h.item;
      way = joined g.way (rw (e, q) h.way);
    }

-- a terminal is shifted
over_terminal : {A : Type 0} {T : Tables} (kind : A → ℕ) → Laws T → (ss : List ℕ) (ts : List (Tree A)) (w : List A) (p d a X : ℕ) (β : List ℕ) (x : A)
    → Has T (top_of ss) p d a → drop d (rhs T p) ≡ X ∷ β → kind x ≡ X → X ≤ kinds T → TreeGoes T kind ss ts w p d a (leaf x)
over_terminal {T = T} kind L ss ts w p d a X β x i e q h =
    let m = L.moves_on_law i e in
    let c : action T (top_of ss) (kind x) ≡ Shift (record { 0 = m.0 }) = rw q (sym (move_terminal T (top_of ss) X h) ∙ m.1) in
    let k : kind x ≤ kinds T = rw q h in
    record { state = m.0; item = m.2; way = go (shift k c) stay }

-- a nonterminal's production has been pushed, and is reduced
over_nonterminal : {A : Type 0} {T : Tables} (kind : A → ℕ) → Laws T → (ss : List ℕ) (ts : List (Tree A)) (w : List A) (p d a X : ℕ) (β : List ℕ) (q : ℕ) (f : Forest A)
    → Has T (top_of ss) p d a → drop d (rhs T p) ≡ X ∷ β → symbol_of T (left T q) ≡ X
    → ForestGoes T kind ss ts w q 0 (column_of T kind w) f → TreeGoes T kind ss ts w p d a (branch q f)
over_nonterminal {T = T} kind L ss ts w p d a X β zero f i e l g =
    absurd (L.symbol_not_start p d (L.item_in i).production_in_law e (sym l ∙ ap (symbol_of T) L.root_left))
over_nonterminal {T = T} kind L ss ts w p d a X β (suc q) f i e l g =
    let m = L.moves_on_law i e in
    let n : ℕ = size T (suc q) in
    let ls : length g.states ≡ n = omega (arith, g.many) in
    let lt : length g.trees ≡ n = g.same ∙ ls in
    let c : action T (top_of (g.states ++ ss)) (column_of T kind w) ≡ Reduce (record { 0 = suc q }) =
    L.reduces g.item (subst (λ k. drop k (rhs T (suc q)) ≡ []) (length_rhs T (suc q)) (drop-length (rhs T (suc q)))) in
    let ds : drop n (g.states ++ ss) ≡ ss = drop_at g.states ss n ls in
    let dt : drop n (g.trees ++ ts) ≡ ts = drop_at g.trees ts n lt in
    let tk : forest_of (take n (g.trees ++ ts)) nil ≡ f = ap (λ us. forest_of us nil) (take_at g.trees ts n lt) ∙ g.gathers in
    let to : goto T (top_of (drop n (g.states ++ ss))) (left T (suc q)) ≡ Shift (record { 0 = m.0 }) =
    rw ds (sym (move_nonterminal T (top_of ss) (left T (suc q))) ∙ subst (λ Y. move T (top_of ss) Y ≡ Shift (record { 0 = m.0 })) (sym l) m.1) in
    let fits : n ≤ length (g.states ++ ss) = simp length-append (omega arith) in
    record {
      state = m.0;
      item = m.2;
      way = joined g.way (subst (λ us. Steps T kind (config (g.states ++ ss) (g.trees ++ ts) w) (config (m.0 ∷ us) (branch (suc q) f ∷ ts) w)) ds
          (subst (λ us. Steps T kind (config (g.states ++ ss) (g.trees ++ ts) w) (config (m.0 ∷ drop n (g.states ++ ss)) (branch (suc q) f ∷ us) w)) dt
          (subst (λ h. Steps T kind (config (g.states ++ ss) (g.trees ++ ts) w) (config (m.0 ∷ drop n (g.states ++ ss)) (branch (suc q) h ∷ drop n (g.trees ++ ts)) w)) tk
          (go (reduce c fits to) stay))));
    }

mutual
  pub tree_goes : {A : Type 0} {T : Tables} {kind : A → ℕ} {X : ℕ} {t : Tree A} → Derives T kind X t → Laws T → (ss : List ℕ) (ts : List (Tree A)) (w : List A) (p d a : ℕ) (β : List ℕ)
      → Has T (top_of ss) p d a → drop d (rhs T p) ≡ X ∷ β → column_of T kind w ≤ end_column T → can_begin T β a (column_of T kind w) ≡ true → TreeGoes T kind ss ts w p d a t
  tree_goes {kind = kind} (reads {x = x} {X = X} q h) L ss ts w p d a β i e b c = over_terminal kind L ss ts w p d a X β x i e q h
  tree_goes {T = T} {kind = kind} (produces {p = q} {X = X} {f = f} h l ds) L ss ts w p d a β i e b c =
      over_nonterminal kind L ss ts w p d a X β q f i e l (forest_goes ds L ss ts w q 0 (column_of T kind w) (L.opens i e h l b c) refl refl)

  pub forest_goes : {A : Type 0} {T : Tables} {kind : A → ℕ} {β : List ℕ} {f : Forest A} → DerivesAll T kind β f → Laws T → (ss : List ℕ) (ts : List (Tree A)) (w : List A) (p d a : ℕ)
      → Has T (top_of ss) p d a → drop d (rhs T p) ≡ β → column_of T kind w ≡ a → ForestGoes T kind ss ts w p d a f
  forest_goes none L ss ts w p d a i e q = nothing_left L ss ts w p d a i e
  forest_goes {T = T} (then {X = X} {β = β} {t = t} {f = f} x xs) L ss ts w p d a i e q =
      let b = can_begin_law xs L w a (L.item_in i).lookahead_in_law q in
      let g = tree_goes x L ss ts (leaves_f f w) p d a β i e b.0 b.1 in
      one_more ss ts w p d a t f g (forest_goes xs L (g.state ∷ ss) (t ∷ ts) w p (suc d) a g.item (dot_behind T p d X β e) q)

-- every derivation's leaves are accepted, with its tree
pub small_complete : {A : Type 0} {T : Tables} {kind : A → ℕ} {t : Tree A} → Laws T → Derives T kind (symbol T 0 0) t → SmallAccepts T kind (leaves t) t
unfolding can_begin all_nullable begins_with
small_complete {T = T} {kind = kind} {t = t} L d =
    let g = tree_goes d L [] [] [] 0 0 (end_column T) [] L.start L.root (omega arith) (or_right (begins_with T [] (end_column T)) (and_both {a = all_nullable T []} refl (eq-eqb (end_column T) (end_column T) refl))) in
    let end : drop 1 (rhs T 0) ≡ [] = dot_behind T 0 0 (symbol T 0 0) [] L.root in
    record { state = g.state; way = g.way; at_end_law = L.reduces g.item end }
