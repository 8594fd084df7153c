-- Each symbol on the stack of a run stands for a tree that its node holds and that derives it: a token or a mark is a leaf, and a
-- reduction's tree is its production over the trees that it pops. So an accepted run's root holds a derivation.
use Rattle.std.specs.Prelude.{Bool, true, false, ◌≡◌, length, get_or, take, eqb}
use mathlib.Core.List.{List, [], ◌∷◌, ◌++◌, map, reverse_aux}
use Rattle.std.proofs.Math.Path.{refl, subst}
use Rattle.std.proofs.Common.{sym, arith}
use Prim.Native.Nat.{ℕ, zero, suc}
use Rattle.std.proofs.Math.ListN.{drop}
use Rattle.std.proofs.Math.Seq.{drop-length}
use Rattle.words.specs.Laws.{pick_case}
use Rattle.rules.specs.declared.StateNo.{StateNo}
use Rattle.rules.specs.declared.Token.{Token}
use Rattle.rules.specs.declared.Entry.{Entry}
use Rattle.rules.specs.declared.Formed.{Formed}
use Rattle.rules.specs.declared.Answer.{Answer}
use Rattle.rules.specs.declared.Answer.TheVariants.{Accepted, AcceptedEarly, UnrecognizedToken, UnrecognizedEnd, ExtraToken, TokenizerError, OutOfUnits, OutOfDepth, OutOfChildren, OutOfNodes, OutOfRecords}
use Rattle.rules.specs.Tables.{Tables, error_column, size, symbol, rhs}
use Rattle.rules.specs.Driving.{Job, Run, main, Outcome, more, done, Node, Marked, no_token, has_token, counted, advanced, node_of, grow, need, arrive, token_entry, production_entry, nodes_of, mark_entry, answer_of, states_of, first_run, begin}
use Rattle.rules.specs.Trees.{Tree, leaf, branch, Forest, nil, cons, Leaf, token, mark, Derives, DerivesAll}
use Rattle.lr.specs.Checked.{length_rhs}
use Rattle.lr.specs.Stack.{Behind, Reducible}
use Rattle.lr.specs.Invariant.{Fits, OK, counted_ok, symbol_for, symbols_of, Stops, Does, arrive_keeps, shifts, reduces, marks, stops, accepts, extra, refuses, forms, early, turns, drops, gives_up}
use Rattle.lr.specs.Built.{Built, BuiltAll, built_below, still_built, push_token, push_mark, push_production}

-- a leaf's terminal: a token's kind; a mark is the error token
abbrev pub kind_in : Tables → List Token → Leaf → ℕ
kind_in T tokens (token i) = (get_or tokens i no_token).kind
kind_in T tokens (mark i) = error_column T

abbrev pub terminal : Job → Leaf → ℕ
terminal J x = kind_in J.tables J.tokens x

-- the trees on a stack, the top first, in front of a forest: as a reduction gathers them
abbrev pub forest_of : {A : Type 0} → List (Tree A) → Forest A → Forest A
forest_of [] f = f
forest_of (t ∷ ts) f = forest_of ts (cons t f)

-- ---- entries and their trees

pub data Stood (J : Job) (ns : List Node) (cs : List ℕ) : List Entry → List (Tree Leaf) → Type 0 where
  bare : Stood J ns cs [] []
  over : {e : Entry} {t : Tree Leaf} {es : List Entry} {ts : List (Tree Leaf)} → Built ns cs e.node t
      → Derives J.tables (terminal J) (symbol_for J e.what) t → Stood J ns cs es ts → Stood J ns cs (e ∷ es) (t ∷ ts)

pub still_stood : {J : Job} {ns : List Node} {cs : List ℕ} {es : List Entry} {ts : List (Tree Leaf)} → Stood J ns cs es ts → (ms : List Node) (ds : List ℕ)
    → Stood J (ns ++ ms) (cs ++ ds) es ts
still_stood bare ms ds = bare
still_stood (over b d s) ms ds = over (still_built b ms ds) d (still_stood s ms ds)

pub stood_below : {J : Job} {ns : List Node} {cs : List ℕ} {es : List Entry} {ts : List (Tree Leaf)} (n : ℕ) → Stood J ns cs es ts → Stood J ns cs (drop n es) (drop n ts)
stood_below zero s = s
stood_below (suc n) bare = bare
stood_below (suc n) (over b d s) = stood_below n s

-- the nodes that a reduction pops hold the forest that it gathers
gathered : {J : Job} {ns : List Node} {cs : List ℕ} {es : List Entry} {ts : List (Tree Leaf)} (n : ℕ) → Stood J ns cs es ts → (is : List ℕ) (f : Forest Leaf)
    → BuiltAll ns cs (length ns) is f → BuiltAll ns cs (length ns) (reverse_aux (map (λ (e : Entry). e.node) (take n es)) is) (forest_of (take n ts) f)
gathered zero s is f b = b
gathered (suc n) bare is f b = b
gathered (suc n) (over {e = e} {t = t} c d s) is f b = gathered n s (e.node ∷ is) (cons t f) (BuiltAll.then (built_below c) c b)

-- and that forest derives the right side
derived : {J : Job} {ns : List Node} {cs : List ℕ} {es : List Entry} {ts : List (Tree Leaf)} (p d : ℕ) → Stood J ns cs es ts
    → Behind J.tables p d (symbols_of J es) → (f : Forest Leaf) → DerivesAll J.tables (terminal J) (drop d (rhs J.tables p)) f
    → DerivesAll J.tables (terminal J) (rhs J.tables p) (forest_of (take d ts) f)
derived p zero s h f b = b
derived p (suc d) bare h f b = absurd h
derived {J} p (suc d) (over {t = t} c x s) h f b =
    derived p d s h.1 (cons t f) (subst (λ β. DerivesAll J.tables (terminal J) β (cons t f)) (sym h.0) (DerivesAll.then x b))

-- ---- the pushes of a run

module _ {J : Job} {r : Run} {ts : List (Tree Leaf)} (F : Fits J) (ok : OK J r) (st : Stood J r.nodes r.children r.stack ts) where
  pub stood_shift : (s : StateNo) → has_token J r ≡ true
      → Stood J (r.nodes ++ (node_of (token_entry J r s) (length r.children) [] ∷ [])) (r.children ++ []) (token_entry J r s ∷ r.stack) (leaf (token r.next) ∷ ts)
  unfolding token_entry
  stood_shift s h =
      over (push_token r.nodes r.children (token_entry J r s) r.next refl) (Derives.reads refl (F.reads_in _ (ok.readable h))) (still_stood st _ _)

  pub stood_mark : (m : Marked) (k : ℕ)
      → Stood J (r.nodes ++ (node_of (mark_entry J r m (drop k r.stack)) (length r.children) [] ∷ [])) (r.children ++ [])
      (mark_entry J r m (drop k r.stack) ∷ drop k r.stack) (leaf (mark (length r.marks)) ∷ drop k ts)
  unfolding mark_entry
  stood_mark m k =
      over (push_mark r.nodes r.children (mark_entry J r m (drop k r.stack)) (length r.marks) refl) (Derives.reads {x = mark (length r.marks)} refl (omega arith)) (still_stood (stood_below k st) _ _)

  pub stood_reduce : (p : ℕ) (popped rest : List Entry) → take (size J.tables p) r.stack ≡ popped → drop (size J.tables p) r.stack ≡ rest
      → Reducible J.tables (states_of r.stack) (symbols_of J r.stack) p
      → Stood J (r.nodes ++ (node_of (production_entry J r p popped rest) (length r.children) (nodes_of popped) ∷ [])) (r.children ++ nodes_of popped)
      (production_entry J r p popped rest ∷ rest) (branch p (forest_of (take (size J.tables p) ts) nil) ∷ drop (size J.tables p) ts)
  unfolding production_entry
  stood_reduce p popped rest e q d =
      let n : ℕ = size J.tables p in
      let kids : BuiltAll r.nodes r.children (length r.nodes) (nodes_of popped) (forest_of (take n ts) nil) = subst (λ x. BuiltAll r.nodes r.children (length r.nodes) (nodes_of x) (forest_of (take n ts) nil)) e (gathered n st [] nil BuiltAll.none) in
      let end : drop n (rhs J.tables p) ≡ [] = subst (λ k. drop k (rhs J.tables p) ≡ []) (length_rhs J.tables p) (drop-length (rhs J.tables p)) in
      let whole : DerivesAll J.tables (terminal J) (rhs J.tables p) (forest_of (take n ts) nil) = derived p n st d.symbols nil (rw end DerivesAll.none) in
      let below : Stood J r.nodes r.children rest (drop n ts) = subst (λ x. Stood J r.nodes r.children x (drop n ts)) q (stood_below n st) in
      over (push_production r.nodes r.children (production_entry J r p popped rest) p (nodes_of popped) _ refl kids) (Derives.produces d.production refl whole) (still_stood below _ _)

-- ---- along every run of every job

abbrev pub Standing : Job → Run → Type 0
Standing J r = (ts : List (Tree Leaf)) × Stood J r.nodes r.children r.stack ts

-- node `root` holds a tree that derives the nonterminal on production 0's right side
pub record Rooted (J : Job) (r : Run) (root : ℕ) : Type 0 where
  pub tree : Tree Leaf
  pub built : Built r.nodes r.children root tree
  pub derives : Derives J.tables (terminal J) (symbol J.tables 0 0) tree

abbrev pub Stands : Job → Outcome → Type 0
Stands J (more r) = Standing J r
Stands J (done (Accepted root) r) = Rooted J r root
Stands J (done (AcceptedEarly root i) r) = Rooted J r root
Stands J (done (UnrecognizedToken i s) r) = Unit
Stands J (done (UnrecognizedEnd l s) r) = Unit
Stands J (done (ExtraToken i) r) = Unit
Stands J (done (TokenizerError i) r) = Unit
Stands J (done OutOfUnits r) = Unit
Stands J (done OutOfDepth r) = Unit
Stands J (done OutOfChildren r) = Unit
Stands J (done OutOfNodes r) = Unit
Stands J (done OutOfRecords r) = Unit

rooted : {J : Job} {r : Run} (e : Entry) → r.stack ≡ e ∷ [] → symbol_for J e.what ≡ symbol J.tables 0 0 → Standing J r → Rooted J r e.node
rooted {J} {r} e q x st = go st.0 (subst (λ es. Stood J r.nodes r.children es st.0) q st.1)
  where
    go : (ts : List (Tree Leaf)) → Stood J r.nodes r.children (e ∷ []) ts → Rooted J r e.node
    go ts (over {t = t} b d s) =
        record { tree = t; built = b; derives = subst (λ X. Derives J.tables (terminal J) X t) x d }

stopped : (J : Job) (r : Run) (a : Answer) → Stops a → Stands J (done a r)
stopped J r (Accepted root) s = absurd s
stopped J r (AcceptedEarly root i) s = absurd s
stopped J r (UnrecognizedToken i t) s = absurd s
stopped J r (UnrecognizedEnd l t) s = absurd s
stopped J r (ExtraToken i) s = absurd s
stopped J r (TokenizerError i) s = absurd s
stopped J r OutOfUnits s = absurd s
stopped J r OutOfDepth s = tt
stopped J r OutOfChildren s = tt
stopped J r OutOfNodes s = tt
stopped J r OutOfRecords s = tt

-- the answer of a formed error makes no claim
formed_stands : (J : Job) (r : Run) (f : Formed) → Stands J (done (answer_of f) r)
unfolding answer_of
formed_stands J r f = pick_case (λ a. Stands J (done a r)) (eqb f.number 3) _ _ (λ t. tt) (λ t. tt)

pub stands : {J : Job} {r : Run} {o : Outcome} → Fits J → OK J r → Standing J r → Does J r o → Stands J o
unfolding grow
stands {J} {r} F ok st (stops {a = a} s) = stopped J _ a s
stands {J} {r} F ok st (shifts {s = s} e h a) =
    let next : Standing J (advanced (grow (counted r) r.stack (token_entry J (counted r) s) [] [] main) main) =
    (leaf (token r.next) ∷ st.0, stood_shift {r = counted r} F (counted_ok ok) st.1 s h) in
    arrive_keeps (Stands J) J _ next (λ l. next) tt (λ l. tt)
stands {J} {r} F ok st (reduces {p = p} e l d) =
    (branch (suc p) (forest_of (take (size J.tables (suc p)) st.0) nil) ∷ drop (size J.tables (suc p)) st.0, stood_reduce {r = counted r} F (counted_ok ok) st.1 (suc p) _ _ refl refl d)
stands {J} {r} F ok st (accepts {e = e} m h q x) = rooted e q x st
stands {J} {r} F ok st (extra m h q) = tt
stands {J} {r} F ok st (refuses m h) = formed_stands J _ _
stands {J} {r} F ok st (forms m h) = st
stands {J} {r} F ok st (early {e = e} m q x) = rooted e q x st
stands {J} {r} F ok st (turns f c d m) = st
stands {J} {r} F ok st (drops f c h) = arrive_keeps (Stands J) J _ st (λ l. st) tt (λ l. tt)
stands {J} {r} F ok st (gives_up f c h) = formed_stands J _ f
stands {J} {r} F ok st (marks f k c l a) =
    (leaf (mark (length r.marks)) ∷ drop k st.0, stood_mark {r = counted r} F (counted_ok ok) st.1 _ k)

pub begin_stands : (J : Job) → Stands J (begin J)
unfolding begin first_run
begin_stands J = go (J.depth_fits 1)
  where
    go : (b : Bool) → Stands J (need b OutOfDepth (first_run J) (arrive J (first_run J)))
    go true = arrive_keeps (Stands J) J (first_run J) ([], bare) (λ l. ([], bare)) tt (λ l. tt)
    go false = tt
