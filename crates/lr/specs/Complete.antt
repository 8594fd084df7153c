-- The plain driver is complete: every derivation's token list is accepted, with that tree; so no list has two derivation trees.
-- The steps of `Small` are steps of the machine of `rules` with flag 0, no limits and kind t read as column t.
use Rattle.std.specs.Prelude.{Bool, true, false, List, [], ◌∷◌, ◌≡◌, refl, ℕ, zero, suc, ◌+◌, ◌-◌, ◌≤◌, ◌<◌, length, get_or}
use Rattle.std.proofs.Common.{⊎_elim, sym, ap, subst, ◌∙◌, suc-add, add-one, arith, ltb-true, lt-ltb, le-ltb, ne_eqb}
use Rattle.std.proofs.Math.Logic.{by_cases}
use Rattle.std.proofs.Math.Decide.{dec_le}
use Rattle.rules.specs.declared.Token.{Token}
use Rattle.rules.specs.declared.Cell.{Cell}
use Rattle.rules.specs.declared.Cell.TheVariants.{Shift, Reduce}
use Rattle.rules.specs.declared.StateNo.{StateNo}
use Rattle.rules.specs.declared.Entry.{Entry}
use Rattle.rules.specs.declared.Answer.{Answer}
use Rattle.rules.specs.declared.Answer.TheVariants.{Accepted, OutOfUnits, OutOfDepth}
use Rattle.rules.specs.Tables.{Tables, kinds, end_column, action}
use Rattle.rules.specs.Driving.{Job, Run, main, Outcome, more, done, Node, top_state, top_of, root_of, no_token, token_at, has_token, look_column, counted, read_to, advanced, grow, need, judge_kind, arrive, token_entry, shift, main_reduce, main_look, states_of, look, step, run_from, first_run, begin, drive}
use Rattle.rules.specs.Trees.{Tree, leaf, Forest, Leaf, token, leaves_t, leaves_f, Derives, DerivesAll, tree_at, reads, produces, none, then}
use Rattle.rules.specs.Plain.{plain_job, PlainAccepts}
use Rattle.lr.specs.Each.{Each}
use Rattle.lr.specs.Bools.{whether, pick_true, pick_false}
use Rattle.lr.specs.Invariant.{Fits, OK, counted_ok, top_of_states, column_of_token, column_at_end, StaysOK, stays, begins_ok, shifts}
use Rattle.lr.specs.Built.{Built}
use Rattle.lr.specs.Stands.{kind_in, terminal, Stood, bare, over, stood_shift}
use Rattle.lr.specs.Sound.{in_order, Derivation}
use Rattle.lr.specs.Small.{column_of, Config, config, Step, Steps, stay, go, SmallAccepts}

-- ---- the leaves of a derivation are terminals

mutual
  pub leaves_in : {A : Type 0} {T : Tables} {kind : A → ℕ} {X : ℕ} {t : Tree A} → Derives T kind X t → (w : List A) → Each (λ x. kind x ≤ kinds T) w → Each (λ x. kind x ≤ kinds T) (leaves_t t w)
  leaves_in {T = T} (reads e h) w a = (subst (λ k. k ≤ kinds T) (sym e) h, a)
  leaves_in (produces h e d) w a = forest_in d w a

  pub forest_in : {A : Type 0} {T : Tables} {kind : A → ℕ} {β : List ℕ} {f : Forest A} → DerivesAll T kind β f → (w : List A) → Each (λ x. kind x ≤ kinds T) w → Each (λ x. kind x ≤ kinds T) (leaves_f f w)
  forest_in none w a = a
  forest_in (then {f = f} d ds) w a = leaves_in d (leaves_f f w) (forest_in ds w a)

-- every token is of a kind that the plain driver reads
abbrev pub Readable : Tables → List Token → Type 0
Readable T tokens = (i : ℕ) → i < length tokens → (get_or tokens i no_token).kind ≤ kinds T

in_order_in : (P : Leaf → Type 0) (i n : ℕ) → Each P (in_order i n) → (k : ℕ) → k < n → P (token (i + k))
in_order_in P i zero a k h = absurd (omega arith)
in_order_in P i (suc n) a zero h = let e : i + 0 ≡ i = omega arith in rw e a.0
in_order_in P i (suc n) a (suc k) h = let e : i + suc k ≡ suc i + k = omega arith in rw e (in_order_in P (suc i) n a.1 k (omega arith))

pub readable : {T : Tables} {tokens : List Token} {tree : Tree Leaf} → Derivation T tokens tree → Readable T tokens
readable {T} {tokens} {tree} d i h =
    let P : Leaf → Type 0 = λ x. kind_in T tokens x ≤ kinds T in
    let a : Each P (in_order 0 (length tokens)) = subst (Each P) d.order (leaves_in d.derives [] tt) in
    let e : 0 + i ≡ i = omega arith in
    subst (λ k. P (token k)) e (in_order_in P 0 (length tokens) a i h)

-- ---- a step in small is a step of the machine

-- a job that no limit stops, over passing tables, whose tokens are all read
pub record Free (J : Job) : Type 0 where
  pub fits : Fits J
  pub depth_fits_law : (n : ℕ) → J.depth_fits n ≡ true
  pub children_fit_law : (n : ℕ) → J.children_fit n ≡ true
  pub nodes_fit_law : (n : ℕ) → J.nodes_fit n ≡ true
  pub all_read : (i : ℕ) → i < length J.tokens → J.reads (token_at J i).kind ≡ true

-- a run of the machine in the main loop, seen in small
pub record Shadows (J : Job) (r : Run) (c : Config Leaf) : Type 0 where
  pub ok : OK J r
  pub in_main : r.mode ≡ main
  pub states : states_of r.stack ≡ c.states
  pub stood : Stood J r.nodes r.children r.stack c.trees
  pub ahead : ℕ
  pub place : r.next + ahead ≡ length J.tokens
  pub input : in_order r.next ahead ≡ c.input

-- every token that is read is one of the rules
arrives : {J : Job} → Free J → (r : Run) → (l : ℕ) × (arrive J r ≡ more (read_to r l))
unfolding arrive judge_kind
arrives {J} F r = ⊎_elim reads_it at_end_law (whether (has_token J r))
  where
    at_end_law : has_token J r ≡ false → (l : ℕ) × (arrive J r ≡ more (read_to r l))
    at_end_law h = (r.last, pick_false _ _ h)

    reads_it : has_token J r ≡ true → (l : ℕ) × (arrive J r ≡ more (read_to r l))
    reads_it h =
        let i : r.next < length J.tokens = ltb-true r.next (length J.tokens) h in
        let k : (token_at J r.next).kind ≤ kinds J.tables = F.fits.reads_in _ (F.all_read r.next i) in
        let few : kinds J.tables ≤ 254 = F.fits.laws.few_kinds in
        ((token_at J r.next).end, pick_true _ _ h ∙ (pick_false _ _ (ne_eqb (token_at J r.next).kind 65535 (λ e. omega arith)) ∙ pick_true _ _ (F.all_read r.next i)))

pub step_main : (J : Job) (r : Run) (b : Bool) (c : Cell) → r.mode ≡ main → has_token J r ≡ b → action J.tables (top_state r.stack) (look_column J r) ≡ c
    → step J r ≡ main_look J (counted r) b c
unfolding step look look_column
step_main J r b c e h a = ap (look J (counted r)) e ∙ (ap (λ x. main_look J (counted r) x (action J.tables (top_state r.stack) (look_column J r))) h ∙ ap (main_look J (counted r) b) a)

pub need_true : {b : Bool} (a : Answer) (r : Run) (o : Outcome) → b ≡ true → need b a r o ≡ o
need_true a r o e = rw e

pub top_is : {J : Job} {r : Run} {c : Config Leaf} → Shadows J r c → top_state r.stack ≡ top_of c.states
top_is {r = r} sh = sym (top_of_states r.stack) ∙ ap top_of sh.states

-- what is ahead decides whether there is a lookahead token
token_ahead : (J : Job) (r : Run) (k : ℕ) → r.next + suc k ≡ length J.tokens → has_token J r ≡ true
token_ahead J r k e = lt-ltb r.next (length J.tokens) (omega arith)

no_token_ahead : (J : Job) (r : Run) → r.next + 0 ≡ length J.tokens → has_token J r ≡ false
no_token_ahead J r e = le-ltb r.next (length J.tokens) (omega arith)

pub column_is : {J : Job} {r : Run} {c : Config Leaf} → Shadows J r c → look_column J r ≡ column_of J.tables (terminal J) c.input
column_is {J} {r} {c} sh = by sh.ahead sh.place sh.input
  where
    by : (k : ℕ) → r.next + k ≡ length J.tokens → in_order r.next k ≡ c.input → look_column J r ≡ column_of J.tables (terminal J) c.input
    by zero p i = column_at_end J r (no_token_ahead J r p) ∙ ap (column_of J.tables (terminal J)) i
    by (suc k) p i = column_of_token J r (token_ahead J r k p) ∙ ap (column_of J.tables (terminal J)) i

pub record Simulated (J : Job) (r : Run) (d : Config Leaf) : Type 0 where
  pub run : Run
  pub stepped : step J r ≡ more run
  pub shadows : Shadows J run d

pub simulate_shift : {J : Job} → Free J → {r : Run} {ss : List ℕ} {ts : List (Tree Leaf)} {x : Leaf} {w : List Leaf} (s : ℕ) → Shadows J r (config ss ts (x ∷ w))
    → action J.tables (top_of ss) (terminal J x) ≡ Shift (record { 0 = s }) → Simulated J r (config (s ∷ ss) (leaf x ∷ ts) w)
unfolding main_look shift grow token_entry
simulate_shift {J} F {r} {ss} {ts} {x} {w} s sh a = by sh.ahead sh.place sh.input
  where
    Here : Type 0
    Here = Simulated J r (config (s ∷ ss) (leaf x ∷ ts) w)

    n : StateNo
    n = record { 0 = s }

    next : Run
    next = advanced (grow (counted r) r.stack (token_entry J (counted r) n) [] [] main) main

    by : (k : ℕ) → r.next + k ≡ length J.tokens → in_order r.next k ≡ x ∷ w → Here
    by zero p i = let z : ◌≡◌ {A = ℕ} 0 1 = cc in absurd (omega arith)
    by (suc k) p i =
        let h : has_token J r ≡ true = token_ahead J r k p in
        let c : action J.tables (top_state r.stack) (look_column J r) ≡ Shift n = rw (top_is sh, column_is sh) a in
        let b : action J.tables (top_state r.stack) (token_at J r.next).kind ≡ Shift n = rw (column_of_token J r h) at c in
        let q = arrives F next in
        let e : step J r ≡ more (read_to next q.0) =
        step_main J r true (Shift n) sh.in_main h c
        ∙ (need_true _ _ _ (F.depth_fits_law _) ∙ (need_true _ _ _ (F.nodes_fit_law _) ∙ q.1)) in
        let first : token r.next ≡ x = cc in
        let rest : in_order (suc r.next) k ≡ w = cc in
        record {
          run = read_to next q.0;
          stepped = e;
          shadows = record {
            ok = subst (StaysOK J) q.1 (stays F.fits sh.ok (shifts {s = n} sh.in_main h b));
            in_main = refl;
            states = ap {B = List ℕ} (λ l. s ∷ l) sh.states;
            stood = subst (λ y. Stood J next.nodes next.children next.stack (leaf y ∷ ts)) first (stood_shift {r = counted r} F.fits (counted_ok sh.ok) sh.stood n h);
            ahead = k;
            place = omega arith;
            input = rw add-one rest;
          };
        }

-- ---- runs, look by look, and then with their number

pub data Gets (J : Job) : Run → Run → Type 0 where
  here : {r : Run} → Gets J r r
  next : {r s t : Run} → step J r ≡ more s → Gets J s t → Gets J r t

pub counted_out : {J : Job} {r s : Run} (a : Answer) (t : Run) → Gets J r s → step J s ≡ done a t → (n : ℕ) × (run_from J n (more r) ≡ done a t)
unfolding run_from
counted_out {J} a t here e = (suc zero, ap (run_from J zero) e)
counted_out {J} a t (next q l) e = let r = counted_out a t l e in (suc r.0, ap (run_from J r.0) q ∙ r.1)

-- ---- acceptance

pub root_built : {J : Job} {ns : List Node} {cs : List ℕ} {es : List Entry} {t : Tree Leaf} {ts : List (Tree Leaf)} → Stood J ns cs es (t ∷ ts) → Built ns cs (root_of es) t
root_built (over b d s) = b

-- a job's run accepts with a tree
pub record Accepts (J : Job) (tree : Tree Leaf) : Type 0 where
  pub looks : ℕ
  pub root : ℕ
  pub run : Run
  pub accepted : drive J looks ≡ done (Accepted root) run
  pub built : Built run.nodes run.children root tree

pub begins_free : {J : Job} → Free J → (l : ℕ) × (begin J ≡ more (read_to (first_run J) l))
unfolding begin
begins_free {J} F = let q = arrives F (first_run J) in (q.0, need_true OutOfDepth (first_run J) (arrive J (first_run J)) (F.depth_fits_law 1) ∙ q.1)

pub first_shadow : {J : Job} → Free J → (l : ℕ) → begin J ≡ more (read_to (first_run J) l) → Shadows J (read_to (first_run J) l) (config [] [] (in_order 0 (length J.tokens)))
unfolding first_run
first_shadow {J} F l e =
    record {
      ok = subst (StaysOK J) e (begins_ok J);
      in_main = refl;
      states = refl;
      stood = bare;
      ahead = length J.tokens;
      place = omega arith;
      input = refl;
    }

pub ends_accepted : {J : Job} {r : Run} {t : Tree Leaf} (s : ℕ) → Shadows J r (config (s ∷ []) (t ∷ []) []) → action J.tables s (end_column J.tables) ≡ Reduce (record { 0 = 0 })
    → step J r ≡ done (Accepted (root_of r.stack)) (counted r)
unfolding main_look main_reduce
ends_accepted {J} {r} {t} s sh a = by sh.ahead sh.place sh.input
  where
    c : action J.tables (top_state r.stack) (look_column J r) ≡ Reduce (record { 0 = 0 })
    c = rw (top_is sh, column_is sh) a

    by : (k : ℕ) → r.next + k ≡ length J.tokens → in_order r.next k ≡ [] → step J r ≡ done (Accepted (root_of r.stack)) (counted r)
    by zero p i = step_main J r false (Reduce (record { 0 = 0 })) sh.in_main (no_token_ahead J r p) c
    by (suc k) p i = let z : ◌≡◌ {A = ℕ} 0 1 = cc in absurd (omega arith)

-- ---- the plain driver in small accepts the same lists with the same trees

read_before : {A : Type 0} {T : Tables} {kind : A → ℕ} {c d : Config A} → Steps T kind c d → Each (λ x. kind x ≤ kinds T) d.input → Each (λ x. kind x ≤ kinds T) c.input
read_before stay a = a
read_before (go (Step.shift h c) l) a = (h, read_before l a)
read_before (go (Step.reduce c h g) l) a = read_before l a

pub small_readable : {T : Tables} (tokens : List Token) {t : Tree Leaf} → SmallAccepts T (kind_in T tokens) (in_order 0 (length tokens)) t → Readable T tokens
small_readable {T} tokens s i h =
    let P : Leaf → Type 0 = λ x. kind_in T tokens x ≤ kinds T in
    let e : 0 + i ≡ i = omega arith in
    subst (λ k. P (token k)) e (in_order_in P 0 (length tokens) (read_before s.way tt) i h)

-- ---- one tree for a list

-- an answer that is no 19 stays as it is with more looks allowed
pub ended : (J : Job) (n : ℕ) (a : Answer) (r : Run) → run_from J n (done a r) ≡ done a r
unfolding run_from
ended J zero a r = refl
ended J (suc n) a r = refl

pub enough_looks : (J : Job) (n k : ℕ) (o : Outcome) (a : Answer) (r : Run) → (OutOfUnits ≡ a → ⊥) → run_from J n o ≡ done a r → run_from J (n + k) o ≡ done a r
unfolding run_from
enough_looks J zero k (done b s) a r ne e = ended J (0 + k) b s ∙ e
enough_looks J zero k (more s) a r ne e = absurd (ne (cc))
enough_looks J (suc n) k (done b s) a r ne e = ended J (suc n + k) b s ∙ e
enough_looks J (suc n) k (more s) a r ne e = rw suc-add (enough_looks J n k (step J s) a r ne e)

not_19 : (root : ℕ) → ◌≡◌ {A = Answer} OutOfUnits (Accepted root) → ⊥
not_19 root e = let z : ◌≡◌ {A = ℕ} 0 1 = cc in omega arith

same_end : (J : Job) (n k : ℕ) (o : Outcome) (a b : ℕ) (r s : Run) → run_from J n o ≡ done (Accepted a) r → run_from J k o ≡ done (Accepted b) s → n ≤ k → (a ≡ b) × (r ≡ s)
same_end J n k o a b r s e f h =
    let q : n + (k - n) ≡ k = omega arith in
    let g : run_from J k o ≡ done (Accepted a) r = rw q at (enough_looks J n (k - n) o (Accepted a) r (not_19 a) e) in
    (cc, cc)

pub one_end : (J : Job) (n k : ℕ) (o : Outcome) (a b : ℕ) (r s : Run) → run_from J n o ≡ done (Accepted a) r → run_from J k o ≡ done (Accepted b) s → (a ≡ b) × (r ≡ s)
one_end J n k o a b r s e f =
    by_cases (dec_le n k) (λ h. same_end J n k o a b r s e f h)
    (λ h. let g = same_end J k n o b a s r f e (omega arith) in (sym g.0, sym g.1))

-- the plain driver accepts a list with one tree only
pub one_reading : (T : Tables) (tokens : List Token) (origin : ℕ) (t u : Tree Leaf) → PlainAccepts T tokens origin t → PlainAccepts T tokens origin u → t ≡ u
unfolding drive
one_reading T tokens origin t u a b =
    let J : Job = plain_job T tokens origin in
    let e = one_end J a.looks b.looks (begin J) a.root b.root a.run b.run a.accepted b.accepted in
    let root : a.root ≡ b.root = e.0 in
    let run : a.run ≡ b.run = e.1 in
    sym a.built ∙ (λ i. tree_at (run i).nodes (run i).children (root i)) ∙ b.built
