-- Demand 3's last sentence: where the plain driver accepts a list of user kinds, a call that no limit stops gives the same tree,
-- with no mark and no record. Look by look the two runs do the same, or a limit stops the one, or the other has refused.
use Rattle.std.specs.Prelude.{Bool, ◌⊎◌, ◌≡◌, refl, eqb, leb, get_or, take, drop}
use Rattle.std.proofs.Math.Bool.{true, false}
use mathlib.Core.List.{List, []}
use Rattle.std.proofs.Common.{inl, inr, ⊎_elim, sym, ap, ◌∙◌, arith, lit≤, ltb-true, le-leb}
use Rattle.std.proofs.Math.Path.{subst}
use Prim.Native.Nat.{ℕ, zero, suc, ◌+◌, ◌≤◌, ◌<◌}
use Rattle.std.proofs.Math.ListN.{length}
use Rattle.words.specs.Words.{pick}
use Rattle.words.specs.Laws.{pick_case}
use Rattle.rules.specs.declared.Token.{Token}
use Rattle.rules.specs.declared.Cell.{Cell}
use Rattle.rules.specs.declared.Cell.TheVariants.{Shift, Reduce, Error}
use Rattle.rules.specs.declared.Formed.{Formed}
use Rattle.rules.specs.declared.Answer.{Answer}
use Rattle.rules.specs.declared.Answer.TheVariants.{Accepted, UnrecognizedToken, TokenizerError, OutOfUnits, OutOfDepth, OutOfChildren, OutOfNodes}
use Rattle.rules.specs.Tables.{Tables, kinds, size, action}
use Rattle.rules.specs.Driving.{Job, Run, main, Outcome, more, done, top_state, depth_over, no_token, token_at, has_token, look_column, counted, read_to, advanced, grow, need, judge_kind, arrive, token_entry, shift, empty_spot, production_entry, reduce_over, reduce, main_reduce, formed, answer_of, fail, main_look, look, step, run_from, first_run, begin, drive}
use Rattle.rules.specs.Trees.{Tree, Leaf, leaves, tree_at}
use Rattle.rules.specs.Answers.{number_of, Limits, job_of}
use Rattle.rules.specs.Plain.{plain_job}
use Rattle.lr.specs.Bools.{whether, pick_true, pick_false}
use Rattle.lr.specs.Invariant.{arrive_keeps}
use Rattle.lr.specs.Sound.{Unmarked, in_order}
use Rattle.lr.specs.Complete.{ended}

-- a job with flag 0, no limits, and kind t read as column t
abbrev pub freed : Job → Job
freed J =
    record {
      tables = J.tables;
      tokens = J.tokens;
      origin = J.origin;
      recovers = false;
      reads = λ k. leb k (kinds J.tables);
      depth_fits = λ n. true;
      children_fit = λ n. true;
      nodes_fit = λ n. true;
      records_fit = λ n. true;
    }

pub freed_call : (T : Tables) (tokens : List Token) (origin : ℕ) (L : Limits) → freed (job_of T tokens origin L) ≡ plain_job T tokens origin
unfolding plain_job job_of
freed_call T tokens origin L = refl

-- the job reads all its tokens, and so does the plain driver
abbrev pub AllRead : Job → Type 0
AllRead J = (i : ℕ) → i < length J.tokens → (J.reads (token_at J i).kind ≡ true) × ((token_at J i).kind ≤ kinds J.tables)

abbrev MainOn : Outcome → Type 0
MainOn (more r) = r.mode ≡ main
MainOn (done a r) = Unit

-- an outcome of the plain driver beside that of the job
data Alike : Outcome → Outcome → Type 0 where
  same : {o : Outcome} → MainOn o → Alike o o
  limited : {o : Outcome} {a : Answer} {r : Run} → 19 ≤ number_of a → Alike o (done a r)
  refused : {o : Outcome} {a : Answer} {r : Run} → ((root : ℕ) → a ≡ Accepted root → ⊥) → Alike (done a r) o

alike_need : {o q : Outcome} (b : Bool) (a : Answer) (r : Run) → 19 ≤ number_of a → Alike o q → Alike o (need b a r q)
alike_need true a r l h = h
alike_need false a r l h = limited l

-- the answer of a formed error is not 1
formed_refused : (f : Formed) (root : ℕ) → answer_of f ≡ Accepted root → ⊥
unfolding answer_of
formed_refused f root =
    pick_case (λ a. a ≡ Accepted root → ⊥) (eqb f.number 3) _ _ (λ t e. let z : ◌≡◌ {A = ℕ} 0 1 = cc in omega arith) (λ t e. let z : ◌≡◌ {A = ℕ} 0 1 = cc in omega arith)

judge_same : (J : Job) → AllRead J → (r : Run) → r.next < length J.tokens → judge_kind (freed J) r (token_at J r.next) ≡ judge_kind J r (token_at J r.next)
unfolding judge_kind
judge_same J R r h =
    let q = R r.next h in
    let e : leb (token_at J r.next).kind (kinds J.tables) ≡ J.reads (token_at J r.next).kind = le-leb (token_at J r.next).kind (kinds J.tables) q.1 ∙ sym q.0 in
    ap (λ b. pick (eqb (token_at J r.next).kind 65535) (done (TokenizerError r.next) r)
    (pick b (more (read_to r (token_at J r.next).end)) (done (UnrecognizedToken r.next (record { 0 = top_state r.stack })) (read_to r (token_at J r.next).end)))) e

arrive_same : (J : Job) → AllRead J → (r : Run) → arrive (freed J) r ≡ arrive J r
unfolding arrive
arrive_same J R r =
    ⊎_elim
    (λ h. pick_true (judge_kind (freed J) r (token_at J r.next)) (more r) h ∙ (judge_same J R r (ltb-true r.next (length J.tokens) h) ∙ sym (pick_true (judge_kind J r (token_at J r.next)) (more r) h)))
    (λ h. pick_false (judge_kind (freed J) r (token_at J r.next)) (more r) h ∙ sym (pick_false (judge_kind J r (token_at J r.next)) (more r) h))
    (whether (has_token J r))

arrive_alike : (J : Job) → AllRead J → (r : Run) → r.mode ≡ main → Alike (arrive (freed J) r) (arrive J r)
arrive_alike J R r m = subst (λ o. Alike o (arrive J r)) (sym (arrive_same J R r)) (same (arrive_keeps MainOn J r m (λ l. m) tt (λ l. tt)))

module _ (J : Job) (R : AllRead J) (r : Run) where
  reduce_alike : (token : Bool) (p : ℕ) → Alike (main_reduce (freed J) (counted r) token p) (main_reduce J (counted r) token p)
  unfolding main_reduce reduce reduce_over production_entry empty_spot grow
  reduce_alike true zero = same tt
  reduce_alike false zero = same tt
  reduce_alike token (suc p) =
      let n : ℕ = size J.tables (suc p) in
      alike_need (J.depth_fits (depth_over (drop n r.stack))) OutOfDepth (counted r) (lit≤ tt)
      (alike_need (J.children_fit (length r.children + length (take n r.stack))) OutOfChildren (counted r) (lit≤ tt)
      (alike_need (J.nodes_fit (length r.nodes + 1)) OutOfNodes (counted r) (lit≤ tt) (same refl)))

  look_alike : (token : Bool) (c : Cell) → Alike (main_look (freed J) (counted r) token c) (main_look J (counted r) token c)
  unfolding main_look fail shift token_entry grow
  look_alike true (Shift s) =
      alike_need (J.depth_fits (depth_over r.stack)) OutOfDepth (counted r) (lit≤ tt)
      (alike_need (J.nodes_fit (length r.nodes + 1)) OutOfNodes (counted r) (lit≤ tt)
      (arrive_alike J R (advanced (grow (counted r) r.stack (token_entry J (counted r) s) [] [] main) main) refl))
  look_alike false (Shift s) = refused (formed_refused (formed (counted r) false))
  look_alike token Error = refused (formed_refused (formed (counted r) token))
  look_alike token (Reduce p) = reduce_alike token p.0

  -- a step of the main loop
  step_alike : r.mode ≡ main → Alike (step (freed J) r) (step J r)
  unfolding step look look_column
  step_alike m = subst (λ x. Alike (look (freed J) (counted r) x) (look J (counted r) x)) (sym m) (look_alike (has_token J r) (action J.tables (top_state r.stack) (look_column J r)))

-- ---- the runs

-- where the plain run accepts, the job's run is stopped by a limit, or accepts the same
abbrev Ends : Outcome → Answer → Run → Type 0
Ends o a r = (19 ≤ number_of a) ⊎ (o ≡ done a r)

stopped_by : (J : Job) (n : ℕ) (b : Answer) (t : Run) (a : Answer) (r : Run) → 19 ≤ number_of b → run_from J n (done b t) ≡ done a r → 19 ≤ number_of a
stopped_by J n b t a r l f = let k = ended J n b t in let e : b ≡ a = cc in rw e at l

both_end : (J P : Job) (n m : ℕ) (b : Answer) (t : Run) (o q : Outcome) → run_from P m (done b t) ≡ o → run_from J n (done b t) ≡ q → o ≡ q
both_end J P n m b t o q e f = let k = ended J n b t in let l = ended P m b t in cc

not_accepted : (P : Job) (m : ℕ) (b : Answer) (t : Run) (root : ℕ) (s : Run) → ((root : ℕ) → b ≡ Accepted root → ⊥) → run_from P m (done b t) ≡ done (Accepted root) s → ⊥
not_accepted P m b t root s ne e = let k = ended P m b t in ne root (cc)

alike_run : (J : Job) → AllRead J → (n m : ℕ) {o q : Outcome} (root : ℕ) (s : Run) (a : Answer) (r : Run) → Alike o q
    → run_from (freed J) m o ≡ done (Accepted root) s → run_from J n q ≡ done a r → Ends (done (Accepted root) s) a r
unfolding run_from
alike_run J R zero m root s a r (same {o = more x} h) e f = let k : OutOfUnits ≡ a = cc in inl (subst (λ b. 19 ≤ number_of b) k (lit≤ tt))
alike_run J R zero m root s a r (same {o = done b t} h) e f = inr (both_end J (freed J) zero m b t _ _ e f)
alike_run J R zero m root s a r (limited {a = b} {r = t} l) e f = inl (stopped_by J zero b t a r l f)
alike_run J R zero m root s a r (refused {a = b} {r = t} ne) e f = absurd (not_accepted (freed J) m b t root s ne e)
alike_run J R (suc n) zero root s a r (same {o = more x} h) e f = let z : ◌≡◌ {A = ℕ} 0 1 = cc in absurd (omega arith)
alike_run J R (suc n) (suc m) root s a r (same {o = more x} h) e f = alike_run J R n m root s a r (step_alike J R x h) e f
alike_run J R (suc n) m root s a r (same {o = done b t} h) e f = inr (both_end J (freed J) (suc n) m b t _ _ e f)
alike_run J R (suc n) m root s a r (limited {a = b} {r = t} l) e f = inl (stopped_by J (suc n) b t a r l f)
alike_run J R (suc n) m root s a r (refused {a = b} {r = t} ne) e f = absurd (not_accepted (freed J) m b t root s ne e)

begin_alike : (J : Job) → AllRead J → Alike (begin (freed J)) (begin J)
unfolding begin first_run
begin_alike J R = alike_need (J.depth_fits 1) OutOfDepth (first_run J) (lit≤ tt) (arrive_alike J R (first_run J) refl)

pub drive_alike : (J : Job) → AllRead J → (n m root : ℕ) (s : Run) (a : Answer) (r : Run) → drive (freed J) m ≡ done (Accepted root) s → drive J n ≡ done a r → Ends (done (Accepted root) s) a r
unfolding drive
drive_alike J R n m root s a r e f = alike_run J R n m root s a r (begin_alike J R) e f

-- ---- the call

-- "user kinds only"
abbrev pub UserKinds : Tables → List Token → Type 0
UserKinds T tokens = (i : ℕ) → i < length tokens → (get_or tokens i no_token).kind < kinds T

-- answer 1 with this tree, all of whose leaves are tokens, in order; no mark among the nodes, and no record
pub record SameTree (tokens : List Token) (tree : Tree Leaf) (a : Answer) (r : Run) : Type 0 where
  pub root : ℕ
  pub accepted : a ≡ Accepted root
  pub tree_there : tree_at r.nodes r.children root ≡ tree
  pub all_tokens : leaves tree ≡ in_order 0 (length tokens)
  pub no_mark_law : Unmarked r.nodes
  pub no_record : r.marks ≡ []

pub carried : (tokens : List Token) (tree : Tree Leaf) (a : Answer) (r : Run) (root : ℕ) (s : Run) → done (Accepted root) s ≡ done a r
    → tree_at s.nodes s.children root ≡ tree → leaves tree ≡ in_order 0 (length tokens) → Unmarked s.nodes → s.marks ≡ [] → SameTree tokens tree a r
carried tokens tree a r root s k b o u n =
    let e : s ≡ r = cc in
    record {
      root = root;
      accepted = cc;
      tree_there = subst (λ x. tree_at x.nodes x.children root ≡ tree) e b;
      all_tokens = o;
      no_mark_law = subst (λ x. Unmarked x.nodes) e u;
      no_record = subst (λ x. x.marks ≡ []) e n;
    }
