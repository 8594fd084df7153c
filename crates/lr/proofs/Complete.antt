-- The plain driver is complete: every derivation's token list is accepted, with that tree; so no list has two derivation trees.
use Rattle.std.specs.Prelude.{List, [], ◌∷◌, ◌≡◌, refl, ℕ, suc, length, get_or, take, drop}
use Rattle.std.proofs.Common.{sym, ap, subst, ◌∙◌, leb-true, le-leb}
use Rattle.rules.specs.declared.Token.{Token}
use Rattle.rules.specs.declared.Cell.TheVariants.{Shift, Reduce}
use Rattle.rules.specs.declared.Entry.{Entry}
use Rattle.rules.specs.declared.Answer.TheVariants.{Accepted}
use Rattle.rules.specs.Verdict.{Passes}
use Rattle.rules.specs.Tables.{Tables, kinds, action, goto, target, left, size}
use Rattle.rules.specs.Check.{check}
use Rattle.rules.specs.Driving.{Job, Run, main, more, done, top_state, top_of, root_of, no_token, has_token, look_column, counted, grow, production_entry, nodes_of, reduce_over, reduce, main_reduce, main_look, states_of, step, run_from, drive}
use Rattle.rules.specs.Trees.{Tree, branch, nil, Leaf}
use Rattle.rules.specs.Plain.{plain_job, PlainAccepts}
use Rattle.lr.specs.Checked.{laws}
use Rattle.lr.proofs.Stack.{reducible}
use Rattle.lr.specs.Invariant.{counted_ok, map_drop, top_of_states, stays, reduces}
use Rattle.lr.specs.Built.{built_tree}
use Rattle.lr.specs.Stands.{kind_in, terminal, forest_of, stood_reduce}
use Rattle.lr.specs.Sound.{in_order, Derivation}
use Rattle.lr.specs.Small.{column_of, Config, config, Step, Steps, stay, go, SmallAccepts, small_complete}
use Rattle.lr.specs.Complete.{Accepts, Free, Gets, Readable, Shadows, Simulated, begins_free, column_is, counted_out, ends_accepted, first_shadow, here, need_true, next, one_reading, root_built, simulate_shift, small_readable, step_main, top_is}

-- ---- a step in small is a step of the machine

simulate_reduce_law : {J : Job} → Free J → {r : Run} {ss : List ℕ} {ts : List (Tree Leaf)} {w : List Leaf} (p s : ℕ) → Shadows J r (config ss ts w)
    → action J.tables (top_of ss) (column_of J.tables (terminal J) w) ≡ Reduce (record { 0 = suc p })
    → goto J.tables (top_of (drop (size J.tables (suc p)) ss)) (left J.tables (suc p)) ≡ Shift (record { 0 = s })
    → Simulated J r (config (s ∷ drop (size J.tables (suc p)) ss) (branch (suc p) (forest_of (take (size J.tables (suc p)) ts) nil) ∷ drop (size J.tables (suc p)) ts) w)
unfolding main_look main_reduce reduce reduce_over grow production_entry
simulate_reduce_law {J} F {r} {ss} {ts} {w} p s sh a g =
    let n : ℕ = size J.tables (suc p) in
    let popped : List Entry = take n r.stack in
    let rest : List Entry = drop n r.stack in
    let next : Run = grow (counted r) rest (production_entry J (counted r) (suc p) popped rest) (nodes_of popped) [] main in
    let c : action J.tables (top_state r.stack) (look_column J r) ≡ Reduce (record { 0 = suc p }) = rw (top_is sh, column_is sh) a in
    let d = reducible F.fits.laws sh.ok.along (look_column J r) p (rw top_of_states c) in
    let e : step J r ≡ more next =
    step_main J r (has_token J r) (Reduce (record { 0 = suc p })) sh.in_main refl c
    ∙ (need_true _ _ _ (F.depth_fits_law _) ∙ (need_true _ _ _ (F.children_fit_law _) ∙ need_true _ _ _ (F.nodes_fit_law _))) in
    let below : states_of rest ≡ drop n ss = sym (map_drop (λ (x : Entry). x.state.0) n r.stack) ∙ ap (drop n) sh.states in
    let to : goto J.tables (top_state rest) (left J.tables (suc p)) ≡ Shift (record { 0 = s }) = ap (λ q. goto J.tables q (left J.tables (suc p))) (sym (top_of_states rest) ∙ ap top_of below) ∙ g in
    record {
      run = next;
      stepped = e;
      shadows = record {
        ok = stays F.fits sh.ok (reduces sh.in_main tt d);
        in_main = refl;
        states = λ i. target (to i) ∷ below i;
        stood = stood_reduce {r = counted r} F.fits (counted_ok sh.ok) sh.stood (suc p) popped rest refl refl d;
        ahead = sh.ahead;
        place = sh.place;
        input = sh.input;
      };
    }

pub simulate : {J : Job} → Free J → {r : Run} {c d : Config Leaf} → Step J.tables (terminal J) c d → Shadows J r c → Simulated J r d
simulate F (Step.shift {s = s} h a) sh = simulate_shift F s sh a
simulate F (Step.reduce {p = p} {s = s} a l g) sh = simulate_reduce_law F p s sh a g

-- ---- runs, look by look

pub simulate_all : {J : Job} → Free J → {r : Run} {c d : Config Leaf} → Steps J.tables (terminal J) c d → Shadows J r c → (s : Run) × Gets J r s × Shadows J s d
simulate_all F {r} stay sh = (r, here, sh)
simulate_all F {r = r} (go s l) sh =
    let m = simulate F s sh in
    let n = simulate_all F {r = m.run} l m.shadows in
    (n.0, next m.stepped n.1, n.2)

-- ---- acceptance

pub free_accepts : {J : Job} → Free J → (t : Tree Leaf) → SmallAccepts J.tables (terminal J) (in_order 0 (length J.tokens)) t → Accepts J t
unfolding drive
free_accepts {J} F t a =
    let b = begins_free F in
    let m = simulate_all F a.way (first_shadow F b.0 b.1) in
    let e : step J m.0 ≡ done (Accepted (root_of m.0.stack)) (counted m.0) = ends_accepted a.state m.2 a.at_end_law in
    let n = counted_out (Accepted (root_of m.0.stack)) (counted m.0) m.1 e in
    record {
      looks = n.0;
      root = root_of m.0.stack;
      run = counted m.0;
      accepted = ap (run_from J n.0) b.1 ∙ n.1;
      built = root_built m.2.stood;
    }

-- ---- the plain driver

pub plain_free : (T : Tables) (tokens : List Token) (origin : ℕ) → check T ≡ Passes → Readable T tokens → Free (plain_job T tokens origin)
unfolding plain_job
plain_free T tokens origin ok R =
    record {
      fits = record { laws = laws T ok; reads_in = λ k e. leb-true k (kinds T) e };
      depth_fits_law = λ n. refl;
      children_fit_law = λ n. refl;
      nodes_fit_law = λ n. refl;
      all_read = λ i h. le-leb (get_or tokens i no_token).kind (kinds T) (R i h);
    }

-- ---- the plain driver in small accepts the same lists with the same trees

pub small_plain : (T : Tables) (tokens : List Token) (origin : ℕ) (t : Tree Leaf) → check T ≡ Passes → SmallAccepts T (kind_in T tokens) (in_order 0 (length tokens)) t → PlainAccepts T tokens origin t
unfolding plain_job
small_plain T tokens origin t ok s =
    let a = free_accepts (plain_free T tokens origin ok (small_readable tokens s)) t s in
    record { looks = a.looks; root = a.root; run = a.run; accepted = a.accepted; built = built_tree a.built }

pub derivation_small : {T : Tables} {tokens : List Token} {t : Tree Leaf} → check T ≡ Passes → Derivation T tokens t → SmallAccepts T (kind_in T tokens) (in_order 0 (length tokens)) t
derivation_small {T} {tokens} {t} ok d = subst (λ w. SmallAccepts T (kind_in T tokens) w t) d.order (small_complete (laws T ok) d.derives)

pub complete : (T : Tables) (tokens : List Token) (origin : ℕ) (tree : Tree Leaf) → check T ≡ Passes → Derivation T tokens tree → PlainAccepts T tokens origin tree
complete T tokens origin tree ok d = small_plain T tokens origin tree ok (derivation_small ok d)

-- ---- one tree for a list

-- "no list has two derivation trees"
pub one_tree : (T : Tables) (tokens : List Token) (t u : Tree Leaf) → check T ≡ Passes → Derivation T tokens t → Derivation T tokens u → t ≡ u
one_tree T tokens t u ok d e = one_reading T tokens 0 t u (complete T tokens 0 t ok d) (complete T tokens 0 u ok e)
