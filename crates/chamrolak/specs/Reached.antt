-- From the byte model's run to what a call leaves: the refinement, in the words of `Exit`. And the numbers that serve a call.
use Rattle.std.specs.Prelude.{true, false, ◌&&◌, List, ◌∷◌, [], ◌≡◌, refl, ℕ, ◌+◌, ◌*◌, ◌/◌, ◌%◌, ◌<◌, ◌≤◌, ◌^◌, leb, eqb, length, get_or}
use Rattle.std.proofs.Common.{ap, sym, ◌∙◌, arith, leb-true}
use denote.Bor.{Bor}
use Rattle.words.specs.Words.{get16, word16, word32}
use Rattle.words.specs.Laws.{Bytes, get16_lt, pick_leb}
use Rattle.rules.specs.declared.Answer.{Answer}
use Rattle.rules.specs.Tables.{Tables, states, kinds, nonterminals, flag}
use Rattle.rules.specs.Basics.{all_below}
use Rattle.rules.specs.Verdict.{Passes, Refused}
use Rattle.rules.specs.Check.{check, ok18}
use Rattle.rules.specs.Driving.{Run}
use Rattle.rules.specs.Answers.{number_of, value_of, bytes_of, report_words, counts_of, Limits, Reply, after_check, drive_reply, parse_reply}
use Rattle.model.specs.declared.St.{St}
use Rattle.model.specs.Model.{Call, World}
use Rattle.moves.specs.Serving.{Serves}
use Rattle.moves.specs.Bounds.{Small}
use Rattle.tables.specs.Fit.{and_left, and_right}
use Rattle.tables.specs.Places.{call_tables}
use Rattle.moves.specs.declared.Given.{Given}
use Rattle.rooms.specs.declared.Rooms as lending
use Rattle.refine.specs.Tokens.{Rooms}
use Rattle.refine.specs.Theorem.{depth_of, call_of, ran_of, reply_refines}
use Rattle.driver.specs.Served.{served}
use Rattle.driver.specs.Served
use Rattle.report.specs.Report.{answer_words}
use Rattle.chamrolak.specs.declared.Returned.{Returned}
use Rattle.chamrolak.specs.Exit.{Lent, lent, limits_in, Leaves}

-- a call's slices, and its numbers read off them
abbrev pub given_of : List ℕ → Bor (List ℕ) → Bor (List ℕ) → Bor (List ℕ) → Bor (List ℕ) → ℕ → ℕ → Given
given_of sizes actions gotos productions tokens origin depth =
    record {
      actions = actions;
      gotos = gotos;
      productions = productions;
      tokens = tokens;
      states = word16 sizes 0;
      kinds = word16 sizes 2;
      nonterminals = word16 sizes 4;
      recovers = eqb (word16 sizes 10) 1;
      count = length tokens.now / 12;
      origin = origin;
      depth = depth;
    }

-- the rooms that a run uses
abbrev pub used : Lent → Rooms
used b =
    record { stack = b.stack; scratch = b.scratch; nodes = b.nodes; children = b.children; records = b.records }

-- the same of the code's rooms, and with a report beside them
abbrev pub rooms_in : lending.Rooms → Rooms
rooms_in r =
    record { stack = r.stack.now; scratch = r.scratch.now; nodes = r.nodes.now; children = r.children.now; records = r.records.now }

abbrev pub lent_in : lending.Rooms → List ℕ → Lent
lent_in r report = lent r.stack.now r.scratch.now r.nodes.now r.children.now r.records.now report

-- a run's words in a report are those of its answer and counts
report_same : (T : Tables) (a : Answer) (r : Run) (units nodes children records : ℕ) → counts_of r ≡ units ∷ nodes ∷ children ∷ records ∷ []
    → answer_words T a units nodes children records ≡ report_words T a r
unfolding answer_words report_words
report_same T a r units nodes children records e = rw e

-- what the run of the byte model has left, with its report and its numbers, is what the rules' reply leaves
pub leaves : (T : Tables) (tokens : List ℕ) (origin budget : ℕ) (b : Lent) (w : World) (r : Returned) (report : List ℕ)
    → ok18 tokens ≡ true → Bytes tokens → origin < 2 ^ 32 → budget < 2 ^ 32
    → w ≡ ran_of T tokens origin (used b) budget
    → r.number ≡ number_of w.st.answer
    → r.value ≡ value_of w.st.answer
    → report ≡ bytes_of (answer_words T w.st.answer w.st.units w.st.nodes w.st.children w.st.records)
    → Leaves T (drive_reply T tokens origin (limits_in b budget)) r b (lent w.stack w.scratch w.nodes w.children w.records report)
leaves T tokens origin budget b w r report ok bytes o u e n v p =
    let R = reply_refines T tokens origin budget (used b) ok bytes o u in
    let L = rw (← e) at R.left in
    rw R.is
    (record {
      numbered = n ∙ ap number_of L.answered;
      valued = v ∙ ap value_of L.answered;
      nodes_left = L.nodes;
      children_left_law = L.children;
      records_left = L.records;
      report_left =
          p ∙ ap bytes_of
          (report_same T w.st.answer R.run w.st.units w.st.nodes w.st.children w.st.records L.counts
          ∙ ap (λ (a : Answer). report_words T a R.run) L.answered);
    })

-- every count of a run's end is a 32-bit number
pub record Counted (s : St) : Type 0 where
  pub units : s.units < 2 ^ 32
  pub nodes : s.nodes < 2 ^ 32
  pub children : s.children < 2 ^ 32
  pub records : s.records < 2 ^ 32

pub counted : (T : Tables) (tokens : List ℕ) (origin budget : ℕ) (b : Rooms) (w : World) → ok18 tokens ≡ true → Bytes tokens → origin < 2 ^ 32
    → budget < 2 ^ 32 → w ≡ ran_of T tokens origin b budget → Counted w.st
unfolding counts_of
counted T tokens origin budget b w ok bytes o u e =
    let R = reply_refines T tokens origin budget b ok bytes o u in
    let L = rw (← e) at R.left in
    let c = L.counts in
    let units : R.run.units ≡ w.st.units = ap (λ (l : List ℕ). get_or l 0 0) c in
    let nodes : length R.run.nodes ≡ w.st.nodes = ap (λ (l : List ℕ). get_or l 1 0) c in
    let children : length R.run.children ≡ w.st.children = ap (λ (l : List ℕ). get_or l 2 0) c in
    let records : length R.run.marks ≡ w.st.records = ap (λ (l : List ℕ). get_or l 3 0) c in
    record {
      units = omega (arith, L.spent);
      nodes = omega (arith, L.few, L.spent);
      children = omega (arith, L.few, L.spent, L.sized.children_few);
      records = omega (arith, L.few, L.spent, L.sized.records_few);
    }

-- the call of the byte model on these tables
abbrev pub call_in : Tables → Given → Rooms → Call
call_in T g b = call_of T g.tokens.now g.origin b

-- what a run asks of a call: its numbers fit its slices and the rooms
pub record Fitting (g : Given) (b : Rooms) : Type 0 where
  pub small : Small g
  pub count_is : g.count ≡ length g.tokens.now / 12
  pub depth_is : g.depth ≡ depth_of b
  pub tokens_fit : ok18 g.tokens.now ≡ true
  pub bytes : Bytes g.tokens.now
  pub origin_in : g.origin < 2 ^ 32

-- it serves a call, of which only the tables' sizes are made up
pub own : (g : Given) (b : Rooms) → Fitting g b → Serves (call_in (Served.call_of g).tables g b) g
own g b f =
    let s = served g in
    record {
      reads = record {
        tokens_are = refl;
        count_is = sym f.count_is;
        origin_is = refl;
        depth_is = sym f.depth_is;
        kinds_are = s.reads.kinds_are;
        flag_is = s.reads.flag_is;
      };
      goes = record {
        gotos_are = refl;
        productions_are = refl;
        states_are = s.goes.states_are;
        nonterminals_are = s.goes.nonterminals_are;
      };
      acts = record { actions_are = refl; states_are = s.acts.states_are; kinds_are = s.acts.kinds_are };
    }

word16_lt : (s : List ℕ) (at : ℕ) → Bytes s → word16 s at < 2 ^ 16
unfolding word16
word16_lt s at h = pick_leb (λ (n : ℕ). n < 2 ^ 16) (at + 2) (length s) (get16 s at) 0 (λ k. get16_lt s at h) (λ k. omega arith)

-- "over 4,096 tokens" is refused
few_tokens : (s : List ℕ) → ok18 s ≡ true → length s / 12 ≤ 4096
unfolding ok18
few_tokens s e =
    leb-true (length s / 12) 4096
    (and_right (eqb (length s % 12) 0) (leb (length s / 12) 4096)
    (and_left (eqb (length s % 12) 0 && leb (length s / 12) 4096) (all_below (length s / 12) (λ i. leb (word32 s (12 * i)) 65535)) e))

module _ (sizes : List ℕ) (actions gotos productions tokens : Bor (List ℕ)) (origin depth : ℕ) (b : Rooms) where
  -- the numbers that are read off fit
  pub fits : Bytes sizes → Bytes tokens.now → origin < 2 ^ 32 → ok18 tokens.now ≡ true → depth ≡ depth_of b →
      Fitting (given_of sizes actions gotos productions tokens origin depth) b
  fits h t o ok d =
      record {
        small = record {
          states_small = word16_lt sizes 0 h;
          kinds_small = word16_lt sizes 2 h;
          nonterminals_small = word16_lt sizes 4 h;
          count_small = omega (arith, few_tokens tokens.now ok);
        };
        count_is = refl;
        depth_is = d;
        tokens_fit = ok;
        bytes = t;
        origin_in = o;
      }

  -- and serve the call, whatever right sides, items and sets go with these tables
  pub serves : (rights items sets : List ℕ) → depth ≡ depth_of b →
      (let g : Given = given_of sizes actions gotos productions tokens origin depth in
      Serves (call_in (call_tables sizes actions.now gotos.now productions.now rights items sets) g b) g)
  unfolding states kinds nonterminals flag
  serves rights items sets d =
      record {
        reads = record {
          tokens_are = refl;
          count_is = refl;
          origin_is = refl;
          depth_is = sym d;
          kinds_are = refl;
          flag_is = refl;
        };
        goes = record { gotos_are = refl; productions_are = refl; states_are = refl; nonterminals_are = refl };
        acts = record { actions_are = refl; states_are = refl; kinds_are = refl };
      }

-- what is left in the rooms is left in the slices that they are
pub left_in : (T : Tables) (reply : Reply) (r : Returned) (b e f : Lent) → e ≡ f → Leaves T reply r b e → Leaves T reply r b f
left_in T reply r b e f p h = rw (← p) h

-- the refusals, which leave every room as it was
pub refuses_tokens : (T : Tables) (tokens : List ℕ) (origin : ℕ) (L : Limits) (b : Lent) → ok18 tokens ≡ false
    → Leaves T (drive_reply T tokens origin L) (record { number = 18; value = 0 }) b b
unfolding drive_reply
refuses_tokens T tokens origin L b e = rw e (record { numbered = refl; placed = refl; untouched = refl })

pub refuses_tables : (T : Tables) (tokens : List ℕ) (origin : ℕ) (L : Limits) (b : Lent) (number place : ℕ) → check T ≡ Refused number place
    → Leaves T (parse_reply T tokens origin L) (record { number = number; value = place }) b b
unfolding parse_reply after_check
refuses_tables T tokens origin L b number place e = rw e (record { numbered = refl; placed = refl; untouched = refl })

-- tables that pass are driven
pub drives : (T : Tables) (tokens : List ℕ) (origin : ℕ) (L : Limits) (b e : Lent) (r : Returned) → check T ≡ Passes
    → Leaves T (drive_reply T tokens origin L) r b e → Leaves T (parse_reply T tokens origin L) r b e
unfolding parse_reply after_check
drives T tokens origin L b e r p l = rw p l
