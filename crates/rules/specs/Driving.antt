-- "Driving", and the units and limits of "What comes back". One step is one look at an action cell and what it then does; a run
-- is the step repeated, the budget being its fuel.
use Rattle.std.specs.Prelude.{Bool, true, false, not, List, [], ◌∷◌, ◌++◌, map, reverse, ℕ, zero, suc, ◌+◌, ◌*◌, ◌-◌, ltb, eqb, length, get_or, take, drop}
use Rattle.words.specs.Words.{pick}
use Rattle.rules.specs.declared.Cell.{Cell}
use Rattle.rules.specs.declared.Cell.TheVariants.{Shift, Reduce, Error}
use Rattle.rules.specs.declared.Token.{Token}
use Rattle.rules.specs.declared.What.{What}
use Rattle.rules.specs.declared.What.TheVariants.{Read, Mark, Production}
use Rattle.rules.specs.declared.Entry.{Entry}
use Rattle.rules.specs.declared.Formed.{Formed}
use Rattle.rules.specs.declared.StateNo.{StateNo}
use Rattle.rules.specs.declared.Answer.{Answer}
use Rattle.rules.specs.declared.Answer.TheVariants.{Accepted, AcceptedEarly, UnrecognizedToken, UnrecognizedEnd, ExtraToken, TokenizerError, OutOfUnits, OutOfDepth, OutOfChildren, OutOfNodes, OutOfRecords}
use Rattle.rules.specs.Basics.{bits}
use Rattle.rules.specs.Tables.{Tables, kinds, error_column, end_column, action, goto, target, is_error, left, size}

-- What a run is given: tables, tokens and start location; whether it recovers (flag 1); which kinds are read ("a kind not below t"
-- is not); and the limits but the budget, each as the test of a count that must fit.
pub record Job : Type 0 where
  pub tables : Tables
  pub tokens : List Token
  pub origin : ℕ
  pub recovers : Bool
  pub reads : ℕ → Bool
  pub depth_fits : ℕ → Bool
  pub children_fit : ℕ → Bool
  pub nodes_fit : ℕ → Bool
  pub records_fit : ℕ → Bool

-- A node: what it stands for, its first child entry and how many, its span, its first token and the one after the last.
pub record Node : Type 0 where
  pub what : What
  pub child : ℕ
  pub count : ℕ
  pub start : ℕ
  pub end : ℕ
  pub first : ℕ
  pub after : ℕ

-- The record of a mark: the error that was formed, the stretch, its first dropped token, and the span.
pub record Marked : Type 0 where
  pub error : Formed
  pub first : ℕ
  pub after : ℕ
  pub start : ℕ
  pub end : ℕ

-- Where a run stands: in the main loop; reducing by the error column; looking at the state below so many popped symbols; or
-- simulating the lookahead there, on a stack of states (its last, state 0, is not listed).
pub data Mode : Type 0 where
  main : Mode
  column : Formed → Mode
  search : Formed → ℕ → Mode
  simulate : Formed → ℕ → List ℕ → Mode

-- A run so far. The stack's top is first, and its last state, state 0 without a symbol, is not listed. `next` is the lookahead's
-- index, the token count at the end; `last` is the last location.
pub record Run : Type 0 where
  pub stack : List Entry
  pub nodes : List Node
  pub children : List ℕ
  pub marks : List Marked
  pub units : ℕ
  pub next : ℕ
  pub last : ℕ
  pub mode : Mode

pub data Outcome : Type 0 where
  more : Run → Outcome
  done : Answer → Run → Outcome

-- "State 0 starts."
abbrev pub top_state : List Entry → ℕ
top_state [] = 0
top_state (e ∷ rest) = e.state.0

abbrev pub top_of : List ℕ → ℕ
top_of [] = 0
top_of (s ∷ rest) = s

-- the node of the only symbol over which production 0 is reduced
abbrev pub root_of : List Entry → ℕ
root_of [] = 0
root_of (e ∷ rest) = e.node

abbrev pub no_token : Token
no_token = record { kind = 0; start = 0; end = 0 }

abbrev pub token_at : Job → ℕ → Token
token_at J i = get_or J.tokens i no_token

abbrev pub has_token : Job → Run → Bool
has_token J r = ltb r.next (length J.tokens)

-- the lookahead's column
unfoldable pub look_column : Job → Run → ℕ
look_column J r = pick (has_token J r) (token_at J r.next).kind (end_column J.tables)

-- "Expected kinds: user kinds whose cell in the top state is not 0", as 8 words, "kind k at bit k mod 32 of word k/32"
unfoldable pub expects : Tables → ℕ → ℕ → Bool
expects T s k = pick (ltb k (kinds T)) (not (is_error (action T s k))) false

unfoldable pub expected_word : Tables → ℕ → ℕ → ℕ
expected_word T s j = bits 32 (λ b. expects T s (32 * j + b))

-- a look is counted, whatever comes of it
abbrev pub counted : Run → Run
counted r =
    record { stack = r.stack; nodes = r.nodes; children = r.children; marks = r.marks; units = r.units + 1; next = r.next; last = r.last; mode = r.mode }

abbrev pub in_mode : Run → Mode → Run
in_mode r m =
    record { stack = r.stack; nodes = r.nodes; children = r.children; marks = r.marks; units = r.units; next = r.next; last = r.last; mode = m }

-- "Reading sets the last location to the token's end."
abbrev pub read_to : Run → ℕ → Run
read_to r last =
    record { stack = r.stack; nodes = r.nodes; children = r.children; marks = r.marks; units = r.units; next = r.next; last = last; mode = r.mode }

abbrev pub advanced : Run → Mode → Run
advanced r m =
    record { stack = r.stack; nodes = r.nodes; children = r.children; marks = r.marks; units = r.units; next = r.next + 1; last = r.last; mode = m }

-- "Unused fields, and an empty production's first child entry, are 0."
abbrev pub child_of : ℕ → List ℕ → ℕ
child_of at [] = 0
child_of at (k ∷ ks) = at

unfoldable pub node_of : Entry → ℕ → List ℕ → Node
node_of e at kids =
    record { what = e.what; child = child_of at kids; count = length kids; start = e.start; end = e.end; first = e.first; after = e.after }

-- Every push: the entry goes on what is left of the stack, with its node, its child entries and its record.
unfoldable pub grow : Run → List Entry → Entry → List ℕ → List Marked → Mode → Run
grow r rest e kids marks m =
    record {
      stack = e ∷ rest;
      nodes = r.nodes ++ (node_of e (length r.children) kids ∷ []);
      children = r.children ++ kids;
      marks = r.marks ++ marks;
      units = r.units;
      next = r.next;
      last = r.last;
      mode = m;
    }

-- "20 depth, 21 child entries, 22 nodes, 23 records, tested in that order": what does not fit ends the run as it was before
abbrev pub need : Bool → Answer → Run → Outcome → Outcome
need true a r o = o
need false a r o = done a r

-- "Depth counts states, real or simulated, the first included": one more than a list of states above the first
abbrev pub depth_over {ℓ} : {A : Type ℓ} → List A → ℕ
depth_over rest = length rest + 2

-- "A kind not below t ends at once with answer 3, with no recovery, even while dropping. Kind 65535 is the tokenizer's own
-- error: answer 6, last location unchanged."
unfoldable pub judge_kind : Job → Run → Token → Outcome
judge_kind J r t =
    pick (eqb t.kind 65535) (done (TokenizerError r.next) r)
    (pick (J.reads t.kind) (more (read_to r t.end))
    (done (UnrecognizedToken r.next (record { 0 = top_state r.stack })) (read_to r t.end)))

-- the token at `next` is read, if there is one
unfoldable pub arrive : Job → Run → Outcome
arrive J r = pick (has_token J r) (judge_kind J r (token_at J r.next)) (more r)

-- The main loop: shift the lookahead.
unfoldable pub token_entry : Job → Run → StateNo → Entry
token_entry J r s =
    record {
      what = Read r.next;
      start = (token_at J r.next).start;
      end = (token_at J r.next).end;
      first = r.next;
      after = r.next + 1;
      state = s;
      node = length r.nodes;
    }

unfoldable pub shift : Job → Run → StateNo → Outcome
shift J r s =
    need (J.depth_fits (depth_over r.stack)) OutOfDepth r
    (need (J.nodes_fit (length r.nodes + 1)) OutOfNodes r
    (arrive J (advanced (grow r r.stack (token_entry J r s) [] [] main) main)))

-- "An empty one sits at the lookahead's start, else the top symbol's end, else the start location (our rule)."
abbrev pub end_or : ℕ → List Entry → ℕ
end_or d [] = d
end_or d (e ∷ rest) = e.end

abbrev pub after_or : ℕ → List Entry → ℕ
after_or d [] = d
after_or d (e ∷ rest) = e.after

unfoldable pub empty_spot : Job → Run → List Entry → ℕ
empty_spot J r rest = pick (has_token J r) (token_at J r.next).start (end_or J.origin rest)

-- of symbols popped from the top, the deepest one's start and first token, the first in the input
abbrev pub start_or : ℕ → List Entry → ℕ
start_or d [] = d
start_or d (e ∷ []) = e.start
start_or d (e ∷ (f ∷ rest)) = start_or d (f ∷ rest)

abbrev pub first_or : ℕ → List Entry → ℕ
first_or d [] = d
first_or d (e ∷ []) = e.first
first_or d (e ∷ (f ∷ rest)) = first_or d (f ∷ rest)

-- "A reduced symbol spans its first symbol's start to its last one's end." "An empty stretch or production holds the lookahead's
-- index twice"
unfoldable pub production_entry : Job → Run → ℕ → List Entry → List Entry → Entry
production_entry J r p popped rest =
    record {
      what = Production p;
      start = start_or (empty_spot J r rest) popped;
      end = end_or (empty_spot J r rest) popped;
      first = first_or r.next popped;
      after = after_or r.next popped;
      state = record { 0 = target (goto J.tables (top_state rest) (left J.tables p)) };
      node = length r.nodes;
    }

-- the popped symbols' nodes, in the input's order
abbrev pub nodes_of : List Entry → List ℕ
nodes_of popped = reverse (map (λ (e : Entry). e.node) popped)

unfoldable pub reduce_over : Job → Run → ℕ → List Entry → List Entry → Mode → Outcome
reduce_over J r p popped rest m =
    need (J.depth_fits (depth_over rest)) OutOfDepth r
    (need (J.children_fit (length r.children + length popped)) OutOfChildren r
    (need (J.nodes_fit (length r.nodes + 1)) OutOfNodes r
    (more (grow r rest (production_entry J r p popped rest) (nodes_of popped) [] m))))

unfoldable pub reduce : Job → Run → ℕ → Mode → Outcome
reduce J r p m = reduce_over J r p (take (size J.tables p) r.stack) (drop (size J.tables p) r.stack) m

-- "Production 0 is nonterminal 0 to one other nonterminal; reducing it accepts, and builds no node." "Production 0 under a
-- lookahead token in the main loop is answer 5."
unfoldable pub main_reduce : Job → Run → Bool → ℕ → Outcome
main_reduce J r true zero = done (ExtraToken r.next) r
main_reduce J r false zero = done (Accepted (root_of r.stack)) r
main_reduce J r token (suc p) = reduce J r (suc p) main

-- the error of this moment: "3 unrecognized token: token, expected. 4 unrecognized end: last location, expected."
unfoldable pub formed : Run → Bool → Formed
formed r true = record { number = 3; at = r.next; from = r.next; top = record { 0 = top_state r.stack } }
formed r false = record { number = 4; at = r.last; from = r.next; top = record { 0 = top_state r.stack } }

unfoldable pub answer_of : Formed → Answer
answer_of f = pick (eqb f.number 3) (UnrecognizedToken f.at f.top) (UnrecognizedEnd f.at f.top)

-- "Flag 0: an error cell gives 3, or 4 at the end, at once. Recovery, flag 1: form the error, then reduce by the error column"
unfoldable pub fail : Job → Run → Formed → Outcome
fail J r f = pick J.recovers (more (in_mode r (column f))) (done (answer_of f) r)

-- A look of the main loop, with a lookahead token or (`parse_eof`) at the end, where a shift is no shift.
unfoldable pub main_look : Job → Run → Bool → Cell → Outcome
main_look J r true (Shift s) = shift J r s
main_look J r false (Shift s) = fail J r (formed r false)
main_look J r token (Reduce p) = main_reduce J r token p.0
main_look J r token Error = fail J r (formed r token)

-- "then reduce by the error column until its cell is no reduce. If production 0 is reached there, answer 2, as the Rust's success."
unfoldable pub column_reduce : Job → Run → Formed → ℕ → Outcome
column_reduce J r f zero = done (AcceptedEarly (root_of r.stack) f.from) r
column_reduce J r f (suc p) = reduce J r (suc p) (column f)

unfoldable pub column_look : Job → Run → Formed → Cell → Outcome
column_look J r f (Shift s) = more (in_mode r (search f 0))
column_look J r f (Reduce p) = column_reduce J r f p.0
column_look J r f Error = more (in_mode r (search f 0))

-- "No state: drop the lookahead, read on, search the same stack. At end of input with no state, answer the original error."
unfoldable pub drop_token : Job → Run → Formed → Outcome
drop_token J r f = pick (has_token J r) (arrive J (advanced r (search f 0))) (done (answer_of f) r)

-- "Then look at states from the top down. If the error cell is not a shift, look further down."
unfoldable pub further : Job → Run → Formed → ℕ → Outcome
further J r f k = pick (ltb k (length r.stack)) (more (in_mode r (search f (k + 1)))) (drop_token J r f)

-- the states above the first, from the top down
abbrev pub states_of : List Entry → List ℕ
states_of stack = map (λ (e : Entry). e.state.0) stack

-- "Otherwise simulate the lookahead above that shift"
unfoldable pub start_simulation : Job → Run → Formed → ℕ → List ℕ → StateNo → Outcome
start_simulation J r f k below s =
    need (J.depth_fits (depth_over below)) OutOfDepth r (more (in_mode r (simulate f k (s.0 ∷ below))))

unfoldable pub search_look : Job → Run → Formed → ℕ → Cell → Outcome
search_look J r f k (Shift s) = start_simulation J r f k (states_of (drop k r.stack)) s
search_look J r f k (Reduce p) = further J r f k
search_look J r f k Error = further J r f k

-- "Mark start: the first popped symbol's start; else the first dropped token's; else the end of the symbol below; else the start
-- location."
unfoldable pub has_dropped : Run → Formed → Bool
has_dropped r f = ltb f.from r.next

unfoldable pub mark_start : Job → Run → Formed → List Entry → List Entry → ℕ
mark_start J r f popped rest =
    start_or (pick (has_dropped r f) (token_at J f.from).start (end_or J.origin rest)) popped

-- "Mark end: the last dropped token's end; else, if anything popped, the last symbol's end; else the lookahead's start; else the
-- mark's start."
unfoldable pub mark_end : Job → Run → Formed → List Entry → List Entry → ℕ
mark_end J r f popped rest =
    pick (has_dropped r f) (token_at J (r.next - 1)).end
    (end_or (pick (has_token J r) (token_at J r.next).start (mark_start J r f popped rest)) popped)

-- "Its stretch is the tokens under popped symbols, popped marks' stretches included, then the dropped ones."
unfoldable pub marked : Job → Run → Formed → List Entry → List Entry → Marked
marked J r f popped rest =
    record {
      error = f;
      first = first_or f.from popped;
      after = r.next;
      start = mark_start J r f popped rest;
      end = mark_end J r f popped rest;
    }

-- "The repeated look that places the mark is free."
unfoldable pub mark_entry : Job → Run → Marked → List Entry → Entry
mark_entry J r m rest =
    record {
      what = Mark (length r.marks);
      start = m.start;
      end = m.end;
      first = m.first;
      after = m.after;
      state = record { 0 = target (action J.tables (top_state rest) (error_column J.tables)) };
      node = length r.nodes;
    }

unfoldable pub place_mark : Job → Run → Marked → List Entry → Outcome
place_mark J r m rest =
    need (J.nodes_fit (length r.nodes + 1)) OutOfNodes r
    (need (J.records_fit (length r.marks + 1)) OutOfRecords r
    (more (grow r rest (mark_entry J r m rest) [] (m ∷ []) main)))

unfoldable pub recover : Job → Run → Formed → ℕ → Outcome
recover J r f k = place_mark J r (marked J r f (take k r.stack) (drop k r.stack)) (drop k r.stack)

-- a simulated reduction pops and goes to; its depth is tested after its pops
unfoldable pub simulate_over : Job → Run → Formed → ℕ → ℕ → List ℕ → Outcome
simulate_over J r f k p rest =
    need (J.depth_fits (depth_over rest)) OutOfDepth r
    (more (in_mode r (simulate f k (target (goto J.tables (top_of rest) (left J.tables p)) ∷ rest))))

unfoldable pub simulate_reduce : Job → Run → Formed → ℕ → List ℕ → ℕ → Outcome
simulate_reduce J r f k sim zero = recover J r f k
simulate_reduce J r f k sim (suc p) = simulate_over J r f k (suc p) (drop (size J.tables (suc p)) sim)

-- "simulate the lookahead above that shift: error cell no, shift yes, production 0 yes"
unfoldable pub simulate_look : Job → Run → Formed → ℕ → List ℕ → Cell → Outcome
simulate_look J r f k sim (Shift s) = recover J r f k
simulate_look J r f k sim (Reduce p) = simulate_reduce J r f k sim p.0
simulate_look J r f k sim Error = further J r f k

-- "One unit is one look at an action cell: main loop, error column (its last look included), each state searched, each simulated
-- look."
unfoldable pub look : Job → Run → Mode → Outcome
look J r main = main_look J r (has_token J r) (action J.tables (top_state r.stack) (look_column J r))
look J r (column f) = column_look J r f (action J.tables (top_state r.stack) (error_column J.tables))
look J r (search f k) =
    search_look J r f k (action J.tables (top_state (drop k r.stack)) (error_column J.tables))
look J r (simulate f k sim) = simulate_look J r f k sim (action J.tables (top_of sim) (look_column J r))

unfoldable pub step : Job → Run → Outcome
step J r = look J (counted r) r.mode

-- "19 is given exactly if another is needed": the fuel is used up and a step is wanted
unfoldable pub run_from : Job → ℕ → Outcome → Outcome
run_from J zero o = elim o [ more r ↦ done OutOfUnits r | done a r ↦ done a r ]
run_from J (suc n) o = elim o [ more r ↦ run_from J n (step J r) | done a r ↦ done a r ]

unfoldable pub first_run : Job → Run
first_run J =
    record { stack = []; nodes = []; children = []; marks = []; units = 0; next = 0; last = J.origin; mode = main }

-- "Depth 0 is 20 at unit 0, after 10 to 18 and before all else."
unfoldable pub begin : Job → Outcome
begin J = need (J.depth_fits 1) OutOfDepth (first_run J) (arrive J (first_run J))

unfoldable pub drive : Job → ℕ → Outcome
drive J budget = run_from J budget (begin J)
