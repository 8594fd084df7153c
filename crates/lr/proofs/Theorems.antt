-- What is shown of the rules: of the check, of the driver over tables that pass it, and of every run. Each statement is in the words of
-- document 01 or of a demand, which its comment quotes; each proof is the lemma of the file that it cites.
use Rattle.std.specs.Prelude.{true, false, Bool, List, [], map, ◌↔◌, ◌⊎◌, ◌≡◌, refl, ℕ, suc, ◌+◌, ◌≤◌, ◌<◌, length, drop}
use Rattle.std.proofs.Common.{sym, subst, arith, ltb-true, le-ltb}
use Rattle.rules.specs.declared.Cell.TheVariants.{Shift, Reduce}
use Rattle.rules.specs.declared.StateNo.{StateNo}
use Rattle.rules.specs.declared.Token.{Token}
use Rattle.rules.specs.declared.Formed.{Formed}
use Rattle.rules.specs.declared.Answer.{Answer}
use Rattle.rules.specs.Verdict.{Passes, Refused}
use Rattle.rules.specs.Tables.{Tables, kinds, production_count, item_count, error_column, end_column, action, symbol}
use Rattle.rules.specs.Check.{action_cells, goto_cells, ok10, ok11, ok12, ok13, ok14, ok15, ok16, ok17, check}
use Rattle.rules.specs.Driving.{Job, Run, simulate, done, top_state, top_of, token_at, has_token, look_column, drive, Mode, Node, Outcome, production_entry, marked, formed, answer_of, begin, step}
use Rattle.rules.specs.Trees.{Tree, Leaf, leaves, Derives}
use Rattle.rules.specs.Answers.{number_of, Limits, job_of, node_words, tokens_of, Reply, parse_reply}
use Rattle.rules.specs.Plain.{plain_job, PlainAccepts}
use Rattle.rules.specs.declared.Entry.{Entry}
use Rattle.rules.specs.declared.Answer.TheVariants.{Accepted, AcceptedEarly, UnrecognizedToken, UnrecognizedEnd, OutOfUnits}
use Rattle.lr.specs.Checked.{Laws, laws, Enters}
use Rattle.lr.specs.Refusals.{test_of, places_of, Refusal, refused_exactly, passes_exactly, one_refusal}
use Rattle.lr.specs.Invariant.{Fits, Carries, Reaches, Ends, drive_ends}
use Rattle.lr.specs.Impossible.{look_states, look_in, CellSafe, Placed, Goes, Safe}
use Rattle.lr.proofs.Impossible.{always_safe}
use Rattle.lr.specs.Stands.{kind_in}
use Rattle.lr.specs.Sound.{in_order, Derivation}
use Rattle.lr.proofs.Sound.{sound, plain_fits}
use Rattle.lr.specs.Small.{SmallAccepts}
use Rattle.lr.proofs.Complete.{complete, one_tree, derivation_small, small_plain}
use Rattle.lr.specs.NoMark.{UserKinds, SameTree, freed, freed_call}
use Rattle.lr.proofs.NoMark.{same_tree}
use Rattle.lr.specs.Runs.{walk, looks, units_of, Reached, nineteen, nineteen_uses_all, units_drive}
use Rattle.lr.specs.Limits.{Driven, driven, demands, Ascending, ascending, AtLeast, roomier_call, more_room}
use Rattle.lr.specs.Stopped.{CutBy, limits_exactly}
use Rattle.lr.specs.Ranges.{RangesIn, ranges_reached}
use Rattle.lr.specs.Choice.{Says, FormedBy, one_answer}
use Rattle.lr.specs.Failing.{Chosen, chosen, NoLater, chosen_first, NoPair, Unrecognized, unrecognized, SearchesFor, Unread, no_pair_ends}
use Rattle.lr.specs.Steps.{NoLimit}
use Rattle.lr.specs.Search.{Leads, FirstPair, NoneLeft, MarkAt, places_mark, gives_up}
use Rattle.lr.specs.Written.{Written, written, node_from, nodes_back}
use Rattle.lr.specs.Recovered.{reached_reaches, reaches_reached}
use Rattle.lr.specs.Accounted.{Accounted, answered_run, reads_user_kinds}
use Rattle.lr.proofs.Accounted.{accepted_accounts, early_accounts}

-- ---- 1. "The check, in this order, lowest place first"

-- The test of each number, and how many places it has: those of the table in 01.
pub the_tests : (T : Tables) (i : ℕ) → (test_of T 10 i ≡ ok10 T i) × (test_of T 11 i ≡ ok11 T i) × (test_of T 12 i ≡ ok12 T i) × (test_of T 13 i ≡ ok13 T i)
    × (test_of T 14 i ≡ ok14 T i) × (test_of T 15 i ≡ ok15 T i) × (test_of T 16 i ≡ ok16 T i) × (test_of T 17 i ≡ ok17 T i)
the_tests T i = (refl, refl, refl, refl, refl, refl, refl, refl)

pub the_places : (T : Tables) → (places_of T 10 ≡ 1) × (places_of T 11 ≡ action_cells T + goto_cells T) × (places_of T 12 ≡ production_count T) × (places_of T 13 ≡ production_count T)
    × (places_of T 14 ≡ item_count T) × (places_of T 15 ≡ item_count T) × (places_of T 16 ≡ action_cells T) × (places_of T 17 ≡ item_count T + 1)
the_places T = (refl, refl, refl, refl, refl, refl, refl, refl)

-- Tables pass exactly if the test of each number holds at each of its places.
pub check_passes : (T : Tables) → (check T ≡ Passes) ↔ ((n i : ℕ) → i < places_of T n → test_of T n i ≡ true)
check_passes T = passes_exactly T

-- They are refused with number n at place p exactly if n is one of 10 to 17, the tests of all lower numbers hold at all their
-- places, n's test holds at all lower places, and fails at p.
pub check_refuses : (T : Tables) (n p : ℕ) → (check T ≡ Refused n p) ↔ Refusal T n p
check_refuses T n p = refused_exactly T n p

-- So the number and the place are the only ones.
pub one_number_and_place : (T : Tables) (n p m q : ℕ) → Refusal T n p → Refusal T m q → (n ≡ m) × (p ≡ q)
one_number_and_place T n p m q a b = one_refusal a b

-- Passing gives all the laws that the rest of this page rests on.
pub passing_laws : (T : Tables) → check T ≡ Passes → Laws T
passing_laws T ok = laws T ok

-- ---- 2. "the two `panic!` calls and `unwrap` proved impossibilities"

-- A call's run, and the plain driver's, are runs of jobs over passing tables.
pub call_fits : (T : Tables) (tokens : List Token) (origin : ℕ) (L : Limits) → check T ≡ Passes → Fits (job_of T tokens origin L)
unfolding job_of
call_fits T tokens origin L ok = record { laws = laws T ok; reads_in = λ k e. omega (arith, ltb-true k (kinds T) e) }

pub plain_driver_fits : (T : Tables) (tokens : List Token) (origin : ℕ) → check T ≡ Passes → Fits (plain_job T tokens origin)
plain_driver_fits T tokens origin ok = plain_fits T tokens origin ok

-- Every run ends before its first look, or with the budget used up at a run that it came to, or by a look of such a run.
pub every_run_ends : (J : Job) (budget : ℕ) → Ends J (drive J budget)
every_run_ends J budget = drive_ends J budget

module _ (J : Job) (F : Fits J) (r : Run) (h : Reaches J r) where
  -- At every look of every run, in the main loop, in the error column, at a searched state and in the simulation alike: the state
  -- and the column looked at are in the tables, and what the cell then asks of the stack is there.
  pub every_look_is_safe : Safe J r
  every_look_is_safe = always_safe F h

  -- no pop below the bottom; the production is known, and its goto exists and does not enter state 0
  pub reduction_has_all : (p : ℕ) → action J.tables (top_of (look_states r r.mode)) (look_in J r r.mode) ≡ Reduce (record { 0 = suc p })
      → Goes J.tables (look_states r r.mode) (suc p)
  reduction_has_all p e = subst (CellSafe J.tables (look_states r r.mode)) e (always_safe F h).cell

  -- "Production 0 is nonterminal 0 to one other nonterminal": it is reduced over exactly one symbol
  pub production_0_over_one : action J.tables (top_of (look_states r r.mode)) (look_in J r r.mode) ≡ Reduce (record { 0 = 0 })
      → length (look_states r r.mode) ≡ 1
  production_0_over_one e = subst (CellSafe J.tables (look_states r r.mode)) e (always_safe F h).cell

  -- no shift enters state 0 or an unknown state
  pub shift_enters_a_state : (s : StateNo) → action J.tables (top_of (look_states r r.mode)) (look_in J r r.mode) ≡ Shift s → Enters J.tables s.0
  shift_enters_a_state s e = subst (CellSafe J.tables (look_states r r.mode)) e (always_safe F h).cell

  -- no shift at the end of input, in any state
  pub no_shift_at_end : has_token J r ≡ false → (s : ℕ) (n : StateNo) → action J.tables s (look_column J r) ≡ Shift n → ⊥
  no_shift_at_end e = (always_safe F h).agrees.no_shift_at_end e

  -- `panic!("lookahead and token_index mismatched")`: the lookahead and its column never disagree
  pub column_is_end_at_end : has_token J r ≡ false → (look_column J r ≡ end_column J.tables) × (r.next ≡ length J.tokens)
  column_is_end_at_end e = (always_safe F h).agrees.at_end_law e

  pub column_is_the_token's : has_token J r ≡ true → (look_column J r ≡ (token_at J r.next).kind) × (J.reads (look_column J r) ≡ true) × (look_column J r ≤ kinds J.tables)
  column_is_the_token's e = (always_safe F h).agrees.of_token e

  -- `panic!("cannot find token at EOF")`: a recovery that began at the end of input finds no token
  pub no_token_found_at_end : (f : Formed) → Carries r.mode f → f.number ≡ 4 → has_token J r ≡ false
  no_token_found_at_end f c e =
      let s = always_safe F h in
      le-ltb r.next (length J.tokens) (omega (arith, (s.arose f c).before, (s.arose f c).of_end e))

  -- `error_action.as_shift().unwrap()`, "The repeated look that places the mark": at a place that is simulated it is a shift
  pub mark_look_is_a_shift : (f : Formed) (k : ℕ) (sim : List ℕ) → r.mode ≡ simulate f k sim
      → (s : StateNo) × (action J.tables (top_state (drop k r.stack)) (error_column J.tables) ≡ Shift s) × Enters J.tables s.0
  mark_look_is_a_shift f k sim e = (subst (Placed J r) e (always_safe F h).placed).1

-- in a call a lookahead's column is a user kind's
pub column_is_a_user_kind : (T : Tables) (tokens : List Token) (origin : ℕ) (L : Limits) → check T ≡ Passes → (r : Run) → Reaches (job_of T tokens origin L) r
    → has_token (job_of T tokens origin L) r ≡ true → look_column (job_of T tokens origin L) r < kinds T
unfolding job_of
column_is_a_user_kind T tokens origin L ok r h e =
    ltb-true (look_column (job_of T tokens origin L) r) (kinds T) (column_is_the_token's (job_of T tokens origin L) (call_fits T tokens origin L ok) r h e).1

-- ---- 3. "Derivations are the ordinary context-free ones"

-- An accepted list's tree derives it, from the nonterminal on production 0's right side: its leaves are tokens 0 to n-1, in order.
pub plain_sound : (T : Tables) (tokens : List Token) (origin : ℕ) (tree : Tree Leaf) → check T ≡ Passes → PlainAccepts T tokens origin tree
    → Derives T (kind_in T tokens) (symbol T 0 0) tree × (leaves tree ≡ in_order 0 (length tokens))
plain_sound T tokens origin tree ok a = let d = sound T tokens origin tree ok a in (d.derives, d.order)

-- Every derivation's list is accepted, with that tree.
pub plain_complete : (T : Tables) (tokens : List Token) (origin : ℕ) (tree : Tree Leaf) → check T ≡ Passes
    → Derives T (kind_in T tokens) (symbol T 0 0) tree → leaves tree ≡ in_order 0 (length tokens) → PlainAccepts T tokens origin tree
plain_complete T tokens origin tree ok d o = complete T tokens origin tree ok (record { derives = d; order = o })

-- So it accepts a list with a tree exactly if that is a derivation of the list.
pub plain_accepts_exactly : (T : Tables) (tokens : List Token) (origin : ℕ) (tree : Tree Leaf) → check T ≡ Passes → PlainAccepts T tokens origin tree ↔ Derivation T tokens tree
plain_accepts_exactly T tokens origin tree ok = (sound T tokens origin tree ok, complete T tokens origin tree ok)

-- No list has two derivation trees.
pub one_derivation : (T : Tables) (tokens : List Token) (t u : Tree Leaf) → check T ≡ Passes → Derivation T tokens t → Derivation T tokens u → t ≡ u
one_derivation T tokens t u ok d e = one_tree T tokens t u ok d e

-- ---- 4. "each token read is one leaf or lies in one mark's stretch, in order; with one error token for each stretch the plain driver
-- accepts that list and builds the same tree"

accepted_not_units : {root : ℕ} → Accepted root ≡ OutOfUnits → ⊥
accepted_not_units q = let z : ◌≡◌ {A = ℕ} 0 1 = cc in omega arith

early_not_units : {root i : ℕ} → AcceptedEarly root i ≡ OutOfUnits → ⊥
early_not_units q = let z : ◌≡◌ {A = ℕ} 0 1 = cc in omega arith

-- Answer 1: every token is one leaf of the tree at the root, or lies in exactly one mark's stretch, in order and unbroken; each mark
-- node's number is its record's, and its stretch that record's; and the list with one error token for each stretch is accepted by the
-- plain driver, with the same productions over the same leaves.
pub accepted_call : (T : Tables) (s : List ℕ) (origin : ℕ) (L : Limits) (root : ℕ) (r : Run) → parse_reply T s origin L ≡ Reply.answered (Accepted root) r
    → Accounted (job_of T (tokens_of s) origin L) r root (length (tokens_of s))
unfolding job_of
accepted_call T s origin L root r e =
    let c = answered_run T s origin L (Accepted root) r (λ q. accepted_not_units q) e in
    accepted_accounts (job_of T (tokens_of s) origin L) c.0 (reads_user_kinds T (tokens_of s) origin L) L.budget root r c.1

-- Answer 2: the same of every token before the named one, the one at which the error arose.
pub early_call : (T : Tables) (s : List ℕ) (origin : ℕ) (L : Limits) (root i : ℕ) (r : Run) → parse_reply T s origin L ≡ Reply.answered (AcceptedEarly root i) r
    → Accounted (job_of T (tokens_of s) origin L) r root i × ((f : Formed) × FormedBy (job_of T (tokens_of s) origin L) f r.marks × (f.from ≡ i)) × (i ≤ length (tokens_of s))
unfolding job_of
early_call T s origin L root i r e =
    let c = answered_run T s origin L (AcceptedEarly root i) r (λ q. early_not_units q) e in
    early_accounts (job_of T (tokens_of s) origin L) c.0 (reads_user_kinds T (tokens_of s) origin L) L.budget root r i c.1

-- ---- 5. "a list that the plain driver accepts comes back with that tree and no mark"

-- User kinds only, accepted by the plain driver, and no limit stops the call: it answers 1 with that tree, no node is a mark, and
-- there is no record. With flag 0 or 1.
pub plain_reading_is_kept : (T : Tables) (tokens : List Token) (origin : ℕ) (L : Limits) (budget : ℕ) (tree : Tree Leaf) (a : Answer) (r : Run) → check T ≡ Passes
    → UserKinds T tokens → PlainAccepts T tokens origin tree → drive (job_of T tokens origin L) budget ≡ done a r → number_of a < 19 → SameTree tokens tree a r
plain_reading_is_kept T tokens origin L budget tree a r ok user p e n = same_tree T tokens origin L budget tree a r ok user p e n

-- ---- 6. "So the choice is the fewest drops, then the highest state"

-- The runs that some number of steps leads to are those that a job comes to, look by look (2 speaks of the latter, 6 to 8 of the former).
pub reached_is_reaches : (J : Job) (r : Run) → Reached J r ↔ Reaches J r
reached_is_reaches J r = (λ w. reached_reaches w, λ h. reaches_reached h)

-- A pair of a lookahead and a state says one thing.
pub a_pair_says_one_thing : (J : Job) (stack : List Entry) (i k : ℕ) (b b' : Bool) → Says J stack i k b → Says J stack i k b' → b ≡ b'
a_pair_says_one_thing J stack i k b b' p q = one_answer J stack i k b b' p q

-- "So the choice is the fewest drops, then the highest state": a step that writes a record places its mark at a pair of a lookahead and
-- a state that says yes, and every pair that says yes comes no earlier.
pub mark_at_the_first_pair : (J : Job) (r r' : Run) → Reached J r → step J r ≡ Outcome.more r' → length r.marks < length r'.marks
    → (c : Chosen J r r') × ((i k : ℕ) → c.error.from ≤ i → k ≤ length r.stack → Says J r.stack i k true → NoLater r.next c.pops i k)
mark_at_the_first_pair J r r' w e more-marks =
    (chosen J r r' w e more-marks, chosen_first J r r' (chosen J r r' w e more-marks))

-- And where a pair is the first that says yes, the tokens up to it are read and no limit stops the run, its mark is placed.
pub first_pair_gets_the_mark : (J : Job) → NoLimit J → (f : Formed) (r : Run) (i k : ℕ) → r.mode ≡ Mode.search f 0 → FirstPair J r i k
    → (o : Outcome) × MarkAt J f r i k o × Leads J (Outcome.more r) o
first_pair_gets_the_mark J free f r i k at p = places_mark J free f r i k at p

-- "failure at the end is answered exactly if no such pair exists". Answers 3 and 4 are given for a token that is not read; with flag 0 at
-- once; or for the error that was formed since the last mark, all tokens from there on read and dropped, and no pair that says yes.
pub failure_only_if_no_pair : (J : Job) (budget : ℕ) (a : Answer) (r : Run) → drive J budget ≡ Outcome.done a r → (number_of a ≡ 3) ⊎ (number_of a ≡ 4)
    → Unrecognized J a r
failure_only_if_no_pair J budget a r e n = unrecognized J budget a r e n

-- Where no pair says yes, the tokens are read and no limit stops the run, the error that was formed is answered.
pub failure_if_no_pair : (J : Job) → NoLimit J → (f : Formed) (r : Run) → r.mode ≡ Mode.search f 0 → NoneLeft J r
    → (r' : Run) × Leads J (Outcome.more r) (Outcome.done (answer_of f) r')
failure_if_no_pair J free f r at p = gives_up J free f r at p

-- Under any limits the answer is then that error, or a token that is not read, or a limit.
pub no_pair_no_mark : (J : Job) (f : Formed) (r : Run) → Reached J r → SearchesFor f r.mode → NoPair J r.stack f.from
    → (budget : ℕ) (a : Answer) (r' : Run) → drive J budget ≡ Outcome.done a r'
    → (a ≡ answer_of f) ⊎ (Unread J r' ⊎ (19 ≤ number_of a))
no_pair_no_mark J f r w s none budget a r' e = no_pair_ends J f r w s none budget a r' e

-- "answer the original error": the one of the moment when it was formed, "3 unrecognized token: token", "4 unrecognized end: last
-- location", and never the one met at the end.
pub answered_as_formed : (r : Run)
    → (answer_of (formed r true) ≡ UnrecognizedToken r.next (record { 0 = top_state r.stack })) × (answer_of (formed r false) ≡ UnrecognizedEnd r.last (record { 0 = top_state r.stack }))
unfolding answer_of formed
answered_as_formed r = (refl, refl)

-- ---- 7. "Running out of anything is refused exactly when one more is needed."

-- "19 is given exactly if another is needed": the run still goes on after as many steps as the budget has.
pub nineteen_exactly_if : (J : Job) (budget : ℕ) (r : Run) → (drive J budget ≡ Outcome.done OutOfUnits r) ↔ (walk J budget (begin J) ≡ Outcome.more r)
nineteen_exactly_if J budget r = nineteen J budget r

pub nineteen_after_the_budget : (J : Job) (budget : ℕ) (r : Run) → drive J budget ≡ Outcome.done OutOfUnits r → r.units ≡ budget
nineteen_after_the_budget J budget r e = nineteen_uses_all J budget r e

-- "One unit is one look at an action cell": the units returned are the looks made.
pub units_are_looks : (J : Job) (budget : ℕ) → units_of (drive J budget) ≡ looks J budget (begin J)
units_are_looks J budget = units_drive J budget

-- "20 depth, 21 child entries, 22 nodes, 23 records .. before what that look pushes", "A stopped run leaves what the steps before it
-- wrote": the run is the run without limits, or it is that run cut before the first step that asks for more than fits, with that
-- step's look counted, and the answer is the first of its demands that does not fit; or depth 0 is 20 at unit 0.
pub cut_at_the_first_limit : (J : Job) (budget : ℕ) → Driven J budget
cut_at_the_first_limit J budget = driven J budget

-- 20 to 23 are given exactly if a limit so cuts the run.
pub limits_exactly_if : (J : Job) (budget : ℕ) (a : Answer) (r : Run) → 20 ≤ number_of a → (drive J budget ≡ Outcome.done a r) ↔ CutBy J budget a r
limits_exactly_if J budget a r big = limits_exactly J budget a r big

-- "tested in that order"
pub tested_in_order : (J : Job) (r : Run) → Ascending 19 (demands J r)
tested_in_order J r = ascending J r

-- More room and more budget never change an answer that no limit stopped.
pub more_room_same_answer : (T : Tables) (tokens : List Token) (origin : ℕ) (L L' : Limits) (a : Answer) (r : Run) → AtLeast L L' → number_of a < 19
    → drive (job_of T tokens origin L) L.budget ≡ Outcome.done a r → drive (job_of T tokens origin L') L'.budget ≡ Outcome.done a r
more_room_same_answer T tokens origin L L' a r h small e =
    more_room (job_of T tokens origin L) (job_of T tokens origin L') L.budget L'.budget a r (roomier_call T tokens origin L L' h) h.budget small e

-- ---- 8. Token ranges, and the words of nodes and records

-- Each entry's first token is the one after the last of the entry below, 0 at the bottom, and the top one ends at the lookahead's
-- index; while tokens are dropped it ends where the error arose.
pub ranges_join : (J : Job) (r : Run) → Reached J r → RangesIn J r.stack r.next r.mode
ranges_join J r w = (ranges_reached J r w).ranges

-- "An empty stretch or production holds the lookahead's index twice"
pub empty_production : (J : Job) (r : Run) (p : ℕ) (rest : List Entry)
    → ((production_entry J r p [] rest).first ≡ r.next) × ((production_entry J r p [] rest).after ≡ r.next)
unfolding production_entry
empty_production J r p rest = (refl, refl)

pub empty_stretch : (J : Job) (r : Run) (f : Formed) (popped rest : List Entry) → (marked J r f popped rest).first ≡ (marked J r f popped rest).after
    → ((marked J r f popped rest).first ≡ r.next) × ((marked J r f popped rest).after ≡ r.next)
unfolding marked
empty_stretch J r f popped rest e = (e, refl)

-- However a run ends: "dropped first" is the error's token, or the token count where it arose at the end, and lies in the stretch or at
-- its end; a mark's node has its record's number, stretch and span; each node's token words are those of the tree that it holds.
pub words_are_right : (J : Job) (budget : ℕ) (a : Answer) (r : Run) → drive J budget ≡ Outcome.done a r → Written J r
words_are_right J budget a r e = written J budget a r e

-- A node is read back from its eight words.
pub nodes_from_words : (ns : List Node) → map node_from (map node_words ns) ≡ ns
nodes_from_words ns = nodes_back ns

-- ---- 9. "The plain driver of demand 3 is these rules with flag 0, no limits, no refusal 18, and kind t read as column t"

-- It is a call's job with those four things changed and nothing else.
pub plain_is_a_call_freed : (T : Tables) (tokens : List Token) (origin : ℕ) (L : Limits) → plain_job T tokens origin ≡ freed (job_of T tokens origin L)
plain_is_a_call_freed T tokens origin L = sym (freed_call T tokens origin L)

-- And it is the plain driver in small, a stack of states and trees that shifts and reduces by the tables.
pub plain_is_small : (T : Tables) (tokens : List Token) (origin : ℕ) (tree : Tree Leaf) → check T ≡ Passes
    → PlainAccepts T tokens origin tree ↔ SmallAccepts T (kind_in T tokens) (in_order 0 (length tokens)) tree
plain_is_small T tokens origin tree ok =
    ((λ a. derivation_small ok (sound T tokens origin tree ok a)), small_plain T tokens origin tree ok)
