-- The run under limits is the run without them, cut at the first step that asks for more than fits; the answer says for what.
-- Each step's demands stand in a list, in the order of the tests; nothing else of a step reads a limit.
use Rattle.std.specs.Prelude.{◌≡◌, refl, Bool, true, false, List, [], ◌∷◌, ℕ, zero, suc, ◌+◌, ◌≤◌, ◌<◌, leb, length, take, drop}
use Rattle.std.proofs.Common.{sym, ap, ◌∙◌, subst, true≢false, arith, leb-true, le-leb}
use Rattle.std.proofs.Math.Decide.{dec_lt}
use Rattle.rules.specs.declared.Cell.{Cell}
use Rattle.rules.specs.declared.Cell.TheVariants.{Shift, Reduce, Error}
use Rattle.rules.specs.declared.StateNo.{StateNo}
use Rattle.rules.specs.declared.Formed.{Formed}
use Rattle.rules.specs.declared.Answer.{Answer}
use Rattle.rules.specs.declared.Answer.TheVariants.{OutOfUnits, OutOfDepth}
use Rattle.rules.specs.Tables.{Tables, error_column, action, size}
use Rattle.rules.specs.declared.Token.{Token}
use Rattle.rules.specs.Answers.{number_of, Limits, job_of}
use Rattle.rules.specs.Driving.{Job, Run, Mode, Outcome, top_state, top_of, states_of, depth_over, counted, need, has_token, look_column, arrive, judge_kind, shift, reduce_over, reduce, main_reduce, fail, formed, main_look, column_reduce, column_look, drop_token, further, start_simulation, search_look, place_mark, recover, simulate_over, simulate_reduce, simulate_look, look, step, begin, drive, first_run, marked, mark_start, mark_end, mark_entry, token_entry, production_entry, empty_spot}
use Rattle.lr.specs.Steps.{Demand, depth, children, nodes, records, fits, limit_of, limit_numbers}
use Rattle.lr.specs.Runs.{walk, walk_done, walk_longer, drive_walk, other_end}

-- the same run with every limit test true
unfoldable pub unlimited : Job → Job
unlimited J =
    record {
      tables = J.tables;
      tokens = J.tokens;
      origin = J.origin;
      recovers = J.recovers;
      reads = J.reads;
      depth_fits = λ n. true;
      children_fit = λ n. true;
      nodes_fit = λ n. true;
      records_fit = λ n. true;
    }

-- what a shift, a reduction, a mark and a simulated push ask for, "tested in that order"
abbrev pub shift_demands : Run → List Demand
shift_demands r = depth (depth_over r.stack) ∷ nodes (length r.nodes + 1) ∷ []

abbrev pub reduce_demands : Run → ℕ → List Demand
reduce_demands r n =
    depth (depth_over (drop n r.stack)) ∷ children (length r.children + length (take n r.stack))
    ∷ nodes (length r.nodes + 1) ∷ []

abbrev pub mark_demands : Run → List Demand
mark_demands r = nodes (length r.nodes + 1) ∷ records (length r.marks + 1) ∷ []

abbrev pub simulated_demands : List ℕ → List Demand
simulated_demands below = depth (depth_over below) ∷ []

-- production 0 builds nothing
abbrev pub reduction_demands : Tables → Run → ℕ → List Demand
reduction_demands T r zero = []
reduction_demands T r (suc p) = reduce_demands r (size T (suc p))

abbrev pub simulation_demands : Tables → Run → List ℕ → ℕ → List Demand
simulation_demands T r sim zero = mark_demands r
simulation_demands T r sim (suc p) = simulated_demands (drop (size T (suc p)) sim)

abbrev pub main_demands : Tables → Run → Bool → Cell → List Demand
main_demands T r true (Shift s) = shift_demands r
main_demands T r false (Shift s) = []
main_demands T r token (Reduce p) = reduction_demands T r p.0
main_demands T r token Error = []

abbrev pub column_demands : Tables → Run → Cell → List Demand
column_demands T r (Shift s) = []
column_demands T r (Reduce p) = reduction_demands T r p.0
column_demands T r Error = []

abbrev pub search_demands : Run → ℕ → Cell → List Demand
search_demands r k (Shift s) = simulated_demands (states_of (drop k r.stack))
search_demands r k (Reduce p) = []
search_demands r k Error = []

abbrev pub simulate_demands : Tables → Run → List ℕ → Cell → List Demand
simulate_demands T r sim (Shift s) = mark_demands r
simulate_demands T r sim (Reduce p) = simulation_demands T r sim p.0
simulate_demands T r sim Error = []

abbrev pub look_demands : Job → Run → Mode → List Demand
look_demands J r Mode.main = main_demands J.tables r (has_token J r) (action J.tables (top_state r.stack) (look_column J r))
look_demands J r (Mode.column f) = column_demands J.tables r (action J.tables (top_state r.stack) (error_column J.tables))
look_demands J r (Mode.search f k) =
    search_demands r k (action J.tables (top_state (drop k r.stack)) (error_column J.tables))
look_demands J r (Mode.simulate f k sim) = simulate_demands J.tables r sim (action J.tables (top_of sim) (look_column J r))

-- what the next step of a run asks for
unfoldable pub demands : Job → Run → List Demand
demands J r = look_demands J (counted r) r.mode

-- the first demand that does not fit ends the run as it was
abbrev pub cut : Job → List Demand → Run → Outcome → Outcome
cut J [] r o = o
cut J (d ∷ ds) r o = need (fits J d) (limit_of d) r (cut J ds r o)

-- ---- nothing else of a step reads a limit

shift_cut : (J : Job) (r : Run) (s : StateNo) → shift J r s ≡ cut J (shift_demands r) r (shift (unlimited J) r s)
unfolding shift unlimited token_entry arrive judge_kind
shift_cut J r s = refl

reduce_cut : (J : Job) (r : Run) (p : ℕ) (m : Mode) → reduce J r p m ≡ cut J (reduce_demands r (size J.tables p)) r (reduce (unlimited J) r p m)
unfolding reduce reduce_over unlimited production_entry empty_spot
reduce_cut J r p m = refl

fail_cut : (J : Job) (r : Run) (f : Formed) → fail J r f ≡ fail (unlimited J) r f
unfolding fail unlimited
fail_cut J r f = refl

main_reduce_cut : (J : Job) (r : Run) (token : Bool) (p : ℕ)
    → main_reduce J r token p ≡ cut J (reduction_demands J.tables r p) r (main_reduce (unlimited J) r token p)
unfolding main_reduce
main_reduce_cut J r true zero = refl
main_reduce_cut J r false zero = refl
main_reduce_cut J r true (suc p) = reduce_cut J r (suc p) Mode.main
main_reduce_cut J r false (suc p) = reduce_cut J r (suc p) Mode.main

main_cut : (J : Job) (r : Run) (token : Bool) (c : Cell) → main_look J r token c ≡ cut J (main_demands J.tables r token c) r (main_look (unlimited J) r token c)
unfolding main_look
main_cut J r true (Shift s) = shift_cut J r s
main_cut J r false (Shift s) = fail_cut J r (formed r false)
main_cut J r true (Reduce p) = main_reduce_cut J r true p.0
main_cut J r false (Reduce p) = main_reduce_cut J r false p.0
main_cut J r true Error = fail_cut J r (formed r true)
main_cut J r false Error = fail_cut J r (formed r false)

column_reduce_cut : (J : Job) (r : Run) (f : Formed) (p : ℕ)
    → column_reduce J r f p ≡ cut J (reduction_demands J.tables r p) r (column_reduce (unlimited J) r f p)
unfolding column_reduce
column_reduce_cut J r f zero = refl
column_reduce_cut J r f (suc p) = reduce_cut J r (suc p) (Mode.column f)

column_cut : (J : Job) (r : Run) (f : Formed) (c : Cell) → column_look J r f c ≡ cut J (column_demands J.tables r c) r (column_look (unlimited J) r f c)
unfolding column_look
column_cut J r f (Shift s) = refl
column_cut J r f (Reduce p) = column_reduce_cut J r f p.0
column_cut J r f Error = refl

further_cut : (J : Job) (r : Run) (f : Formed) (k : ℕ) → further J r f k ≡ further (unlimited J) r f k
unfolding further drop_token unlimited arrive judge_kind
further_cut J r f k = refl

search_cut : (J : Job) (r : Run) (f : Formed) (k : ℕ) (c : Cell) → search_look J r f k c ≡ cut J (search_demands r k c) r (search_look (unlimited J) r f k c)
unfolding search_look start_simulation unlimited
search_cut J r f k (Shift s) = refl
search_cut J r f k (Reduce p) = further_cut J r f k
search_cut J r f k Error = further_cut J r f k

recover_cut : (J : Job) (r : Run) (f : Formed) (k : ℕ) → recover J r f k ≡ cut J (mark_demands r) r (recover (unlimited J) r f k)
unfolding recover place_mark unlimited marked mark_start mark_end mark_entry
recover_cut J r f k = refl

simulate_reduce_cut : (J : Job) (r : Run) (f : Formed) (k : ℕ) (sim : List ℕ) (p : ℕ)
    → simulate_reduce J r f k sim p ≡ cut J (simulation_demands J.tables r sim p) r (simulate_reduce (unlimited J) r f k sim p)
unfolding simulate_reduce simulate_over unlimited
simulate_reduce_cut J r f k sim zero = recover_cut J r f k
simulate_reduce_cut J r f k sim (suc p) = refl

simulate_cut : (J : Job) (r : Run) (f : Formed) (k : ℕ) (sim : List ℕ) (c : Cell)
    → simulate_look J r f k sim c ≡ cut J (simulate_demands J.tables r sim c) r (simulate_look (unlimited J) r f k sim c)
unfolding simulate_look
simulate_cut J r f k sim (Shift s) = recover_cut J r f k
simulate_cut J r f k sim (Reduce p) = simulate_reduce_cut J r f k sim p.0
simulate_cut J r f k sim Error = further_cut J r f k

look_cut : (J : Job) (r : Run) (m : Mode) → look J r m ≡ cut J (look_demands J r m) r (look (unlimited J) r m)
unfolding look unlimited look_column
look_cut J r Mode.main = main_cut J r (has_token J r) (action J.tables (top_state r.stack) (look_column J r))
look_cut J r (Mode.column f) = column_cut J r f (action J.tables (top_state r.stack) (error_column J.tables))
look_cut J r (Mode.search f k) =
    search_cut J r f k (action J.tables (top_state (drop k r.stack)) (error_column J.tables))
look_cut J r (Mode.simulate f k sim) = simulate_cut J r f k sim (action J.tables (top_of sim) (look_column J r))

-- a step is the step without limits, or the first limit that does not fit, with its look counted and nothing written
pub step_cut : (J : Job) (r : Run) → step J r ≡ cut J (demands J r) (counted r) (step (unlimited J) r)
unfolding step demands
step_cut J r = look_cut J (counted r) r.mode

pub begin_cut : (J : Job) → begin J ≡ cut J (depth 1 ∷ []) (first_run J) (begin (unlimited J))
unfolding begin unlimited first_run arrive judge_kind
begin_cut J = refl

-- ---- along a run

-- the first demand of the list that does not fit is answered so
pub data StopsAt (J : Job) (a : Answer) : List Demand → Type 0 where
  here : {d : Demand} {ds : List Demand} → fits J d ≡ false → limit_of d ≡ a → StopsAt J a (d ∷ ds)
  later : {d : Demand} {ds : List Demand} → fits J d ≡ true → StopsAt J a ds → StopsAt J a (d ∷ ds)

abbrev pub AllFit : Job → List Demand → Type 0
AllFit J [] = Unit {0}
AllFit J (d ∷ ds) = (fits J d ≡ true) × AllFit J ds

-- a list of demands fits, or it is cut at the first that does not
pub data Cut (J : Job) (ds : List Demand) (r : Run) (o : Outcome) : Type 0 where
  whole : AllFit J ds → cut J ds r o ≡ o → Cut J ds r o
  stopped : (a : Answer) → StopsAt J a ds → cut J ds r o ≡ Outcome.done a r → Cut J ds r o

one_more : (J : Job) (d : Demand) (ds : List Demand) (r : Run) (o : Outcome) (t : Bool) → fits J d ≡ t → Cut J ds r o → Cut J (d ∷ ds) r o
one_more J d ds r o true e (Cut.whole all same) = Cut.whole (e, all) (rw e same)
one_more J d ds r o true e (Cut.stopped a at same) = Cut.stopped a (StopsAt.later e at) (rw e same)
one_more J d ds r o false e c = Cut.stopped (limit_of d) (StopsAt.here e refl) (rw e refl)

pub cut_cases : (J : Job) (ds : List Demand) (r : Run) (o : Outcome) → Cut J ds r o
cut_cases J [] r o = Cut.whole tt refl
cut_cases J (d ∷ ds) r o = one_more J d ds r o (fits J d) refl (cut_cases J ds r o)

pub not_both : (J : Job) (a : Answer) (ds : List Demand) → StopsAt J a ds → AllFit J ds → ⊥
not_both J a [] x all = elim x [ ]
not_both J a (d ∷ ds) (StopsAt.here e l) all = absurd (true≢false (sym all.0 ∙ e))
not_both J a (d ∷ ds) (StopsAt.later e at) all = not_both J a ds at all.1

-- each of the first n steps of the run without limits fits
abbrev pub FitsFor : Job → ℕ → Outcome → Type 0
FitsFor J n o = (k : ℕ) (r : Run) → k < n → walk (unlimited J) k o ≡ Outcome.more r → AllFit J (demands J r)

-- n steps under limits: all of them fit, and they are those without limits; or the first k of them fit, the next asks for more than
-- fits, and they end there with its look counted and nothing else of it
pub data Limited (J : Job) (n : ℕ) (o : Outcome) : Type 0 where
  whole : FitsFor J n o → walk J n o ≡ walk (unlimited J) n o → Limited J n o
  cut_after : (k : ℕ) (r : Run) (a : Answer) → k < n → FitsFor J k o → walk (unlimited J) k o ≡ Outcome.more r → StopsAt J a (demands J r)
      → walk J n o ≡ Outcome.done a (counted r) → Limited J n o

fits_none : (J : Job) (o : Outcome) → FitsFor J 0 o
fits_none J o k r h e = absurd (omega arith)

fits_done : (J : Job) (n : ℕ) (a : Answer) (r : Run) → FitsFor J n (Outcome.done a r)
fits_done J n a r k s h e = let q = walk_done (unlimited J) k a r in let z : ◌≡◌ {A = ℕ} 0 1 = cc in absurd (omega arith)

fits_more : (J : Job) (n : ℕ) (r : Run) → AllFit J (demands J r) → FitsFor J n (step (unlimited J) r) → FitsFor J (suc n) (Outcome.more r)
unfolding walk
fits_more J n r all rest zero s h e = let q : r ≡ s = cc in subst (λ (x : Run). AllFit J (demands J x)) q all
fits_more J n r all rest (suc k) s h e = rest k s (omega arith) e

one_step : (J : Job) (n : ℕ) (r : Run) → AllFit J (demands J r) → step J r ≡ step (unlimited J) r → Limited J n (step (unlimited J) r)
    → Limited J (suc n) (Outcome.more r)
unfolding walk
one_step J n r all same (Limited.whole fit e) = Limited.whole (fits_more J n r all fit) (rw same e)
one_step J n r all same (Limited.cut_after k s a h fit at stop e) =
    Limited.cut_after (suc k) s a (omega arith) (fits_more J k r all fit) at stop (rw same e)

first_step : (J : Job) (n : ℕ) (r : Run) → Limited J n (step (unlimited J) r) → Cut J (demands J r) (counted r) (step (unlimited J) r)
    → Limited J (suc n) (Outcome.more r)
unfolding walk
first_step J n r rest (Cut.whole all e) = one_step J n r all (step_cut J r ∙ e) rest
first_step J n r rest (Cut.stopped a at e) =
    Limited.cut_after 0 r a (omega arith) (fits_none J (Outcome.more r)) refl at
    (rw (step_cut J r ∙ e) (walk_done J n a (counted r)))

pub limited : (J : Job) (n : ℕ) (o : Outcome) → Limited J n o
unfolding walk
limited J zero o = Limited.whole (fits_none J o) refl
limited J (suc n) (Outcome.more r) =
    first_step J n r (limited J n (step (unlimited J) r)) (cut_cases J (demands J r) (counted r) (step (unlimited J) r))
limited J (suc n) (Outcome.done a r) = Limited.whole (fits_done J (suc n) a r) refl

-- ---- the whole run

pub data Driven (J : Job) (budget : ℕ) : Type 0 where
  unhindered : J.depth_fits 1 ≡ true → FitsFor J budget (begin (unlimited J)) → drive J budget ≡ drive (unlimited J) budget → Driven J budget
  no_depth : J.depth_fits 1 ≡ false → drive J budget ≡ Outcome.done OutOfDepth (first_run J) → Driven J budget
  cut_after : (k : ℕ) (r : Run) (a : Answer) → J.depth_fits 1 ≡ true → k < budget → FitsFor J k (begin (unlimited J))
      → walk (unlimited J) k (begin (unlimited J)) ≡ Outcome.more r → StopsAt J a (demands J r) → drive J budget ≡ Outcome.done a (counted r) → Driven J budget

begin_fits : (J : Job) → J.depth_fits 1 ≡ true → begin J ≡ begin (unlimited J)
begin_fits J e = begin_cut J ∙ rw e refl

driven_deep : (J : Job) (budget : ℕ) → J.depth_fits 1 ≡ true → Limited J budget (begin (unlimited J)) → Driven J budget
driven_deep J budget h (Limited.whole fit e) =
    Driven.unhindered h fit (rw (drive_walk J budget, begin_fits J h, e) (sym (drive_walk (unlimited J) budget)))
driven_deep J budget h (Limited.cut_after k r a less fit at stop e) =
    Driven.cut_after k r a h less fit at stop (rw (drive_walk, begin_fits J h, e) refl)

driven_by : (J : Job) (budget : ℕ) (t : Bool) → J.depth_fits 1 ≡ t → Driven J budget
driven_by J budget true h = driven_deep J budget h (limited J budget (begin (unlimited J)))
driven_by J budget false h =
    let first : begin J ≡ Outcome.done OutOfDepth (first_run J) = begin_cut J ∙ rw h refl in
    Driven.no_depth h (rw (drive_walk, first, walk_done) refl)

pub driven : (J : Job) (budget : ℕ) → Driven J budget
driven J budget = driven_by J budget (J.depth_fits 1) refl

-- a limit's number
pub limit_number : (J : Job) (a : Answer) (ds : List Demand) → StopsAt J a ds → (20 ≤ number_of a) × (number_of a ≤ 23)
limit_number J a [] x = elim x [ ]
limit_number J a (d ∷ ds) (StopsAt.here e l) = rw (← l) (limit_numbers d)
limit_number J a (d ∷ ds) (StopsAt.later e at) = limit_number J a ds at

-- ---- more room

-- the same run with at least as much room
pub record Roomier (J J' : Job) : Type 0 where
  pub same : unlimited J ≡ unlimited J'
  pub room : (d : Demand) → fits J d ≡ true → fits J' d ≡ true

look_demands_unlimited : (J : Job) (r : Run) (m : Mode) → look_demands J r m ≡ look_demands (unlimited J) r m
unfolding unlimited look_column
look_demands_unlimited J r Mode.main = refl
look_demands_unlimited J r (Mode.column f) = refl
look_demands_unlimited J r (Mode.search f k) = refl
look_demands_unlimited J r (Mode.simulate f k sim) = refl

demands_unlimited : (J : Job) (r : Run) → demands J r ≡ demands (unlimited J) r
unfolding demands
demands_unlimited J r = look_demands_unlimited J (counted r) r.mode

demands_same : (J J' : Job) (r : Run) → unlimited J ≡ unlimited J' → demands J r ≡ demands J' r
demands_same J J' r e = demands_unlimited J r ∙ rw e (sym (demands_unlimited J' r))

all_fit : (J J' : Job) (ds : List Demand) → Roomier J J' → AllFit J ds → AllFit J' ds
all_fit J J' [] more_room all = tt
all_fit J J' (d ∷ ds) more_room all = (more_room.room d all.0, all_fit J J' ds more_room all.1)

roomier_fit : (J J' : Job) (r : Run) → Roomier J J' → AllFit J (demands J r) → AllFit J' (demands J' r)
roomier_fit J J' r m all = rw (← demands_same J J' r m.same) (all_fit J J' (demands J r) m all)

-- where the run without limits is done within the budget, and each step before that fits, room and budget may grow
module _ (J J' : Job) (budget larger : ℕ) (a : Answer) (r : Run) (m : Roomier J J') (grows : budget ≤ larger) where
  no_cut : FitsFor J budget (begin (unlimited J)) → walk (unlimited J) budget (begin (unlimited J)) ≡ Outcome.done a r → (k : ℕ) (s : Run) (b : Answer)
      → walk (unlimited J') k (begin (unlimited J')) ≡ Outcome.more s → StopsAt J' b (demands J' s) → Dec (k < budget) → ⊥
  no_cut fit e k s b at stop (yes less) =
      not_both J' b (demands J' s) stop (roomier_fit J J' s m (fit k s less (rw m.same at)))
  no_cut fit e k s b at stop (no over) =
      let le : budget ≤ k = omega arith in
      let longer = walk_longer (unlimited J) budget k (begin (unlimited J)) a r le e in
      let here : walk (unlimited J) k (begin (unlimited J)) ≡ Outcome.more s = rw m.same at in
      let z : ◌≡◌ {A = ℕ} 0 1 = cc in omega arith

  as_without : FitsFor J budget (begin (unlimited J)) → walk (unlimited J) budget (begin (unlimited J)) ≡ Outcome.done a r → J.depth_fits 1 ≡ true
      → Driven J' larger → drive J' larger ≡ Outcome.done a r
  as_without fit e deep (Driven.unhindered h fit' same) =
      let longer = walk_longer (unlimited J) budget larger (begin (unlimited J)) a r grows e in
      rw (same, ← m.same, drive_walk, longer) refl
  as_without fit e deep (Driven.no_depth h same) = absurd (true≢false (sym (m.room (depth 1) deep) ∙ h))
  as_without fit e deep (Driven.cut_after k s b h less fit' at stop same) =
      absurd (no_cut fit e k s b at stop (dec_lt k budget))

  from_driven : number_of a < 19 → drive J budget ≡ Outcome.done a r → Driven J budget → drive J' larger ≡ Outcome.done a r
  from_driven small e (Driven.unhindered h fit same) =
      let unstopped = other_end (unlimited J) budget a r (λ q. small_not_units small q) (sym same ∙ e) in
      as_without fit unstopped h (driven J' larger)
    where
      small_not_units : number_of a < 19 → a ≡ OutOfUnits → ⊥
      small_not_units less q = let n : number_of a ≡ 19 = ap number_of q in omega arith
  from_driven small e (Driven.no_depth h same) =
      let q : a ≡ OutOfDepth = cc in let n : number_of a ≡ 20 = ap number_of q in absurd (omega arith)
  from_driven small e (Driven.cut_after k s b h less fit at stop same) =
      let q : b ≡ a = cc in let n : number_of b ≡ number_of a = ap number_of q in
      let big = limit_number J b (demands J s) stop in absurd (omega arith)

  -- more room and more budget never change an answer that no limit stopped
  pub more_room : number_of a < 19 → drive J budget ≡ Outcome.done a r → drive J' larger ≡ Outcome.done a r
  more_room small e = from_driven small e (driven J budget)

-- ---- the tests stand in the order of their numbers

abbrev pub Ascending : ℕ → List Demand → Type 0
Ascending n [] = Unit {0}
Ascending n (d ∷ ds) = (n < number_of (limit_of d)) × Ascending (number_of (limit_of d)) ds

ascending_reduction : (T : Tables) (r : Run) (p : ℕ) → Ascending 19 (reduction_demands T r p)
ascending_reduction T r zero = tt
ascending_reduction T r (suc p) = (omega arith, (omega arith, (omega arith, tt)))

ascending_simulation : (T : Tables) (r : Run) (sim : List ℕ) (p : ℕ) → Ascending 19 (simulation_demands T r sim p)
ascending_simulation T r sim zero = (omega arith, (omega arith, tt))
ascending_simulation T r sim (suc p) = (omega arith, tt)

ascending_main : (T : Tables) (r : Run) (token : Bool) (c : Cell) → Ascending 19 (main_demands T r token c)
ascending_main T r true (Shift s) = (omega arith, (omega arith, tt))
ascending_main T r false (Shift s) = tt
ascending_main T r true (Reduce p) = ascending_reduction T r p.0
ascending_main T r false (Reduce p) = ascending_reduction T r p.0
ascending_main T r true Error = tt
ascending_main T r false Error = tt

ascending_column : (T : Tables) (r : Run) (c : Cell) → Ascending 19 (column_demands T r c)
ascending_column T r (Shift s) = tt
ascending_column T r (Reduce p) = ascending_reduction T r p.0
ascending_column T r Error = tt

ascending_search : (r : Run) (k : ℕ) (c : Cell) → Ascending 19 (search_demands r k c)
ascending_search r k (Shift s) = (omega arith, tt)
ascending_search r k (Reduce p) = tt
ascending_search r k Error = tt

ascending_simulate : (T : Tables) (r : Run) (sim : List ℕ) (c : Cell) → Ascending 19 (simulate_demands T r sim c)
ascending_simulate T r sim (Shift s) = (omega arith, (omega arith, tt))
ascending_simulate T r sim (Reduce p) = ascending_simulation T r sim p.0
ascending_simulate T r sim Error = tt

ascending_look : (J : Job) (r : Run) (m : Mode) → Ascending 19 (look_demands J r m)
ascending_look J r Mode.main = ascending_main J.tables r (has_token J r) (action J.tables (top_state r.stack) (look_column J r))
ascending_look J r (Mode.column f) = ascending_column J.tables r (action J.tables (top_state r.stack) (error_column J.tables))
ascending_look J r (Mode.search f k) = ascending_search r k (action J.tables (top_state (drop k r.stack)) (error_column J.tables))
ascending_look J r (Mode.simulate f k sim) = ascending_simulate J.tables r sim (action J.tables (top_of sim) (look_column J r))

pub ascending : (J : Job) (r : Run) → Ascending 19 (demands J r)
unfolding demands
ascending J r = ascending_look J (counted r) r.mode

-- ---- the limits of a call

-- each limit at least as large
pub record AtLeast (L L' : Limits) : Type 0 where
  pub budget : L.budget ≤ L'.budget
  pub depth : L.depth ≤ L'.depth
  pub children : L.children ≤ L'.children
  pub nodes : L.nodes ≤ L'.nodes
  pub records : L.records ≤ L'.records

still_fits : (n a b : ℕ) → a ≤ b → leb n a ≡ true → leb n b ≡ true
still_fits n a b h e = let l = leb-true n a e in le-leb n b (omega arith)

pub roomier_call : (T : Tables) (tokens : List Token) (origin : ℕ) (L L' : Limits) → AtLeast L L' → Roomier (job_of T tokens origin L) (job_of T tokens origin L')
unfolding job_of unlimited
roomier_call T tokens origin L L' h = record { same = refl; room = by_demand }
  where
    by_demand : (d : Demand) → fits (job_of T tokens origin L) d ≡ true → fits (job_of T tokens origin L') d ≡ true
    by_demand (depth n) e = still_fits n L.depth L'.depth h.depth e
    by_demand (children n) e = still_fits n L.children L'.children h.children e
    by_demand (nodes n) e = still_fits n L.nodes L'.nodes h.nodes e
    by_demand (records n) e = still_fits n L.records L'.records h.records e
