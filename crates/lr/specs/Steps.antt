-- What one step can do, as a list of cases: each names the mode, the cell that was looked at and the outcome. `view` says that a
-- step is one of them, so that whatever holds along runs is shown by one clause for each case, and no more of the driver.
use Rattle.std.specs.Prelude.{◌≡◌, refl, Bool, true, false, List, [], ◌∷◌, ℕ, zero, suc, ◌+◌, ◌≤◌, ◌<◌, length, take, drop}
use Rattle.std.proofs.Common.{arith}
use Rattle.words.specs.Laws.{pick_case, pick_ltb, pick_eqb}
use Rattle.rules.specs.declared.Cell.{Cell}
use Rattle.rules.specs.declared.Cell.TheVariants.{Shift, Reduce, Error}
use Rattle.rules.specs.declared.StateNo.{StateNo}
use Rattle.rules.specs.declared.Formed.{Formed}
use Rattle.rules.specs.declared.Answer.{Answer}
use Rattle.rules.specs.declared.Answer.TheVariants.{Accepted, AcceptedEarly, UnrecognizedToken, ExtraToken, TokenizerError, OutOfDepth, OutOfChildren, OutOfNodes, OutOfRecords}
use Rattle.rules.specs.Answers.{number_of}
use Rattle.rules.specs.Tables.{Tables, error_column, action, goto, target, left, size}
use Rattle.rules.specs.Driving.{Job, Run, Mode, Marked, Outcome, top_state, top_of, root_of, states_of, counted, in_mode, read_to, advanced, need, grow, has_token, token_at, look_column, arrive, judge_kind, token_entry, shift, production_entry, nodes_of, reduce_over, reduce, main_reduce, answer_of, fail, formed, main_look, column_reduce, column_look, drop_token, further, start_simulation, search_look, marked, mark_entry, place_mark, recover, simulate_over, simulate_reduce, simulate_look, look, step}

-- what a step asks for: a depth, or so many child entries, nodes or records
pub data Demand : Type 0 where
  depth : ℕ → Demand
  children : ℕ → Demand
  nodes : ℕ → Demand
  records : ℕ → Demand

abbrev pub fits : Job → Demand → Bool
fits J (depth n) = J.depth_fits n
fits J (children n) = J.children_fit n
fits J (nodes n) = J.nodes_fit n
fits J (records n) = J.records_fit n

-- "20 depth, 21 child entries, 22 nodes, 23 records"
abbrev pub limit_of : Demand → Answer
limit_of (depth n) = OutOfDepth
limit_of (children n) = OutOfChildren
limit_of (nodes n) = OutOfNodes
limit_of (records n) = OutOfRecords

-- no limit stops the job
abbrev pub NoLimit : Job → Type 0
NoLimit J = (d : Demand) → fits J d ≡ true

pub limit_numbers : (d : Demand) → (20 ≤ number_of (limit_of d)) × (number_of (limit_of d) ≤ 23)
limit_numbers (Demand.depth n) = omega arith
limit_numbers (Demand.children n) = omega arith
limit_numbers (Demand.nodes n) = omega arith
limit_numbers (Demand.records n) = omega arith

-- the cells at which nothing is reduced, and those at which nothing is shifted
abbrev pub NoReduce : Cell → Type 0
NoReduce (Shift s) = Unit {0}
NoReduce (Reduce p) = ⊥
NoReduce Error = Unit {0}

abbrev pub NoShift : Cell → Type 0
NoShift (Shift s) = ⊥
NoShift (Reduce p) = Unit {0}
NoShift Error = Unit {0}

-- a cell that says yes to a simulated lookahead: "error cell no, shift yes, production 0 yes"
abbrev pub SaysYes : Cell → Type 0
SaysYes (Shift s) = Unit {0}
SaysYes (Reduce p) = p.0 ≡ 0
SaysYes Error = ⊥

-- a main cell at which the error is formed: an error cell, or, at the end of input, a shift
abbrev pub Fails : Bool → Cell → Type 0
Fails true (Shift s) = ⊥
Fails false (Shift s) = Unit {0}
Fails token (Reduce p) = ⊥
Fails token Error = Unit {0}

-- what a reduction by production p and a mark above k popped symbols leave
abbrev pub reduced : Job → Run → ℕ → Mode → Run
reduced J r p m =
    grow r (drop (size J.tables p) r.stack)
    (production_entry J r p (take (size J.tables p) r.stack) (drop (size J.tables p) r.stack))
    (nodes_of (take (size J.tables p) r.stack)) [] m

abbrev pub shifted : Job → Run → StateNo → Run
shifted J r s = advanced (grow r r.stack (token_entry J r s) [] [] Mode.main) Mode.main

abbrev pub record_of : Job → Run → Formed → ℕ → Marked
record_of J r f k = marked J r f (take k r.stack) (drop k r.stack)

abbrev pub recovered : Job → Run → Formed → ℕ → Run
recovered J r f k =
    grow r (drop k r.stack) (mark_entry J r (record_of J r f k) (drop k r.stack)) [] (record_of J r f k ∷ []) Mode.main

abbrev pub main_cell : Job → Run → Cell
main_cell J r = action J.tables (top_state r.stack) (look_column J r)

abbrev pub column_cell : Job → Run → Cell
column_cell J r = action J.tables (top_state r.stack) (error_column J.tables)

abbrev pub search_cell : Job → Run → ℕ → Cell
search_cell J r k = action J.tables (top_state (drop k r.stack)) (error_column J.tables)

abbrev pub simulate_cell : Job → Run → List ℕ → Cell
simulate_cell J r sim = action J.tables (top_of sim) (look_column J r)

-- the states of a simulation after a reduction by p
abbrev pub simulated : Tables → List ℕ → ℕ → List ℕ
simulated T sim p = target (goto T (top_of (drop (size T p) sim)) (left T p)) ∷ drop (size T p) sim

-- an error's moment is the lookahead of the look that formed it, whatever the units
pub formed_from : (r : Run) (t : Bool) → (formed r t).from ≡ r.next
unfolding formed
formed_from r true = refl
formed_from r false = refl

pub formed_counted : (r : Run) (t : Bool) → formed (counted r) t ≡ formed r t
unfolding formed
formed_counted r true = refl
formed_counted r false = refl

-- in this mode the state below k popped symbols was found to say no
pub data Refutes (J : Job) (r : Run) (f : Formed) (k : ℕ) : Mode → Type 0 where
  no_shift : NoShift (search_cell J r k) → Refutes J r f k (Mode.search f k)
  no_way : (sim : List ℕ) → simulate_cell J r sim ≡ Error → Refutes J r f k (Mode.simulate f k sim)

-- the token at `next` is read, if there is one
pub data Arrival (J : Job) (r : Run) : Outcome → Type 0 where
  at_end : has_token J r ≡ false → Arrival J r (Outcome.more r)
  reads : has_token J r ≡ true → J.reads (token_at J r.next).kind ≡ true → Arrival J r (Outcome.more (read_to r (token_at J r.next).end))
  unread : has_token J r ≡ true → J.reads (token_at J r.next).kind ≡ false
      → Arrival J r (Outcome.done (UnrecognizedToken r.next (record { 0 = top_state r.stack })) (read_to r (token_at J r.next).end))
  broken : has_token J r ≡ true → (token_at J r.next).kind ≡ 65535 → Arrival J r (Outcome.done (TokenizerError r.next) r)

arrival_kind : (J : Job) (r : Run) → has_token J r ≡ true → Arrival J r (judge_kind J r (token_at J r.next))
unfolding judge_kind
arrival_kind J r h =
    pick_eqb (Arrival J r) (token_at J r.next).kind 65535 _ _ (λ e. Arrival.broken h e) (λ e.
    pick_case (Arrival J r) (J.reads (token_at J r.next).kind) _ _ (λ t. Arrival.reads h t) (λ t. Arrival.unread h t))

pub arrival : (J : Job) (r : Run) → Arrival J r (arrive J r)
unfolding arrive
arrival J r = pick_case (Arrival J r) (has_token J r) _ _ (λ h. arrival_kind J r h) (λ h. Arrival.at_end h)

-- the outcome of a look at a run in a mode
pub data View (J : Job) (r : Run) : Mode → Outcome → Type 0 where
  stops : {m : Mode} (d : Demand) → fits J d ≡ false → View J r m (Outcome.done (limit_of d) r)
  shifts : (s : StateNo) {o : Outcome} → has_token J r ≡ true → main_cell J r ≡ Shift s → Arrival J (shifted J r s) o → View J r Mode.main o
  reduces : (p : ℕ) → main_cell J r ≡ Reduce (record { 0 = suc p }) → View J r Mode.main (Outcome.more (reduced J r (suc p) Mode.main))
  extra : has_token J r ≡ true → main_cell J r ≡ Reduce (record { 0 = 0 }) → View J r Mode.main (Outcome.done (ExtraToken r.next) r)
  accepts : has_token J r ≡ false → main_cell J r ≡ Reduce (record { 0 = 0 }) → View J r Mode.main (Outcome.done (Accepted (root_of r.stack)) r)
  fails : J.recovers ≡ false → Fails (has_token J r) (main_cell J r) → View J r Mode.main (Outcome.done (answer_of (formed r (has_token J r))) r)
  forms : J.recovers ≡ true → Fails (has_token J r) (main_cell J r) → View J r Mode.main (Outcome.more (in_mode r (Mode.column (formed r (has_token J r)))))
  column_reduces : {f : Formed} (p : ℕ) → column_cell J r ≡ Reduce (record { 0 = suc p })
      → View J r (Mode.column f) (Outcome.more (reduced J r (suc p) (Mode.column f)))
  accepts_early : {f : Formed} → column_cell J r ≡ Reduce (record { 0 = 0 })
      → View J r (Mode.column f) (Outcome.done (AcceptedEarly (root_of r.stack) f.from) r)
  column_ends : {f : Formed} → NoReduce (column_cell J r) → View J r (Mode.column f) (Outcome.more (in_mode r (Mode.search f 0)))
  tries : {f : Formed} {k : ℕ} (s : StateNo) → search_cell J r k ≡ Shift s
      → View J r (Mode.search f k) (Outcome.more (in_mode r (Mode.simulate f k (s.0 ∷ states_of (drop k r.stack)))))
  deeper : {m : Mode} {f : Formed} {k : ℕ} → Refutes J r f k m → k < length r.stack → View J r m (Outcome.more (in_mode r (Mode.search f (k + 1))))
  drops : {m : Mode} {f : Formed} {k : ℕ} {o : Outcome} → Refutes J r f k m → length r.stack ≤ k → has_token J r ≡ true
      → Arrival J (advanced r (Mode.search f 0)) o → View J r m o
  gives_up : {m : Mode} {f : Formed} {k : ℕ} → Refutes J r f k m → length r.stack ≤ k → has_token J r ≡ false → View J r m (Outcome.done (answer_of f) r)
  simulates : {f : Formed} {k : ℕ} {sim : List ℕ} (p : ℕ) → simulate_cell J r sim ≡ Reduce (record { 0 = suc p })
      → View J r (Mode.simulate f k sim) (Outcome.more (in_mode r (Mode.simulate f k (simulated J.tables sim (suc p)))))
  marks : {f : Formed} {k : ℕ} {sim : List ℕ} → SaysYes (simulate_cell J r sim) → View J r (Mode.simulate f k sim) (Outcome.more (recovered J r f k))

-- ---- every look is one of them

view_fits : (J : Job) (r : Run) (m : Mode) (d : Demand) (t : Bool) (o : Outcome) → fits J d ≡ t → View J r m o → View J r m (need t (limit_of d) r o)
view_fits J r m d true o e v = v
view_fits J r m d false o e v = View.stops d e

view_need : (J : Job) (r : Run) (m : Mode) (d : Demand) (o : Outcome) → View J r m o → View J r m (need (fits J d) (limit_of d) r o)
view_need J r m d o v = view_fits J r m d (fits J d) o refl v

view_shift : (J : Job) (r : Run) (s : StateNo) → has_token J r ≡ true → main_cell J r ≡ Shift s → View J r Mode.main (shift J r s)
unfolding shift
view_shift J r s h e =
    view_need J r Mode.main (depth (length r.stack + 2)) _
    (view_need J r Mode.main (nodes (length r.nodes + 1)) _
    (View.shifts s h e (arrival J (shifted J r s))))

view_reduce : (J : Job) (r : Run) (p : ℕ) (m m' : Mode) → View J r m' (Outcome.more (reduced J r p m)) → View J r m' (reduce J r p m)
unfolding reduce reduce_over
view_reduce J r p m m' v =
    view_need J r m' (depth (length (drop (size J.tables p) r.stack) + 2)) _
    (view_need J r m' (children (length r.children + length (take (size J.tables p) r.stack))) _
    (view_need J r m' (nodes (length r.nodes + 1)) _ v))

view_main_reduce : (J : Job) (r : Run) (token : Bool) (p : ℕ) → has_token J r ≡ token → main_cell J r ≡ Reduce (record { 0 = p })
    → View J r Mode.main (main_reduce J r token p)
unfolding main_reduce
view_main_reduce J r true zero h e = View.extra h e
view_main_reduce J r false zero h e = View.accepts h e
view_main_reduce J r true (suc p) h e = view_reduce J r (suc p) Mode.main Mode.main (View.reduces p e)
view_main_reduce J r false (suc p) h e = view_reduce J r (suc p) Mode.main Mode.main (View.reduces p e)

view_fail : (J : Job) (r : Run) → Fails (has_token J r) (main_cell J r) → View J r Mode.main (fail J r (formed r (has_token J r)))
unfolding fail
view_fail J r h = pick_case (View J r Mode.main) J.recovers _ _ (λ e. View.forms e h) (λ e. View.fails e h)

view_main : (J : Job) (r : Run) (token : Bool) (c : Cell) → has_token J r ≡ token → main_cell J r ≡ c → View J r Mode.main (main_look J r token c)
unfolding main_look
view_main J r true (Shift s) h e = view_shift J r s h e
view_main J r false (Shift s) h e = rw (← h) (view_fail J r (rw (h, e) tt))
view_main J r true (Reduce p) h e = view_main_reduce J r true p.0 h e
view_main J r false (Reduce p) h e = view_main_reduce J r false p.0 h e
view_main J r true Error h e = rw (← h) (view_fail J r (rw (h, e) tt))
view_main J r false Error h e = rw (← h) (view_fail J r (rw (h, e) tt))

view_column_reduce : (J : Job) (r : Run) (f : Formed) (p : ℕ) → column_cell J r ≡ Reduce (record { 0 = p }) → View J r (Mode.column f) (column_reduce J r f p)
unfolding column_reduce
view_column_reduce J r f zero e = View.accepts_early e
view_column_reduce J r f (suc p) e = view_reduce J r (suc p) (Mode.column f) (Mode.column f) (View.column_reduces p e)

view_column : (J : Job) (r : Run) (f : Formed) (c : Cell) → column_cell J r ≡ c → View J r (Mode.column f) (column_look J r f c)
unfolding column_look
view_column J r f (Shift s) e = View.column_ends (rw e tt)
view_column J r f (Reduce p) e = view_column_reduce J r f p.0 e
view_column J r f Error e = View.column_ends (rw e tt)

view_further : (J : Job) (r : Run) (m : Mode) (f : Formed) (k : ℕ) → Refutes J r f k m → View J r m (further J r f k)
unfolding further drop_token
view_further J r m f k no-here =
    pick_ltb (View J r m) k (length r.stack) _ _ (λ h. View.deeper no-here h) (λ h.
    pick_case (View J r m) (has_token J r) _ _ (λ t. View.drops no-here h t (arrival J (advanced r (Mode.search f 0)))) (λ t. View.gives_up no-here h t))

view_search : (J : Job) (r : Run) (f : Formed) (k : ℕ) (c : Cell) → search_cell J r k ≡ c → View J r (Mode.search f k) (search_look J r f k c)
unfolding search_look start_simulation
view_search J r f k (Shift s) e =
    view_need J r (Mode.search f k) (depth (length (states_of (drop k r.stack)) + 2)) _ (View.tries s e)
view_search J r f k (Reduce p) e = view_further J r (Mode.search f k) f k (Refutes.no_shift (rw e tt))
view_search J r f k Error e = view_further J r (Mode.search f k) f k (Refutes.no_shift (rw e tt))

view_recover : (J : Job) (r : Run) (f : Formed) (k : ℕ) (sim : List ℕ) → SaysYes (simulate_cell J r sim) → View J r (Mode.simulate f k sim) (recover J r f k)
unfolding recover place_mark
view_recover J r f k sim h =
    view_need J r (Mode.simulate f k sim) (nodes (length r.nodes + 1)) _
    (view_need J r (Mode.simulate f k sim) (records (length r.marks + 1)) _ (View.marks h))

view_simulate_reduce : (J : Job) (r : Run) (f : Formed) (k : ℕ) (sim : List ℕ) (p : ℕ) → simulate_cell J r sim ≡ Reduce (record { 0 = p })
    → View J r (Mode.simulate f k sim) (simulate_reduce J r f k sim p)
unfolding simulate_reduce simulate_over
view_simulate_reduce J r f k sim zero e = view_recover J r f k sim (rw e refl)
view_simulate_reduce J r f k sim (suc p) e =
    view_need J r (Mode.simulate f k sim) (depth (length (drop (size J.tables (suc p)) sim) + 2)) _ (View.simulates p e)

view_simulate : (J : Job) (r : Run) (f : Formed) (k : ℕ) (sim : List ℕ) (c : Cell) → simulate_cell J r sim ≡ c
    → View J r (Mode.simulate f k sim) (simulate_look J r f k sim c)
unfolding simulate_look
view_simulate J r f k sim (Shift s) e = view_recover J r f k sim (rw e tt)
view_simulate J r f k sim (Reduce p) e = view_simulate_reduce J r f k sim p.0 e
view_simulate J r f k sim Error e = view_further J r (Mode.simulate f k sim) f k (Refutes.no_way sim e)

pub view_look : (J : Job) (r : Run) (m : Mode) → View J r m (look J r m)
unfolding look
view_look J r Mode.main = view_main J r (has_token J r) (main_cell J r) refl refl
view_look J r (Mode.column f) = view_column J r f (column_cell J r) refl
view_look J r (Mode.search f k) = view_search J r f k (search_cell J r k) refl
view_look J r (Mode.simulate f k sim) = view_simulate J r f k sim (simulate_cell J r sim) refl

pub view : (J : Job) (r : Run) → View J (counted r) r.mode (step J r)
unfolding step
view J r = view_look J (counted r) r.mode
