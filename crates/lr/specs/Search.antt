-- A search without limits comes to its end: past each pair that says no, to the mark at the first pair that says yes, or, where none
-- does, to the error that was formed. Each verdict of a simulation is a finite number of looks, so this is by induction on them.
use Rattle.std.specs.Prelude.{◌≡◌, Bool, List, ◌∷◌, length, drop}
use Rattle.std.proofs.Math.Path.{refl, subst}
use Rattle.std.proofs.Common.{sym, arith}
use Rattle.std.proofs.Math.Bool.{true, false}
use Prim.Native.Nat.{ℕ, zero, suc, ◌+◌, ◌-◌, ◌≤◌, ◌<◌}
use borrow.Author.Tests.{lt-ltb, le-ltb, ltb-true, ne_eqb}
use Rattle.rules.specs.declared.Cell.{Cell}
use Rattle.rules.specs.declared.Cell.TheVariants.{Shift, Reduce, Error}
use Rattle.rules.specs.declared.StateNo.{StateNo}
use Rattle.rules.specs.declared.Formed.{Formed}
use Rattle.rules.specs.Tables.{error_column, action, size}
use Rattle.rules.specs.Driving.{Job, Run, Mode, Outcome, top_state, top_of, states_of, depth_over, read_to, advanced, has_token, token_at, look_column, judge_kind, arrive, answer_of, drop_token, further, start_simulation, search_look, place_mark, recover, simulate_over, simulate_reduce, simulate_look, look, step}
use Rattle.lr.specs.Steps.{depth, nodes, records, NoLimit, NoShift, SaysYes, simulated, recovered}
use Rattle.lr.specs.Runs.{walk}
use Rattle.lr.specs.Choice.{Simulates, column_at, Says, AllSayNo}

-- some number of steps leads from one outcome to the other
pub data Leads (J : Job) : Outcome → Outcome → Type 0 where
  there : {o : Outcome} → Leads J o o
  by_step : {r : Run} {o : Outcome} → Leads J (step J r) o → Leads J (Outcome.more r) o

pub leads_on : {J : Job} {o o' o'' : Outcome} → Leads J o o' → Leads J o' o'' → Leads J o o''
leads_on Leads.there k = k
leads_on (Leads.by_step h) k = Leads.by_step (leads_on h k)

pub leads_walk : (J : Job) (o o' : Outcome) → Leads J o o' → (n : ℕ) × (walk J n o ≡ o')
unfolding walk
leads_walk J o o' Leads.there = (0, refl)
leads_walk J o o' (Leads.by_step {r = r} h) = let w = leads_walk J (step J r) o' h in (suc w.0, w.1)

-- the token at index i, if there is one, is read
abbrev pub ReadAt : Job → ℕ → Type 0
ReadAt J i = i < length J.tokens → (J.reads (token_at J i).kind ≡ true) × ((token_at J i).kind ≡ 65535 → ⊥)

-- a run in a mode, with so many units
abbrev pub placed : Run → Mode → ℕ → Run
placed r m u =
    record { stack = r.stack; nodes = r.nodes; children = r.children; marks = r.marks; units = u; next = r.next; last = r.last; mode = m }

-- a run further on: the lookahead at another index, and its last location
abbrev pub ahead : Run → ℕ → ℕ → Run
ahead r i l =
    record { stack = r.stack; nodes = r.nodes; children = r.children; marks = r.marks; units = r.units; next = i; last = l; mode = r.mode }

-- of all pairs from the run's lookahead on, the first that says yes, with the tokens up to its lookahead read
pub record FirstPair (J : Job) (r : Run) (i k : ℕ) : Type 0 where
  pub from : r.next ≤ i
  pub to : i ≤ length J.tokens
  pub deep : k ≤ length r.stack
  pub earlier : (j : ℕ) → r.next ≤ j → j < i → AllSayNo J r.stack j
  pub higher : (j : ℕ) → j < k → Says J r.stack i j false
  pub here : Says J r.stack i k true
  pub read : (j : ℕ) → r.next < j → j ≤ i → ReadAt J j

-- no pair from the run's lookahead on says yes, and all tokens are read
pub record NoneLeft (J : Job) (r : Run) : Type 0 where
  pub inside : r.next ≤ length J.tokens
  pub none : (j : ℕ) → r.next ≤ j → j ≤ length J.tokens → AllSayNo J r.stack j
  pub read : (j : ℕ) → r.next < j → j ≤ length J.tokens → ReadAt J j

-- the mark above k popped symbols, with the lookahead at i, on the stack that was searched
pub record MarkAt (J : Job) (f : Formed) (r : Run) (i k : ℕ) (o : Outcome) : Type 0 where
  pub before : Run
  pub stack : before.stack ≡ r.stack
  pub marks : before.marks ≡ r.marks
  pub lookahead : before.next ≡ i
  pub placed_so : o ≡ Outcome.more (recovered J before f k)

module _ (J : Job) (free : NoLimit J) (f : Formed) where
  -- ---- one look

  search_no : (r : Run) (k u : ℕ) (c : Cell) → action J.tables (top_state (drop k r.stack)) (error_column J.tables) ≡ c → NoShift c
      → step J (placed r (Mode.search f k) u) ≡ further J (placed r (Mode.search f k) (u + 1)) f k
  unfolding step look search_look
  search_no r k u (Shift s) e n = absurd n
  search_no r k u (Reduce p) e n = rw e refl
  search_no r k u Error e n = rw e refl

  search_shift : (r : Run) (k u : ℕ) (s : StateNo) → action J.tables (top_state (drop k r.stack)) (error_column J.tables) ≡ Shift s
      → step J (placed r (Mode.search f k) u) ≡ Outcome.more (placed r (Mode.simulate f k (s.0 ∷ states_of (drop k r.stack))) (u + 1))
  unfolding step look search_look start_simulation
  search_shift r k u s e = rw (e, free (depth (depth_over (states_of (drop k r.stack))))) refl

  simulate_no : (r : Run) (k u : ℕ) (sim : List ℕ) → action J.tables (top_of sim) (column_at J r.next) ≡ Error
      → step J (placed r (Mode.simulate f k sim) u) ≡ further J (placed r (Mode.simulate f k sim) (u + 1)) f k
  unfolding step look simulate_look look_column
  simulate_no r k u sim e = rw e refl

  simulate_on_law : (r : Run) (k u : ℕ) (sim : List ℕ) (p : ℕ) → action J.tables (top_of sim) (column_at J r.next) ≡ Reduce (record { 0 = suc p })
      → step J (placed r (Mode.simulate f k sim) u) ≡ Outcome.more (placed r (Mode.simulate f k (simulated J.tables sim (suc p))) (u + 1))
  unfolding step look simulate_look simulate_reduce simulate_over look_column
  simulate_on_law r k u sim p e = rw (e, free (depth (depth_over (drop (size J.tables (suc p)) sim)))) refl

  place_free : (r : Run) (k : ℕ) → recover J r f k ≡ Outcome.more (recovered J r f k)
  unfolding recover place_mark
  place_free r k = rw (free (nodes (length r.nodes + 1)), free (records (length r.marks + 1))) refl

  simulate_reduce_yes : (r : Run) (k : ℕ) (sim : List ℕ) (p : ℕ) → p ≡ 0 → simulate_reduce J r f k sim p ≡ Outcome.more (recovered J r f k)
  unfolding simulate_reduce
  simulate_reduce_yes r k sim zero h = place_free r k
  simulate_reduce_yes r k sim (suc p) h = absurd (omega arith)

  simulate_yes_at : (r : Run) (k : ℕ) (sim : List ℕ) (c : Cell) → SaysYes c → simulate_look J r f k sim c ≡ Outcome.more (recovered J r f k)
  unfolding simulate_look
  simulate_yes_at r k sim (Shift s) h = place_free r k
  simulate_yes_at r k sim (Reduce p) h = simulate_reduce_yes r k sim p.0 h
  simulate_yes_at r k sim Error h = absurd h

  simulate_yes : (r : Run) (k u : ℕ) (sim : List ℕ) → SaysYes (action J.tables (top_of sim) (column_at J r.next))
      → step J (placed r (Mode.simulate f k sim) u) ≡ Outcome.more (recovered J (placed r (Mode.simulate f k sim) (u + 1)) f k)
  unfolding step look look_column
  simulate_yes r k u sim h =
      simulate_yes_at (placed r (Mode.simulate f k sim) (u + 1)) k sim (action J.tables (top_of sim) (column_at J r.next)) h

  -- ---- one state

  -- what a verdict leads to: the mark, or the next state or token
  outcome_of : Bool → Run → ℕ → Outcome
  outcome_of true r k = Outcome.more (recovered J r f k)
  outcome_of false r k = further J r f k

  step_leads : (r : Run) (o o' : Outcome) → step J r ≡ o → Leads J o o' → Leads J (Outcome.more r) o'
  step_leads r o o' e h = Leads.by_step (subst (λ (x : Outcome). Leads J x o') (sym e) h)

  simulation_ends : (r : Run) (k u : ℕ) (sim : List ℕ) (b : Bool) → Simulates J.tables (column_at J r.next) sim b
      → (m : Mode) × (v : ℕ) × Leads J (Outcome.more (placed r (Mode.simulate f k sim) u)) (outcome_of b (placed r m v) k)
  unfolding outcome_of
  simulation_ends r k u sim b (Simulates.says_yes h) =
      (Mode.simulate f k sim, u + 1, step_leads _ _ _ (simulate_yes r k u sim h) Leads.there)
  simulation_ends r k u sim b (Simulates.says_no e) =
      (Mode.simulate f k sim, u + 1, step_leads _ _ _ (simulate_no r k u sim e) Leads.there)
  simulation_ends r k u sim b (Simulates.goes_on p e h) =
      let w = simulation_ends r k (u + 1) (simulated J.tables sim (suc p)) b h in
      (w.0, w.1, step_leads _ _ _ (simulate_on_law r k u sim p e) w.2)

  state_ends : (r : Run) (k u : ℕ) (b : Bool) → Says J r.stack r.next k b
      → (m : Mode) × (v : ℕ) × Leads J (Outcome.more (placed r (Mode.search f k) u)) (outcome_of b (placed r m v) k)
  unfolding outcome_of
  state_ends r k u b (Says.no_shift_here n) =
      (Mode.search f k, u + 1, step_leads _ _ _ (search_no r k u _ refl n) Leads.there)
  state_ends r k u b (Says.simulation s e h) =
      let w = simulation_ends r k (u + 1) (s.0 ∷ states_of (drop k r.stack)) b h in
      (w.0, w.1, step_leads _ _ _ (search_shift r k u s e) w.2)

  -- ---- all states

  further_in : (r : Run) (k u : ℕ) (m : Mode) → k < length r.stack → further J (placed r m u) f k ≡ Outcome.more (placed r (Mode.search f (k + 1)) u)
  unfolding further
  further_in r k u m h = rw (lt-ltb k (length r.stack) h) refl

  further_out : (r : Run) (k u : ℕ) (m : Mode) → length r.stack ≤ k → further J (placed r m u) f k ≡ drop_token J (placed r m u) f
  unfolding further
  further_out r k u m h = rw (le-ltb k (length r.stack) h) refl

  -- one state says no, and the next is looked at
  next_state : (r : Run) (k u : ℕ) → k < length r.stack → Says J r.stack r.next k false
      → (v : ℕ) × Leads J (Outcome.more (placed r (Mode.search f k) u)) (Outcome.more (placed r (Mode.search f (k + 1)) v))
  unfolding outcome_of
  next_state r k u h n =
      let w = state_ends r k u false n in
      (w.1, subst (λ (o : Outcome). Leads J (Outcome.more (placed r (Mode.search f k) u)) o) (further_in r k w.1 w.0 h) w.2)

  pass_states : (r : Run) (j k u to : ℕ) → k + j ≡ to → to ≤ length r.stack → ((i : ℕ) → k ≤ i → i < to → Says J r.stack r.next i false)
      → (v : ℕ) × Leads J (Outcome.more (placed r (Mode.search f k) u)) (Outcome.more (placed r (Mode.search f to) v))
  pass_states r zero k u to e h n =
      let q : k ≡ to = omega arith in
      (u, subst (λ (x : ℕ). Leads J (Outcome.more (placed r (Mode.search f k) u)) (Outcome.more (placed r (Mode.search f x) u))) q Leads.there)
  pass_states r (suc j) k u to e h n =
      let one = next_state r k u (omega arith) (n k (omega arith) (omega arith)) in
      let rest = pass_states r j (k + 1) one.0 to (omega arith) h (λ i l m. n i (omega arith) m) in
      (rest.0, leads_on one.1 rest.1)

  -- all states say no, and the lookahead is dropped
  token_ends : (r : Run) (u : ℕ) → AllSayNo J r.stack r.next
      → (m : Mode) × (v : ℕ) × Leads J (Outcome.more (placed r (Mode.search f 0) u)) (drop_token J (placed r m v) f)
  unfolding outcome_of
  token_ends r u n =
      let down = pass_states r (length r.stack) 0 u (length r.stack) (omega arith) (omega arith) (λ i l m. n i (omega arith)) in
      let w = state_ends r (length r.stack) down.0 false (n (length r.stack) (omega arith)) in
      (w.0, w.1, leads_on down.1 (subst (λ (o : Outcome). Leads J (Outcome.more (placed r (Mode.search f (length r.stack)) down.0)) o) (further_out r (length r.stack) w.1 w.0 (omega arith)) w.2))

  -- ---- all lookaheads

  arrives_by : (r : Run) (t : Bool) → has_token J r ≡ t → ReadAt J r.next → (l : ℕ) × (arrive J r ≡ Outcome.more (read_to r l))
  unfolding arrive judge_kind
  arrives_by r true h read =
      let g = read (ltb-true r.next (length J.tokens) h) in
      ((token_at J r.next).end, rw (h, ne_eqb (token_at J r.next).kind 65535 g.1, g.0) refl)
  arrives_by r false h read = (r.last, rw h refl)

  drop_one : (r : Run) (m : Mode) (u : ℕ) → r.next < length J.tokens → ReadAt J (r.next + 1)
      → (l : ℕ) × (drop_token J (placed r m u) f ≡ Outcome.more (placed (ahead r (r.next + 1) l) (Mode.search f 0) u))
  unfolding drop_token
  drop_one r m u h read =
      let x : Run = advanced (placed r m u) (Mode.search f 0) in
      let a = arrives_by x (has_token J x) refl read in
      (a.0, rw (lt-ltb r.next (length J.tokens) h) a.1)

  next_token : (r : Run) (u : ℕ) → r.next < length J.tokens → AllSayNo J r.stack r.next → ReadAt J (r.next + 1)
      → (l : ℕ) × (v : ℕ) × Leads J (Outcome.more (placed r (Mode.search f 0) u)) (Outcome.more (placed (ahead r (r.next + 1) l) (Mode.search f 0) v))
  next_token r u h n read =
      let w = token_ends r u n in
      let d = drop_one r w.0 w.1 h read in
      (d.0, w.1, subst (λ (o : Outcome). Leads J (Outcome.more (placed r (Mode.search f 0) u)) o) d.1 w.2)

  -- the search has come to the state below k symbols with the lookahead at i
  record Came (r : Run) (u i k : ℕ) : Type 0 where
    last : ℕ
    units : ℕ
    leads : Leads J (Outcome.more (placed r (Mode.search f 0) u)) (Outcome.more (placed (ahead r i last) (Mode.search f k) units))

  came_on : (r : Run) (u v l i to : ℕ) → Leads J (Outcome.more (placed r (Mode.search f 0) u)) (Outcome.more (placed (ahead r i l) (Mode.search f 0) v))
      → Came (ahead r i l) v to 0 → Came r u to 0
  came_on r u v l i to h c = record { last = c.last; units = c.units; leads = leads_on h c.leads }

  pass_tokens : (j : ℕ) (r : Run) (u to : ℕ) → r.next + j ≡ to → to ≤ length J.tokens → ((i : ℕ) → r.next ≤ i → i < to → AllSayNo J r.stack i)
      → ((i : ℕ) → r.next < i → i ≤ to → ReadAt J i) → Came r u to 0
  pass_tokens zero r u to e h n read =
      let q : r.next ≡ to = omega arith in
      subst (λ (x : ℕ). Came r u x 0) q (record { last = r.last; units = u; leads = Leads.there })
  pass_tokens (suc j) r u to e h n read =
      past (next_token r u (omega arith) (n r.next (omega arith) (omega arith)) (read (r.next + 1) (omega arith) (omega arith))) (λ v l.
      pass_tokens j (ahead r (r.next + 1) l) v to (omega arith) h (λ i a b. n i (omega arith) b) (λ i a b. read i (omega arith) b))
    where
      past : (l : ℕ) × (v : ℕ) × Leads J (Outcome.more (placed r (Mode.search f 0) u)) (Outcome.more (placed (ahead r (r.next + 1) l) (Mode.search f 0) v))
          → ((v l : ℕ) → Came (ahead r (r.next + 1) l) v to 0) → Came r u to 0
      past (l, v, one) rest = came_on r u v l (r.next + 1) to one (rest v l)

  -- ---- the end of a search

  came_down : (r : Run) (u i k : ℕ) → k ≤ length r.stack → ((j : ℕ) → j < k → Says J r.stack i j false) → Came r u i 0 → Came r u i k
  came_down r u i k deep higher c =
      down (pass_states (ahead r i c.last) k 0 c.units k (omega arith) deep (λ j l m. higher j m))
    where
      down : (v : ℕ) × Leads J (Outcome.more (placed (ahead r i c.last) (Mode.search f 0) c.units)) (Outcome.more (placed (ahead r i c.last) (Mode.search f k) v))
          → Came r u i k
      down (v, h) = record { last = c.last; units = v; leads = leads_on c.leads h }

  came_mark : (r : Run) (u i k : ℕ) → Says J r.stack i k true → Came r u i k
      → (o : Outcome) × MarkAt J f r i k o × Leads J (Outcome.more (placed r (Mode.search f 0) u)) o
  unfolding outcome_of
  came_mark r u i k here c = mark_of (state_ends (ahead r i c.last) k c.units true here)
    where
      mark_of : (m : Mode) × (v : ℕ) × Leads J (Outcome.more (placed (ahead r i c.last) (Mode.search f k) c.units)) (Outcome.more (recovered J (placed (ahead r i c.last) m v) f k))
          → (o : Outcome) × MarkAt J f r i k o × Leads J (Outcome.more (placed r (Mode.search f 0) u)) o
      mark_of (m, v, h) = (
        Outcome.more (recovered J (placed (ahead r i c.last) m v) f k),
        record { before = placed (ahead r i c.last) m v; stack = refl; marks = refl; lookahead = refl; placed_so = refl },
        leads_on c.leads h,
      )

  -- to the first pair that says yes, where the mark is placed
  pub places_mark : (r : Run) (i k : ℕ) → r.mode ≡ Mode.search f 0 → FirstPair J r i k → (o : Outcome) × MarkAt J f r i k o × Leads J (Outcome.more r) o
  places_mark r i k at p =
      let h = p.from in
      let over : r.next + (i - r.next) ≡ i = omega arith in
      subst (λ (m : Mode). (o : Outcome) × MarkAt J f r i k o × Leads J (Outcome.more (placed r m r.units)) o) (sym at)
      (came_mark r r.units i k p.here (came_down r r.units i k p.deep p.higher (pass_tokens (i - r.next) r r.units i over p.to p.earlier p.read)))

  at_end_law : (r : Run) (m : Mode) (u : ℕ) → r.next ≡ length J.tokens → drop_token J (placed r m u) f ≡ Outcome.done (answer_of f) (placed r m u)
  unfolding drop_token
  at_end_law r m u e = rw (le-ltb r.next (length J.tokens) (omega arith)) refl

  came_up : (r : Run) (u : ℕ) → AllSayNo J r.stack (length J.tokens) → Came r u (length J.tokens) 0
      → (r' : Run) × Leads J (Outcome.more (placed r (Mode.search f 0) u)) (Outcome.done (answer_of f) r')
  came_up r u none c = end_of (token_ends (ahead r (length J.tokens) c.last) c.units none)
    where
      end_of : (m : Mode) × (v : ℕ) × Leads J (Outcome.more (placed (ahead r (length J.tokens) c.last) (Mode.search f 0) c.units)) (drop_token J (placed (ahead r (length J.tokens) c.last) m v) f)
          → (r' : Run) × Leads J (Outcome.more (placed r (Mode.search f 0) u)) (Outcome.done (answer_of f) r')
      end_of (m, v, h) =
          let e = at_end_law (ahead r (length J.tokens) c.last) m v refl in
          (placed (ahead r (length J.tokens) c.last) m v, leads_on c.leads (rw e at h))

  -- past all pairs, to the error that was formed
  pub gives_up : (r : Run) → r.mode ≡ Mode.search f 0 → NoneLeft J r → (r' : Run) × Leads J (Outcome.more r) (Outcome.done (answer_of f) r')
  gives_up r at p =
      let h = p.inside in
      let over : r.next + (length J.tokens - r.next) ≡ length J.tokens = omega arith in
      subst (λ (m : Mode). (r' : Run) × Leads J (Outcome.more (placed r m r.units)) (Outcome.done (answer_of f) r')) (sym at)
      (came_up r r.units (p.none (length J.tokens) h (omega arith)) (pass_tokens (length J.tokens - r.next) r r.units (length J.tokens) over (omega arith) (λ j l m. p.none j l (omega arith)) p.read))
