-- The recovery's choice: of all pairs of a lookahead and a state whose simulation says yes, the one with the fewest drops and then
-- the highest state. Along a search every pair passed over has said no, since a simulation that is made is the one that is asked.
use Rattle.std.specs.Prelude.{◌≡◌, Bool, true, List, ◌∷◌, ℕ, suc, ◌+◌, ◌≤◌, ◌<◌, ltb, length, drop}
use Rattle.std.proofs.Math.Path.{refl}
use Rattle.std.proofs.Common.{sym, subst, append-nil, arith}
use Rattle.std.proofs.Math.Bool.{false}
use Rattle.std.proofs.Math.Decide.{dec_lt}
use Rattle.words.specs.Words.{pick}
use Rattle.rules.specs.declared.Cell.{Cell}
use Rattle.rules.specs.declared.Cell.TheVariants.{Shift, Reduce, Error}
use Rattle.rules.specs.declared.StateNo.{StateNo}
use Rattle.rules.specs.declared.ProdNo.{ProdNo}
use Rattle.rules.specs.declared.Entry.{Entry}
use Rattle.rules.specs.declared.Formed.{Formed}
use Rattle.rules.specs.declared.Answer.TheVariants.{OutOfDepth}
use Rattle.rules.specs.Tables.{Tables, error_column, end_column, action}
use Rattle.rules.specs.Driving.{Job, Run, Mode, Marked, Outcome, top_state, top_of, states_of, grow, counted, advanced, token_at, has_token, look_column, formed, arrive, first_run, begin, step}
use Rattle.lr.specs.Steps.{formed_from, formed_counted, NoReduce, NoShift, SaysYes, Fails, Arrival, arrival, View, view, Refutes, main_cell, simulated, shifted}
use Rattle.lr.specs.Runs.{Holds, need_case, walk, Reached, along_reached}

-- ---- what a simulation says

-- "simulate the lookahead above that shift: error cell no, shift yes, production 0 yes"; any other reduction goes on. Without a
-- budget a simulation need not end, so this is a relation.
pub data Simulates (T : Tables) (column : ℕ) : List ℕ → Bool → Type 0 where
  says_yes : {sim : List ℕ} → SaysYes (action T (top_of sim) column) → Simulates T column sim true
  says_no : {sim : List ℕ} → action T (top_of sim) column ≡ Error → Simulates T column sim false
  goes_on : {sim : List ℕ} {b : Bool} (p : ℕ) → action T (top_of sim) column ≡ Reduce (record { 0 = suc p }) → Simulates T column (simulated T sim (suc p)) b
      → Simulates T column sim b

-- the column of the lookahead at index i
abbrev pub column_at : Job → ℕ → ℕ
column_at J i = pick (ltb i (length J.tokens)) (token_at J i).kind (end_column J.tables)

-- what the state below k popped symbols says to the lookahead at index i: no, where its error cell is not a shift; else what the
-- simulation above that shift says
pub data Says (J : Job) (stack : List Entry) (i k : ℕ) : Bool → Type 0 where
  no_shift_here : NoShift (action J.tables (top_state (drop k stack)) (error_column J.tables)) → Says J stack i k false
  simulation : (s : StateNo) {b : Bool} → action J.tables (top_state (drop k stack)) (error_column J.tables) ≡ Shift s
      → Simulates J.tables (column_at J i) (s.0 ∷ states_of (drop k stack)) b → Says J stack i k b

-- ---- it says one thing

yes_not_reduce : (c : Cell) (p : ℕ) → SaysYes c → c ≡ Reduce (record { 0 = suc p }) → ⊥
yes_not_reduce c p h e = let z : suc p ≡ 0 = subst SaysYes e h in omega arith

same_next : (T : Tables) (column : ℕ) (sim : List ℕ) (p q : ℕ) {b : Bool} → action T (top_of sim) column ≡ Reduce (record { 0 = suc p })
    → action T (top_of sim) column ≡ Reduce (record { 0 = suc q }) → Simulates T column (simulated T sim (suc q)) b
    → Simulates T column (simulated T sim (suc p)) b
same_next T column sim p q {b} e f h =
    let same : ◌≡◌ {A = ProdNo} (record { 0 = suc q }) (record { 0 = suc p }) = cc in
    subst (λ (x : ProdNo). Simulates T column (simulated T sim x.0) b) same h

pub one_verdict : (T : Tables) (column : ℕ) (sim : List ℕ) (b b' : Bool) → Simulates T column sim b → Simulates T column sim b' → b ≡ b'
one_verdict T column sim b b' (Simulates.says_yes h) (Simulates.says_yes g) = refl
one_verdict T column sim b b' (Simulates.says_yes h) (Simulates.says_no e) = absurd (subst SaysYes e h)
one_verdict T column sim b b' (Simulates.says_yes h) (Simulates.goes_on p e g) = absurd (yes_not_reduce _ p h e)
one_verdict T column sim b b' (Simulates.says_no e) (Simulates.says_yes g) = absurd (subst SaysYes e g)
one_verdict T column sim b b' (Simulates.says_no e) (Simulates.says_no f) = refl
one_verdict T column sim b b' (Simulates.says_no e) (Simulates.goes_on p f g) = let z : ◌≡◌ {A = ℕ} 0 1 = cc in absurd (omega arith)
one_verdict T column sim b b' (Simulates.goes_on p e h) (Simulates.says_yes g) = absurd (yes_not_reduce _ p g e)
one_verdict T column sim b b' (Simulates.goes_on p e h) (Simulates.says_no f) = let z : ◌≡◌ {A = ℕ} 0 1 = cc in absurd (omega arith)
one_verdict T column sim b b' (Simulates.goes_on p e h) (Simulates.goes_on q f g) =
    one_verdict T column (simulated T sim (suc p)) b b' h (same_next T column sim p q e f g)

pub one_answer : (J : Job) (stack : List Entry) (i k : ℕ) (b b' : Bool) → Says J stack i k b → Says J stack i k b' → b ≡ b'
one_answer J stack i k b b' (Says.no_shift_here n) (Says.no_shift_here m) = refl
one_answer J stack i k b b' (Says.no_shift_here n) (Says.simulation s e g) = absurd (subst NoShift e n)
one_answer J stack i k b b' (Says.simulation s e h) (Says.no_shift_here m) = absurd (subst NoShift e m)
one_answer J stack i k b b' (Says.simulation s e h) (Says.simulation t f g) =
    let q : t ≡ s = cc in
    one_verdict J.tables (column_at J i) (s.0 ∷ states_of (drop k stack)) b b' h
    (subst (λ (x : StateNo). Simulates J.tables (column_at J i) (x.0 ∷ states_of (drop k stack)) b') q g)

-- ---- what a search knows

-- the error was formed by a look of the main loop, and names that moment's lookahead and top state; no mark was placed since
pub record FormedBy (J : Job) (f : Formed) (marks-now : List Marked) : Type 0 where
  pub run : Run
  pub reached : Reached J run
  pub in_main : run.mode ≡ Mode.main
  pub failed : Fails (has_token J run) (main_cell J run)
  pub is : f ≡ formed run (has_token J run)
  pub since : run.marks ≡ marks-now

-- every state says no to the lookahead at i
abbrev pub AllSayNo : Job → List Entry → ℕ → Type 0
AllSayNo J stack i = (k : ℕ) → k ≤ length stack → Says J stack i k false

-- a search that has come to the lookahead `next` and to the state below k symbols: the error column has no more reductions, all
-- states have said no to each lookahead before, and the higher ones to this one
pub record Tried (J : Job) (stack : List Entry) (next : ℕ) (marks-now : List Marked) (f : Formed) (k : ℕ) : Type 0 where
  pub origin : FormedBy J f marks-now
  pub settled : NoReduce (action J.tables (top_state stack) (error_column J.tables))
  pub onward : f.from ≤ next
  pub depth : k ≤ length stack
  pub earlier : (i : ℕ) → f.from ≤ i → i < next → AllSayNo J stack i
  pub higher : (j : ℕ) → j < k → Says J stack next j false

-- a simulation that is under way says what the one from its beginning says
pub record Asking (J : Job) (stack : List Entry) (next k : ℕ) (sim : List ℕ) : Type 0 where
  pub state : StateNo
  pub shift : action J.tables (top_state (drop k stack)) (error_column J.tables) ≡ Shift state
  pub same : (b : Bool) → Simulates J.tables (column_at J next) sim b → Simulates J.tables (column_at J next) (state.0 ∷ states_of (drop k stack)) b

abbrev pub KnownIn : Job → List Entry → ℕ → List Marked → Mode → Type 0
KnownIn J stack next ms Mode.main = Unit {0}
KnownIn J stack next ms (Mode.column f) = FormedBy J f ms × (f.from ≡ next)
KnownIn J stack next ms (Mode.search f k) = Tried J stack next ms f k
KnownIn J stack next ms (Mode.simulate f k sim) = Tried J stack next ms f k × Asking J stack next k sim

abbrev pub Known : Job → Run → Mode → Type 0
Known J r m = KnownIn J r.stack r.next r.marks m

abbrev pub KeptKnown : Job → Outcome → Type 0
KeptKnown J o = Holds (λ r. Known J r r.mode) (λ a r. Unit {0}) o

module _ (J : Job) where
  -- the state that was just looked at said no
  pub said_no : (r : Run) (f : Formed) (k : ℕ) (m : Mode) → Refutes J r f k m → Known J r m
      → Tried J r.stack r.next r.marks f k × Says J r.stack r.next k false
  unfolding look_column
  said_no r f k m (Refutes.no_shift n) h = (h, Says.no_shift_here n)
  said_no r f k m (Refutes.no_way sim e) h =
      (h.0, Says.simulation h.1.state h.1.shift (h.1.same false (Simulates.says_no e)))

  -- all states down to the lowest have said no
  pub all_no : (r : Run) (f : Formed) (k : ℕ) → Tried J r.stack r.next r.marks f k → Says J r.stack r.next k false → length r.stack ≤ k
      → AllSayNo J r.stack r.next
  all_no r f k t n l j below = one_of (dec_lt j k)
    where
      one_of : Dec (j < k) → Says J r.stack r.next j false
      one_of (yes less) = t.higher j less
      one_of (no over) = let d = t.depth in let q : k ≡ j = omega arith in subst (λ (x : ℕ). Says J r.stack r.next x false) q n

  pub up_to : (r : Run) (f : Formed) (k : ℕ) → Tried J r.stack r.next r.marks f k → AllSayNo J r.stack r.next → (i : ℕ) → f.from ≤ i
      → i < r.next + 1
      → AllSayNo J r.stack i
  up_to r f k t all i from less = one_of (dec_lt i r.next)
    where
      one_of : Dec (i < r.next) → AllSayNo J r.stack i
      one_of (yes before) = t.earlier i from before
      one_of (no over) = let q : r.next ≡ i = omega arith in subst (λ (x : ℕ). AllSayNo J r.stack x) q all

  next_state : (r : Run) (f : Formed) (k : ℕ) → Tried J r.stack r.next r.marks f k × Says J r.stack r.next k false → k < length r.stack
      → Tried J r.stack r.next r.marks f (k + 1)
  next_state r f k t less =
      record { origin = t.0.origin; settled = t.0.settled; onward = t.0.onward; depth = omega arith; earlier = t.0.earlier; higher = λ j l. one_of j l (dec_lt j k) }
    where
      one_of : (j : ℕ) → j < k + 1 → Dec (j < k) → Says J r.stack r.next j false
      one_of j l (yes before) = t.0.higher j before
      one_of j l (no over) = let q : k ≡ j = omega arith in subst (λ (x : ℕ). Says J r.stack r.next x false) q t.1

  next_token : (r : Run) (f : Formed) (k : ℕ) → Tried J r.stack r.next r.marks f k × Says J r.stack r.next k false → length r.stack ≤ k
      → Tried J r.stack (r.next + 1) r.marks f 0
  next_token r f k t over =
      let all = all_no r f k t.0 t.1 over in
      let n = t.0.onward in
      record { origin = t.0.origin; settled = t.0.settled; onward = omega arith; depth = omega arith; earlier = up_to r f k t.0 all; higher = λ j l. absurd (omega arith) }

  still_formed : {f : Formed} {ms ms' : List Marked} → FormedBy J f ms → ms ≡ ms' → FormedBy J f ms'
  still_formed {f} h e = subst (FormedBy J f) e h

  known_arrival : (r : Run) (o : Outcome) → Known J r r.mode → Arrival J r o → KeptKnown J o
  known_arrival r o h (Arrival.at_end t) = h
  known_arrival r o h (Arrival.reads t e) = h
  known_arrival r o h (Arrival.unread t e) = tt
  known_arrival r o h (Arrival.broken t e) = tt

  known_view : (r : Run) (m : Mode) (o : Outcome) → Reached J r → r.mode ≡ m → Known J r m → View J (counted r) m o → KeptKnown J o
  unfolding grow look_column
  known_view r m o w i h (View.stops d l) = tt
  known_view r m o w i h (View.shifts s t e a) = known_arrival (shifted J (counted r) s) o tt a
  known_view r m o w i h (View.reduces p e) = tt
  known_view r m o w i h (View.extra t e) = tt
  known_view r m o w i h (View.accepts t e) = tt
  known_view r m o w i h (View.fails t e) = tt
  known_view r m o w i h (View.forms t e) =
      (record { run = r; reached = w; in_main = i; failed = e; is = formed_counted r (has_token J r); since = refl }, formed_from (counted r) (has_token J r))
  known_view r m o w i h (View.column_reduces p e) = (still_formed h.0 (sym (append-nil r.marks)), h.1)
  known_view r m o w i h (View.accepts_early e) = tt
  known_view r m o w i h (View.column_ends e) =
      let at = h.1 in
      record { origin = h.0; settled = e; onward = omega arith; depth = omega arith; earlier = λ i f l. absurd (omega arith); higher = λ j l. absurd (omega arith) }
  known_view r m o w i h (View.tries s e) = (h, record { state = s; shift = e; same = λ b g. g })
  known_view r m o w i h (View.deeper {f = f} {k = k} n l) = next_state (counted r) f k (said_no (counted r) f k m n h) l
  known_view r m o w i h (View.drops {f = f} {k = k} n l t a) =
      known_arrival (advanced (counted r) (Mode.search f 0)) o (next_token (counted r) f k (said_no (counted r) f k m n h) l) a
  known_view r m o w i h (View.gives_up n l t) = tt
  known_view r m o w i h (View.simulates p e) =
      (h.0, record { state = h.1.state; shift = h.1.shift; same = λ b g. h.1.same b (Simulates.goes_on p e g) })
  known_view r m o w i h (View.marks e) = tt

  known_step : (r : Run) → Reached J r → Known J r r.mode → KeptKnown J (step J r)
  known_step r w h = known_view r r.mode (step J r) w refl h (view J r)

  known_begin : KeptKnown J (begin J)
  unfolding begin first_run
  known_begin =
      need_case (KeptKnown J) (J.depth_fits 1) OutOfDepth (first_run J) (arrive J (first_run J)) (λ e. tt) (λ e.
      known_arrival (first_run J) (arrive J (first_run J)) tt (arrival J (first_run J)))

  pub known_walk : (n : ℕ) → KeptKnown J (walk J n (begin J))
  known_walk n = along_reached J (λ r. Known J r r.mode) (λ a r. Unit {0}) known_step known_begin n

  -- a run that is reached knows it
  pub known : (r : Run) → Reached J r → Known J r r.mode
  known r w = subst (KeptKnown J) w.reached (known_walk w.steps)
