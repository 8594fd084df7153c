-- A run over passing tables: what holds of it at every look, and what one step then does. Main loop, error column, search and
-- simulation alike: each reduction has its symbols and its goto, so no reader's default is ever taken.
use Rattle.std.specs.Prelude.{Bool, ◌≡◌, eqb, take}
use Rattle.std.proofs.Math.Bool.{true, false}
use mathlib.Core.List.{List, [], ◌∷◌, map}
use Rattle.std.proofs.Math.Path.{refl, ap}
use Rattle.std.proofs.Common.{sym, ◌∙◌, arith}
use Prim.Native.Nat.{ℕ, zero, suc, ◌≤◌}
use Rattle.std.proofs.Math.ListN.{length, drop}
use borrow.Author.Tests.{ltb-true}
use Rattle.words.specs.Laws.{pick_case}
use Rattle.rules.specs.declared.Cell.{Cell}
use Rattle.rules.specs.declared.Cell.TheVariants.{Shift}
use Rattle.rules.specs.declared.StateNo.{StateNo}
use Rattle.rules.specs.declared.What.{What}
use Rattle.rules.specs.declared.What.TheVariants.{Read, Mark, Production}
use Rattle.rules.specs.declared.Entry.{Entry}
use Rattle.rules.specs.declared.Formed.{Formed}
use Rattle.rules.specs.declared.Answer.{Answer}
use Rattle.rules.specs.declared.Answer.TheVariants.{Accepted, AcceptedEarly, UnrecognizedToken, UnrecognizedEnd, ExtraToken, TokenizerError, OutOfUnits, OutOfDepth, OutOfChildren, OutOfNodes, OutOfRecords}
use Rattle.rules.specs.Tables.{kinds, error_column, end_column, symbol_of, action, goto, target, left, size, symbol}
use Rattle.rules.specs.Driving.{Job, Run, Mode, main, column, search, simulate, Outcome, more, done, top_state, top_of, token_at, has_token, look_column, counted, in_mode, read_to, advanced, grow, need, judge_kind, arrive, token_entry, production_entry, nodes_of, formed, answer_of, states_of, marked, mark_entry, step, run_from, first_run, begin, drive}
use Rattle.lr.specs.Bools.{not_both, pick_true, pick_false}
use Rattle.lr.specs.Checked.{Moves, Laws}
use Rattle.lr.specs.Stack.{Along, bottom, above, move_terminal, move_nonterminal, Reducible, Whole}

-- ---- jobs over passing tables

-- the tables pass, and no kind past the error token's is read
pub record Fits (J : Job) : Type 0 where
  pub laws : Laws J.tables
  pub reads_in : (k : ℕ) → J.reads k ≡ true → k ≤ kinds J.tables

-- the symbol that an entry stands for: a token's kind, the error token, or a left side
abbrev pub symbol_for : Job → What → ℕ
symbol_for J (Read i) = (token_at J i).kind
symbol_for J (Mark i) = error_column J.tables
symbol_for J (Production p) = symbol_of J.tables (left J.tables p)

abbrev pub symbols_of : Job → List Entry → List ℕ
symbols_of J stack = map (λ (e : Entry). symbol_for J e.what) stack

pub map_drop : {A B : Type 0} (f : A → B) (n : ℕ) (l : List A) → drop n (map f l) ≡ map f (drop n l)
map_drop f zero l = refl
map_drop f (suc n) [] = refl
map_drop f (suc n) (x ∷ l) = map_drop f n l

pub top_of_states : (stack : List Entry) → top_of (states_of stack) ≡ top_state stack
top_of_states [] = refl
top_of_states (e ∷ stack) = refl

-- ---- what holds at every look

-- While searching, the place is on the stack. While simulating, the error cell there is a shift, and the simulated states are a
-- path of transitions too.
abbrev pub ModeOK : Job → List Entry → Mode → Type 0
ModeOK J stack main = Unit
ModeOK J stack (column f) = Unit
ModeOK J stack (search f k) = k ≤ length stack
ModeOK J stack (simulate f k sim) =
    (k ≤ length stack)
    × ((s : StateNo) × (action J.tables (top_state (drop k stack)) (error_column J.tables) ≡ Shift s))
    × ((Xs : List ℕ) × Along J.tables sim Xs)

pub record OK (J : Job) (r : Run) : Type 0 where
  pub along : Along J.tables (states_of r.stack) (symbols_of J r.stack)
  pub in_tokens : r.next ≤ length J.tokens
  -- the lookahead was read, so its kind is a column of a terminal
  pub readable : has_token J r ≡ true → J.reads (token_at J r.next).kind ≡ true
  pub mode_ok : ModeOK J r.stack r.mode

-- to count a look changes nothing of it
pub counted_ok : {J : Job} {r : Run} → OK J r → OK J (counted r)
counted_ok ok = record { along = ok.along; in_tokens = ok.in_tokens; readable = ok.readable; mode_ok = ok.mode_ok }

-- ---- what a step does

-- the answers of the limits
abbrev pub Stops : Answer → Type 0
Stops (Accepted root) = ⊥
Stops (AcceptedEarly root token) = ⊥
Stops (UnrecognizedToken token top) = ⊥
Stops (UnrecognizedEnd location top) = ⊥
Stops (ExtraToken token) = ⊥
Stops (TokenizerError token) = ⊥
Stops OutOfUnits = ⊥
Stops OutOfDepth = Unit
Stops OutOfChildren = Unit
Stops OutOfNodes = Unit
Stops OutOfRecords = Unit

-- the modes that reduce the stack, and the error that rides along in recovery
abbrev pub Reduces : Mode → Type 0
Reduces main = Unit
Reduces (column f) = Unit
Reduces (search f k) = ⊥
Reduces (simulate f k sim) = ⊥

abbrev pub Carries : Mode → Formed → Type 0
Carries main f = ⊥
Carries (column g) f = g ≡ f
Carries (search g k) f = g ≡ f
Carries (simulate g k sim) f = g ≡ f

-- A step, by what comes of it; each with the facts that it rests on. A stopped step writes nothing.
pub data Does (J : Job) (r : Run) : Outcome → Type 0 where
  stops : {a : Answer} → Stops a → Does J r (done a (counted r))
  shifts : {s : StateNo} → r.mode ≡ main → has_token J r ≡ true
      → action J.tables (top_state r.stack) (token_at J r.next).kind ≡ Shift s
      → Does J r (arrive J (advanced (grow (counted r) r.stack (token_entry J (counted r) s) [] [] main) main))
  reduces : {p : ℕ} {m : Mode} → r.mode ≡ m → Reduces m
      → Reducible J.tables (states_of r.stack) (symbols_of J r.stack) (suc p)
      → Does J r (more (grow (counted r) (drop (size J.tables (suc p)) r.stack)
      (production_entry J (counted r) (suc p) (take (size J.tables (suc p)) r.stack) (drop (size J.tables (suc p)) r.stack))
      (nodes_of (take (size J.tables (suc p)) r.stack)) [] m))
  accepts : {e : Entry} → r.mode ≡ main → has_token J r ≡ false → r.stack ≡ e ∷ []
      → symbol_for J e.what ≡ symbol J.tables 0 0 → Does J r (done (Accepted e.node) (counted r))
  extra : {e : Entry} → r.mode ≡ main → has_token J r ≡ true → r.stack ≡ e ∷ [] → Does J r (done (ExtraToken r.next) (counted r))
  refuses : r.mode ≡ main → J.recovers ≡ false → Does J r (done (answer_of (formed (counted r) (has_token J r))) (counted r))
  forms : r.mode ≡ main → J.recovers ≡ true → Does J r (more (in_mode (counted r) (column (formed (counted r) (has_token J r)))))
  early : {f : Formed} {e : Entry} → r.mode ≡ column f → r.stack ≡ e ∷ []
      → symbol_for J e.what ≡ symbol J.tables 0 0 → Does J r (done (AcceptedEarly e.node f.from) (counted r))
  turns : (f : Formed) {m : Mode} → Carries r.mode f → Carries m f → ModeOK J r.stack m → Does J r (more (in_mode (counted r) m))
  drops : (f : Formed) → Carries r.mode f → has_token J r ≡ true → Does J r (arrive J (advanced (counted r) (search f 0)))
  gives_up : (f : Formed) → Carries r.mode f → has_token J r ≡ false → Does J r (done (answer_of f) (counted r))
  marks : (f : Formed) (k : ℕ) {s : StateNo} → Carries r.mode f → k ≤ length r.stack
      → action J.tables (top_state (drop k r.stack)) (error_column J.tables) ≡ Shift s
      → Does J r (more (grow (counted r) (drop k r.stack)
      (mark_entry J (counted r) (marked J (counted r) f (take k r.stack) (drop k r.stack)) (drop k r.stack)) []
      (marked J (counted r) f (take k r.stack) (drop k r.stack) ∷ []) main))

-- a limit is met, or the step goes on
pub needs : {J : Job} {r : Run} {o : Outcome} (b : Bool) (a : Answer) → Stops a → Does J r o → Does J r (need b a (counted r) o)
needs true a s d = d
needs false a s d = stops s

-- the lookahead's column: a token's kind, or the end column at the end
pub column_of_token : (J : Job) (r : Run) → has_token J r ≡ true → look_column J r ≡ (token_at J r.next).kind
unfolding look_column
column_of_token J r h = pick_true _ _ h

pub column_at_end : (J : Job) (r : Run) → has_token J r ≡ false → look_column J r ≡ end_column J.tables
unfolding look_column
column_at_end J r h = pick_false _ _ h

pub only_one : (J : Job) (stack : List Entry) → Whole J.tables (states_of stack) (symbols_of J stack)
    → (e : Entry) × (stack ≡ e ∷ []) × (symbol_for J e.what ≡ symbol J.tables 0 0)
only_one J [] w = let z : ◌≡◌ {A = ℕ} 0 1 = w.one in absurd (omega arith)
only_one J (e ∷ []) w = let q = w.symbols in (e, refl, cc)
only_one J (e ∷ (f ∷ stack)) w = let z = w.one in absurd (omega arith)

pub along_drop : (J : Job) (stack : List Entry) (k : ℕ) → Along J.tables (states_of stack) (symbols_of J stack) → Along J.tables (states_of (drop k stack)) (symbols_of J (drop k stack))
along_drop J stack zero al = al
along_drop J [] (suc k) al = al
along_drop J (e ∷ stack) (suc k) (above m al) = along_drop J stack k al

-- ---- it stays so

-- where the run goes on it holds of what comes next
abbrev pub StaysOK : Job → Outcome → Type 0
StaysOK J (more r) = OK J r
StaysOK J (done a r) = Unit

pub target_of : (c : Cell) {s : StateNo} → c ≡ Shift s → c ≡ Shift (record { 0 = target c })
target_of c e = rw e

-- the goto of a reduction, at the state below its symbols
pub goes_below : (J : Job) (stack : List Entry) (p : ℕ) → Reducible J.tables (states_of stack) (symbols_of J stack) p
    → goto J.tables (top_state (drop (size J.tables p) stack)) (left J.tables p)
    ≡ Shift (record { 0 = target (goto J.tables (top_state (drop (size J.tables p) stack)) (left J.tables p)) })
goes_below J stack p d =
    let n : ℕ = size J.tables p in
    let q : top_of (drop n (states_of stack)) ≡ top_state (drop n stack) = ap top_of (map_drop (λ (e : Entry). e.state.0) n stack) ∙ top_of_states (drop n stack) in
    target_of _ (ap (λ s. goto J.tables s (left J.tables p)) (sym q) ∙ d.goes)

-- a token is read: its kind is one that is read, or the run ends
arrive_ok : (J : Job) (r : Run) → Along J.tables (states_of r.stack) (symbols_of J r.stack) → r.next ≤ length J.tokens → ModeOK J r.stack r.mode
    → StaysOK J (arrive J r)
unfolding arrive judge_kind
arrive_ok J r al h m =
    pick_case (StaysOK J) (has_token J r) _ _
    (λ t. pick_case (StaysOK J) (eqb (token_at J r.next).kind 65535) _ _ (λ u. tt)
    (λ u. pick_case (StaysOK J) (J.reads (token_at J r.next).kind) _ _
    (λ v. record { along = al; in_tokens = h; readable = λ w. v; mode_ok = m }) (λ v. tt)))
    (λ t. record { along = al; in_tokens = h; readable = λ w. not_both w t; mode_ok = m })

pub stays : {J : Job} {r : Run} {o : Outcome} → Fits J → OK J r → Does J r o → StaysOK J o
unfolding grow token_entry production_entry mark_entry
stays F ok (stops s) = tt
stays {J} {r} F ok (shifts {s = s} e h a) =
    let k : (token_at J r.next).kind ≤ kinds J.tables = F.reads_in _ (ok.readable h) in
    let m : Moves J.tables (top_of (states_of r.stack)) (token_at J r.next).kind s.0 = move_terminal J.tables _ _ k ∙ rw top_of_states a in
    arrive_ok J _ (above m ok.along) (omega (arith, ltb-true r.next (length J.tokens) h)) tt
stays {J} {r} F ok (reduces {p = p} {m = mode} e l d) =
    let rest : List Entry = drop (size J.tables (suc p)) r.stack in
    let m : Moves J.tables (top_of (states_of rest)) (symbol_of J.tables (left J.tables (suc p))) (target (goto J.tables (top_state rest) (left J.tables (suc p)))) =
    move_nonterminal J.tables (top_of (states_of rest)) (left J.tables (suc p)) ∙ rw (top_of_states rest) (goes_below J r.stack (suc p) d) in
    record {
      along = above m (along_drop J r.stack (size J.tables (suc p)) ok.along);
      in_tokens = ok.in_tokens;
      readable = ok.readable;
      mode_ok = reduce_mode J (production_entry J (counted r) (suc p) (take (size J.tables (suc p)) r.stack) rest ∷ rest) mode l;
    }
  where
    reduce_mode : (J : Job) (stack : List Entry) (m : Mode) → Reduces m → ModeOK J stack m
    reduce_mode J stack main l = tt
    reduce_mode J stack (column f) l = tt
    reduce_mode J stack (search f k) l = absurd l
    reduce_mode J stack (simulate f k sim) l = absurd l
stays F ok (accepts e h q x) = tt
stays F ok (extra e h q) = tt
stays F ok (refuses e h) = tt
stays F ok (forms e h) = record { along = ok.along; in_tokens = ok.in_tokens; readable = ok.readable; mode_ok = tt }
stays F ok (early e q x) = tt
stays F ok (turns f c d m) = record { along = ok.along; in_tokens = ok.in_tokens; readable = ok.readable; mode_ok = m }
stays {J} {r} F ok (drops f c h) = arrive_ok J _ ok.along (omega (arith, ltb-true r.next (length J.tokens) h)) (omega arith)
stays F ok (gives_up f c h) = tt
stays {J} {r} F ok (marks f k {s = s} c l a) =
    let rest : List Entry = drop k r.stack in
    let m : Moves J.tables (top_of (states_of rest)) (error_column J.tables) (target (action J.tables (top_state rest) (error_column J.tables))) =
    move_terminal J.tables (top_of (states_of rest)) (error_column J.tables) (omega arith) ∙ rw (top_of_states rest) (target_of _ a) in
    record {
      along = above m (along_drop J r.stack k ok.along);
      in_tokens = ok.in_tokens;
      readable = ok.readable;
      mode_ok = tt;
    }

pub begins_ok : (J : Job) → StaysOK J (begin J)
unfolding begin first_run
begins_ok J = go (J.depth_fits 1)
  where
    go : (b : Bool) → StaysOK J (need b OutOfDepth (first_run J) (arrive J (first_run J)))
    go true = arrive_ok J (first_run J) bottom (omega arith) tt
    go false = tt

-- ---- along every run

-- the runs that a job comes to, look by look
pub data Reaches (J : Job) : Run → Type 0 where
  begins : {r : Run} → begin J ≡ more r → Reaches J r
  goes : {r s : Run} → Reaches J r → step J r ≡ more s → Reaches J s

-- how a run ends: before the first look, where the budget is used up at a run that it came to, or by a look of such a run
pub data Ends (J : Job) : Outcome → Type 0 where
  at_once : {a : Answer} {r : Run} → begin J ≡ done a r → Ends J (done a r)
  out_of_units_law : {r : Run} → Reaches J r → Ends J (done OutOfUnits r)
  by_look : {a : Answer} {r s : Run} → Reaches J s → step J s ≡ done a r → Ends J (done a r)

run_ends : (J : Job) (n : ℕ) (s : Run) → Reaches J s → (o : Outcome) → step J s ≡ o → Ends J (run_from J n o)
unfolding run_from
run_ends J zero s h (more r) e = out_of_units_law (goes h e)
run_ends J (suc n) s h (more r) e = run_ends J n r (goes h e) (step J r) refl
run_ends J zero s h (done a r) e = by_look h e
run_ends J (suc n) s h (done a r) e = by_look h e

begin_ends : (J : Job) (n : ℕ) (o : Outcome) → begin J ≡ o → Ends J (run_from J n o)
unfolding run_from
begin_ends J zero (more r) e = out_of_units_law (begins e)
begin_ends J (suc n) (more r) e = run_ends J n r (begins e) (step J r) refl
begin_ends J zero (done a r) e = at_once e
begin_ends J (suc n) (done a r) e = at_once e

pub drive_ends : (J : Job) (n : ℕ) → Ends J (drive J n)
unfolding drive
drive_ends J n = begin_ends J n (begin J) refl

-- ---- what is kept by each step is kept by a run

pub run_keeps : (P : Outcome → Type 0) (J : Job) → ((r : Run) → P (more r) → P (step J r)) → ((r : Run) → P (more r) → P (done OutOfUnits r))
    → (n : ℕ) (o : Outcome) → P o → P (run_from J n o)
unfolding run_from
run_keeps P J s u zero (more r) h = u r h
run_keeps P J s u zero (done a r) h = h
run_keeps P J s u (suc n) (more r) h = run_keeps P J s u n (step J r) (s r h)
run_keeps P J s u (suc n) (done a r) h = h

-- to read a token changes nothing but the last location; where it ends the run, nothing is claimed of the tree
pub arrive_keeps : (P : Outcome → Type 0) (J : Job) (r : Run) → P (more r) → ((l : ℕ) → P (more (read_to r l)))
    → P (done (TokenizerError r.next) r)
    → ((l : ℕ) → P (done (UnrecognizedToken r.next (record { 0 = top_state r.stack })) (read_to r l))) → P (arrive J r)
unfolding arrive judge_kind
arrive_keeps P J r h k x y =
    pick_case P (has_token J r) _ _
    (λ t. pick_case P (eqb (token_at J r.next).kind 65535) _ _ (λ u. x)
    (λ u. pick_case P (J.reads (token_at J r.next).kind) _ _ (λ v. k (token_at J r.next).end) (λ v. y (token_at J r.next).end)))
    (λ t. h)
