-- What can not happen over passing tables, at any look of any run: the two `panic!` and the `unwrap` of the Rust driver, and every
-- default of the total readers of `rules`. All of it is read off the invariant.
use Rattle.std.specs.Prelude.{Bool, true, false, List, ◌≡◌, refl, ℕ, zero, suc, ◌≤◌, ◌<◌, length, drop}
use Rattle.std.proofs.Common.{sym, subst, ◌∙◌, arith, ltb-false}
use Rattle.rules.specs.declared.Cell.{Cell}
use Rattle.rules.specs.declared.Cell.TheVariants.{Shift, Reduce, Error}
use Rattle.rules.specs.declared.StateNo.{StateNo}
use Rattle.rules.specs.declared.Formed.{Formed}
use Rattle.rules.specs.Tables.{Tables, states, columns, kinds, error_column, end_column, production_count, action, goto, left, size}
use Rattle.rules.specs.Driving.{Job, Run, Mode, main, column, search, simulate, Outcome, more, done, top_state, top_of, token_at, has_token, look_column, counted, grow, need, formed, arrive, states_of, first_run, begin}
use Rattle.rules.specs.declared.Answer.TheVariants.{OutOfDepth}
use Rattle.lr.specs.Checked.{Enters, Laws}
use Rattle.lr.specs.Stack.{Along, bottom, above, moves_enter}
use Rattle.lr.specs.Invariant.{Fits, OK, counted_ok, column_of_token, column_at_end, Carries, Does, stops, shifts, reduces, accepts, extra, refuses, forms, early, turns, drops, gives_up, marks, arrive_keeps}

-- ---- the look of a mode: the states on which its cell acts, and the column

abbrev pub look_states : Run → Mode → List ℕ
look_states r main = states_of r.stack
look_states r (column f) = states_of r.stack
look_states r (search f k) = states_of (drop k r.stack)
look_states r (simulate f k sim) = sim

abbrev pub look_in : Job → Run → Mode → ℕ
look_in J r main = look_column J r
look_in J r (column f) = error_column J.tables
look_in J r (search f k) = error_column J.tables
look_in J r (simulate f k sim) = look_column J r

-- ---- what is safe

-- A reduction of a production other than 0: it is known, there are enough symbols, and the state below them has the goto, to a known
-- state that is not state 0.
pub record Goes (T : Tables) (ss : List ℕ) (p : ℕ) : Type 0 where
  pub known : p < production_count T
  pub enough : size T p ≤ length ss
  pub to : ℕ
  pub goes_there : goto T (top_of (drop (size T p) ss)) (left T p) ≡ Shift (record { 0 = to })
  pub enters : Enters T to

-- production 0 is reduced over exactly one symbol
abbrev pub ReduceSafe : Tables → List ℕ → ℕ → Type 0
ReduceSafe T ss zero = length ss ≡ 1
ReduceSafe T ss (suc p) = Goes T ss (suc p)

-- what the cell under the top of a stack of states asks of it
abbrev pub CellSafe : Tables → List ℕ → Cell → Type 0
CellSafe T ss (Shift s) = Enters T s.0
CellSafe T ss (Reduce p) = ReduceSafe T ss p.0
CellSafe T ss Error = Unit

-- A searched place is on the stack. At a simulated one the error cell is a shift, so the repeated look that places the mark is one too.
abbrev pub Placed : Job → Run → Mode → Type 0
Placed J r main = Unit
Placed J r (column f) = Unit
Placed J r (search f k) = k ≤ length r.stack
Placed J r (simulate f k sim) =
    (k ≤ length r.stack)
    × ((s : StateNo) × (action J.tables (top_state (drop k r.stack)) (error_column J.tables) ≡ Shift s) × Enters J.tables s.0)

-- The lookahead and its column never disagree: a token's column is its kind, one that is read, and the end's is the end column, after
-- the last token. No state shifts the end of input.
pub record Agrees (J : Job) (r : Run) : Type 0 where
  pub of_token : has_token J r ≡ true → (look_column J r ≡ (token_at J r.next).kind) × (J.reads (look_column J r) ≡ true) × (look_column J r ≤ kinds J.tables)
  pub at_end_law : has_token J r ≡ false → (look_column J r ≡ end_column J.tables) × (r.next ≡ length J.tokens)
  pub no_shift_at_end : has_token J r ≡ false → (s : ℕ) (n : StateNo) → action J.tables s (look_column J r) ≡ Shift n → ⊥

-- The error that rides along arose at the lookahead or before it, so the tokens dropped since are there; and one that arose at the end
-- of input has the end for its lookahead ever after.
pub record Arose (J : Job) (r : Run) (f : Formed) : Type 0 where
  pub before : f.from ≤ r.next
  pub of_end : f.number ≡ 4 → f.from ≡ length J.tokens

-- the next look, with all that it rests on
pub record Safe (J : Job) (r : Run) : Type 0 where
  pub state_in_law : top_of (look_states r r.mode) < states J.tables
  pub column_in : look_in J r r.mode < columns J.tables
  pub cell : CellSafe J.tables (look_states r r.mode) (action J.tables (top_of (look_states r r.mode)) (look_in J r r.mode))
  pub placed : Placed J r r.mode
  pub agrees : Agrees J r
  pub arose : (f : Formed) → Carries r.mode f → Arose J r f
  pub next_in : r.next ≤ length J.tokens

-- ---- from the invariant

pub top_in : {T : Tables} → Laws T → {ss Xs : List ℕ} → Along T ss Xs → top_of ss < states T
top_in L bottom = (L.item_in L.start).state_in_law
top_in L (above {ss = ss} {X = X} {s = s} m al) = (moves_enter L (top_of ss) X s m).known

pub agrees : {J : Job} {r : Run} → Fits J → OK J r → Agrees J r
agrees {J} {r} F ok =
    record {
      of_token = λ h.
          let q = column_of_token J r h in
          let d : J.reads (look_column J r) ≡ true = rw q (ok.readable h) in
          (q, d, F.reads_in (look_column J r) d);
      at_end_law = λ h. (column_at_end J r h, omega (arith, ltb-false r.next (length J.tokens) h, ok.in_tokens));
      no_shift_at_end = λ h s n e. F.laws.shift_not_at_end s (rw (column_at_end J r h) at e);
    }

look_in_law : {J : Job} {r : Run} → Agrees J r → look_column J r < columns J.tables
look_in_law {J} {r} a = by (has_token J r) refl
  where
    by : (b : Bool) → has_token J r ≡ b → look_column J r < columns J.tables
    by true h = omega (arith, (a.of_token h).2)
    by false h = omega (arith, (a.at_end_law h).0)

pub look_column_in : {J : Job} {r : Run} → Agrees J r → (m : Mode) → look_in J r m < columns J.tables
look_column_in a main = look_in_law a
look_column_in a (column f) = omega arith
look_column_in a (search f k) = omega arith
look_column_in a (simulate f k sim) = look_in_law a

-- ---- the error that rides along arose at the lookahead or before it

abbrev pub AroseIn : Job → Outcome → Type 0
AroseIn J (more r) = (f : Formed) → Carries r.mode f → Arose J r f
AroseIn J (done a r) = Unit

one_carried : (m : Mode) (f g : Formed) → Carries m f → Carries m g → f ≡ g
one_carried main f g a b = absurd a
one_carried (column h) f g a b = sym a ∙ b
one_carried (search h k) f g a b = sym a ∙ b
one_carried (simulate h k sim) f g a b = sym a ∙ b

-- where the run goes on with the lookahead as it was, or with a later one
later_arose : {J : Job} {r s : Run} {f : Formed} → r.next ≤ s.next → Arose J r f → Arose J s f
later_arose h a = record { before = omega (arith, a.before); of_end = a.of_end }

formed_arose : {J : Job} (r : Run) → OK J r → (b : Bool) → has_token J r ≡ b → Arose J r (formed r b)
unfolding formed
formed_arose r ok true h = record { before = omega arith; of_end = λ e. absurd (omega arith) }
formed_arose {J} r ok false h =
    record { before = omega arith; of_end = λ e. omega (arith, ltb-false r.next (length J.tokens) h, ok.in_tokens) }

pub arose : {J : Job} {r : Run} {o : Outcome} → OK J r → AroseIn J (more r) → Does J r o → AroseIn J o
unfolding grow
arose ok h (stops s) = tt
arose {J} {r} ok h (shifts e t a) = arrive_keeps (AroseIn J) J _ (λ f c. absurd c) (λ l f c. absurd c) tt (λ l. tt)
arose ok h (reduces e l d) = λ f c. later_arose (omega arith) (h f (subst (λ m. Carries m f) (sym e) c))
arose ok h (accepts e t q x) = tt
arose ok h (extra e t q) = tt
arose ok h (refuses e t) = tt
arose {J} {r} ok h (forms e t) = λ f c. subst (Arose J _) c (later_arose (omega arith) (formed_arose (counted r) (counted_ok ok) (has_token J r) refl))
arose ok h (early e q x) = tt
arose {J} {r} ok h (turns g {m = m} c d k) = λ f x. subst (Arose J _) (one_carried m g f d x) (later_arose (omega arith) (h g c))
arose {J} {r} ok h (drops g c t) =
    arrive_keeps (AroseIn J) J _ (λ f x. subst (Arose J _) x (later_arose (omega arith) (h g c))) (λ l f x. subst (Arose J _) x (later_arose (omega arith) (h g c))) tt (λ l. tt)
arose ok h (gives_up f c t) = tt
arose ok h (marks f k c l a) = λ g x. absurd x

pub begin_arose : (J : Job) → AroseIn J (begin J)
unfolding begin first_run
begin_arose J = by (J.depth_fits 1)
  where
    by : (b : Bool) → AroseIn J (need b OutOfDepth (first_run J) (arrive J (first_run J)))
    by true = arrive_keeps (AroseIn J) J (first_run J) (λ f c. absurd c) (λ l f c. absurd c) tt (λ l. tt)
    by false = tt
