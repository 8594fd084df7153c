-- What a search comes to: a mark is placed exactly where the first pair says yes, and the original error is answered at the end
-- exactly if no pair does. Both are read off the step that ends the search, by what it knows (`Choice`).
use Rattle.std.specs.Prelude.{◌≡◌, refl, ◌⊎◌, true, false, List, [], ◌++◌, ℕ, ◌+◌, ◌-◌, ◌≤◌, ◌<◌, length}
use Rattle.std.proofs.Common.{sym, ap, ◌∙◌, subst, inl, inr, true≢false, arith, length-append, ltb-false}
use Rattle.std.proofs.Math.Decide.{dec_lt}
use Rattle.rules.specs.declared.Entry.{Entry}
use Rattle.rules.specs.declared.Formed.{Formed}
use Rattle.rules.specs.declared.Answer.{Answer}
use Rattle.rules.specs.declared.Answer.TheVariants.{UnrecognizedToken, OutOfUnits, OutOfDepth}
use Rattle.rules.specs.Answers.{number_of}
use Rattle.rules.specs.Driving.{Job, Run, Mode, Outcome, top_state, grow, counted, advanced, token_at, has_token, look_column, formed, answer_of, arrive, first_run, begin, step, drive}
use Rattle.lr.specs.Steps.{formed_from, formed_counted, limit_of, limit_numbers, SaysYes, Arrival, arrival, View, view, Refutes, simulate_cell, shifted, recovered}
use Rattle.lr.specs.Runs.{Holds, need_case, holds_both, along, walk, Reached, reached_step, LastStep, last_step, other_end, out_of_units, drive_walk, walk_add, not_past_done}
use Rattle.lr.specs.Ranges.{ranges_reached}
use Rattle.lr.specs.Choice.{Simulates, Says, AllSayNo, FormedBy, Tried, Asking, Known, known, one_answer, said_no, all_no, up_to}

-- ---- the mark

abbrev marks_of : Outcome → ℕ
marks_of (Outcome.more r) = length r.marks
marks_of (Outcome.done a r) = length r.marks

-- a look that writes a record places a mark
data Marking (J : Job) (r : Run) (m : Mode) (o : Outcome) : Type 0 where
  none : marks_of o ≡ length r.marks → Marking J r m o
  one : (f : Formed) (k : ℕ) (sim : List ℕ) → m ≡ Mode.simulate f k sim → SaysYes (simulate_cell J r sim) → o ≡ Outcome.more (recovered J r f k)
      → Marking J r m o

marking_arrival : (J : Job) (r : Run) (o : Outcome) → Arrival J r o → marks_of o ≡ length r.marks
marking_arrival J r o (Arrival.at_end t) = refl
marking_arrival J r o (Arrival.reads t e) = refl
marking_arrival J r o (Arrival.unread t e) = refl
marking_arrival J r o (Arrival.broken t e) = refl

no_more {ℓ} : {A : Type ℓ} (xs : List A) → length (xs ++ []) ≡ length xs
no_more xs = simp length-append (omega arith)

marking : (J : Job) (r : Run) (m : Mode) (o : Outcome) → View J r m o → Marking J r m o
unfolding grow
marking J r m o (View.stops d l) = Marking.none refl
marking J r m o (View.shifts s t e a) = Marking.none (marking_arrival J (shifted J r s) o a ∙ no_more r.marks)
marking J r m o (View.reduces p e) = Marking.none (no_more r.marks)
marking J r m o (View.extra t e) = Marking.none refl
marking J r m o (View.accepts t e) = Marking.none refl
marking J r m o (View.fails t e) = Marking.none refl
marking J r m o (View.forms t e) = Marking.none refl
marking J r m o (View.column_reduces p e) = Marking.none (no_more r.marks)
marking J r m o (View.accepts_early e) = Marking.none refl
marking J r m o (View.column_ends e) = Marking.none refl
marking J r m o (View.tries s e) = Marking.none refl
marking J r m o (View.deeper n l) = Marking.none refl
marking J r m o (View.drops {f = f} n l t a) = Marking.none (marking_arrival J (advanced r (Mode.search f 0)) o a)
marking J r m o (View.gives_up n l t) = Marking.none refl
marking J r m o (View.simulates p e) = Marking.none refl
marking J r m o (View.marks {f = f} {k = k} {sim = sim} e) = Marking.one f k sim refl e refl

-- the step from r to r' places a mark above the first pair that says yes
pub record Chosen (J : Job) (r r' : Run) : Type 0 where
  pub error : Formed
  pub pops : ℕ
  pub tried : Tried J r.stack r.next r.marks error pops
  pub yes_here : Says J r.stack r.next pops true
  pub placed : r' ≡ recovered J (counted r) error pops

says_true : (J : Job) (stack : List Entry) (r : Run) (k : ℕ) (sim : List ℕ) → Asking J stack r.next k sim → SaysYes (simulate_cell J r sim)
    → Says J stack r.next k true
unfolding look_column
says_true J stack r k sim ask e = Says.simulation ask.state ask.shift (ask.same true (Simulates.says_yes e))

chosen_of : (J : Job) (r r' : Run) → Reached J r → step J r ≡ Outcome.more r' → length r.marks < length r'.marks
    → Marking J (counted r) r.mode (step J r) → Chosen J r r'
chosen_of J r r' w e less (Marking.none same) =
    let q : marks_of (step J r) ≡ length r'.marks = ap marks_of e in absurd (omega arith)
chosen_of J r r' w e less (Marking.one f k sim i y o) =
    let h : Known J r (Mode.simulate f k sim) = subst (λ (m : Mode). Known J r m) i (known J r w) in
    record { error = f; pops = k; tried = h.0; yes_here = says_true J r.stack (counted r) k sim h.1 y; placed = (let q : Outcome.more r' ≡ Outcome.more (recovered J (counted r) f k) = sym e ∙ o in cc) }

-- a step that writes a record took the fewest drops and then the highest state
pub chosen : (J : Job) (r r' : Run) → Reached J r → step J r ≡ Outcome.more r' → length r.marks < length r'.marks → Chosen J r r'
chosen J r r' w e less = chosen_of J r r' w e less (marking J (counted r) r.mode (step J r) (view J r))

-- ---- answers 3 and 4

-- no pair of a lookahead, from `from` on, and a state says yes
abbrev pub NoPair : Job → List Entry → ℕ → Type 0
NoPair J stack from = (i : ℕ) → from ≤ i → i ≤ length J.tokens → AllSayNo J stack i

-- why 3 or 4 is answered: a token that is not read; flag 0; or an error that was formed, with all tokens behind it dropped and no
-- pair that says yes
pub data Unrecognized (J : Job) (a : Answer) (r : Run) : Type 0 where
  not_read : has_token J r ≡ true → J.reads (token_at J r.next).kind ≡ false → a ≡ UnrecognizedToken r.next (record { 0 = top_state r.stack })
      → Unrecognized J a r
  at_once : (f : Formed) → J.recovers ≡ false → FormedBy J f r.marks → a ≡ answer_of f → f.from ≡ r.next → Unrecognized J a r
  no_pair : (f : Formed) → FormedBy J f r.marks → a ≡ answer_of f → r.next ≡ length J.tokens → NoPair J r.stack f.from → Unrecognized J a r

-- the same of an outcome; what is neither 3 nor 4 is no matter
abbrev Why : Job → Outcome → Type 0
Why J o = Holds (λ r. Unit {0}) (λ a r. (number_of a ≡ 3) ⊎ (number_of a ≡ 4) → Unrecognized J a r) o

neither : (J : Job) (a : Answer) (r : Run) (n : ℕ) → number_of a ≡ n → (n ≡ 3 → ⊥) → (n ≡ 4 → ⊥) → (number_of a ≡ 3) ⊎ (number_of a ≡ 4) → Unrecognized J a r
neither J a r n e p q (inl h) = absurd (p (sym e ∙ h))
neither J a r n e p q (inr h) = absurd (q (sym e ∙ h))

why_arrival : (J : Job) (r : Run) (o : Outcome) → Arrival J r o → Why J o
why_arrival J r o (Arrival.at_end t) = tt
why_arrival J r o (Arrival.reads t e) = tt
why_arrival J r o (Arrival.unread t e) = λ h. Unrecognized.not_read t e refl
why_arrival J r o (Arrival.broken t e) = neither J _ r 6 refl (λ q. omega arith) (λ q. omega arith)

reaches : (J : Job) (r : Run) → Reached J r → r.next ≤ length J.tokens
reaches J r w = (ranges_reached J r w).reach

gave_up : (J : Job) (r : Run) (f : Formed) (k : ℕ) (m : Mode) → Reached J r → Known J r m → Refutes J (counted r) f k m → length r.stack ≤ k
    → has_token J r ≡ false → Unrecognized J (answer_of f) (counted r)
gave_up J r f k m w h n l t =
    let q = said_no J (counted r) f k m n h in
    let all = all_no J (counted r) f k q.0 q.1 l in
    let over = ltb-false r.next (length J.tokens) t in
    let reach = reaches J r w in
    Unrecognized.no_pair f q.0.origin refl (omega arith) (λ i from to. up_to J (counted r) f k q.0 all i from (omega arith))

why_view : (J : Job) (r : Run) (m : Mode) (o : Outcome) → Reached J r → r.mode ≡ m → Known J r m → View J (counted r) m o → Why J o
unfolding look_column
why_view J r m o w i h (View.stops d l) =
    let n = limit_numbers d in neither J (limit_of d) (counted r) (number_of (limit_of d)) refl (λ q. omega arith) (λ q. omega arith)
why_view J r m o w i h (View.shifts s t e a) = why_arrival J (shifted J (counted r) s) o a
why_view J r m o w i h (View.reduces p e) = tt
why_view J r m o w i h (View.extra t e) = neither J _ (counted r) 5 refl (λ q. omega arith) (λ q. omega arith)
why_view J r m o w i h (View.accepts t e) = neither J _ (counted r) 1 refl (λ q. omega arith) (λ q. omega arith)
why_view J r m o w i h (View.fails t e) =
    λ n. Unrecognized.at_once (formed (counted r) (has_token J r)) t (record { run = r; reached = w; in_main = i; failed = e; is = formed_counted r (has_token J r); since = refl }) refl (formed_from (counted r) (has_token J r))
why_view J r m o w i h (View.forms t e) = tt
why_view J r m o w i h (View.column_reduces p e) = tt
why_view J r m o w i h (View.accepts_early e) = neither J _ (counted r) 2 refl (λ q. omega arith) (λ q. omega arith)
why_view J r m o w i h (View.column_ends e) = tt
why_view J r m o w i h (View.tries s e) = tt
why_view J r m o w i h (View.deeper n l) = tt
why_view J r m o w i h (View.drops {f = f} n l t a) = why_arrival J (advanced (counted r) (Mode.search f 0)) o a
why_view J r m o w i h (View.gives_up {f = f} {k = k} n l t) = λ q. gave_up J r f k m w h n l t
why_view J r m o w i h (View.simulates p e) = tt
why_view J r m o w i h (View.marks e) = tt

why_step : (J : Job) (r : Run) → Reached J r → Why J (step J r)
why_step J r w = why_view J r r.mode (step J r) w refl (known J r w) (view J r)

why_begin : (J : Job) → Why J (begin J)
unfolding begin
why_begin J =
    need_case (Why J) (J.depth_fits 1) OutOfDepth (first_run J) (arrive J (first_run J)) (λ e. neither J OutOfDepth (first_run J) 20 refl (λ q. omega arith) (λ q. omega arith)) (λ e.
    why_arrival J (first_run J) (arrive J (first_run J)) (arrival J (first_run J)))

why_last : (J : Job) (a : Answer) (r : Run) → (begin J ≡ Outcome.done a r) ⊎ LastStep J a r → (number_of a ≡ 3) ⊎ (number_of a ≡ 4) → Unrecognized J a r
why_last J a r (inl e) = subst (Why J) e (why_begin J)
why_last J a r (inr l) = subst (Why J) l.ends (why_step J l.run l.reached)

-- 19 is neither
not_units : (a : Answer) → (number_of a ≡ 3) ⊎ (number_of a ≡ 4) → a ≡ OutOfUnits → ⊥
not_units a (inl h) q = let n : number_of a ≡ 19 = ap number_of q in omega arith
not_units a (inr h) q = let n : number_of a ≡ 19 = ap number_of q in omega arith

-- 3 and 4 are given for one of three reasons; with recovery, the error answered is one that was formed, at its own moment
pub unrecognized : (J : Job) (budget : ℕ) (a : Answer) (r : Run) → drive J budget ≡ Outcome.done a r → (number_of a ≡ 3) ⊎ (number_of a ≡ 4) → Unrecognized J a r
unrecognized J budget a r e n =
    why_last J a r (last_step J budget a r (other_end J budget a r (not_units a n) e)) n

-- ---- the other way round: where no pair says yes, the search ends in the error that was formed

-- a mode that searches for this error
abbrev pub SearchesFor : Formed → Mode → Type 0
SearchesFor f Mode.main = ⊥
SearchesFor f (Mode.column g) = ⊥
SearchesFor f (Mode.search g k) = g ≡ f
SearchesFor f (Mode.simulate g k sim) = g ≡ f

-- the token at `next` is not read: 3 or 6
abbrev pub Unread : Job → Run → Type 0
Unread J r =
    (has_token J r ≡ true) × ((J.reads (token_at J r.next).kind ≡ false) ⊎ ((token_at J r.next).kind ≡ 65535))

module _ (J : Job) (f : Formed) (stack : List Entry) (none-says-yes : NoPair J stack f.from) where
  -- still searching on the same stack; or ended, by the error, by a token that is not read, or by a limit
  abbrev Fruitless : Outcome → Type 0
  Fruitless o = Holds (λ r. (r.stack ≡ stack) × SearchesFor f r.mode) (λ a r. (a ≡ answer_of f) ⊎ (Unread J r ⊎ (20 ≤ number_of a))) o

  fruitless_arrival : (r : Run) (o : Outcome) → r.stack ≡ stack → SearchesFor f r.mode → Arrival J r o → Fruitless o
  fruitless_arrival r o e s (Arrival.at_end t) = (e, s)
  fruitless_arrival r o e s (Arrival.reads t n) = (e, s)
  fruitless_arrival r o e s (Arrival.unread t n) = inr (inl (t, inl n))
  fruitless_arrival r o e s (Arrival.broken t n) = inr (inl (t, inr n))

  same_error : (r : Run) (g : Formed) (k : ℕ) (m : Mode) → SearchesFor f m → Refutes J r g k m → g ≡ f
  same_error r g k m s (Refutes.no_shift n) = s
  same_error r g k m s (Refutes.no_way sim e) = s

  no_mark_law : (r : Run) (k : ℕ) (sim : List ℕ) → Reached J r → r.stack ≡ stack → Known J r (Mode.simulate f k sim) → SaysYes (simulate_cell J (counted r) sim) → ⊥
  no_mark_law r k sim w e h y =
      let yes-said = says_true J r.stack (counted r) k sim h.1 y in
      let none_here : NoPair J r.stack f.from = rw e none-says-yes in
      true≢false (one_answer J r.stack r.next k true false yes-said (none_here r.next h.0.onward (reaches J r w) k h.0.depth))

  fruitless_view : (r : Run) (m : Mode) (o : Outcome) → Reached J r → Known J r m → r.stack ≡ stack → SearchesFor f m → View J (counted r) m o → Fruitless o
  fruitless_view r m o w h e s (View.stops d l) = inr (inr (limit_numbers d).0)
  fruitless_view r m o w h e s (View.shifts t q c a) = absurd s
  fruitless_view r m o w h e s (View.reduces p c) = absurd s
  fruitless_view r m o w h e s (View.extra t c) = absurd s
  fruitless_view r m o w h e s (View.accepts t c) = absurd s
  fruitless_view r m o w h e s (View.fails t c) = absurd s
  fruitless_view r m o w h e s (View.forms t c) = absurd s
  fruitless_view r m o w h e s (View.column_reduces p c) = absurd s
  fruitless_view r m o w h e s (View.accepts_early c) = absurd s
  fruitless_view r m o w h e s (View.column_ends c) = absurd s
  fruitless_view r m o w h e s (View.tries t c) = (e, s)
  fruitless_view r m o w h e s (View.deeper {f = g} {k = k} n l) = (e, same_error (counted r) g k m s n)
  fruitless_view r m o w h e s (View.drops {f = g} {k = k} n l t a) =
      fruitless_arrival (advanced (counted r) (Mode.search g 0)) o e (same_error (counted r) g k m s n) a
  fruitless_view r m o w h e s (View.gives_up {f = g} {k = k} n l t) = inl (ap answer_of (same_error (counted r) g k m s n))
  fruitless_view r m o w h e s (View.simulates p c) = (e, s)
  fruitless_view r m o w h e s (View.marks {f = g} {k = k} {sim = sim} y) =
      absurd (no_mark_law r k sim w e (subst (λ (x : Formed). Known J r (Mode.simulate x k sim)) s h) y)

  fruitless_step : (r : Run) → Reached J r → r.stack ≡ stack → SearchesFor f r.mode → Fruitless (step J r)
  fruitless_step r w e s = fruitless_view r r.mode (step J r) w (known J r w) e s (view J r)

  both_steps : (r : Run) → Reached J r × ((r.stack ≡ stack) × SearchesFor f r.mode)
      → Holds (λ x. Reached J x × ((x.stack ≡ stack) × SearchesFor f x.mode)) (λ a x. Unit {0} × ((a ≡ answer_of f) ⊎ (Unread J x ⊎ (20 ≤ number_of a)))) (step J r)
  both_steps r h =
      holds_both (Reached J) (λ x. (x.stack ≡ stack) × SearchesFor f x.mode) (λ a x. Unit {0}) (λ a x. (a ≡ answer_of f) ⊎ (Unread J x ⊎ (20 ≤ number_of a))) (step J r)
      (reached_step J r h.0) (fruitless_step r h.0 h.1.0 h.1.1)

  -- a search on a stack for which no pair says yes, after any number of steps, is still one, or has ended in the error that was
  -- formed, or at a token that is not read, or by a limit
  pub fruitless : (r : Run) → Reached J r → r.stack ≡ stack → SearchesFor f r.mode → (n : ℕ) (a : Answer) (r' : Run)
      → walk J n (Outcome.more r) ≡ Outcome.done a r' → (a ≡ answer_of f) ⊎ (Unread J r' ⊎ (20 ≤ number_of a))
  fruitless r w e s n a r' q =
      (subst (λ (o : Outcome). Holds (λ x. Reached J x × ((x.stack ≡ stack) × SearchesFor f x.mode)) (λ b x. Unit {0} × ((b ≡ answer_of f) ⊎ (Unread J x ⊎ (20 ≤ number_of b)))) o) q
      (along J (λ x. Reached J x × ((x.stack ≡ stack) × SearchesFor f x.mode)) (λ b x. Unit {0} × ((b ≡ answer_of f) ⊎ (Unread J x ⊎ (20 ≤ number_of b)))) both_steps n (Outcome.more r) (w, (e, s)))).1

-- ---- the chosen pair is the first

-- one pair comes no later than another: fewer drops, or as many and a state as high
abbrev pub NoLater : ℕ → ℕ → ℕ → ℕ → Type 0
NoLater i k i' k' = (i < i') ⊎ ((i ≡ i') × (k ≤ k'))

-- whatever pair says yes, the chosen one comes no later
pub chosen_first : (J : Job) (r r' : Run) (c : Chosen J r r') (i k : ℕ) → c.error.from ≤ i → k ≤ length r.stack → Says J r.stack i k true
    → NoLater r.next c.pops i k
chosen_first J r r' c i k from deep said = by_lookahead (dec_lt i r.next) (dec_lt r.next i)
  where
    never : Says J r.stack i k false → ⊥
    never no-said = true≢false (one_answer J r.stack i k true false said no-said)

    by_state : r.next ≡ i → Dec (k < c.pops) → NoLater r.next c.pops i k
    by_state e (yes less) = absurd (never (subst (λ (x : ℕ). Says J r.stack x k false) e (c.tried.higher k less)))
    by_state e (no over) = inr (e, omega arith)

    by_lookahead : Dec (i < r.next) → Dec (r.next < i) → NoLater r.next c.pops i k
    by_lookahead (yes before) d = absurd (never (c.tried.earlier i from before k deep))
    by_lookahead (no b) (yes after) = inl after
    by_lookahead (no b) (no a) = by_state (omega arith) (dec_lt k c.pops)

-- ---- for the whole run

either_end : (J : Job) (f : Formed) (o : Outcome) (a : Answer) (r : Run) → out_of_units o ≡ Outcome.done a r
    → (o ≡ Outcome.done a r → (a ≡ answer_of f) ⊎ (Unread J r ⊎ (20 ≤ number_of a))) → (a ≡ answer_of f) ⊎ (Unread J r ⊎ (19 ≤ number_of a))
either_end J f (Outcome.more s) a r e h =
    let q : OutOfUnits ≡ a = cc in let n : 19 ≡ number_of a = ap number_of q in inr (inr (omega arith))
either_end J f (Outcome.done b s) a r e h = weaker (h e)
  where
    weaker : (a ≡ answer_of f) ⊎ (Unread J r ⊎ (20 ≤ number_of a)) → (a ≡ answer_of f) ⊎ (Unread J r ⊎ (19 ≤ number_of a))
    weaker (inl x) = inl x
    weaker (inr (inl x)) = inr (inl x)
    weaker (inr (inr x)) = inr (inr (omega arith))

-- where no pair says yes, the run's answer is the error that was formed, or a token that is not read, or a limit
pub no_pair_ends : (J : Job) (f : Formed) (r : Run) → Reached J r → SearchesFor f r.mode → NoPair J r.stack f.from
    → (budget : ℕ) (a : Answer) (r' : Run) → drive J budget ≡ Outcome.done a r' → (a ≡ answer_of f) ⊎ (Unread J r' ⊎ (19 ≤ number_of a))
no_pair_ends J f r w s none-says-yes budget a r' e =
    either_end J f (walk J budget (begin J)) a r' (sym (drive_walk J budget) ∙ e) (λ q. ended q (dec_lt budget w.steps))
  where
    ended : walk J budget (begin J) ≡ Outcome.done a r' → Dec (budget < w.steps) → (a ≡ answer_of f) ⊎ (Unread J r' ⊎ (20 ≤ number_of a))
    ended q (yes less) = absurd (not_past_done J budget w.steps a r' r q w.reached (omega arith))
    ended q (no over) =
        let split : w.steps + (budget - w.steps) ≡ budget = omega arith in
        let from-r : walk J (budget - w.steps) (Outcome.more r) ≡ walk J budget (begin J) = rw (← w.reached, ← walk_add J w.steps (budget - w.steps) (begin J), split) refl in
        fruitless J f r.stack none-says-yes r w refl s (budget - w.steps) a r' (from-r ∙ q)
