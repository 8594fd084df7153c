-- Token ranges of the stack join without gaps, from token 0 up to the lookahead, or, while tokens are dropped, up to where the
-- error arose. A pop takes a whole range off, so a reduction or a mark puts one range in the place of those that it covers.
use Rattle.std.specs.Prelude.{◌≡◌, ◌⊎◌, Bool, ℕ, zero, suc, ◌≤◌, ◌<◌, length, take, drop}
use Rattle.std.proofs.Math.Path.{refl}
use Rattle.std.proofs.Common.{subst}
use Rattle.std.proofs.Math.Logic.{inl, inr}
use Rattle.std.proofs.Math.Bool.{true, false}
use mathlib.Core.List.{List, [], ◌∷◌}
use native.Mathlib.Omega.{arith}
use borrow.Author.Tests.{ltb-true, ltb-false}
use Rattle.rules.specs.declared.StateNo.{StateNo}
use Rattle.rules.specs.declared.Entry.{Entry}
use Rattle.rules.specs.declared.Formed.{Formed}
use Rattle.rules.specs.declared.Answer.TheVariants.{OutOfDepth}
use Rattle.rules.specs.Tables.{size}
use Rattle.rules.specs.Driving.{Job, Run, Mode, Marked, Node, Outcome, grow, counted, advanced, token_entry, production_entry, marked, mark_entry, formed, has_token, first_or, after_or, arrive, first_run, begin, step}
use Rattle.lr.specs.Each.{Each, each_append}
use Rattle.lr.specs.Steps.{formed_from, Arrival, arrival, View, view, Refutes, shifted, reduced, recovered, record_of}
use Rattle.lr.specs.Runs.{Holds, need_case, along, along_reached, walk, Reached}

-- from the top down: the top one's range ends at `to`, each other's where the one above it begins, and the lowest begins at 0
abbrev pub Joined : List Entry → ℕ → Type 0
Joined [] to = to ≡ 0
Joined (e ∷ rest) to = (e.after ≡ to) × (e.first ≤ e.after) × Joined rest e.first

-- the error that was formed: 3 names the token at which it arose, 4 arose at the end
abbrev pub Arose : Job → Formed → Type 0
Arose J f =
    ((f.number ≡ 3) × (f.at ≡ f.from) × (f.from < length J.tokens)) ⊎ ((f.number ≡ 4) × (f.from ≡ length J.tokens))

-- a record: its stretch is the tokens under what was popped, up to where the error arose, and then the dropped ones
pub record Recorded (J : Job) (m : Marked) : Type 0 where
  pub arose : Arose J m.error
  pub popped : m.first ≤ m.error.from
  pub dropped : m.error.from ≤ m.after
  pub inside : m.after ≤ length J.tokens

-- while searching, the stack is as it was when the error arose, and the lookahead may be further on
pub record Searching (J : Job) (stack : List Entry) (next : ℕ) (f : Formed) (k : ℕ) : Type 0 where
  pub joined : Joined stack f.from
  pub onward : f.from ≤ next
  pub depth : k ≤ length stack
  pub arose : Arose J f

abbrev pub RangesIn : Job → List Entry → ℕ → Mode → Type 0
RangesIn J stack next Mode.main = Joined stack next
RangesIn J stack next (Mode.column f) = Joined stack next × (f.from ≡ next) × Arose J f
RangesIn J stack next (Mode.search f k) = Searching J stack next f k
RangesIn J stack next (Mode.simulate f k sim) = Searching J stack next f k

pub record RangesOf (J : Job) (stack : List Entry) (next : ℕ) (marks : List Marked) (m : Mode) : Type 0 where
  pub reach : next ≤ length J.tokens
  pub ranges : RangesIn J stack next m
  pub recorded : Each (Recorded J) marks

abbrev pub Ranges : Job → Run → Mode → Type 0
Ranges J r m = RangesOf J r.stack r.next r.marks m

-- ---- pops

first_of_more : (d d' : ℕ) (e : Entry) (es : List Entry) → first_or d (e ∷ es) ≡ first_or d' (e ∷ es)
first_of_more d d' e [] = refl
first_of_more d d' e (f ∷ es) = first_of_more d d' f es

pub first_cons : (d : ℕ) (e : Entry) (es : List Entry) → first_or d (e ∷ es) ≡ first_or e.first es
first_cons d e [] = refl
first_cons d e (f ∷ es) = first_of_more d e.first f es

pub record Popped (stack : List Entry) (n to : ℕ) : Type 0 where
  pub joined : Joined (drop n stack) (first_or to (take n stack))
  pub after : after_or to (take n stack) ≡ to
  pub ordered : first_or to (take n stack) ≤ to

pub pop : (n : ℕ) (stack : List Entry) (to : ℕ) → Joined stack to → Popped stack n to
pop zero stack to j = record { joined = j; after = refl; ordered = omega arith }
pop (suc n) [] to j = record { joined = j; after = refl; ordered = omega arith }
pop (suc n) (e ∷ rest) to j =
    let q = pop n rest e.first j.2 in
    let c = first_cons to e (take n rest) in
    let h = j.1 in
    let a = j.0 in
    record { joined = rw c q.joined; after = a; ordered = (let o = q.ordered in omega arith) }

-- ---- along runs

module _ (J : Job) where
  ranges_shifted : (r : Run) (s : StateNo) → Ranges J r Mode.main → has_token J r ≡ true → Ranges J (shifted J r s) Mode.main
  unfolding grow token_entry
  ranges_shifted r s h t =
      let less = ltb-true r.next (length J.tokens) t in
      record { reach = omega arith; ranges = (refl, omega arith, h.ranges); recorded = each_append (Recorded J) r.marks [] h.recorded tt }

  production_joined : (r : Run) (p : ℕ) (m : Mode) → Joined r.stack r.next → Joined (reduced J r p m).stack r.next
  unfolding grow production_entry
  production_joined r p m j =
      let q = pop (size J.tables p) r.stack r.next j in
      let a = q.after in
      let o = q.ordered in
      (a, rw a o, q.joined)

  ranges_reduced : (r : Run) (p : ℕ) → Ranges J r Mode.main → Ranges J (reduced J r p Mode.main) Mode.main
  unfolding grow
  ranges_reduced r p h =
      record { reach = h.reach; ranges = production_joined r p Mode.main h.ranges; recorded = each_append (Recorded J) r.marks [] h.recorded tt }

  ranges_column_reduced : (r : Run) (p : ℕ) (f : Formed) → Ranges J r (Mode.column f) → Ranges J (reduced J r p (Mode.column f)) (Mode.column f)
  unfolding grow
  ranges_column_reduced r p f h =
      let g = h.ranges in
      record { reach = h.reach; ranges = (production_joined r p (Mode.column f) g.0, g.1, g.2); recorded = each_append (Recorded J) r.marks [] h.recorded tt }

  arose_formed : (r : Run) (t : Bool) → r.next ≤ length J.tokens → has_token J r ≡ t → Arose J (formed r t)
  unfolding formed
  arose_formed r true h e = inl (refl, refl, ltb-true r.next (length J.tokens) e)
  arose_formed r false h e = let over = ltb-false r.next (length J.tokens) e in inr (refl, omega arith)

  ranges_recovered : (r : Run) (f : Formed) (k : ℕ) (sim : List ℕ) → Ranges J r (Mode.simulate f k sim) → Ranges J (recovered J r f k) Mode.main
  unfolding grow marked mark_entry
  ranges_recovered r f k sim h =
      let g = h.ranges in
      let q = pop k r.stack f.from g.joined in
      let o = q.ordered in
      let n = g.onward in
      record {
        reach = h.reach;
        ranges = (refl, omega arith, q.joined);
        recorded = each_append (Recorded J) r.marks (record_of J r f k ∷ []) h.recorded (record { arose = g.arose; popped = o; dropped = n; inside = h.reach }, tt);
      }

  refuted : (r : Run) (f : Formed) (k : ℕ) (m : Mode) → Refutes J r f k m → RangesIn J r.stack r.next m → Searching J r.stack r.next f k
  refuted r f k m (Refutes.no_shift n) h = h
  refuted r f k m (Refutes.no_way sim e) h = h

  dropped_one : (r : Run) (f : Formed) (k : ℕ) {m : Mode} → Searching J r.stack r.next f k → Ranges J r m → has_token J r ≡ true
      → Ranges J (advanced r (Mode.search f 0)) (Mode.search f 0)
  dropped_one r f k g h t =
      let less = ltb-true r.next (length J.tokens) t in
      let n = g.onward in
      record {
        reach = omega arith;
        ranges = record { joined = g.joined; onward = omega arith; depth = omega arith; arose = g.arose };
        recorded = h.recorded;
      }

  abbrev pub Kept : Outcome → Type 0
  Kept o = Holds (λ r. Ranges J r r.mode) (λ a r. Each (Recorded J) r.marks) o

  ranges_arrival : (r : Run) (o : Outcome) → Ranges J r r.mode → Arrival J r o → Kept o
  ranges_arrival r o h (Arrival.at_end t) = h
  ranges_arrival r o h (Arrival.reads t e) = h
  ranges_arrival r o h (Arrival.unread t e) = h.recorded
  ranges_arrival r o h (Arrival.broken t e) = h.recorded

  ranges_view : (r : Run) (m : Mode) (o : Outcome) → Ranges J r m → View J r m o → Kept o
  unfolding grow
  ranges_view r m o h (View.stops d l) = h.recorded
  ranges_view r m o h (View.shifts s t e a) = ranges_arrival (shifted J r s) o (ranges_shifted r s h t) a
  ranges_view r m o h (View.reduces p e) = ranges_reduced r (suc p) h
  ranges_view r m o h (View.extra t e) = h.recorded
  ranges_view r m o h (View.accepts t e) = h.recorded
  ranges_view r m o h (View.fails t e) = h.recorded
  ranges_view r m o h (View.forms t e) =
      record {
        reach = h.reach;
        ranges = (h.ranges, formed_from r (has_token J r), arose_formed r (has_token J r) h.reach refl);
        recorded = h.recorded;
      }
  ranges_view r m o h (View.column_reduces {f = f} p e) = ranges_column_reduced r (suc p) f h
  ranges_view r m o h (View.accepts_early e) = h.recorded
  ranges_view r m o h (View.column_ends {f = f} e) =
      let g = h.ranges in
      let at = g.1 in
      record {
        reach = h.reach;
        ranges = record { joined = rw at g.0; onward = omega arith; depth = omega arith; arose = g.2 };
        recorded = h.recorded;
      }
  ranges_view r m o h (View.tries s e) = record { reach = h.reach; ranges = h.ranges; recorded = h.recorded }
  ranges_view r m o h (View.deeper {f = f} {k = k} n l) =
      let g = refuted r f k m n h.ranges in
      record {
        reach = h.reach;
        ranges = record { joined = g.joined; onward = g.onward; depth = omega arith; arose = g.arose };
        recorded = h.recorded;
      }
  ranges_view r m o h (View.drops {f = f} {k = k} n l t a) = ranges_arrival (advanced r (Mode.search f 0)) o (dropped_one r f k (refuted r f k m n h.ranges) h t) a
  ranges_view r m o h (View.gives_up n l t) = h.recorded
  ranges_view r m o h (View.simulates p e) = record { reach = h.reach; ranges = h.ranges; recorded = h.recorded }
  ranges_view r m o h (View.marks {f = f} {k = k} {sim = sim} e) = ranges_recovered r f k sim h

  pub ranges_step : (r : Run) → Ranges J r r.mode → Kept (step J r)
  ranges_step r h = ranges_view (counted r) r.mode (step J r) h (view J r)

  ranges_first : Ranges J (first_run J) Mode.main
  unfolding first_run
  ranges_first = record { reach = omega arith; ranges = refl; recorded = tt }

  ranges_begin : Kept (begin J)
  unfolding begin first_run
  ranges_begin =
      need_case Kept (J.depth_fits 1) OutOfDepth (first_run J) (arrive J (first_run J)) (λ e. tt) (λ e.
      ranges_arrival (first_run J) (arrive J (first_run J)) ranges_first (arrival J (first_run J)))

  -- after any number of steps
  pub ranges_walk : (n : ℕ) → Kept (walk J n (begin J))
  ranges_walk n =
      along J (λ r. Ranges J r r.mode) (λ a r. Each (Recorded J) r.marks) ranges_step n (begin J) ranges_begin

-- of a run that is reached
pub ranges_reached : (J : Job) (r : Run) → Reached J r → Ranges J r r.mode
ranges_reached J r w = subst (Kept J) w.reached (ranges_walk J w.steps)

-- ---- what every push keeps

-- of a run's lists
abbrev pub Of : (List Node → List ℕ → List Marked → List Entry → Type 0) → Run → Type 0
Of P r = P r.nodes r.children r.marks r.stack

-- The lists change only where a token is shifted, a production is reduced or a mark is placed. What those three keep, with the ranges
-- of that moment at hand, holds along every run.
module _ (J : Job) (P : List Node → List ℕ → List Marked → List Entry → Type 0) (first : P [] [] [] [])
    (shifts : (r : Run) (s : StateNo) → Of P r → Of P (shifted J r s))
    (reduces : (r : Run) (p : ℕ) (m : Mode) → Joined r.stack r.next → Of P r → Of P (reduced J r p m))
    (marks : (r : Run) (f : Formed) (k : ℕ) → Joined r.stack f.from → f.from ≤ r.next → Of P r → Of P (recovered J r f k)) where
  abbrev Pushed : Outcome → Type 0
  Pushed o = Holds (Of P) (λ a r. Of P r) o

  pushed_arrival : (r : Run) (o : Outcome) → Of P r → Arrival J r o → Pushed o
  pushed_arrival r o h (Arrival.at_end t) = h
  pushed_arrival r o h (Arrival.reads t e) = h
  pushed_arrival r o h (Arrival.unread t e) = h
  pushed_arrival r o h (Arrival.broken t e) = h

  pushed_view : (r : Run) (m : Mode) (o : Outcome) → RangesIn J r.stack r.next m → Of P r → View J r m o → Pushed o
  pushed_view r m o g h (View.stops d l) = h
  pushed_view r m o g h (View.shifts s t e a) = pushed_arrival (shifted J r s) o (shifts r s h) a
  pushed_view r m o g h (View.reduces p e) = reduces r (suc p) Mode.main g h
  pushed_view r m o g h (View.extra t e) = h
  pushed_view r m o g h (View.accepts t e) = h
  pushed_view r m o g h (View.fails t e) = h
  pushed_view r m o g h (View.forms t e) = h
  pushed_view r m o g h (View.column_reduces {f = f} p e) = reduces r (suc p) (Mode.column f) g.0 h
  pushed_view r m o g h (View.accepts_early e) = h
  pushed_view r m o g h (View.column_ends e) = h
  pushed_view r m o g h (View.tries s e) = h
  pushed_view r m o g h (View.deeper n l) = h
  pushed_view r m o g h (View.drops {f = f} n l t a) = pushed_arrival (advanced r (Mode.search f 0)) o h a
  pushed_view r m o g h (View.gives_up n l t) = h
  pushed_view r m o g h (View.simulates p e) = h
  pushed_view r m o g h (View.marks {f = f} {k = k} e) = marks r f k g.joined g.onward h

  pushed_step : (r : Run) → Reached J r → Of P r → Pushed (step J r)
  pushed_step r w h = pushed_view (counted r) r.mode (step J r) (ranges_reached J r w).ranges h (view J r)

  pushed_begin : Pushed (begin J)
  unfolding begin first_run
  pushed_begin =
      need_case Pushed (J.depth_fits 1) OutOfDepth (first_run J) (arrive J (first_run J)) (λ e. first) (λ e.
      pushed_arrival (first_run J) (arrive J (first_run J)) first (arrival J (first_run J)))

  pub pushed_walk : (n : ℕ) → Pushed (walk J n (begin J))
  pushed_walk n = along_reached J (Of P) (λ a r. Of P r) pushed_step pushed_begin n

  pub pushed_reached : (r : Run) → Reached J r → Of P r
  pushed_reached r w = subst Pushed w.reached (pushed_walk w.steps)
