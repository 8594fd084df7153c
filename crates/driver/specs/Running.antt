-- What `step` and `run` of the code need to know of a run: its bounds before and after a step, and that a run is its steps.
use Rattle.std.specs.Prelude.{true, false, ◌≡◌, refl, ℕ, zero, suc, ◌+◌, ◌*◌, ◌≤◌, ◌<◌, ◌^◌, length}
use Rattle.std.proofs.Common.{ap, ◌∙◌, arith}
use Rattle.model.specs.declared.St.{St}
use Rattle.model.specs.Model.{Call, World, counted, step, is_ended, run_from, begin}
use Rattle.moves.specs.declared.Given.{Given}
use Rattle.rooms.specs.declared.Rooms.{Rooms}
use Rattle.rooms.specs.Lent.{Same, world_of}
use Rattle.moves.specs.Serving.{Reads, Serves}
use Rattle.moves.specs.Bounds.{Fine, Simulable}
use Rattle.driver.specs.Kept.{Kept, After, kept_step, kept_begin}
use Rattle.driver.specs.Served.{call_of, served}

-- ---- bounds

pub fine_counted : (room depth count : ℕ) (s : St) → Fine room depth count s → s.units + 1 < 2 ^ 32 →
    Fine room depth count (counted s)
fine_counted room depth count s f h =
    record {
      depth_in = f.depth_in;
      height_in = f.height_in;
      kept = f.kept;
      paid = omega arith;
      marked = omega arith;
      few =
          h;
      next_in = f.next_in;
      within = f.within;
    }

pub simulable_counted : (room scratch depth : ℕ) (s : St) → Simulable room scratch depth s →
    Simulable room scratch depth (counted s)
simulable_counted room scratch depth s f = record { depth_in = f.depth_in; base_in = f.base_in; pushed_in = f.pushed_in }

-- what a step leaves
pub record Onward (room scratch : ℕ) (g : Given) (units : ℕ) (r : St) : Type 0 where
  pub fine : Fine room g.depth g.count r
  pub simulable : Simulable room scratch g.depth r
  pub units_are : r.units ≡ units

onward_after : (C : Call) (room scratch u : ℕ) (g : Given) (r : St) → C.depth ≡ g.depth → C.count ≡ g.count →
    After C room scratch u r → Onward room scratch g u r
onward_after C room scratch u g r d c k =
    record {
      fine = record {
        depth_in = omega arith;
        height_in = k.0.height_in;
        kept = k.0.kept;
        paid = omega arith;
        marked =
            omega arith;
        few = omega arith;
        next_in = omega arith;
        within = rw d at k.1;
      };
      simulable = record { depth_in = omega arith; base_in = k.0.base_in; pushed_in = k.0.pushed_in };
      units_are = k.0.units_are;
    }

module _ (g : Given) where
  abbrev C : Call
  C = call_of g

  -- what is equal to every served call's step is equal to this one's, which keeps the bounds
  pub step_onward : (rooms rooms' : Rooms) (s r : St) → Fine (length rooms.stack.now) g.depth g.count s →
      Simulable (length rooms.stack.now) (length rooms.scratch.now) g.depth s → s.units + 1 < 2 ^ 32 →
      ((D : Call) → Serves D g → world_of rooms' r ≡ step D (world_of rooms s)) →
      Onward (length rooms.stack.now) (length rooms.scratch.now) g (s.units + 1) r
  step_onward rooms rooms' s r f m h e =
      let room : ℕ = length rooms.stack.now in
      let scratch : ℕ = length rooms.scratch.now in
      let w : World = world_of rooms s in
      let k : Kept C room scratch 0 s.units s = record {
        depth_in = f.depth_in;
        simulated_in = m.depth_in;
        height_in = f.height_in;
        base_in = m.base_in;
        pushed_in = m.pushed_in;
        kept = f.kept;
        paid = omega arith;
        marked = omega arith;
        few = f.few;
        units_are = refl;
        next_in = f.next_in;
      } in
      let q : r ≡ (step C w).st = ap (λ (o : World). o.st) (e C (served g)) in
      rw q (onward_after C room scratch (s.units + 1) g (step C w).st refl refl (kept_step C room scratch s.units w (k, f.within) h))

  pub begin_onward : (room scratch : ℕ) (r : St) → 32 * g.depth ≤ room → 4 * g.depth ≤ scratch → ((D : Call) →
      Reads D g → r ≡ begin D) → Onward room scratch g 0 r
  begin_onward room scratch r h k e =
      rw (e C (served g).reads)
      (onward_after C room scratch 0 g (begin C) refl refl (kept_begin C room scratch h k))

-- ---- a run is its steps

pub run_turn : (C : Call) (n m : ℕ) (w w' v : World) → n ≡ m + 1 → is_ended w.st.mode ≡ false → w' ≡ step C w →
    run_from C n w ≡ v → run_from C m w' ≡ v
unfolding run_from
run_turn C zero m w w' v h e s q = absurd (omega arith)
run_turn C (suc n) m w w' v h e s q =
    let k : m ≡ n = omega arith in rw (k, s) (rw (e, run_from) at q)

pub run_ended : (C : Call) (n : ℕ) (w : World) → is_ended w.st.mode ≡ true → run_from C n w ≡ w
unfolding run_from
run_ended C zero w e = refl
run_ended C (suc n) w e = rw (e, run_from)

pub run_none : (C : Call) (n : ℕ) (w : World) → n ≡ 0 → run_from C n w ≡ w
unfolding run_from
run_none C n w e = rw e

-- The invariant of a run: the rooms stay the caller's, the bounds hold, and what is left to run gives the whole.
pub record Going (g : Given) (rooms₀ : Rooms) (s₀ : St) (budget : ℕ) (rooms : Rooms) (s : St) (left : ℕ) : Type 0 where
  pub same : Same rooms₀ rooms
  pub fine : Fine (length rooms.stack.now) g.depth g.count s
  pub simulable : Simulable (length rooms.stack.now) (length rooms.scratch.now) g.depth s
  pub budget_left : s.units + left < 2 ^ 32
  pub rest : (C : Call) → Serves C g → run_from C left (world_of rooms s) ≡ run_from C budget (world_of rooms₀ s₀)

same_again : (a b c : Rooms) → Same a b → Same b c → Same a c
same_again a b c p q =
    record {
      stack = q.stack ∙ p.stack;
      scratch = q.scratch ∙ p.scratch;
      nodes = q.nodes ∙ p.nodes;
      children = q.children ∙ p.children;
      records = q.records ∙ p.records;
      stack_long = q.stack_long ∙ p.stack_long;
      scratch_long = q.scratch_long ∙ p.scratch_long;
      nodes_long = q.nodes_long ∙ p.nodes_long;
      children_long = q.children_long ∙ p.children_long;
      records_long = q.records_long ∙ p.records_long;
    }

module _ (g : Given) (rooms₀ : Rooms) (s₀ : St) (budget : ℕ) (rooms : Rooms) (s : St) (left : ℕ)
    (rooms' : Rooms) (r : St) (left' : ℕ) where
  pub going_on : Going g rooms₀ s₀ budget rooms s left → left ≡ left' + 1 → is_ended s.mode ≡ false → Same rooms rooms' →
      ((C : Call) → Serves C g → world_of rooms' r ≡ step C (world_of rooms s)) → Going g rooms₀ s₀ budget rooms' r left'
  going_on k h e l q =
      let o : Onward (length rooms.stack.now) (length rooms.scratch.now) g (s.units + 1) r =
      step_onward g rooms rooms' s r k.fine k.simulable (omega arith) q in
      record {
        same = same_again rooms₀ rooms rooms' k.same l;
        fine = rw l.stack_long o.fine;
        simulable = rw (l.stack_long, l.scratch_long) o.simulable;
        budget_left = let u : r.units ≡ s.units + 1 = o.units_are in let b : s.units + left < 2 ^ 32 = k.budget_left in
            omega arith;
        rest = λ C m. run_turn C left left' (world_of rooms s) (world_of rooms' r) (run_from C budget (world_of rooms₀ s₀)) h e
            (q C m) (k.rest C m);
      }
