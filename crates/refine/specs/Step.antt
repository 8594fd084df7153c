-- One step of the model is one step of the rules, in each mode: a world that holds a run goes to one that holds the next run, or
-- ends with the rules' answer.
use Rattle.std.specs.Prelude.{◌≡◌, ltb}
use Rattle.std.proofs.Math.Path.{refl, ap}
use Rattle.std.proofs.Common.{◌∙◌, arith}
use mathlib.Core.List.{List, ◌++◌}
use Prim.Native.Nat.{ℕ, zero, suc, ◌+◌, ◌-◌, ◌<◌, ◌≤◌}
use Rattle.std.proofs.Math.ListN.{length, drop, length-drop, length-map}
use borrow.Author.Tests.{ltb-true}
use Rattle.rules.specs.declared.Cell.{Cell}
use Rattle.rules.specs.declared.Cell.TheVariants.{Shift, Reduce, Error}
use Rattle.rules.specs.declared.Entry.{Entry}
use Rattle.rules.specs.declared.Formed.{Formed}
use Rattle.rules.specs.Tables.{error_column, action, goto, target, left, size}
use Rattle.rules.specs.Driving.{Mode, main, column, search, simulate, Run, top_state, top_of, states_of}
use Rattle.rules.specs.Driving
use Rattle.model.specs.Bytes.{sim_top}
use Rattle.model.specs.Model.{Call, World}
use Rattle.model.specs.Model
use Rattle.refine.specs.Fits.{Word}
use Rattle.refine.specs.Stack.{StackHolds, top_at_law, stack_drop}
use Rattle.refine.specs.Tokens.{Rooms, Fit, job_for, token_at_law, length_tokens, CellFits, action_fits_law, goto_fits_law}
use Rattle.refine.specs.Holds.{Beside, beside_of, st_of, world_at, Kept, states_down, Simulated, ModeKept, FormedFits, Holds, Related}
use Rattle.refine.specs.Arrive.{kept_counted}
use Rattle.refine.specs.Look.{further_holds, main_look_holds, column_look_holds}
use Rattle.refine.specs.Simulate.{sim_top_law, drop_sim, simulate_on_holds}
use Rattle.refine.specs.Mark.{recover_holds}

module _ {C : Call} {b : Rooms} {u : ℕ} (F : Fit C b) {x : Rooms} {r : Run} (a : Beside) (K : Kept C b u r x) (room : length r.nodes < r.units) (small : Word r.units) where
  -- ---- the search

  search_look_holds : (f : Formed) (k : ℕ) (c : Cell) → FormedFits f → k ≤ length r.stack → CellFits c → Related C b u (Driving.search_look (job_for C b) r f k c) (Model.search_look C (world_at x (st_of r (beside_of (search f k) a))) c)
  unfolding Driving.search_look Model.search_look Driving.start_simulation
  search_look_holds f k (Shift s) w h t =
      let below : List Entry = drop k r.stack in
      let e : length r.stack - k ≡ length below = rw length-drop in
      let m : length (states_of below) ≡ length below = length-map below (λ (e : Entry). e.state.0) in
      rw e
      (simulate_on_holds F (beside_of (search f k) a) K 0 s.0 below (states_of below) (stack_drop k r.stack x.stack K.stack) refl t.0 w h (λ d.
      omega arith))
  search_look_holds f k (Reduce p) w h t = further_holds K F (beside_of (search f k) a) w
  search_look_holds f k Error w h t = further_holds K F (beside_of (search f k) a) w

  -- ---- the simulation

  module _ (f : Formed) (k : ℕ) (sim : List ℕ) (w : FormedFits f) (h : k ≤ length r.stack) (d : length r.stack - k + 2 ≤ C.depth) (S : Simulated x a.base a.pushed sim) where
    simulate_over_holds : (p : ℕ) → Related C b u (Driving.simulate_over (job_for C b) r f k p (drop (size C.tables p) sim)) (Model.simulate_over C (world_at x (st_of r (beside_of (simulate f k sim) a))) p (a.base - (size C.tables p - a.pushed)) (a.pushed - size C.tables p))
    unfolding Driving.simulate_over Model.simulate_over
    simulate_over_holds p =
        let n : ℕ = size C.tables p in
        let below : List Entry = drop (n - a.pushed) S.below in
        let H : StackHolds x.stack below = stack_drop (n - a.pushed) S.below x.stack S.holds in
        let e : a.base - (n - a.pushed) ≡ length below = rw (S.based, length-drop) in
        let q : drop n sim ≡ states_down x.scratch (a.pushed - n) ++ states_of below = ap (λ (l : List ℕ). drop n l) S.is ∙ drop_sim x.scratch S.below n a.pushed in
        let t : sim_top x.stack x.scratch (length below) (a.pushed - n) ≡ top_of (drop n sim) = rw q (sim_top_law x (a.pushed - n) below H) in
        rw (e, t)
        (simulate_on_holds F (beside_of (simulate f k sim) a) K (a.pushed - n) (target (goto C.tables (top_of (drop n sim)) (left C.tables p))) below (drop n sim) H q (goto_fits_law C.tables (top_of (drop n sim)) (left C.tables p)).0 w h (λ _. d))

    simulate_reduce_holds : (p : ℕ) → Related C b u (Driving.simulate_reduce (job_for C b) r f k sim p) (Model.simulate_reduce C (world_at x (st_of r (beside_of (simulate f k sim) a))) p)
    unfolding Driving.simulate_reduce Model.simulate_reduce
    simulate_reduce_holds zero = recover_holds F K (beside_of (simulate f k sim) a) h d w room small
    simulate_reduce_holds (suc p) = simulate_over_holds (suc p)

    simulate_look_holds : (c : Cell) → Related C b u (Driving.simulate_look (job_for C b) r f k sim c) (Model.simulate_look C (world_at x (st_of r (beside_of (simulate f k sim) a))) c)
    unfolding Driving.simulate_look Model.simulate_look
    simulate_look_holds (Shift s) = recover_holds F K (beside_of (simulate f k sim) a) h d w room small
    simulate_look_holds (Reduce p) = simulate_reduce_holds p.0
    simulate_look_holds Error = further_holds K F (beside_of (simulate f k sim) a) w

    simulated_top : sim_top x.stack x.scratch a.base a.pushed ≡ top_of sim
    simulated_top = rw (S.based, S.is) (sim_top_law x a.pushed S.below S.holds)

  -- ---- a look

  look_column_law : (A : Beside) → Model.look_column C (st_of r A) ≡ Driving.look_column (job_for C b) r
  unfolding Model.look_column Driving.look_column
  look_column_law A = rw (length_tokens F, token_at_law F r.next)

  look_holds : (m : Mode) → ModeKept C x r.stack a m → Related C b u (Driving.look (job_for C b) r m) (Model.look C (world_at x (st_of r (beside_of m a))) (beside_of m a).mode)
  unfolding Driving.look Model.look
  look_holds main M =
      rw (top_at_law r.stack x.stack K.stack, look_column_law (beside_of main a), length_tokens F)
      (main_look_holds F a K room small (ltb r.next C.count) (action C.tables (top_state r.stack) (Driving.look_column (job_for C b) r)) (λ e. ltb-true r.next C.count e) (action_fits_law C.tables (top_state r.stack) (Driving.look_column (job_for C b) r)))
  look_holds (column f) M =
      rw (top_at_law r.stack x.stack K.stack)
      (column_look_holds F a K room small f (action C.tables (top_state r.stack) (error_column C.tables)) M (action_fits_law C.tables (top_state r.stack) (error_column C.tables)))
  look_holds (search f k) M =
      let below : List Entry = drop k r.stack in
      let e : length r.stack - k ≡ length below = rw length-drop in
      rw (e, top_at_law below x.stack (stack_drop k r.stack x.stack K.stack))
      (search_look_holds f k (action C.tables (top_state below) (error_column C.tables)) M.0 M.1 (action_fits_law C.tables (top_state below) (error_column C.tables)))
  look_holds (simulate f k sim) M =
      rw (simulated_top f k sim M.0 M.1 M.2 M.3, look_column_law (beside_of (simulate f k sim) a))
      (simulate_look_holds f k sim M.0 M.1 M.2 M.3 (action C.tables (top_of sim) (Driving.look_column (job_for C b) r)))

-- a world that holds a run goes where the rules go
pub step_holds : {C : Call} {b : Rooms} {u : ℕ} {r : Run} {w : World} → Fit C b → Holds C b u r w → Word (u + 1) → Related C b (u + 1) (Driving.step (job_for C b) r) (Model.step C w)
unfolding Driving.step Model.step
step_holds {C} {b} {u} {r} {w} F H s =
    let K = H.kept in
    let q = K.units in
    let f = K.few in
    rw H.is
    (look_holds F {r = Driving.counted r} H.beside (kept_counted K) (omega arith) (omega arith) r.mode H.mode)
