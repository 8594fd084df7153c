-- Every step keeps the bounds that make the code safe. `spare` is 1 between the count of a look and what the look pushes, so that
-- each node and each record is paid for by a unit of its own.
use Rattle.std.proofs.Math.Bool.{Bool, true, false}
use Rattle.std.specs.Prelude.{◌≡◌, ltb, eqb}
use Rattle.std.proofs.Math.Path.{refl}
use Prim.Native.Nat.{ℕ, zero, suc, ◌+◌, ◌*◌, ◌-◌, ◌≤◌, ◌<◌, ◌^◌, min}
use Rattle.std.proofs.Math.Nat.{min-le_right}
use Rattle.std.proofs.Common.{arith}
use borrow.Author.Rules.{rules}
use borrow.Author.Tests.{leb-true, ltb-true}
use Rattle.words.specs.Words.{pick}
use Rattle.words.specs.Laws.{pick_case}
use Rattle.rules.specs.declared.Answer.{Answer}
use Rattle.rules.specs.declared.Answer.TheVariants.{TokenizerError, UnrecognizedToken, OutOfDepth, OutOfChildren, OutOfNodes, OutOfRecords}
use Rattle.rules.specs.declared.Cell.{Cell}
use Rattle.rules.specs.declared.Cell.TheVariants.{Shift, Reduce, Error}
use Rattle.rules.specs.declared.Entry.{Entry}
use Rattle.rules.specs.declared.Formed.{Formed}
use Rattle.rules.specs.declared.StateNo.{StateNo}
use Rattle.rules.specs.Tables.{size, kinds, flag, goto, left, target}
use Rattle.rules.specs.Driving.{answer_of}
use Rattle.model.specs.declared.Mode.{Mode}
use Rattle.model.specs.declared.Mode.TheVariants.{Main, Column, Search, Simulate, Ended}
use Rattle.model.specs.declared.St.{St}
use Rattle.model.specs.Bytes.{top_at, sim_top}
use Rattle.model.specs.Model.{Call, World, counted, ended, read_to, searching, dropped, simulating, grown, need, with_st, has_token, token_kind, token_end, depth_fits, nodes_fit, children_fit, records_fit, judged, arrived, push, shifted, shift, reduced, reduce_over, reduce, main_reduce, fail, failing, main_look, column_reduce, column_look, drop_token, further, push_state, simulate_on, search_look, marked, mark_entry, place_mark, recover, simulate_over, simulate_reduce, simulate_look, look, step, first_st, begin}
use Rattle.moves.specs.Bounds.{Within}

pub record Kept (C : Call) (room scratch spare u : ℕ) (s : St) : Type 0 where
  pub depth_in : 32 * C.depth ≤ room
  pub simulated_in : 4 * C.depth ≤ scratch
  pub height_in : 32 * s.height ≤ room
  pub base_in : 32 * s.base ≤ room
  pub pushed_in : 4 * s.pushed ≤ scratch
  pub kept : s.children + s.height ≤ s.nodes
  pub paid : s.nodes + spare ≤ u
  pub marked : s.records + spare ≤ u
  pub few : u < 2 ^ 32
  pub units_are : s.units ≡ u
  pub next_in : s.next ≤ C.count

module _ (C : Call) (room scratch u : ℕ) where
  -- before what the look does, and after it
  abbrev pub Before : St → Type 0
  Before s = Kept C room scratch 1 u s

  abbrev pub Inside : St → Type 0
  Inside s = Within s.mode C.depth s.popped s.height

  abbrev pub After : St → Type 0
  After s = Kept C room scratch 0 u s × Inside s

  -- the run ends, or a limit stops it
  kept_ended : (spare : ℕ) (s : St) (a : Answer) → Kept C room scratch spare u s → After (ended s a)
  kept_ended spare s a k = (search rules, tt)

  kept_need : (b : Bool) (a : Answer) (w o : World) → Before w.st → (b ≡ true → After o.st) → After (need b a w o).st
  kept_need true a w o k f = f refl
  kept_need false a w o k f = kept_ended 1 w.st a k

  kept_pick : (b : Bool) (s t : St) → (b ≡ true → After s) → (b ≡ false → After t) → After (pick b s t)
  kept_pick true s t f g = f refl
  kept_pick false s t f g = g refl

  -- a token is read
  kept_read : (s : St) (last : ℕ) → After s → After (read_to s last)
  kept_read s last k = (search rules, k.1)

  kept_judged : (s : St) (top : ℕ) → After s → After (judged C s top)
  unfolding judged
  kept_judged s top k =
      let read : St = read_to s (token_end C s.next) in
      let unknown : Answer = UnrecognizedToken s.next (record { 0 = top }) in
      let r : After read = kept_read s (token_end C s.next) k in
      kept_pick (eqb (token_kind C s.next) 65535) (ended s (TokenizerError s.next))
      (pick (ltb (token_kind C s.next) (kinds C.tables)) read (ended read unknown))
      (λ e. kept_ended 0 s (TokenizerError s.next) k.0)
      (λ e. kept_pick (ltb (token_kind C s.next) (kinds C.tables)) read (ended read unknown) (λ e. r)
      (λ e. kept_ended 0 read unknown r.0))

  pub kept_arrived : (s : St) (top : ℕ) → After s → After (arrived C s top)
  unfolding arrived
  kept_arrived s top k = kept_pick (has_token C s) (judged C s top) s (λ e. kept_judged s top k) (λ e. k)

  -- what a look pushes
  kept_grown : (s : St) (height kids marks next : ℕ) (m : Mode) → Before s → height + 1 ≤ C.depth →
      s.children + kids + height ≤ s.nodes + 1 → marks ≤ 1 → next ≤ C.count → Within m C.depth s.popped height →
      After (grown s height kids marks next m)
  kept_grown s height kids marks next m k a b c d e = (search rules, e)

  kept_shifted : (w : World) (to : StateNo) → Before w.st → w.st.next < C.count → w.st.height + 2 ≤ C.depth →
      After (shifted C w to).st
  unfolding shifted push
  kept_shifted w to k h d =
      kept_arrived (grown w.st (w.st.height + 1) 0 0 (w.st.next + 1) Main) to.0
      (kept_grown w.st (w.st.height + 1) 0 0 (w.st.next + 1) Main k (omega arith) (omega arith) (omega arith)
      (omega arith) tt)

  kept_shift : (w : World) (to : StateNo) → Before w.st → w.st.next < C.count → After (shift C w to).st
  unfolding shift
  kept_shift w to k h =
      let fits : Bool = nodes_fit w (w.st.nodes + 1) in
      kept_need (depth_fits C (w.st.height + 2)) OutOfDepth w (need fits OutOfNodes w (shifted C w to)) k
      (λ d. kept_need fits OutOfNodes w (shifted C w to) k (λ e. kept_shifted w to k h (leb-true _ _ d)))

  -- a reduction is made in the main loop and in the error column, where nothing is asked of what is popped
  abbrev Free : St → Type 0
  Free s = (height : ℕ) → Within s.mode C.depth s.popped height

  kept_reduced : (w : World) (p k rest : ℕ) → Before w.st → Free w.st → rest + k ≡ w.st.height → rest + 2 ≤ C.depth →
      After (reduced C w p k rest).st
  unfolding reduced push
  kept_reduced w p n rest k f e d =
      kept_grown w.st (rest + 1) n 0 w.st.next w.st.mode k (omega arith) (omega arith) (omega arith) (omega arith)
      (f (rest + 1))

  kept_over : (w : World) (p k rest : ℕ) → Before w.st → Free w.st → rest + k ≡ w.st.height →
      After (reduce_over C w p k rest).st
  unfolding reduce_over
  kept_over w p n rest k f e =
      let o : World = reduced C w p n rest in
      let fits : Bool = nodes_fit w (w.st.nodes + 1) in
      let holds : Bool = children_fit w (w.st.children + n) in
      kept_need (depth_fits C (rest + 2)) OutOfDepth w (need holds OutOfChildren w (need fits OutOfNodes w o)) k
      (λ d.
      kept_need holds OutOfChildren w (need fits OutOfNodes w o) k
      (λ b. kept_need fits OutOfNodes w o k (λ c. kept_reduced w p n rest k f e (leb-true _ _ d))))

  kept_reduce : (w : World) (p : ℕ) → Before w.st → Free w.st → After (reduce C w p).st
  unfolding reduce
  kept_reduce w p k f =
      kept_over w p (min (size C.tables p) w.st.height) (w.st.height - min (size C.tables p)
      w.st.height) k f (omega (arith, min-le_right (size C.tables p) w.st.height))

  -- an error
  kept_failing : (s : St) (f : Formed) → Before s → After (failing s f)
  kept_failing s f k = (search rules, tt)

  kept_fail : (w : World) (f : Formed) → Before w.st → After (fail C w f).st
  unfolding fail
  kept_fail w f k =
      kept_pick (eqb (flag C.tables) 1) (failing w.st f) (ended w.st (answer_of f)) (λ e. kept_failing w.st f k)
      (λ e. kept_ended 1 w.st (answer_of f) k)

  -- the main loop
  kept_main_reduce : (w : World) (token : Bool) (p : ℕ) → Before w.st → Free w.st → After (main_reduce C w token p).st
  unfolding main_reduce
  kept_main_reduce w true zero k f = kept_ended 1 w.st _ k
  kept_main_reduce w false zero k f = kept_ended 1 w.st _ k
  kept_main_reduce w token (suc p) k f = kept_reduce w (suc p) k f

  kept_main : (w : World) (token : Bool) (cell : Cell) → has_token C w.st ≡ token → Before w.st → Free w.st →
      After (main_look C w token cell).st
  unfolding main_look
  kept_main w true (Shift s) e k f = kept_shift w s k (ltb-true _ _ e)
  kept_main w false (Shift s) e k f = kept_fail w _ k
  kept_main w true (Reduce p) e k f = kept_main_reduce w true p.0 k f
  kept_main w false (Reduce p) e k f = kept_main_reduce w false p.0 k f
  kept_main w true Error e k f = kept_fail w _ k
  kept_main w false Error e k f = kept_fail w _ k

  -- the error column
  kept_searching : (s : St) (popped : ℕ) → Before s → popped ≤ s.height → After (searching s popped)
  kept_searching s popped k h = (search rules, h)

  kept_column_reduce : (w : World) (p : ℕ) → Before w.st → Free w.st → After (column_reduce C w p).st
  unfolding column_reduce
  kept_column_reduce w zero k f = kept_ended 1 w.st _ k
  kept_column_reduce w (suc p) k f = kept_reduce w (suc p) k f

  kept_column : (w : World) (cell : Cell) → Before w.st → Free w.st → After (column_look C w cell).st
  unfolding column_look
  kept_column w (Shift s) k f = kept_searching w.st 0 k (omega arith)
  kept_column w (Reduce p) k f = kept_column_reduce w p.0 k f
  kept_column w Error k f = kept_searching w.st 0 k (omega arith)

  -- the search
  abbrev Above : St → Type 0
  Above s = Within Simulate C.depth s.popped s.height

  kept_dropped : (s : St) → Before s → s.next < C.count → After (dropped s)
  kept_dropped s k h = (search rules, omega arith)

  kept_drop : (w : World) → Before w.st → After (drop_token C w).st
  unfolding drop_token
  kept_drop w k =
      let top : ℕ = top_at w.stack w.st.height in
      kept_pick (has_token C w.st) (arrived C (dropped w.st) top) (ended w.st (answer_of w.st.formed))
      (λ e. kept_arrived (dropped w.st) top (kept_dropped w.st k (ltb-true _ _ e)))
      (λ e. kept_ended 1 w.st (answer_of w.st.formed) k)

  kept_further : (w : World) → Before w.st → After (further C w).st
  unfolding further
  kept_further w k =
      pick_case (λ o. After o.st) (ltb w.st.popped w.st.height) (with_st w (searching w.st (w.st.popped + 1)))
      (drop_token C w)
      (λ e. let h : w.st.popped < w.st.height = ltb-true _ _ e in kept_searching w.st
      (w.st.popped + 1) k (omega arith))
      (λ e. kept_drop w k)

  kept_simulating : (s : St) (base pushed : ℕ) → Before s → 32 * base ≤ room → base + pushed + 2 ≤ C.depth → Above s →
      After (simulating s base (pushed + 1))
  kept_simulating s base pushed k h d i = (search rules, i)

  kept_simulate_on : (w : World) (base pushed s : ℕ) → Before w.st → 32 * base ≤ room → (base + pushed + 2 ≤ C.depth →
      Above w.st) → After (simulate_on C w base pushed s).st
  unfolding simulate_on push_state
  kept_simulate_on w base pushed s k h f =
      kept_need (depth_fits C (base + pushed + 2)) OutOfDepth w (push_state w base pushed s) k
      (λ e. kept_simulating w.st base pushed k h (leb-true _ _ e) (f (leb-true _ _ e)))

  kept_search : (w : World) (cell : Cell) → Before w.st → w.st.popped ≤ w.st.height → After (search_look C w cell).st
  unfolding search_look
  kept_search w (Shift s) k h =
      kept_simulate_on w (w.st.height - w.st.popped) 0 s.0 k (omega arith) (λ d. (h, omega arith))
  kept_search w (Reduce p) k h = kept_further w k
  kept_search w Error k h = kept_further w k

  -- the simulation, and the mark
  kept_marked : (w : World) (e : Entry) → Before w.st → Above w.st →
      After (marked C w (w.st.height - w.st.popped) e).st
  unfolding marked push
  kept_marked w e k h =
      kept_grown w.st (w.st.height - w.st.popped + 1) 0 1 w.st.next Main k (omega arith) (omega arith)
      (omega arith) (omega arith) tt

  kept_recover : (w : World) → Before w.st → Above w.st → After (recover C w).st
  unfolding recover place_mark
  kept_recover w k h =
      let rest : ℕ = w.st.height - w.st.popped in
      let o : World = marked C w rest (mark_entry C w rest) in
      let holds : Bool = records_fit w (w.st.records + 1) in
      kept_need (nodes_fit w (w.st.nodes + 1)) OutOfNodes w (need holds OutOfRecords w o) k
      (λ a. kept_need holds OutOfRecords w o k (λ b. kept_marked w (mark_entry C w rest) k h))

  kept_simulate_reduce : (w : World) (p : ℕ) → Before w.st → Above w.st → After (simulate_reduce C w p).st
  unfolding simulate_reduce simulate_over
  kept_simulate_reduce w zero k h = kept_recover w k h
  kept_simulate_reduce w (suc p) k h =
      let n : ℕ = size C.tables (suc p) in
      let base : ℕ = w.st.base - (n - w.st.pushed) in
      let pushed : ℕ = w.st.pushed - n in
      kept_simulate_on w base pushed (target (goto C.tables (sim_top w.stack w.scratch base pushed) (left C.tables
      (suc p)))) k
      (omega arith) (λ d. h)

  kept_simulate : (w : World) (cell : Cell) → Before w.st → Above w.st → After (simulate_look C w cell).st
  unfolding simulate_look
  kept_simulate w (Shift s) k h = kept_recover w k h
  kept_simulate w (Reduce p) k h = kept_simulate_reduce w p.0 k h
  kept_simulate w Error k h = kept_further w k

  -- a look, in each mode
  kept_look : (w : World) (m : Mode) → w.st.mode ≡ m → Before w.st → Inside w.st → After (look C w m).st
  unfolding look
  kept_look w Main e k i = kept_main w _ _ refl k (λ h. rw e tt)
  kept_look w Column e k i = kept_column w _ k (λ h. rw e tt)
  kept_look w Search e k i = kept_search w _ k (rw e at i)
  kept_look w Simulate e k i = kept_simulate w _ k (rw e at i)
  kept_look w Ended e k i = (search rules, i)

pub kept_step : (C : Call) (room scratch u : ℕ) (w : World) → After C room scratch u w.st → u + 1 < 2 ^ 32 →
    After C room scratch (u + 1) (step C w).st
unfolding step
kept_step C room scratch u w k h =
    let b : Before C room scratch (u + 1) (counted w.st) = search rules in
    kept_look C room scratch (u + 1) (with_st w (counted w.st)) w.st.mode refl b k.1

pub kept_begin : (C : Call) (room scratch : ℕ) → 32 * C.depth ≤ room → 4 * C.depth ≤ scratch →
    After C room scratch 0 (begin C)
unfolding begin first_st
kept_begin C room scratch h k =
    let f : After C room scratch 0 (first_st C) = (search rules, tt) in
    kept_pick C room scratch 0 (depth_fits C 1) (arrived C (first_st C) 0) (ended (first_st C) OutOfDepth)
    (λ e. kept_arrived C room scratch 0 (first_st C) 0 f) (λ e. kept_ended C room scratch 0 0 (first_st C) OutOfDepth f.0)
