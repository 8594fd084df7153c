-- Shift and reduce: the model's are the rules'.
-- A popped part and a rest stand for `take` and `drop`, so that nothing here speaks of the production's length.
use Rattle.std.specs.Prelude.{◌≡◌, ltb}
use Rattle.std.proofs.Math.Path.{refl, sym, ap}
use mathlib.Core.List.{List, [], ◌∷◌, ◌++◌, append-nil}
use Prim.Native.Nat.{ℕ, ◌+◌, ◌*◌, ◌-◌, ◌/◌, ◌<◌, ◌≤◌, min}
use Rattle.std.proofs.Common.{arith, length-take, length-append}
use Rattle.std.proofs.Math.ListN.{length, take, drop, length-drop, take-append-drop}
use Rattle.std.proofs.lemmas.List.Edits.{sets}
use Rattle.words.specs.Laws.{pick_case}
use Rattle.rules.specs.declared.Entry.{Entry}
use Rattle.rules.specs.declared.StateNo.{StateNo}
use Rattle.rules.specs.declared.Answer.TheVariants.{OutOfDepth, OutOfChildren, OutOfNodes}
use Rattle.rules.specs.Tables.{left, size}
use Rattle.rules.specs.Driving.{Mode, main, Run, end_or, child_of, nodes_of, grow}
use Rattle.rules.specs.Driving
use Rattle.rules.specs.Answers.{bytes_of}
use Rattle.model.specs.declared.Mode.TheVariants.{Main}
use Rattle.model.specs.Model.{Call}
use Rattle.model.specs.Model
use Rattle.refine.specs.Put.{written_length}
use Rattle.refine.specs.Fits.{Word}
use Rattle.refine.specs.Stack.{Small, StackHolds, top_at_law, end_at_law, end_at_small, stack_below, end_popped, after_popped, start_popped, first_popped, end_small, after_small, start_small, first_small, length_nodes_of, copy_words, nodes_fit_law}
use Rattle.refine.specs.Tokens.{Rooms, Fit, job_for, token_at_law, length_tokens, word32_small, goto_fits_law}
use Rattle.refine.specs.Holds.{Beside, beside_of, st_of, world_at, Kept, ModeKept, Related, goes, need_fits}
use Rattle.refine.specs.Arrive.{kept_advanced, arrive_holds}
use Rattle.refine.specs.Push.{rooms_over, child_of_law, children_more, grown_is, grow_kept}

module _ {C : Call} {b : Rooms} {u : ℕ} (F : Fit C b) {x : Rooms} {r : Run} (K : Kept C b u r x) where
  -- ---- the entries

  token_entry_law : (a : Beside) (to : StateNo) → Driving.token_entry (job_for C b) r to ≡ Model.token_entry C (st_of r a) to
  unfolding Driving.token_entry Model.token_entry
  token_entry_law a to = rw (token_at_law F r.next)

  pub end_below_law : (rest : List Entry) → StackHolds x.stack rest → Model.end_below C x.stack (length rest) ≡ end_or C.origin rest
  unfolding Model.end_below
  end_below_law rest H = end_at_law rest x.stack C.origin H

  empty_spot_law : (a : Beside) (rest : List Entry) → StackHolds x.stack rest → Model.empty_spot C (world_at x (st_of r a)) (length rest) ≡ Driving.empty_spot (job_for C b) r rest
  unfolding Model.empty_spot Driving.empty_spot
  empty_spot_law a rest H = rw (length_tokens F, token_at_law F r.next, end_below_law rest H)

  empty_small : (rest : List Entry) → StackHolds x.stack rest → Word (Driving.empty_spot (job_for C b) r rest)
  unfolding Driving.empty_spot
  empty_small rest H =
      rw (length_tokens F, token_at_law F r.next)
      (pick_case Word (ltb r.next C.count) (Model.token_start C r.next) (end_or C.origin rest)
      (λ _. word32_small C.tokens (12 * r.next + 4) F.bytes)
      (λ _. end_at_small rest x.stack C.origin H F.origin))

  module _ (popped rest : List Entry) (H : StackHolds x.stack (popped ++ rest)) (l : length r.stack ≡ length (popped ++ rest)) where
    production_entry_law : (a : Beside) (p : ℕ) → Model.production_entry C (world_at x (st_of r a)) p (length popped) (length rest) ≡ Driving.production_entry (job_for C b) r p popped rest
    unfolding Model.production_entry Driving.production_entry
    production_entry_law a p =
        let R : StackHolds x.stack rest = stack_below popped rest x.stack H in
        rw (
          empty_spot_law a rest R,
          l,
          start_popped x.stack rest (Driving.empty_spot (job_for C b) r rest) popped H,
          end_popped x.stack rest (Driving.empty_spot (job_for C b) r rest) popped H,
          first_popped x.stack rest r.next popped H,
          after_popped x.stack rest r.next popped H,
          top_at_law rest x.stack R,
        )

    production_small : (p : ℕ) → Word p → Word (length r.nodes) → Small (Driving.production_entry (job_for C b) r p popped rest)
    unfolding Driving.production_entry
    production_small p pf n =
        let R : StackHolds x.stack rest = stack_below popped rest x.stack H in
        let d : Word (Driving.empty_spot (job_for C b) r rest) = empty_small rest R in
        let w : Word r.next = (let f = K.read in let g = F.few in omega arith) in
        record {
          state = (goto_fits_law C.tables (Driving.top_state rest) (left C.tables p)).0;
          node = n;
          number = pf;
          start = start_small x.stack rest (Driving.empty_spot (job_for C b) r rest) popped H d;
          end = end_small x.stack rest (Driving.empty_spot (job_for C b) r rest) popped H d;
          first = first_small x.stack rest r.next popped H w;
          after = after_small x.stack rest r.next popped H w;
        }

module _ {C : Call} {b : Rooms} {u : ℕ} (F : Fit C b) {x : Rooms} {r : Run} (a : Beside) (K : Kept C b u r x) (room : length r.nodes < r.units) (small : Word r.units) where
  -- ---- shift

  token_small : (to : StateNo) → Word to.0 → Small (Model.token_entry C (st_of r (beside_of main a)) to)
  unfolding Model.token_entry
  token_small to s =
      let f = F.few in
      let g = K.read in
      record {
        state = s;
        node = omega arith;
        number = omega arith;
        start = word32_small C.tokens (12 * r.next + 4) F.bytes;
        end = word32_small C.tokens (12 * r.next + 8) F.bytes;
        first = omega arith;
        after = omega arith;
      }

  shifted_holds : (to : StateNo) → Word to.0 → r.next < C.count → length r.stack + 2 ≤ C.depth → length r.nodes + 1 ≤ length b.nodes / 32 → Related C b u (Driving.arrive (job_for C b) (Driving.advanced (grow r r.stack (Driving.token_entry (job_for C b) r to) [] [] main) main)) (Model.shifted C (world_at x (st_of r (beside_of main a))) to)
  unfolding Model.shifted Model.push Model.token_entry grow
  shifted_holds to s t d n =
      let e : Entry = Model.token_entry C (st_of r (beside_of main a)) to in
      let G : Run = grow r r.stack e [] [] main in
      let ch = rw (← append-nil r.children) at K.children in
      let re = rw (← append-nil r.marks) at K.records in
      let K' = grow_kept F K r.stack e [] [] main x.children x.records K.stack (token_small to s) d n room small (omega arith) (omega arith) tt (rw append-nil K.sized.records_fit_law) ch re in
      rw (token_entry_law F K (beside_of main a) to, grown_is r (beside_of main a) r.stack e [] [] (r.next + 1) main Main)
      (arrive_holds (Driving.advanced G main) a (kept_advanced K' main t) tt F to.0 refl)

  pub shift_holds : (to : StateNo) → Word to.0 → r.next < C.count → Related C b u (Driving.shift (job_for C b) r to) (Model.shift C (world_at x (st_of r (beside_of main a))) to)
  unfolding Driving.shift Model.shift
  shift_holds to s t =
      let q : length x.nodes / 32 ≡ length b.nodes / 32 = ap (λ (n : ℕ). n / 32) (written_length K.nodes) in
      need_fits (beside_of main a) K (length r.stack + 2) C.depth _ _ OutOfDepth refl refl (λ d.
      need_fits (beside_of main a) K (length r.nodes + 1) (length b.nodes / 32) _ _ OutOfNodes refl q (λ n.
      shifted_holds to s t d n))

  -- ---- reduce

  reduced_holds : (p : ℕ) (popped rest : List Entry) (m : Mode) → Word p → StackHolds x.stack (popped ++ rest) → length r.stack ≡ length (popped ++ rest) → ((y : Rooms) (l : List Entry) → ModeKept C y l a m) → length rest + 2 ≤ C.depth → length r.children + length popped ≤ length b.children / 4 → length r.nodes + 1 ≤ length b.nodes / 32 → Related C b u (Driving.more (grow r rest (Driving.production_entry (job_for C b) r p popped rest) (nodes_of popped) [] m)) (Model.reduced C (world_at x (st_of r (beside_of m a))) p (length popped) (length rest))
  unfolding Model.reduced Model.push grow
  reduced_holds p popped rest m pf H l M d c n =
      let e : Entry = Driving.production_entry (job_for C b) r p popped rest in
      let kids : List ℕ = nodes_of popped in
      let q : length kids ≡ length popped = length_nodes_of popped in
      let k : length kids + length rest ≤ length r.stack = rw (q, l, length-append) (omega arith) in
      let ch = children_more K kids (rw q c) in
      let re = rw (← append-nil r.marks) at K.records in
      let y : Rooms = rooms_over x (length rest) e (length r.nodes) (child_of (length r.children) kids) (length kids) (sets x.children (4 * length r.children) (bytes_of kids)) x.records in
      let K' = grow_kept F K rest e kids [] m _ x.records (stack_below popped rest x.stack H) (production_small F K popped rest H l p pf (omega arith)) d n room small k (omega arith) (nodes_fit_law popped rest x.stack H) (rw append-nil K.sized.records_fit_law) ch re in
      rw (production_entry_law F K popped rest H l (beside_of m a) p, copy_words popped rest x.stack x.children (length r.children) H, ← q, child_of_law, grown_is r (beside_of m a) rest e kids [] r.next m (beside_of m a).mode)
      (goes (record { rooms = y; beside = a; is = refl; kept = K'; mode = M y (e ∷ rest) }))

  reduce_over_holds : (p : ℕ) (popped rest : List Entry) (m : Mode) → Word p → StackHolds x.stack (popped ++ rest) → length r.stack ≡ length (popped ++ rest) → ((y : Rooms) (l : List Entry) → ModeKept C y l a m) → Related C b u (Driving.reduce_over (job_for C b) r p popped rest m) (Model.reduce_over C (world_at x (st_of r (beside_of m a))) p (length popped) (length rest))
  unfolding Driving.reduce_over Model.reduce_over
  reduce_over_holds p popped rest m pf H l M =
      let q : length x.nodes / 32 ≡ length b.nodes / 32 = ap (λ (n : ℕ). n / 32) (written_length K.nodes) in
      let v : length x.children / 4 ≡ length b.children / 4 = ap (λ (n : ℕ). n / 4) (written_length K.children) in
      need_fits (beside_of m a) K (length rest + 2) C.depth _ _ OutOfDepth refl refl (λ d.
      need_fits (beside_of m a) K (length r.children + length popped) (length b.children / 4) _ _ OutOfChildren refl v (λ c.
      need_fits (beside_of m a) K (length r.nodes + 1) (length b.nodes / 32) _ _ OutOfNodes refl q (λ n.
      reduced_holds p popped rest m pf H l M d c n)))

  pub reduce_holds : (p : ℕ) (m : Mode) → Word p → ((y : Rooms) (l : List Entry) → ModeKept C y l a m) → Related C b u (Driving.reduce (job_for C b) r p m) (Model.reduce C (world_at x (st_of r (beside_of m a))) p)
  unfolding Driving.reduce Model.reduce
  reduce_holds p m pf M =
      let n : ℕ = size C.tables p in
      let s : List Entry = r.stack in
      let join : take n s ++ drop n s ≡ s = take-append-drop n s in
      let e : min n (length s) ≡ length (take n s) = sym (length-take n s) in
      let f : length s - min n (length s) ≡ length (drop n s) = rw length-drop (omega arith) in
      rw (f, e) (reduce_over_holds p (take n s) (drop n s) m pf (rw join K.stack) (rw join) M)
