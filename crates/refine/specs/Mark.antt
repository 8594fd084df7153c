-- A mark: over a popped part of the stack and the dropped tokens, above a rest, the model's entry and record are the rules'.
-- No depth is tested here: the simulation that found the place was as deep.
use Rattle.std.specs.Prelude.{◌≡◌, ltb}
use Rattle.std.proofs.Math.Path.{refl, ap}
use mathlib.Core.List.{List, [], ◌∷◌, ◌++◌, append-nil}
use Prim.Native.Nat.{ℕ, ◌+◌, ◌*◌, ◌-◌, ◌/◌, ◌<◌, ◌≤◌}
use native.Mathlib.Omega.{arith}
use Rattle.std.proofs.Math.ListN.{length, take, drop, length-take, length-drop, take-append-drop}
use Rattle.std.proofs.Common.{length-append}
use Rattle.std.proofs.lemmas.List.Edits.{sets}
use Rattle.words.specs.Words.{pick}
use Rattle.words.specs.Laws.{pick_case}
use Rattle.rules.specs.declared.Entry.{Entry}
use Rattle.rules.specs.declared.Formed.{Formed}
use Rattle.rules.specs.declared.Answer.TheVariants.{OutOfNodes, OutOfRecords}
use Rattle.rules.specs.Tables.{Tables, error_column}
use Rattle.rules.specs.Driving.{main, Run, Marked, more, end_or, grow, expected_word}
use Rattle.rules.specs.Driving
use Rattle.rules.specs.Answers.{bytes_of, record_words, expected_words, ones_of}
use Rattle.model.specs.declared.Mode.TheVariants.{Main}
use Rattle.model.specs.Model.{Call, put_record}
use Rattle.model.specs.Model
use Rattle.refine.specs.Put.{put8_words, sets_words, Written, written_words, written_length}
use Rattle.refine.specs.Fits.{Word, Fitting, fitting_append, words_of, words_of_snoc, length_words_of, length_record_words, expected_fitting, ones_fit}
use Rattle.refine.specs.Stack.{Small, StackHolds, top_at_law, end_at_small, stack_below, end_popped, start_popped, first_popped, end_small, start_small, first_small}
use Rattle.refine.specs.Tokens.{Rooms, Fit, job_for, token_at_law, length_tokens, word32_small, action_fits_law}
use Rattle.refine.specs.Holds.{Beside, st_of, world_at, Kept, FormedFits, Related, goes, need_fits}
use Rattle.refine.specs.Push.{grown_is, grow_kept}
use Rattle.refine.specs.Reduce.{end_below_law}

-- ---- the record

put_record_words : (T : Tables) (s : List ℕ) (i : ℕ) (f : Formed) (e : Entry) → put_record T s i f e ≡ sets s (64 * i) (bytes_of (record_words T (record { error = f; first = e.first; after = e.after; start = e.start; end = e.end })))
unfolding put_record record_words expected_words
put_record_words T s i f e =
    let x : ℕ → ℕ = expected_word T f.top.0 in
    let us : List ℕ = f.number ∷ f.at ∷ e.first ∷ e.after ∷ f.from ∷ e.start ∷ e.end ∷ ones_of (expected_words T f.top.0) ∷ [] in
    rw (put8_words s (64 * i) f.number f.at e.first e.after f.from e.start e.end (ones_of (expected_words T f.top.0)), put8_words (sets s (64 * i) (bytes_of us)) (64 * i + 32) (x 0) (x 1) (x 2) (x 3) (x 4) (x 5) (x 6) (x 7))
    (sets_words s us (expected_words T f.top.0) (64 * i) (64 * i + 32) (omega arith))

module _ {C : Call} {b : Rooms} {u : ℕ} (F : Fit C b) {x : Rooms} {r : Run} (K : Kept C b u r x) where
  records_more : (m : Marked) (e : Entry) → e.first ≡ m.first → e.after ≡ m.after → e.start ≡ m.start → e.end ≡ m.end → length r.marks + 1 ≤ length b.records / 64 → Written b.records (put_record C.tables x.records (length r.marks) m.error e) (bytes_of (words_of (record_words C.tables) (r.marks ++ (m ∷ []))))
  records_more m e p q s t h =
      let l = length_words_of (record_words C.tables) 16 (length_record_words C.tables) r.marks in
      let n = length_record_words C.tables m in
      rw (put_record_words, p, q, s, t, words_of_snoc) (written_words (words_of (record_words C.tables) r.marks) (record_words C.tables m) (64 * length r.marks) K.records (omega arith) (omega arith))

  -- ---- the entry

  module _ (A : Beside) (popped rest : List Entry) (H : StackHolds x.stack (popped ++ rest)) (l : length r.stack ≡ length (popped ++ rest)) (k : A.popped ≡ length popped) where
    start_default : ℕ
    start_default =
        pick (ltb A.formed.from r.next) (Model.token_start C A.formed.from) (end_or C.origin rest)

    mark_start_law : Model.mark_start C (world_at x (st_of r A)) (length rest) ≡ Driving.mark_start (job_for C b) r A.formed popped rest
    unfolding Model.mark_start Model.has_dropped Driving.mark_start Driving.has_dropped start_default
    mark_start_law =
        let R : StackHolds x.stack rest = stack_below popped rest x.stack H in
        rw (k, token_at_law F A.formed.from, end_below_law F K rest R) (start_popped x.stack rest start_default popped H)

    mark_end_law : Model.mark_end C (world_at x (st_of r A)) (length rest) ≡ Driving.mark_end (job_for C b) r A.formed popped rest
    unfolding Model.mark_end Model.has_dropped Driving.mark_end Driving.has_dropped
    mark_end_law =
        let d : ℕ = pick (ltb r.next C.count) (Model.token_start C r.next) (Driving.mark_start (job_for C b) r A.formed popped rest) in
        rw (mark_start_law, k, l, token_at_law F (r.next - 1), token_at_law F r.next, length_tokens F, end_popped x.stack rest d popped H)

    mark_entry_law : Model.mark_entry C (world_at x (st_of r A)) (length rest) ≡ Driving.mark_entry (job_for C b) r (Driving.marked (job_for C b) r A.formed popped rest) rest
    unfolding Model.mark_entry Driving.mark_entry Driving.marked
    mark_entry_law =
        let R : StackHolds x.stack rest = stack_below popped rest x.stack H in
        rw (mark_end_law, mark_start_law, k, first_popped x.stack rest A.formed.from popped H, top_at_law rest x.stack R)

    -- ---- each of its words fits

    default_small : Word start_default
    unfolding start_default
    default_small =
        let R : StackHolds x.stack rest = stack_below popped rest x.stack H in
        pick_case Word (ltb A.formed.from r.next) (Model.token_start C A.formed.from) (end_or C.origin rest)
        (λ _. word32_small C.tokens (12 * A.formed.from + 4) F.bytes)
        (λ _. end_at_small rest x.stack C.origin R F.origin)

    start_fits : Word (Driving.mark_start (job_for C b) r A.formed popped rest)
    unfolding Driving.mark_start Driving.has_dropped start_default
    start_fits = rw (token_at_law F A.formed.from) (start_small x.stack rest start_default popped H default_small)

    end_default_small : Word (pick (ltb r.next C.count) (Model.token_start C r.next) (Driving.mark_start (job_for C b) r A.formed popped rest))
    end_default_small =
        pick_case Word (ltb r.next C.count) (Model.token_start C r.next) (Driving.mark_start (job_for C b) r A.formed popped rest)
        (λ _. word32_small C.tokens (12 * r.next + 4) F.bytes)
        (λ _. start_fits)

    end_fits : Word (Driving.mark_end (job_for C b) r A.formed popped rest)
    unfolding Driving.mark_end Driving.has_dropped
    end_fits =
        let d : ℕ = pick (ltb r.next C.count) (Model.token_start C r.next) (Driving.mark_start (job_for C b) r A.formed popped rest) in
        rw (token_at_law F (r.next - 1), token_at_law F r.next, length_tokens F)
        (pick_case Word (ltb A.formed.from r.next) (Model.token_end C (r.next - 1)) (end_or d popped)
        (λ _. word32_small C.tokens (12 * (r.next - 1) + 8) F.bytes)
        (λ _. end_small x.stack rest d popped H end_default_small))

    mark_small : FormedFits A.formed → Word (length r.nodes) → Small (Driving.mark_entry (job_for C b) r (Driving.marked (job_for C b) r A.formed popped rest) rest)
    unfolding Driving.mark_entry Driving.marked
    mark_small w n =
        let f = F.few in
        let g = K.read in
        record {
          state = (action_fits_law C.tables (Driving.top_state rest) (error_column C.tables)).0;
          node = n;
          number = omega (arith, K.sized.records_few);
          start = start_fits;
          end = end_fits;
          first = first_small x.stack rest A.formed.from popped H w.from;
          after = omega arith;
        }

    record_fits : FormedFits A.formed → Fitting (record_words C.tables (Driving.marked (job_for C b) r A.formed popped rest))
    unfolding record_words Driving.marked
    record_fits w =
        let f = F.few in
        let g = K.read in
        let s : ℕ = A.formed.top.0 in
        (w.number, (w.at, (first_small x.stack rest A.formed.from popped H w.from, (omega arith, (w.from, (start_fits, (end_fits, (ones_fit C.tables s, expected_fitting C.tables s))))))))

    -- ---- the mark is placed

    marked_holds : FormedFits A.formed → length r.nodes < r.units → Word r.units → length rest + 2 ≤ C.depth → length r.nodes + 1 ≤ length b.nodes / 32 → length r.marks + 1 ≤ length b.records / 64 → Related C b u (more (grow r rest (Driving.mark_entry (job_for C b) r (Driving.marked (job_for C b) r A.formed popped rest) rest) [] (Driving.marked (job_for C b) r A.formed popped rest ∷ []) main)) (Model.marked C (world_at x (st_of r A)) (length rest) (Model.mark_entry C (world_at x (st_of r A)) (length rest)))
    unfolding Model.marked Model.push grow Driving.mark_entry Driving.marked
    marked_holds w room small d n m =
        let M : Marked = Driving.marked (job_for C b) r A.formed popped rest in
        let e : Entry = Driving.mark_entry (job_for C b) r M rest in
        let ch = rw (← append-nil r.children) at K.children in
        let k' : 0 + length rest ≤ length r.stack = rw (l, length-append) (omega arith) in
        let re = records_more M e refl refl refl refl m in
        let K' = grow_kept F K rest e [] (M ∷ []) main x.children _ (stack_below popped rest x.stack H) (mark_small w (omega arith)) d n room small k' (omega arith) tt (rw words_of_snoc (fitting_append (words_of (record_words C.tables) r.marks) (record_words C.tables M) K.sized.records_fit_law (record_fits w))) ch re in
        rw (mark_entry_law, grown_is r A rest e [] (M ∷ []) r.next main Main)
        (goes (record { rooms = _; beside = A; is = refl; kept = K'; mode = tt }))

    place_mark_holds : FormedFits A.formed → length r.nodes < r.units → Word r.units → length rest + 2 ≤ C.depth → Related C b u (Driving.place_mark (job_for C b) r (Driving.marked (job_for C b) r A.formed popped rest) rest) (Model.place_mark C (world_at x (st_of r A)) (length rest))
    unfolding Driving.place_mark Model.place_mark
    place_mark_holds w room small d =
        let q : length x.nodes / 32 ≡ length b.nodes / 32 = ap (λ (n : ℕ). n / 32) (written_length K.nodes) in
        let v : length x.records / 64 ≡ length b.records / 64 = ap (λ (n : ℕ). n / 64) (written_length K.records) in
        need_fits A K (length r.nodes + 1) (length b.nodes / 32) _ _ OutOfNodes refl q (λ n.
        need_fits A K (length r.marks + 1) (length b.records / 64) _ _ OutOfRecords refl v (λ m.
        marked_holds w room small d n m))

  pub recover_holds : (A : Beside) → A.popped ≤ length r.stack → length r.stack - A.popped + 2 ≤ C.depth → FormedFits A.formed → length r.nodes < r.units → Word r.units → Related C b u (Driving.recover (job_for C b) r A.formed A.popped) (Model.recover C (world_at x (st_of r A)))
  unfolding Driving.recover Model.recover
  recover_holds A h d w room small =
      let k : ℕ = A.popped in
      let s : List Entry = r.stack in
      let join : take k s ++ drop k s ≡ s = take-append-drop k s in
      let e : k ≡ length (take k s) = rw length-take (omega arith) in
      let f : length s - k ≡ length (drop k s) = rw length-drop in
      rw f (place_mark_holds A (take k s) (drop k s) (rw join K.stack) (rw join) e w room small (omega arith))
