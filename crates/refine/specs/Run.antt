-- The model's run holds the rules' run, for every budget: it begins so, each step keeps it, and what it ends in is what the rules
-- end in.
use Rattle.std.specs.Prelude.{◌≡◌, Bool, leb, drop}
use Rattle.std.proofs.Math.Path.{refl}
use Rattle.std.proofs.Math.Bool.{true, false}
use mathlib.Core.List.{List, [], ◌∷◌, ◌++◌}
use Prim.Native.Nat.{ℕ, zero, suc, ◌+◌, ◌*◌, ◌≤◌}
use native.Mathlib.Omega.{arith}
use Rattle.std.proofs.Math.ListN.{length}
use Rattle.words.specs.Words.{pick}
use Rattle.rules.specs.declared.Answer.{Answer}
use Rattle.rules.specs.declared.Answer.TheVariants.{OutOfUnits, OutOfDepth}
use Rattle.rules.specs.Tables.{Tables}
use Rattle.rules.specs.Driving.{Mode, main, column, search, simulate, Run, Outcome, done}
use Rattle.rules.specs.Driving
use Rattle.rules.specs.Answers.{bytes_of, nodes_bytes, records_bytes, node_words, record_words, counts_of}
use Rattle.model.specs.declared.Mode.TheVariants.{Main, Ended}
use Rattle.model.specs.declared.St.{St}
use Rattle.model.specs.Model.{Call, World, is_ended}
use Rattle.model.specs.Model
use Rattle.refine.specs.Put.{written_none, length_bytes_of}
use Rattle.refine.specs.Fits.{Word, words_of, length_words_of, length_node_words, length_record_words, nodes_words, records_words}
use Rattle.refine.specs.Tokens.{Rooms, Fit, job_for}
use Rattle.refine.specs.Holds.{Beside, beside_of, world_at, Sized, Kept, Holds, Ends, Related, goes, ends, stopped}
use Rattle.refine.specs.Arrive.{arrive_holds}
use Rattle.refine.specs.Step.{step_holds}

-- ---- what a run leaves: the answer, the counts, and each room: the bytes of the list, and what was behind them

pub record Left (T : Tables) (b : Rooms) (budget : ℕ) (answer : Answer) (r : Run) (w : World) : Type 0 where
  pub answered : w.st.answer ≡ answer
  pub counts : counts_of r ≡ w.st.units ∷ w.st.nodes ∷ w.st.children ∷ w.st.records ∷ []
  pub nodes : w.nodes ≡ nodes_bytes r.nodes ++ drop (32 * length r.nodes) b.nodes
  pub children : w.children ≡ bytes_of r.children ++ drop (4 * length r.children) b.children
  pub records : w.records ≡ records_bytes T r.marks ++ drop (64 * length r.marks) b.records
  pub nodes_fit_law : 32 * length r.nodes ≤ length b.nodes
  pub children_fit_law : 4 * length r.children ≤ length b.children
  pub records_fit_law : 64 * length r.marks ≤ length b.records
  pub stack_length : length w.stack ≡ length b.stack
  pub scratch_length : length w.scratch ≡ length b.scratch
  pub sized : Sized T r.nodes r.children r.marks (length r.stack)
  pub few : length r.nodes ≤ r.units
  pub spent : r.units ≤ budget

-- the state of a run with an answer in it, in whatever mode
abbrev answering : Run → Beside → Answer → St
answering r a answer =
    record { height = length r.stack; nodes = length r.nodes; children = length r.children; records = length r.marks; units = r.units; next = r.next; last = r.last; mode = a.mode; formed = a.formed; popped = a.popped; base = a.base; pushed = a.pushed; answer = answer }

module _ {C : Call} {b x : Rooms} {u : ℕ} {r : Run} (budget : ℕ) (most : u ≤ budget) (a : Beside) (K : Kept C b u r x) where
  left_by : (answer : Answer) → Left C.tables b budget answer r (world_at x (answering r a answer))
  unfolding counts_of
  left_by answer =
      let ns : List ℕ = words_of node_words r.nodes in
      let ms : List ℕ = words_of (record_words C.tables) r.marks in
      let n : length (bytes_of ns) ≡ 32 * length r.nodes = omega (arith, length_bytes_of ns, length_words_of node_words 8 length_node_words r.nodes) in
      let c : length (bytes_of r.children) ≡ 4 * length r.children = length_bytes_of r.children in
      let m : length (bytes_of ms) ≡ 64 * length r.marks = omega (arith, length_bytes_of ms, length_words_of (record_words C.tables) 16 (length_record_words C.tables) r.marks) in
      let f = K.nodes.fits in
      let g = K.children.fits in
      let h = K.records.fits in
      record {
        answered = refl;
        counts = refl;
        nodes = rw (nodes_words r.nodes, ← n) K.nodes.is;
        children = rw (← c) K.children.is;
        records = rw (records_words C.tables r.marks, ← m) K.records.is;
        nodes_fit_law = omega arith;
        children_fit_law = omega arith;
        records_fit_law = omega arith;
        stack_length = K.stack_length;
        scratch_length = K.scratch_length;
        sized = K.sized;
        few = K.few;
        spent = omega (arith, K.units);
      }

left_ended : {C : Call} {b : Rooms} {u : ℕ} {answer : Answer} {r : Run} {w : World} (budget : ℕ) → u ≤ budget → Ends C b u answer r w → Left C.tables b budget answer r w
left_ended {C} {b} {u} {answer} {r} {w} budget most E =
    let a = E.beside in
    let e : Beside = record { mode = Ended; formed = a.formed; popped = a.popped; base = a.base; pushed = a.pushed } in
    rw E.is (left_by budget most e E.kept answer)

left_empty : {C : Call} {b : Rooms} {u : ℕ} {r : Run} {w : World} (budget : ℕ) → u ≤ budget → Holds C b u r w → Left C.tables b budget OutOfUnits r w
left_empty {C} {b} {u} {r} {w} budget most H = rw H.is (left_by budget most (beside_of r.mode H.beside) H.kept OutOfUnits)

-- ---- the beginning

module _ {C : Call} {b : Rooms} (F : Fit C b) where
  first_kept : Kept C b 0 (Driving.first_run (job_for C b)) b
  unfolding Driving.first_run bytes_of
  first_kept =
      record {
        nodes = written_none b.nodes;
        children = written_none b.children;
        records = written_none b.records;
        stack = tt;
        stack_length = refl;
        scratch_length = refl;
        sized = record { nodes_fit_law = tt; children_fit_law = tt; records_fit_law = tt; children_few = omega arith; records_few = omega arith };
        last = F.origin;
        units = refl;
        few = omega arith;
        read = omega arith;
      }

  first_beside : Beside
  first_beside = record { mode = Main; formed = Model.no_formed; popped = 0; base = 0; pushed = 0 }

  begin_by : (t : Bool) → Related C b 0 (Driving.need t OutOfDepth (Driving.first_run (job_for C b)) (Driving.arrive (job_for C b) (Driving.first_run (job_for C b)))) (world_at b (pick t (Model.arrived C (Model.first_st C) 0) (Model.ended (Model.first_st C) OutOfDepth)))
  unfolding Driving.first_run Model.first_st first_beside
  begin_by true = arrive_holds (Driving.first_run (job_for C b)) first_beside first_kept tt F 0 refl
  begin_by false = stopped first_beside first_kept OutOfDepth

  pub begin_holds : Related C b 0 (Driving.begin (job_for C b)) (world_at b (Model.begin C))
  unfolding Driving.begin Model.begin
  begin_holds = begin_by (leb 1 C.depth)

-- ---- the run

pub record Runs (T : Tables) (b : Rooms) (budget : ℕ) (o : Outcome) (w : World) : Type 0 where
  pub answer : Answer
  pub run : Run
  pub is : o ≡ done answer run
  pub left : Left T b budget answer run w

not_ended : (m : Mode) (a : Beside) → is_ended (beside_of m a).mode ≡ false
not_ended main a = refl
not_ended (column f) a = refl
not_ended (search f k) a = refl
not_ended (simulate f k sim) a = refl

going : {C : Call} {b : Rooms} {u : ℕ} {r : Run} {w : World} → Holds C b u r w → is_ended w.st.mode ≡ false
going {C} {b} {u} {r} {w} H = rw H.is (not_ended r.mode H.beside)

has_ended : {C : Call} {b : Rooms} {u : ℕ} {answer : Answer} {r : Run} {w : World} → Ends C b u answer r w → is_ended w.st.mode ≡ true
has_ended E = rw E.is

runs_on : (C : Call) (n : ℕ) (w : World) → is_ended w.st.mode ≡ false → Model.run_from C (suc n) w ≡ Model.run_from C n (Model.step C w)
unfolding Model.run_from
runs_on C n w e = rw (Model.run_from, e)

runs_out : (C : Call) (n : ℕ) (w : World) → is_ended w.st.mode ≡ true → Model.run_from C (suc n) w ≡ w
unfolding Model.run_from
runs_out C n w e = rw (Model.run_from, e)

module _ {C : Call} {b : Rooms} (F : Fit C b) (budget : ℕ) (fits : Word budget) where
  run_holds : (n : ℕ) {u : ℕ} {o : Outcome} {w : World} → Related C b u o w → u + n ≤ budget → Runs C.tables b budget (Driving.run_from (job_for C b) n o) (Model.run_from C n w)
  unfolding Driving.run_from Model.run_from
  run_holds zero (goes {r} H) s =
      record { answer = OutOfUnits; run = r; is = refl; left = left_empty budget (omega arith) H }
  run_holds zero (ends {answer} {r} E) s =
      record { answer = answer; run = r; is = refl; left = left_ended budget (omega arith) E }
  run_holds (suc n) (goes {w = w} H) s =
      rw (runs_on C n w (going H)) (run_holds n (step_holds F H (omega arith)) (omega arith))
  run_holds (suc n) (ends {answer} {r} {w} E) s =
      rw (runs_out C n w (has_ended E))
      (record { answer = answer; run = r; is = refl; left = left_ended budget (omega arith) E })

  pub drive_holds : Runs C.tables b budget (Driving.drive (job_for C b) budget) (Model.run_from C budget (world_at b (Model.begin C)))
  unfolding Driving.drive
  drive_holds = run_holds budget (begin_holds F) (omega arith)
