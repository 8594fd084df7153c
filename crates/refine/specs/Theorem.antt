-- What the code's proof takes from here: for every call that refusal 18 lets through, and every budget below 2 ^ 32, the byte
-- model leaves the answer, the counts and the rooms that the rules say. The bytes of stack and scratch are exempt.
use Rattle.std.specs.Prelude.{◌≡◌, refl, Bool, true, false, ◌&&◌, List, ℕ, ◌*◌, ◌/◌, ◌%◌, min, leb, eqb, length}
use Rattle.std.proofs.Common.{arith, leb-true, eqb-true}
use Rattle.words.specs.Words.{word32}
use Rattle.words.specs.Laws.{Bytes}
use Rattle.rules.specs.declared.Answer.{Answer}
use Rattle.rules.specs.Tables.{Tables}
use Rattle.rules.specs.Basics.{all_below}
use Rattle.rules.specs.Check.{ok18}
use Rattle.rules.specs.Driving.{Run, Outcome, done, drive}
use Rattle.rules.specs.Answers.{Limits, job_of, tokens_of, drive_reply, reply_of, answered}
use Rattle.model.specs.Model.{Call, World}
use Rattle.model.specs.Model
use Rattle.refine.specs.Fits.{Word}
use Rattle.refine.specs.Tokens.{Rooms, Fit}
use Rattle.refine.specs.Holds.{world_at}
use Rattle.refine.specs.Run.{Left, Runs, drive_holds}

-- the depth that both rooms hold
abbrev pub depth_of : Rooms → ℕ
depth_of b = min (length b.stack / 32) (length b.scratch / 4)

-- the limits that the lent rooms are: "lent lengths in whole entries"
abbrev pub limits_of : Rooms → ℕ → Limits
limits_of b budget =
    record { budget = budget; depth = depth_of b; children = length b.children / 4; nodes = length b.nodes / 32; records = length b.records / 64 }

abbrev pub call_of : Tables → List ℕ → ℕ → Rooms → Call
call_of T s origin b = record { tables = T; tokens = s; count = length s / 12; origin = origin; depth = depth_of b }

-- the model's run of a call, from the rooms as they were lent
abbrev pub ran_of : Tables → List ℕ → ℕ → Rooms → ℕ → World
ran_of T s origin b budget =
    Model.run_from (call_of T s origin b) budget (world_at b (Model.begin (call_of T s origin b)))

and_left : (x y : Bool) → (x && y) ≡ true → x ≡ true
and_left true y e = refl
and_left false y e = e

and_right : (x y : Bool) → (x && y) ≡ true → y ≡ true
and_right true y e = e
and_right false y e = absurd (let z : ◌≡◌ {A = ℕ} 0 1 = cc in omega arith)

call_fits : (T : Tables) (s : List ℕ) (origin : ℕ) (b : Rooms) → ok18 s ≡ true → Bytes s → Word origin → Fit (call_of T s origin b) b
unfolding ok18
call_fits T s origin b ok bytes o =
    let both = and_left (eqb (length s % 12) 0 && leb (length s / 12) 4096) (all_below (length s / 12) (λ i. leb (word32 s (12 * i)) 65535)) ok in
    let whole = eqb-true (length s % 12) 0 (and_left (eqb (length s % 12) 0) (leb (length s / 12) 4096) both) in
    let few = leb-true (length s / 12) 4096 (and_right (eqb (length s % 12) 0) (leb (length s / 12) 4096) both) in
    record { count = refl; whole = omega arith; few = few; bytes = bytes; origin = o; stack = omega arith; scratch = omega arith }

-- the run of the rules always ends, and what the model leaves is what it says
pub drive_refines : (T : Tables) (s : List ℕ) (origin budget : ℕ) (b : Rooms) → ok18 s ≡ true → Bytes s → Word origin → Word budget → Runs T b budget (drive (job_of T (tokens_of s) origin (limits_of b budget)) budget) (ran_of T s origin b budget)
unfolding job_of
drive_refines T s origin budget b ok bytes o u = drive_holds (call_fits T s origin b ok bytes o) budget u

same_left : {T : Tables} {b : Rooms} {budget : ℕ} {o : Outcome} {w : World} → Runs T b budget o w → (answer : Answer) (r : Run) → o ≡ done answer r → Left T b budget answer r w
same_left {T} {b} {budget} {o} {w} R answer r e =
    let p : R.answer ≡ answer = cc in
    let q : R.run ≡ r = cc in
    rw (p, q) at R.left

pub run_refines : (T : Tables) (s : List ℕ) (origin budget : ℕ) (b : Rooms) → ok18 s ≡ true → Bytes s → Word origin → Word budget → (answer : Answer) (r : Run) → drive (job_of T (tokens_of s) origin (limits_of b budget)) budget ≡ done answer r → Left T b budget answer r (ran_of T s origin b budget)
run_refines T s origin budget b ok bytes o u answer r e =
    same_left (drive_refines T s origin budget b ok bytes o u) answer r e

-- the same of the reply of the rules
pub record Replied (T : Tables) (s : List ℕ) (origin budget : ℕ) (b : Rooms) : Type 0 where
  pub answer : Answer
  pub run : Run
  pub is : drive_reply T s origin (limits_of b budget) ≡ answered answer run
  pub left : Left T b budget answer run (ran_of T s origin b budget)

pub reply_refines : (T : Tables) (s : List ℕ) (origin budget : ℕ) (b : Rooms) → ok18 s ≡ true → Bytes s → Word origin → Word budget → Replied T s origin budget b
unfolding drive_reply reply_of
reply_refines T s origin budget b ok bytes o u =
    let R = drive_refines T s origin budget b ok bytes o u in
    record { answer = R.answer; run = R.run; is = rw (ok, R.is); left = R.left }
