-- The simulated stack: states pushed on the scratch room over the lowest entries of the real stack. Its top, a pop and a push are
-- those of the rules' list of states.
use Rattle.std.specs.Prelude.{◌≡◌, List, [], ◌∷◌, ◌++◌, ℕ, zero, suc, ◌+◌, ◌*◌, ◌-◌, ◌≤◌, leb, drop}
use Rattle.std.proofs.Math.Path.{refl, ap}
use Rattle.std.proofs.Common.{sym, ◌∙◌, inl, arith}
use Rattle.std.proofs.Math.Numerals.{add-one}
use Rattle.std.proofs.Math.Dec.{eqb-suc-zero}
use Rattle.std.proofs.Math.ListN.{length}
use Rattle.std.proofs.lemmas.List.{length-map}
use Rattle.words.specs.Words.{put32}
use Rattle.words.specs.Laws.{get32_put32_same, get32_put32_other, length_put32}
use Rattle.rules.specs.declared.Entry.{Entry}
use Rattle.rules.specs.declared.Answer.TheVariants.{OutOfDepth}
use Rattle.rules.specs.Driving.{simulate, Run, more, top_state, top_of, states_of}
use Rattle.rules.specs.Driving
use Rattle.model.specs.Bytes.{scratch_at, sim_top}
use Rattle.model.specs.Model.{Call}
use Rattle.model.specs.Model
use Rattle.refine.specs.Fits.{Word}
use Rattle.refine.specs.Stack.{StackHolds, top_at_law}
use Rattle.refine.specs.Tokens.{Rooms, Fit}
use Rattle.refine.specs.Holds.{Beside, st_of, world_at, Kept, states_down, Simulated, FormedFits, Related, goes, need_fits}

-- ---- the list of states

length_states : (s : List ℕ) (n : ℕ) (below : List Entry) → length (states_down s n ++ states_of below) ≡ length below + n
length_states s zero below = simp length-map (omega arith)
length_states s (suc n) below = omega (arith, length_states s n below)

top_states : (below : List Entry) → top_of (states_of below) ≡ top_state below
top_states [] = refl
top_states (e ∷ below) = refl

pub sim_top_law : (x : Rooms) (n : ℕ) (below : List Entry) → StackHolds x.stack below → sim_top x.stack x.scratch (length below) n ≡ top_of (states_down x.scratch n ++ states_of below)
unfolding sim_top
sim_top_law x zero below H = top_at_law below x.stack H ∙ sym (top_states below)
sim_top_law x (suc n) below H =
    let p : suc n - 1 ≡ n = omega arith in rw (eqb-suc-zero, p)

drop_states : (n : ℕ) (below : List Entry) → drop n (states_of below) ≡ states_of (drop n below)
drop_states zero below = refl
drop_states (suc n) [] = refl
drop_states (suc n) (e ∷ below) = drop_states n below

-- a pop takes the pushed states first
pub drop_sim : (s : List ℕ) (below : List Entry) (n pushed : ℕ) → drop n (states_down s pushed ++ states_of below) ≡ states_down s (pushed - n) ++ states_of (drop (n - pushed) below)
drop_sim s below n zero =
    let p : 0 - n ≡ 0 = omega arith in
    let q : n - 0 ≡ n = omega arith in
    rw (p, q) (drop_states n below)
drop_sim s below zero (suc pushed) =
    let p : 0 - suc pushed ≡ 0 = omega arith in
    let q : suc pushed - 0 ≡ suc pushed = omega arith in
    rw (p, q)
drop_sim s below (suc n) (suc pushed) =
    let p : suc pushed - suc n ≡ pushed - n = omega arith in
    let q : suc n - suc pushed ≡ n - pushed = omega arith in
    rw (p, q) (drop_sim s below n pushed)

states_kept : (s : List ℕ) (n at v : ℕ) → 4 * n ≤ at → states_down (put32 s at v) n ≡ states_down s n
unfolding scratch_at
states_kept s zero at v h = refl
states_kept s (suc n) at v h =
    rw (states_kept s n at v (omega arith), get32_put32_other s at v (4 * n) (inl (omega arith)))

-- ---- a state goes on it

module _ {C : Call} {b : Rooms} {u : ℕ} (F : Fit C b) {x : Rooms} {r : Run} (A : Beside) (K : Kept C b u r x) where
  rooms_with : ℕ → ℕ → Rooms
  rooms_with pushed s =
      record { stack = x.stack; scratch = put32 x.scratch (4 * pushed) s; nodes = x.nodes; children = x.children; records = x.records }

  pushed_kept : (pushed s : ℕ) (m : Driving.Mode) → Kept C b u (Driving.in_mode r m) (rooms_with pushed s)
  unfolding rooms_with
  pushed_kept pushed s m =
      record {
        nodes = K.nodes;
        children = K.children;
        records = K.records;
        stack = K.stack;
        stack_length = K.stack_length;
        scratch_length = length_put32 x.scratch (4 * pushed) s ∙ K.scratch_length;
        sized = K.sized;
        last = K.last;
        units = K.units;
        few = K.few;
        read = K.read;
      }

  pushed_is : (pushed s : ℕ) (below : List Entry) (sim : List ℕ) → StackHolds x.stack below → sim ≡ states_down x.scratch pushed ++ states_of below → Word s → length below + pushed + 2 ≤ C.depth → Simulated (rooms_with pushed s) (length below) (pushed + 1) (s ∷ sim)
  unfolding rooms_with scratch_at
  pushed_is pushed s below sim H e w d =
      let f = F.scratch in
      let g = K.scratch_length in
      let is : s ∷ sim ≡ states_down (put32 x.scratch (4 * pushed) s) (suc pushed) ++ states_of below = rw (states_kept x.scratch pushed (4 * pushed) s (omega arith), get32_put32_same x.scratch (4 * pushed) s (omega arith) w, e) in
      record { below = below; holds = H; based = refl; is = rw add-one is }

  pub simulate_on_holds : (pushed s : ℕ) (below : List Entry) (sim : List ℕ) → StackHolds x.stack below → sim ≡ states_down x.scratch pushed ++ states_of below → Word s → FormedFits A.formed → A.popped ≤ length r.stack → (length sim + 2 ≤ C.depth → length r.stack - A.popped + 2 ≤ C.depth) → Related C b u (Driving.need (leb (length sim + 2) C.depth) OutOfDepth r (more (Driving.in_mode r (simulate A.formed A.popped (s ∷ sim))))) (Model.simulate_on C (world_at x (st_of r A)) (length below) pushed s)
  unfolding Model.simulate_on Model.push_state rooms_with
  simulate_on_holds pushed s below sim H e w v k d =
      let l : length sim ≡ length below + pushed = ap length e ∙ length_states x.scratch pushed below in
      let B : Beside = record { mode = A.mode; formed = A.formed; popped = A.popped; base = length below; pushed = pushed + 1 } in
      need_fits A K (length sim + 2) C.depth (length below + pushed + 2) C.depth OutOfDepth (omega arith) refl (λ h.
      goes (record {
        rooms = rooms_with pushed s;
        beside = B;
        is = refl;
        kept = pushed_kept pushed s (simulate A.formed A.popped (s ∷ sim));
        mode = (v, k, d h, pushed_is pushed s below sim H e w (omega arith));
      }))
