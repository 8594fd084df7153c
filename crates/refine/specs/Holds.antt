-- What it is for a world of the model to hold a run of the rules: rooms hold the lists, and the state is their counts.
-- An outcome and a world are related where both go on so, or both have ended with one answer.
use Rattle.std.specs.Prelude.{◌≡◌, refl, Bool, true, false, List, [], ◌∷◌, ◌++◌, ℕ, zero, suc, ◌+◌, ◌-◌, ◌≤◌, leb, length}
use Rattle.std.proofs.Common.{leb-true}
use Rattle.rules.specs.declared.Entry.{Entry}
use Rattle.rules.specs.declared.Formed.{Formed}
use Rattle.rules.specs.declared.Answer.{Answer}
use Rattle.rules.specs.declared.Answer.TheVariants.{OutOfUnits}
use Rattle.rules.specs.Tables.{Tables}
use Rattle.rules.specs.Driving.{Mode, main, column, search, simulate, Run, Node, Marked, Outcome, more, done, states_of}
use Rattle.rules.specs.Driving
use Rattle.rules.specs.Answers.{bytes_of, node_words, record_words}
use Rattle.model.specs.declared.Mode.TheVariants.{Main, Column, Search, Simulate}
use Rattle.model.specs.declared.Mode
use Rattle.model.specs.declared.St.{St}
use Rattle.model.specs.Bytes.{scratch_at}
use Rattle.model.specs.Model.{Call, World, ended}
use Rattle.model.specs.Model
use Rattle.refine.specs.Put.{Written}
use Rattle.refine.specs.Fits.{Word, Fitting, words_of}
use Rattle.refine.specs.Stack.{StackHolds}
use Rattle.refine.specs.Tokens.{Rooms}

-- what the model keeps beside the counts; in some modes a part of it means nothing
pub record Beside : Type 0 where
  pub mode : Mode.Mode
  pub formed : Formed
  pub popped : ℕ
  pub base : ℕ
  pub pushed : ℕ

abbrev pub beside_of : Mode → Beside → Beside
beside_of main a = record { mode = Main; formed = a.formed; popped = a.popped; base = a.base; pushed = a.pushed }
beside_of (column f) a = record { mode = Column; formed = f; popped = a.popped; base = a.base; pushed = a.pushed }
beside_of (search f k) a = record { mode = Search; formed = f; popped = k; base = a.base; pushed = a.pushed }
beside_of (simulate f k sim) a = record { mode = Simulate; formed = f; popped = k; base = a.base; pushed = a.pushed }

abbrev pub st_of : Run → Beside → St
st_of r a =
    record { height = length r.stack; nodes = length r.nodes; children = length r.children; records = length r.marks; units = r.units; next = r.next; last = r.last; mode = a.mode; formed = a.formed; popped = a.popped; base = a.base; pushed = a.pushed; answer = OutOfUnits }

abbrev pub world_at : Rooms → St → World
world_at x st =
    record { stack = x.stack; scratch = x.scratch; nodes = x.nodes; children = x.children; records = x.records; st = st }

-- each word that is written fits; "child entries never outnumber nodes", nor do records
pub record Sized (T : Tables) (nodes : List Node) (children : List ℕ) (marks : List Marked) (height : ℕ) : Type 0 where
  pub nodes_fit_law : Fitting (words_of node_words nodes)
  pub children_fit_law : Fitting children
  pub records_fit_law : Fitting (words_of (record_words T) marks)
  pub children_few : length children + height ≤ length nodes
  pub records_few : length marks ≤ length nodes

-- the rooms hold the run's lists; the run has used u units
pub record Kept (C : Call) (b : Rooms) (u : ℕ) (r : Run) (x : Rooms) : Type 0 where
  pub nodes : Written b.nodes x.nodes (bytes_of (words_of node_words r.nodes))
  pub children : Written b.children x.children (bytes_of r.children)
  pub records : Written b.records x.records (bytes_of (words_of (record_words C.tables) r.marks))
  pub stack : StackHolds x.stack r.stack
  pub stack_length : length x.stack ≡ length b.stack
  pub scratch_length : length x.scratch ≡ length b.scratch
  pub sized : Sized C.tables r.nodes r.children r.marks (length r.stack)
  pub last : Word r.last
  pub units : r.units ≡ u
  pub few : length r.nodes ≤ r.units
  pub read : r.next ≤ C.count

-- the n states pushed on the scratch room, the last first
abbrev pub states_down : List ℕ → ℕ → List ℕ
states_down s zero = []
states_down s (suc n) = scratch_at s n ∷ states_down s n

-- the simulated stack: pushed states over the lowest entries of the real one
pub record Simulated (x : Rooms) (base pushed : ℕ) (sim : List ℕ) : Type 0 where
  pub below : List Entry
  pub holds : StackHolds x.stack below
  pub based : base ≡ length below
  pub is : sim ≡ states_down x.scratch pushed ++ states_of below

-- the words of an error that was formed fit
pub record FormedFits (f : Formed) : Type 0 where
  pub number : Word f.number
  pub at : Word f.at
  pub from : Word f.from

-- what is known in each mode: the error's words fit, no more is popped than there is, and where a state is being
-- simulated the depth held that state
abbrev pub ModeKept : Call → Rooms → List Entry → Beside → Mode → Type 0
ModeKept C x stack a main = Unit {0}
ModeKept C x stack a (column f) = FormedFits f
ModeKept C x stack a (search f k) = FormedFits f × (k ≤ length stack)
ModeKept C x stack a (simulate f k sim) =
    FormedFits f × (k ≤ length stack) × (length stack - k + 2 ≤ C.depth) × Simulated x a.base a.pushed sim

pub record Holds (C : Call) (b : Rooms) (u : ℕ) (r : Run) (w : World) : Type 0 where
  pub rooms : Rooms
  pub beside : Beside
  pub is : w ≡ world_at rooms (st_of r (beside_of r.mode beside))
  pub kept : Kept C b u r rooms
  pub mode : ModeKept C rooms r.stack beside r.mode

pub record Ends (C : Call) (b : Rooms) (u : ℕ) (answer : Answer) (r : Run) (w : World) : Type 0 where
  pub rooms : Rooms
  pub beside : Beside
  pub is : w ≡ world_at rooms (ended (st_of r beside) answer)
  pub kept : Kept C b u r rooms

pub data Related (C : Call) (b : Rooms) (u : ℕ) : Outcome → World → Type 0 where
  goes : {r : Run} {w : World} → Holds C b u r w → Related C b u (more r) w
  ends : {answer : Answer} {r : Run} {w : World} → Ends C b u answer r w → Related C b u (done answer r) w

-- ---- a limit: both go on, or both end as they were

module _ {C : Call} {b x : Rooms} {u : ℕ} {r : Run} (a : Beside) (K : Kept C b u r x) where
  pub stopped : (answer : Answer) → Related C b u (done answer r) (Model.stop (world_at x (st_of r a)) answer)
  stopped answer = ends (record { rooms = x; beside = a; is = refl; kept = K })

  need_by : (t : Bool) (answer : Answer) {o : Outcome} {w : World} → (t ≡ true → Related C b u o w) → Related C b u (Driving.need t answer r o) (Model.need t answer (world_at x (st_of r a)) w)
  need_by true answer f = f refl
  need_by false answer f = stopped answer

  pub need_fits : (n m n' m' : ℕ) (answer : Answer) {o : Outcome} {w : World} → n' ≡ n → m' ≡ m → (n ≤ m → Related C b u o w) → Related C b u (Driving.need (leb n m) answer r o) (Model.need (leb n' m') answer (world_at x (st_of r a)) w)
  need_fits n m n' m' answer p q f = rw (p, q) (need_by (leb n m) answer (λ e. f (leb-true n m e)))
