-- What holds of a run's numbers at every step, and makes every index and every sum of the code safe.
-- A symbol on the stack, and a child, is a node, and a node has cost a unit; so a budget of 32 bits bounds them all.
use Rattle.std.specs.Prelude.{List, ℕ, ◌+◌, ◌*◌, ◌≤◌, ◌<◌, ◌^◌, length}
use Rattle.model.specs.declared.Mode.{Mode}
use Rattle.model.specs.declared.Mode.TheVariants.{Main, Column, Search, Simulate, Ended}
use Rattle.model.specs.declared.St.{St}
use Rattle.moves.specs.declared.Given.{Given}

-- the sizes of the tables, and the token count
pub record Small (g : Given) : Type 0 where
  pub states_small : g.states < 2 ^ 16
  pub kinds_small : g.kinds < 2 ^ 16
  pub nonterminals_small : g.nonterminals < 2 ^ 16
  pub count_small : g.count < 2 ^ 32

-- while a state is searched no more is popped than there is; above it a simulation goes on only where the mark has place
abbrev pub Within : Mode → ℕ → ℕ → ℕ → Type 0
Within Main depth popped height = Unit
Within Column depth popped height = Unit
Within Search depth popped height = popped ≤ height
Within Simulate depth popped height = (popped ≤ height) × (height + 2 ≤ depth + popped)
Within Ended depth popped height = Unit

-- of the stack's room, which has `room` bytes, and of the counts
pub record Fine (room depth count : ℕ) (s : St) : Type 0 where
  pub depth_in : 32 * depth ≤ room
  pub height_in : 32 * s.height ≤ room
  pub kept : s.children + s.height ≤ s.nodes
  pub paid : s.nodes ≤ s.units
  pub marked : s.records ≤ s.units
  pub few : s.units < 2 ^ 32
  pub next_in : s.next ≤ count
  pub within : Within s.mode depth s.popped s.height

-- of a call and a run whose stack's room has those bytes
abbrev pub Safe : Given → List ℕ → St → Type 0
Safe g stack s = Small g × Fine (length stack) g.depth g.count s

-- of the simulated stack
pub record Simulable (room scratch depth : ℕ) (s : St) : Type 0 where
  pub depth_in : 4 * depth ≤ scratch
  pub base_in : 32 * s.base ≤ room
  pub pushed_in : 4 * s.pushed ≤ scratch
