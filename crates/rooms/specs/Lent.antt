-- The rooms as they are lent together: the world that they hold with a state, and that they stay the caller's.
use Rattle.std.specs.Prelude.{◌≡◌, length}
use Rattle.model.specs.declared.St.{St}
use Rattle.model.specs.Model.{World}
use Rattle.rooms.specs.declared.Rooms.{Rooms}

-- what is in the rooms, beside the state
abbrev pub world_of : Rooms → St → World
world_of r st =
    record { stack = r.stack.now; scratch = r.scratch.now; nodes = r.nodes.now; children = r.children.now; records = r.records.now; st = st }

-- each room is the same slice of the caller's after a call as before it
pub record Same (old new : Rooms) : Type 0 where
  pub stack : new.stack.ghost_name ≡ old.stack.ghost_name
  pub scratch : new.scratch.ghost_name ≡ old.scratch.ghost_name
  pub nodes : new.nodes.ghost_name ≡ old.nodes.ghost_name
  pub children : new.children.ghost_name ≡ old.children.ghost_name
  pub records : new.records.ghost_name ≡ old.records.ghost_name
  pub stack_long : length new.stack.now ≡ length old.stack.now
  pub scratch_long : length new.scratch.now ≡ length old.scratch.now
  pub nodes_long : length new.nodes.now ≡ length old.nodes.now
  pub children_long : length new.children.now ≡ length old.children.now
  pub records_long : length new.records.now ≡ length old.records.now
