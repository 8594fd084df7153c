-- `rooms::copy_nodes` copies n nodes: one more turn is one more copy.
-- Assumes nothing.
use Rattle.std.proofs.Common.{add-one, refl}
use Rattle.model.specs.Bytes.{copy_nodes}
use Rattle.rooms.proofs.copy_nodes.Goals as goal

pub loop-i-init : goal.loop-i-init
unfolding copy_nodes
loop-i-init c = (refl, refl)

pub loop-i-preserved : goal.loop-i-preserved
unfolding copy_nodes
loop-i-preserved c = (rw add-one (cc), cc)
