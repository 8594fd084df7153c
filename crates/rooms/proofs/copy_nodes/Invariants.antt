-- `rooms::copy_nodes` copies n nodes: after i turns the children are those of i copies, and as many bytes as they were.
-- Assumes nothing.
use Rattle.std.proofs.Common.{◌≡◌, length}
use Rattle.model.specs.Bytes.{copy_nodes}
use Rattle.rooms.proofs.copy_nodes.Given as goal

abbrev pub invariant-loop-i : goal.invariant-loop-i
invariant-loop-i l = (l.children ≡ copy_nodes l.i l.initial.children l.at l.stack l.from) × (length l.children ≡ length l.initial.children)
