-- `rooms::put_node` writes the eight words of a node, the kind and number of what it stands for among them.
-- Assumes nothing.
use Rattle.model.specs.Bytes.{put_node}
use Rattle.rooms.specs.Put.{put_eight}
use Rattle.rooms.proofs.put_node.Goals as goal

pub returns : goal.returns
unfolding put_node
returns c = rw (c.put_words.ensures, c.which_of.ensures, c.kind_of.ensures) (put_eight _ _ _ _ _ _ _ _ _ _)
