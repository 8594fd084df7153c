-- `rooms::put_entry` writes the eight words of a stack entry, the kind and number of what it stands for among them.
-- Assumes nothing.
use Rattle.model.specs.Bytes.{put_entry}
use Rattle.rooms.specs.Put.{put_eight}
use Rattle.rooms.proofs.put_entry.Goals as goal

pub returns : goal.returns
unfolding put_entry
returns c = rw (c.put_words.ensures, c.which_of.ensures, c.kind_of.ensures) (put_eight _ _ _ _ _ _ _ _ _ _)
