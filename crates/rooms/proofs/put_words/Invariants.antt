-- `rooms::put_words` writes the words one behind the other: what is left to write makes the whole, and the room is as long as it was.
-- Assumes nothing.
use Rattle.std.proofs.Common.{◌≡◌, ◌+◌, ◌*◌, length, drop}
use Rattle.rooms.specs.Put.{put_words}
use Rattle.rooms.proofs.put_words.Given as goal

abbrev pub invariant-loop-i : goal.invariant-loop-i
invariant-loop-i g l = (put_words l.s (l.at + 4 * l.i) (drop l.i l.word-items) ≡ put_words l.initial.s l.at l.word-items) × (length l.s ≡ length l.initial.s)
