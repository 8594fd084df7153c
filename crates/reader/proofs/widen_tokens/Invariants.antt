-- `reader::widen_tokens` leaves what `Widened` says. The loop's invariant: the first `i` tokens stand in the form of a call, and behind
-- them the room is as it was.
-- Assumes nothing.
use mathlib.Core.List.{◌++◌}
use mathlib.Core.Path.{◌≡◌}
use Prim.Native.Nat.{◌*◌}
use lib.ListN.{length, drop}
use Rattle.rules.specs.File.{file_tokens}
use Rattle.reader.specs.Tokens.{call_bytes}
use Rattle.reader.proofs.widen_tokens.Given as goal

abbrev pub invariant-loop-i : goal.invariant-loop-i
invariant-loop-i l =
    record {
      same_length : length l.out ≡ length l.initial.out;
      widened : l.out ≡ call_bytes (file_tokens l.payload 0 l.i) ++ drop (12 * l.i) l.initial.out;
    }
