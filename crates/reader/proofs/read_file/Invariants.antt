-- `reader::read_file` is the rules' `file_of`. The loop's invariant: what is left to read, behind the payloads found so far, gives
-- the whole file; the measure is what is left of the bytes.
-- Assumes nothing.
use mathlib.Core.Path.{◌≡◌}
use Prim.Native.Nat.{◌≤◌, ◌-◌}
use Rattle.std.specs.Prelude.{All, length}
use Rattle.rules.specs.File.{file_of}
use Rattle.reader.specs.Records.{rest_of, parts_before}
use Rattle.reader.specs.Reading.{IsCutOf}
use Rattle.reader.proofs.read_file.Given as goal

abbrev pub invariant-loop-record : goal.invariant-loop-record
invariant-loop-record l =
    record {
      want_from : 1 ≤ l.want;
      want_to : l.want ≤ 9;
      in_file : l.at ≤ length l.s;
      short : length l.s ≤ 65536;
      eight : length l.found ≡ 8;
      cut : All (IsCutOf l.s) l.found;
      rest : rest_of l.s l.at l.want (parts_before l.want l.found) ≡ file_of l.s;
    }

abbrev pub decreases-loop-record : goal.decreases-loop-record
decreases-loop-record l = length l.s - l.at
