-- `scans::all_below`: of what is passed the answer is still true.
-- Assumes nothing.
use Rattle.std.proofs.Common.{ℕ, Bool, true, ◌≡◌, ◌≤◌, ◌<◌}
use Rattle.rules.specs.Basics.{all_below}
use Rattle.tables.proofs.scans.all_below.Given as goal

abbrev pub invariant-loop-i : goal.invariant-loop-i
invariant-loop-i g l =
    (l.i ≤ l.n)
    × ((f : ℕ → Bool) → ((i : ℕ) (b : Bool) → i < l.n → goal.F-post g l.holds i b → b ≡ f i) → all_below l.i f ≡ true)
