-- `scans::any_below`: of what is passed the answer is still false.
-- Assumes nothing.
use Rattle.std.proofs.Common.{ℕ, Bool, false, ◌≡◌, ◌≤◌, ◌<◌}
use Rattle.rules.specs.Basics.{any_below}
use Rattle.tables.proofs.scans.any_below.Given as goal

abbrev pub invariant-loop-i : goal.invariant-loop-i
invariant-loop-i g l =
    (l.i ≤ l.n)
    × ((f : ℕ → Bool) → ((i : ℕ) (b : Bool) → i < l.n → goal.F-post g l.holds i b → b ≡ f i) → any_below l.i f ≡ false)
