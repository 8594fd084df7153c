-- `scans::first_bad`: what is left to look at gives the whole.
-- Assumes nothing.
use Rattle.std.proofs.Common.{ℕ, Bool, ◌≡◌, ◌-◌, ◌≤◌, ◌<◌}
use Rattle.tables.specs.Places.{first_bad}
use Rattle.tables.proofs.scans.first_bad.Given as goal

abbrev pub invariant-loop-i : goal.invariant-loop-i
invariant-loop-i g l =
    (l.i ≤ l.n)
    × ((ok : ℕ → Bool) → ((i : ℕ) (b : Bool) → i < l.n → goal.F-post g l.fits i b → b ≡ ok i)
    → first_bad ok l.i (l.n - l.i) ≡ first_bad ok 0 l.n)
