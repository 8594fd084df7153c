-- `scans::first_bad_production`: the start is that of the next production, and what is left to look at gives the whole.
-- Assumes nothing.
use Rattle.std.proofs.Common.{ℕ, Bool, ◌≡◌, ◌-◌, ◌*◌, ◌≤◌, ◌<◌}
use Rattle.rules.specs.Tables.{production_count, right_start}
use Rattle.tables.specs.Places.{first_bad}
use Rattle.tables.proofs.scans.first_bad_production.Given as goal

abbrev pub invariant-loop-p : goal.invariant-loop-p
invariant-loop-p g l =
    (l.p ≤ production_count l.t)
    × (l.start ≤ 65535 * l.p)
    × (l.start ≡ right_start l.t l.p)
    × ((ok : ℕ → Bool) → ((p : ℕ) (b : Bool) → p < production_count l.t → goal.F-post g l.fits p (right_start l.t p) b → b ≡ ok p)
    → first_bad ok l.p (production_count l.t - l.p) ≡ first_bad ok 0 (production_count l.t))
