-- Every run of a job over passing tables has its trees, and a derivation where it accepts.
use Prim.Native.Nat.{ℕ}
use Rattle.rules.specs.Driving.{Job, begin, drive}
use Rattle.lr.specs.Invariant.{Fits, StaysOK, stays, begins_ok, run_keeps}
use Rattle.lr.proofs.Invariant.{does}
use Rattle.lr.specs.Stands.{Stands, begin_stands, stands}

-- every accepted run of a job over passing tables, early or not, has a derivation at its root
pub run_stands : {J : Job} → Fits J → (n : ℕ) → StaysOK J (drive J n) × Stands J (drive J n)
unfolding drive
run_stands {J} F n =
    run_keeps (λ o. StaysOK J o × Stands J o) J (λ r h. (stays F h.0 (does J F r h.0), stands F h.0 h.1 (does J F r h.0))) (λ r h. (tt, tt)) n (begin J)
    (begins_ok J, begin_stands J)
