-- `driver::run` repeats the step while the run has not ended and units are left. The invariant is `Going`: what is left to run gives the whole.
-- Assumes nothing.
use Prim.Native.Nat.{◌-◌}
use Rattle.driver.specs.Running.{Going}
use Rattle.driver.proofs.run.Given as goal

abbrev pub invariant-loop : goal.invariant-loop
invariant-loop l = Going l.fn.g l.fn.rooms l.fn.st l.fn.budget l.rooms l.s (l.fn.budget - l.counter)
