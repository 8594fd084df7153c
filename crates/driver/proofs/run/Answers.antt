-- `driver::run` repeats the step while the run has not ended and units are left. The invariant is `Going`: what is left to run gives the whole.
-- Assumes nothing.
use mathlib.Core.Path.{refl, sym, ◌∙◌}
use native.Mathlib.Omega.{arith}
use Rattle.std.proofs.Math.Nat.{sub-zero}
use Prim.Native.Nat.{◌+◌, ◌-◌}
use Rattle.rooms.specs.Lent.{world_of}
use Rattle.driver.specs.Running.{run_ended, run_none, going_on}
use Rattle.driver.proofs.run.Goals as goal

pub loop-init : goal.loop-init
loop-init c = let p = c.requires in
    record {
      same = record {
        stack = refl;
        scratch = refl;
        nodes = refl;
        children = refl;
        records = refl;
        stack_long = refl;
        scratch_long = refl;
        nodes_long = refl;
        children_long = refl;
        records_long = refl;
      };
      fine = p.0.1;
      simulable = p.1;
      budget_left = omega arith;
      rest = λ C m. rw sub-zero;
    }

pub returns-then-is_ended : goal.returns-then-is_ended
returns-then-is_ended c = let l = c.loop in record {
  same = l.invariant.same;
  runs = λ C m. sym (run_ended C (c.args.budget - l.counter) (world_of l.rooms l.s)
      (sym c.is_ended.ensures ∙ c.if-is_ended.true)) ∙ l.invariant.rest C m;
}

pub step-s-requires : goal.step-s-requires
step-s-requires c = let p = c.requires in
    let i = c.loop.invariant in (
      (p.0.0, i.fine),
      i.simulable,
      omega arith,
    )

pub loop-preserved : goal.loop-preserved
loop-preserved c = let x = c.args in
    let l = c.loop in
    let q = c.step-s in
    going_on x.g.now x.rooms.now x.st x.budget l.rooms l.s (x.budget - l.counter) q.new.rooms q.result (x.budget - (l.counter + 1))
    l.invariant (omega arith) (sym c.is_ended.ensures ∙ c.if-is_ended.false) q.ensures.same q.ensures.steps

pub returns : goal.returns
returns c = let l = c.loop in record {
  same = l.invariant.same;
  runs = λ C m. sym (run_none C (c.args.budget - l.counter) (world_of l.rooms l.s) (omega arith)) ∙ l.invariant.rest C m;
}
