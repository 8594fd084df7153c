-- `closed::production_closed`: the flag, and each kind, of the right side from the place at which it starts.
-- Assumes nothing.
use borrow.Author.Rules.{rules}
use mathlib.Core.Path.{◌≡◌}
use Rattle.std.specs.Prelude.{true, false, ◌||◌, not, ◌+◌}
use Rattle.rules.specs.Tables.{nullable, in_first}
use Rattle.rules.specs.Check.{begins_with}
use Rattle.tables.specs.Rights.{symbols_in}
use Rattle.shapes.specs.Productions.{production_closed}
use Rattle.shapes.proofs.closed.production_closed.Goals as goal
use Rattle.shapes.proofs.closed.production_closed.Goals.{then-not-all_nullable, else-not-all_nullable}

pub returns-then-flag : goal.returns-then-flag
unfolding production_closed
returns-then-flag c =
    let T = c.args.t.now in
    let n = c.size-n.result in
    let side = c.kinds-kinds.result + 1 + c.left.result in
    let flag : not c.all_nullable.result || nullable T side ≡ true =
    elim c.if-not-all_nullable.branch [
      | then-not-all_nullable w ↦ rw w.if-not-all_nullable.true
      | else-not-all_nullable w ↦ rw w.if-not-all_nullable.false (cc)
    ]
    in
    rw (
      ← c.size-n.ensures.value,
      ← c.kinds-kinds.ensures.value,
      ← c.left.ensures.value,
      ← c.all_nullable.ensures,
      flag,
    )
    (c.all_below.ensures (λ k. not (begins_with T (symbols_in T.rights c.args.start n) k) || in_first T side k) (λ i b h e. search rules))

pub returns-else-flag : goal.returns-else-flag
unfolding production_closed
returns-else-flag c =
    let T = c.args.t.now in
    let side = c.kinds-kinds.result + 1 + c.left.result in
    let flag : not c.all_nullable.result || nullable T side ≡ false =
    elim c.if-not-all_nullable.branch [
      | then-not-all_nullable w ↦ absurd (cc)
      | else-not-all_nullable w ↦ rw w.if-not-all_nullable.false (cc)
    ]
    in
    rw (
      ← c.size-n.ensures.value,
      ← c.kinds-kinds.ensures.value,
      ← c.left.ensures.value,
      ← c.all_nullable.ensures,
      flag,
      c.if-flag.false,
    )
