-- `Tables::all_nullable` goes through the symbols from the front: what is left decides.
-- Assumes nothing.
use borrow.Author.Rules.{rules}
use mathlib.Core.Path.{◌∙◌, sym}
use native.Mathlib.Omega.{arith}
use Rattle.std.proofs.lemmas.Bool.{not_from_false, not_from_true}
use Rattle.tables.specs.Rights.{all_none, all_stop, all_turn}
use Rattle.tables.proofs.Tables.all_nullable.Goals as goal

pub returns-then-not-nullable : goal.returns-then-not-nullable
returns-then-not-nullable c =
    sym (all_stop _ _ _ _ _ _ _ c.loop-d-test.true c.symbol_at.ensures.value c.nullable.ensures (not_from_false _ c.if-not-nullable.true))
    ∙ c.loop-d.invariant.1

pub loop-d-preserved : goal.loop-d-preserved
loop-d-preserved c =
    (search rules, all_turn _ _ _ _ _ _ _ c.loop-d-test.true c.symbol_at.ensures.value c.nullable.ensures _ (not_from_true _ c.if-not-nullable.false) c.loop-d.invariant.1)

pub returns : goal.returns
returns c = sym (all_none _ _ _ _ (omega arith)) ∙ c.loop-d.invariant.1
