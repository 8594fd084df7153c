-- `Tables::begins_with` goes through the symbols from the front: what is left decides.
-- Assumes nothing.
use borrow.Author.Rules.{rules}
use mathlib.Core.Path.{◌∙◌, sym}
use native.Mathlib.Omega.{arith}
use Rattle.std.proofs.lemmas.Bool.{not_from_false, not_from_true}
use Rattle.tables.specs.Rights.{begins_found, begins_none, begins_stop, begins_turn}
use Rattle.tables.proofs.Tables.begins_with.Goals as goal

pub returns-then-in_first : goal.returns-then-in_first
returns-then-in_first c =
    sym (begins_found _ _ _ _ _ _ _ _ c.loop-d-test.true c.symbol_at-x.ensures.value c.in_first.ensures c.if-in_first.true)
    ∙ c.loop-d.invariant.1

pub returns-then-not-nullable : goal.returns-then-not-nullable
returns-then-not-nullable c =
    sym (begins_stop _ _ _ _ _ _ _ c.loop-d-test.true c.symbol_at-x.ensures.value c.nullable.ensures _ _ c.in_first.ensures c.if-in_first.false (not_from_false _ c.if-not-nullable.true))
    ∙ c.loop-d.invariant.1

pub loop-d-preserved : goal.loop-d-preserved
loop-d-preserved c =
    (search rules, begins_turn _ _ _ _ _ _ _ c.loop-d-test.true c.symbol_at-x.ensures.value c.nullable.ensures _ _ _ c.in_first.ensures c.if-in_first.false (not_from_true _ c.if-not-nullable.false) c.loop-d.invariant.1)

pub returns : goal.returns
returns c = sym (begins_none _ _ _ _ _ (omega arith)) ∙ c.loop-d.invariant.1
