-- `Page::tree` writes `tree_text` and `Page::children` writes `children_text`, each by the other.
-- Assumes nothing.
use Rattle.std.proofs.Common.{◌≤◌, sym, ◌∙◌, arith}
use Rattle.rules.specs.Basics.{text, codes_from}
use Rattle.printer.specs.Page.{chained, left_turn, left_none}
use Rattle.printer.specs.TreeText.{children_turn, children_none, leaf_byte, leaf_text, tree_none, tree_token, tree_mark, tree_branch}
use Rattle.printer.proofs.Page.+children_tree.Goals as goal

pub children-loop-j-preserved : goal.children-loop-j-preserved
children-loop-j-preserved t c =
    left_turn _ _ _ _ _ _ _ (children_turn _ _ _ _ _ _ c.loop-j.j (omega arith))
    (chained c.comma.ensures (rw c.word.ensures at c.tree.ensures)) c.loop-j.invariant

pub children-returns : goal.children-returns
children-returns t c = left_none _ _ _ _ (children_none _ _ _ _ _ _ c.loop-j.j (omega arith)) c.loop-j.invariant

pub tree-returns-then-fuel-eq0 : goal.tree-returns-then-fuel-eq0
unfolding leaf_text leaf_byte
tree-returns-then-fuel-eq0 t c = rw (tree_none _ _ _ _ _ c.if-fuel-eq0.true) c.leaf.ensures

pub tree-returns-in-0 : goal.tree-returns-in-0
tree-returns-in-0 t c =
    rw (tree_token _ _ _ _ _ c.if-fuel-eq0.false (sym c.word.ensures ∙ c.in-0.is), ← c.word-number.ensures) c.leaf-in-0.ensures

pub tree-returns-in-1 : goal.tree-returns-in-1
tree-returns-in-1 t c =
    rw (tree_mark _ _ _ _ _ c.if-fuel-eq0.false (sym c.word.ensures ∙ c.in-1.is), ← c.word-number.ensures) c.leaf-in-1.ensures

pub tree-returns-in_default : goal.tree-returns-in_default
unfolding text codes_from
tree-returns-in_default t c =
    let k : 2 ≤ c.word.result = omega arith in
    rw
    (tree_branch _ _ _ _ _ c.if-fuel-eq0.false (rw c.word.ensures at k), ← c.word-number.ensures, ← c.word-child.ensures, ← c.word-count.ensures)
    (chained (chained c.head.ensures c.children.ensures) c.byte.ensures)
