-- A tree falls to its children by its fuel, and children to a tree by an odd number above an even one. The loop's invariant: with the
-- children from the j-th on behind, all are written.
use Rattle.std.specs.Prelude.{◌+◌, ◌*◌}
use Rattle.printer.specs.Page.{Left}
use Rattle.printer.specs.TreeText.{children_text, children_left}
use Rattle.printer.proofs.Page.+children_tree.Given as goal

abbrev pub decreases-children : goal.decreases-children
decreases-children l = 2 * l.fuel + 1

abbrev pub decreases-tree : goal.decreases-tree
decreases-tree l = 2 * l.fuel

abbrev pub invariant-children-loop-j : goal.invariant-children-loop-j
invariant-children-loop-j l = Left l.initial.self (children_text l.count 0 l.trees.productions.now l.trees.nodes.now l.trees.children.now l.from l.fuel) l.self (children_left l.count l.trees.productions.now l.trees.nodes.now l.trees.children.now l.from l.fuel l.j)
