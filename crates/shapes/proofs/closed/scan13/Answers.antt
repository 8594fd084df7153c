-- `closed::scan13`: each production is tested where its right side starts.
-- Assumes nothing.
use borrow.Author.Rules.{rules}
use Rattle.rules.specs.Check.{ok13}
use Rattle.shapes.specs.Productions.{closed_same}
use Rattle.shapes.proofs.closed.scan13.Goals as goal

pub returns : goal.returns
returns c = c.first_bad_production.ensures (ok13 c.args.t.now) (λ p b h e. rw (← closed_same c.args.t.now p) (search rules))
