-- `symbols::scan12`: each production is tested where its right side starts.
-- Assumes nothing.
use borrow.Author.Rules.{rules}
use Rattle.rules.specs.Check.{ok12}
use Rattle.shapes.specs.Productions.{allowed_same}
use Rattle.shapes.proofs.symbols.scan12.Goals as goal

pub returns : goal.returns
returns c = c.first_bad_production.ensures (ok12 c.args.t.now) (λ p b h e. rw (← allowed_same c.args.t.now p) (search rules))
