-- `symbols::production_allowed`: the left side, and each symbol from the place at which the right side starts.
-- Assumes nothing.
use borrow.Author.Rules.{rules}
use Rattle.std.specs.Prelude.{◌+◌}
use Rattle.rules.specs.Check.{symbol_fits}
use Rattle.tables.specs.Rights.{symbol_in}
use Rattle.shapes.specs.Productions.{production_allowed}
use Rattle.shapes.proofs.symbols.production_allowed.Goals as goal

pub returns-then-left_fits : goal.returns-then-left_fits
unfolding production_allowed
returns-then-left_fits c =
    let T = c.args.t.now in
    rw (← c.symbol_at.ensures.value, ← c.left_fits.ensures, c.if-left_fits.true, ← c.size.ensures.value)
    (c.all_below.ensures (λ d. symbol_fits T (symbol_in T.rights (c.args.start + d))) (λ i b h e. search rules))

pub returns-else-left_fits : goal.returns-else-left_fits
unfolding production_allowed
returns-else-left_fits c = rw (← c.symbol_at.ensures.value, ← c.left_fits.ensures, c.if-left_fits.false)
