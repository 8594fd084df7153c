use native.Mathlib.Omega.{arith}
use mathlib.Core.Path.{◌≡◌}
use Prim.Native.Nat.{◌+◌}
use Rattle.rules.specs.Check.{symbol_fits}
use Rattle.rules.specs.Tables.{kinds}
use Rattle.shapes.proofs.symbols.symbol_fits.Goals as goal

pub returns : goal.returns
unfolding symbol_fits
returns c =
    let T = c.args.t.now in
    let e : kinds T + 1 + 0 ≡ kinds T + 1 = omega arith in rw (e, ← c.kinds-first.ensures.value, ← c.nonterminals.ensures.value)
