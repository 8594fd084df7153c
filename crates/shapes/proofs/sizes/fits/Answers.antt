-- `sizes::fits`: the numbers and the lengths, and then the sets.
-- Assumes nothing.
use borrow.Author.Rules.{rules}
use mathlib.Core.Path.{◌≡◌}
use Rattle.std.specs.Prelude.{true, false, eqb, length}
use Rattle.std.proofs.lemmas.Bool.{eq-eqb, ne_eqb}
use Rattle.rules.specs.Check.{set_fits, ok10}
use Rattle.shapes.proofs.sizes.fits.Goals as goal

pub returns-then-lengths-ne12 : goal.returns-then-lengths-ne12
unfolding ok10
returns-then-lengths-ne12 c =
    let h : eqb (length c.args.t.now.sizes) 12 ≡ false = rw c.lengths.ensures at (ne_eqb _ _ c.if-lengths-ne12.true) in rw h

pub returns-then-not-sizes_fit : goal.returns-then-not-sizes_fit
unfolding ok10
returns-then-not-sizes_fit c =
    let h : eqb (length c.args.t.now.sizes) 12 ≡ true = rw c.lengths.ensures at (eq-eqb _ _ c.if-lengths-ne12.false) in
    rw (h, ← c.sizes_fit.ensures, c.if-not-sizes_fit.true)

pub returns-then-not-lengths_agree : goal.returns-then-not-lengths_agree
unfolding ok10
returns-then-not-lengths_agree c =
    let h : eqb (length c.args.t.now.sizes) 12 ≡ true = rw c.lengths.ensures at (eq-eqb _ _ c.if-lengths-ne12.false) in
    rw (h, ← c.sizes_fit.ensures, c.if-not-sizes_fit.false, ← c.lengths_agree.ensures, c.if-not-lengths_agree.true)

pub returns : goal.returns
unfolding ok10
returns c =
    let h : eqb (length c.args.t.now.sizes) 12 ≡ true = rw c.lengths.ensures at (eq-eqb _ _ c.if-lengths-ne12.false) in
    rw (
      h,
      ← c.sizes_fit.ensures,
      c.if-not-sizes_fit.false,
      ← c.lengths_agree.ensures,
      c.if-not-lengths_agree.false,
      ← c.nonterminals.ensures.value,
    )
    (c.all_below.ensures (set_fits c.args.t.now) (λ i b h e. search rules))
