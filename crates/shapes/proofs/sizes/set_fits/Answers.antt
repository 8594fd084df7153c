-- A set: its flag, and each bit.
-- Assumes nothing.
use borrow.Author.Rules.{rules}
use Rattle.std.specs.Prelude.{◌||◌, not, leb}
use Rattle.std.proofs.lemmas.Bool.{le-leb, lt-leb}
use Rattle.rules.specs.Tables.{kinds, in_set}
use Rattle.rules.specs.Check.{set_fits}
use Rattle.shapes.proofs.sizes.set_fits.Goals as goal

pub returns-then-nullable_byte-le1 : goal.returns-then-nullable_byte-le1
unfolding set_fits
returns-then-nullable_byte-le1 c =
    let T = c.args.t.now in
    rw (← c.nullable_byte.ensures, le-leb _ _ c.if-nullable_byte-le1.true)
    (c.all_below.ensures (λ k. leb k (kinds T) || not (in_set T c.args.nonterminal k)) (λ i b h e. search rules))

pub returns-else-nullable_byte-le1 : goal.returns-else-nullable_byte-le1
unfolding set_fits
returns-else-nullable_byte-le1 c = rw (← c.nullable_byte.ensures, lt-leb _ _ c.if-nullable_byte-le1.false)
