-- `sizes::lengths_agree` tests each length against the sizes that it reads.
-- Assumes nothing.
use borrow.Author.Rules.{rules}
use mathlib.Core.Path.{sym, ◌∙◌}
use Rattle.std.specs.Prelude.{leb}
use Rattle.rules.specs.Tables.{size}
use Rattle.rules.specs.Check.{lengths_agree}
use Rattle.shapes.proofs.sizes.lengths_agree.Goals as goal

pub returns-then-not-tables : goal.returns-then-not-tables
unfolding lengths_agree
returns-then-not-tables c =
    let h = rw (c.lengths-found.ensures, c.states-states.ensures.value, c.kinds.ensures.value, c.nonterminals-nonterminals.ensures.value, c.production_count-count.ensures.value) at c.if-not-tables.true in
    rw h

pub returns-then-not-all_below : goal.returns-then-not-all_below
unfolding lengths_agree
returns-then-not-all_below c =
    let T = c.args.t.now in
    let h = rw (c.lengths-found.ensures, c.states-states.ensures.value, c.kinds.ensures.value, c.nonterminals-nonterminals.ensures.value, c.production_count-count.ensures.value) at c.if-not-tables.false in
    let s = sym (c.all_below.ensures (λ p. leb (size T p) 32) (λ i b h e. search rules)) ∙ c.if-not-all_below.true in
    rw (h, ← c.production_count-count.ensures.value, s)

pub returns : goal.returns
unfolding lengths_agree
returns c =
    let T = c.args.t.now in
    let h = rw (c.lengths-found.ensures, c.states-states.ensures.value, c.kinds.ensures.value, c.nonterminals-nonterminals.ensures.value, c.production_count-count.ensures.value) at c.if-not-tables.false in
    let s = sym (c.all_below.ensures (λ p. leb (size T p) 32) (λ i b h e. search rules)) ∙ c.if-not-all_below.false in
    rw (
      h,
      ← c.production_count-count.ensures.value,
      s,
      c.lengths-found.ensures,
      c.right_start.ensures.value,
      c.item_count.ensures.value,
      c.nonterminals-nonterminals.ensures.value,
    )
