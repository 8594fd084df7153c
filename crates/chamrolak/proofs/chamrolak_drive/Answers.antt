-- `chamrolak::chamrolak_drive` refuses a token list with 18 and touches nothing, or answers: what `answer_all` ensures.
-- Assumes nothing.
use borrow.Author.Rules.{rules}
use mathlib.Core.Path.{sym, ◌∙◌}
use Rattle.refine.specs.Tokens.{Rooms}
use Rattle.tables.specs.Places.{call_tables}
use Rattle.chamrolak.specs.Reached.{refuses_tokens, fits, serves, left_in}
use Rattle.chamrolak.proofs.chamrolak_drive.Goals as goal

pub returns-then-not-tokens_fit : goal.returns-then-not-tokens_fit
returns-then-not-tokens_fit c = λ rights items sets. refuses_tokens _ _ _ _ _ (sym c.tokens_fit.ensures ∙ c.if-not-tokens_fit.true)

pub answer_all-requires : goal.answer_all-requires
answer_all-requires c = let x = c.args in (
  rw c.given-g.ensures
      (fits x.sizes.now x.actions x.gotos x.productions x.tokens x.origin c.depth_of-depth.result _
      (λ k. (c.type_inv.sizes k).fits)
      (λ k. (c.type_inv.tokens k).fits) c.ranges.origin.fits
      (sym c.tokens_fit.ensures ∙ c.if-not-tokens_fit.false) c.depth_of-depth.ensures.0),
  search rules,
)

pub returns : goal.returns
returns c = let x = c.args in
    let b : Rooms = record {
      stack = x.stack.now;
      scratch = x.scratch.now;
      nodes = x.nodes.now;
      children = x.children.now;
      records = x.records.now;
    } in
    λ rights items sets. left_in _ _ _ _ _ _ (search rules)
    ((rw c.given-g.ensures at c.answer_all.ensures.answer)
    (call_tables x.sizes.now x.actions.now x.gotos.now x.productions.now rights items sets)
    (serves x.sizes.now x.actions x.gotos x.productions x.tokens x.origin c.depth_of-depth.result b rights items sets
    c.depth_of-depth.ensures.0))
