-- `moves::fail` goes by the flag: with recovery the error is kept for the column mode, and without it is the answer.
-- Assumes nothing.
use Rattle.model.specs.Model.{fail}
use Rattle.moves.proofs.fail.Goals as goal

pub returns-then-g : goal.returns-then-g
unfolding fail
returns-then-g c = λ C stack scratch nodes children records r. rw (r, c.if-g.true, c.failing.ensures)

pub returns : goal.returns
unfolding fail
returns c = λ C stack scratch nodes children records r. rw (
  r,
  c.if-g.false,
  c.ended.ensures,
  c.answer_of.ensures,
)
