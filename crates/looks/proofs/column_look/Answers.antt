-- `looks::column_look` reduces by the error column: what `column_reduce` ensures of any call.
-- Assumes nothing.
use Rattle.model.specs.Model.{look, column_look}
use Rattle.looks.proofs.column_look.Goals as goal

pub returns-in-Reduce : goal.returns-in-Reduce
unfolding look column_look
returns-in-Reduce c = record {
  sure = c.column_reduce.ensures.sure c.args.g.now;
  decides = λ C scratch nodes children records a. rw (
    ← c.error_cell.ensures C a,
    c.in-Reduce.is,
  ) (c.column_reduce.ensures.decides C scratch nodes children records);
}
