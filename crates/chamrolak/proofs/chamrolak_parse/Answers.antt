-- `chamrolak::chamrolak_parse` refuses the tables and touches nothing, or drives: the rules' whole reply.
-- Assumes nothing.
use mathlib.Core.Path.{sym, ◌∙◌}
use Rattle.chamrolak.specs.Reached.{refuses_tables, drives}
use Rattle.chamrolak.proofs.chamrolak_parse.Goals as goal

pub returns-in-Ok : goal.returns-in-Ok
returns-in-Ok c =
    let e = rw c.new-tables.ensures at c.check.ensures in
    drives _ _ _ _ _ _ _ (sym e ∙ c.in-Ok.is) (c.chamrolak_drive.ensures _ _ _)

pub returns-in-Err : goal.returns-in-Err
returns-in-Err c =
    let e = rw c.new-tables.ensures at c.check.ensures in
    rw c.from.ensures (refuses_tables _ _ _ _ _ _ _ (sym e ∙ c.in-Err.is))
