-- `tables::cell_in` is the cell at its row and column: outside by either test, and inside by `cell_at`.
-- Assumes nothing.
use borrow.Author.Rules.{rules}
use mathlib.Core.Path.{sym, ◌∙◌}
use native.Mathlib.Omega.{arith}
use Rattle.tables.specs.Readers.{below_rows, beside_columns, inside, row_lt}
use Rattle.tables.proofs.cell_in.Goals as goal

pub returns-then-rows-row : goal.returns-then-rows-row
returns-then-rows-row c = sym (below_rows _ _ _ _ _ (search rules))

pub returns-then-width-column : goal.returns-then-width-column
returns-then-width-column c = sym (beside_columns _ _ _ _ _ (search rules) (search rules))

pub overflow_mul-row : goal.overflow_mul-row
overflow_mul-row c =
    let a = c.args in
    omega (arith, row_lt a.rows a.width a.row (search rules) (search rules) (search rules))

pub overflow_add-row : goal.overflow_add-row
overflow_add-row c =
    let a = c.args in
    omega (arith, row_lt a.rows a.width a.row (search rules) (search rules) (search rules))

pub cell_at-requires : goal.cell_at-requires
cell_at-requires c =
    let a = c.args in
    omega (arith, row_lt a.rows a.width a.row (search rules) (search rules) (search rules))

pub returns : goal.returns
returns c = c.cell_at.ensures ∙ sym (inside _ _ _ _ _ (search rules) (search rules))
