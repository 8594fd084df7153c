-- The places of 11: "cell, gotos counted after all actions". Where the sizes fit they are few.
use Rattle.std.specs.Prelude.{ℕ, ◌+◌, ◌<◌, ◌≤◌, ◌^◌}
use Rattle.std.proofs.Common.{arith, mul-le-mul}
use Rattle.rules.specs.Tables.{Tables, states, kinds, nonterminals}
use Rattle.rules.specs.Check.{action_cells, goto_cells}
use Rattle.tables.specs.Fit.{Fit}

abbrev pub cell_count : Tables → ℕ
cell_count T = action_cells T + goto_cells T

pub cells_few : (T : Tables) → Fit T → cell_count T < 2 ^ 32
cells_few T f =
    let hs : states T ≤ 1024 = f.states_few in
    let ht : kinds T + 2 ≤ 256 = let k = f.kinds_few in omega arith in
    let hj : nonterminals T ≤ 255 = f.nonterminals_few in omega (arith, mul-le-mul hs ht, mul-le-mul hs hj)
