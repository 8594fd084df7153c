-- The rules' readers over single slices: what the functions of this crate are proved equal to.
-- `action` and `goto` of the rules are `cell_in` at their table's sizes, by definition.
use Rattle.std.specs.Prelude.{◌&&◌, List, ◌≡◌, refl, ℕ, ◌+◌, ◌*◌, ◌-◌, ◌<◌, ◌≤◌, ◌^◌, ltb}
use Rattle.std.proofs.Common.{le_of_lt, mul-le-mul, arith}
use borrow.Author.Tests.{lt-ltb, le-ltb, le-leb, lt-leb}
use Rattle.words.specs.Words.{pick}
use Rattle.rules.specs.declared.Cell.{Cell}
use Rattle.rules.specs.declared.Cell.TheVariants.{Error}
use Rattle.rules.specs.Tables.{Tables, states, kinds, nonterminals, columns, cell_at, action, goto, move}

-- the cell at a row and a column, an error cell outside
unfoldable pub cell_in : List ℕ → ℕ → ℕ → ℕ → ℕ → Cell
cell_in table rows width row column = pick (ltb row rows && ltb column width) (cell_at table (row * width + column)) Error

pub action_in_law : (T : Tables) (s c : ℕ) → action T s c ≡ cell_in T.actions (states T) (columns T) s c
unfolding action cell_in
action_in_law T s c = refl

pub goto_in_law : (T : Tables) (s j : ℕ) → goto T s j ≡ cell_in T.gotos (states T) (nonterminals T) s j
unfolding goto cell_in
goto_in_law T s j = refl

-- where the place lies, and how large it can be: what the code needs to know
module _ (table : List ℕ) (rows width row column : ℕ) where
  pub below_rows : rows ≤ row → cell_in table rows width row column ≡ Error
  unfolding cell_in
  below_rows h = simp (le-ltb _ _ h)

  pub beside_columns : row < rows → width ≤ column → cell_in table rows width row column ≡ Error
  unfolding cell_in
  beside_columns h k = simp (lt-ltb _ _ h, le-ltb _ _ k)

  pub inside : row < rows → column < width → cell_in table rows width row column ≡ cell_at table (row * width + column)
  unfolding cell_in
  inside h k = simp (lt-ltb _ _ h, lt-ltb _ _ k)

pub row_lt : (rows width row : ℕ) → rows < 2 ^ 17 → width < 2 ^ 17 → row < rows → row * width < 2 ^ 35
row_lt rows width row r w h =
    let k : row ≤ 2 ^ 17 = omega arith in omega (arith, mul-le-mul k (le_of_lt w))

-- ---- the rules' readers from what the code reads: the sizes' numbers, and the cell

pub action_read : (T : Tables) (n t s c : ℕ) (r : Cell) → n ≡ states T → t ≡ kinds T → r ≡ cell_in T.actions n (t + 2) s c → r ≡ action T s c
action_read T n t s c r e f h = rw (action_in_law, ← e, ← f) h

pub goto_read : (T : Tables) (n m s j : ℕ) (r : Cell) → n ≡ states T → m ≡ nonterminals T → r ≡ cell_in T.gotos n m s j → r ≡ goto T s j
goto_read T n m s j r e f h = rw (goto_in_law, ← e, ← f) h

module _ (T : Tables) (s X : ℕ) where
  pub move_terminal : X ≤ kinds T → move T s X ≡ action T s X
  unfolding move
  move_terminal h = simp (le-leb _ _ h)

  pub move_nonterminal : kinds T < X → move T s X ≡ goto T s (X - (kinds T + 1))
  unfolding move
  move_nonterminal h = simp (lt-leb _ _ h)
