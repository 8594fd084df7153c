-- "Tables". The seven byte slices of a call, each the payload of its record kind in the file, and what stands in them.
-- Every reader is total: a place outside its table is an error cell, a missing goto, or 0.
use Rattle.std.specs.Prelude.{Bool, true, false, ◌&&◌, List, [], ◌∷◌, ℕ, zero, suc, ◌+◌, ◌*◌, ◌-◌, ◌/◌, ◌%◌, ◌^◌, leb, ltb, eqb, ℤ, pos, negsuc, get_or}
use Rattle.std.specs.Int.{w16}
use Rattle.std.proofs.Common.{to_z}
use Rattle.words.specs.Words.{pick, word16}
use Rattle.rules.specs.declared.Cell.{Cell}
use Rattle.rules.specs.declared.Cell.TheVariants.{Shift, Reduce, Error}

-- "In a call, table numbers are 16-bit and a set is 33 bytes, as in the file." Each field is a list of bytes.
pub record Tables : Type 0 where
  pub sizes : List ℕ
  pub actions : List ℕ
  pub gotos : List ℕ
  pub productions : List ℕ
  pub rights : List ℕ
  pub items : List ℕ
  pub sets : List ℕ

-- "Sizes: states, t, nonterminals, productions, items, flag."
unfoldable pub states : Tables → ℕ
states T = word16 T.sizes 0

unfoldable pub kinds : Tables → ℕ
kinds T = word16 T.sizes 2

unfoldable pub nonterminals : Tables → ℕ
nonterminals T = word16 T.sizes 4

unfoldable pub production_count : Tables → ℕ
production_count T = word16 T.sizes 6

unfoldable pub item_count : Tables → ℕ
item_count T = word16 T.sizes 8

unfoldable pub flag : Tables → ℕ
flag T = word16 T.sizes 10

-- "Columns 0..t-1 are user kinds, t is the error token, t+1 is end of input."
abbrev pub error_column : Tables → ℕ
error_column T = kinds T

abbrev pub end_column : Tables → ℕ
end_column T = kinds T + 1

abbrev pub columns : Tables → ℕ
columns T = kinds T + 2

-- "Symbols 0..t are terminals, t+1+j is nonterminal j."
abbrev pub symbol_count : Tables → ℕ
symbol_count T = kinds T + 1 + nonterminals T

abbrev pub is_terminal : Tables → ℕ → Bool
is_terminal T X = leb X (kinds T)

abbrev pub symbol_of : Tables → ℕ → ℕ
symbol_of T j = kinds T + 1 + j

abbrev pub nonterminal_of : Tables → ℕ → ℕ
nonterminal_of T X = X - (kinds T + 1)

-- "Cell i > 0 shifts to state i-1; i < 0 reduces production -(i+1); 0 is error." `negsuc n` is -(n+1).
abbrev pub cell_of : ℤ → Cell
cell_of (pos zero) = Error
cell_of (pos (suc n)) = Shift (record { 0 = n })
cell_of (negsuc n) = Reduce (record { 0 = n })

-- "Action cells are signed 16-bit": the cell whose number is at place i of a table of cells
unfoldable pub cell_at : List ℕ → ℕ → Cell
cell_at s i = cell_of (to_z w16 (word16 s (2 * i)))

-- "Action cells are signed 16-bit, by state."
unfoldable pub action : Tables → ℕ → ℕ → Cell
action T s c = pick (ltb s (states T) && ltb c (columns T)) (cell_at T.actions (s * columns T + c)) Error

-- "Goto cells, by state and nonterminal: g > 0 goes to g-1, 0 is none."
unfoldable pub goto : Tables → ℕ → ℕ → Cell
goto T s j = pick (ltb s (states T) && ltb j (nonterminals T)) (cell_at T.gotos (s * nonterminals T + j)) Error

-- the transition on a symbol: its shift, or its goto
unfoldable pub move : Tables → ℕ → ℕ → Cell
move T s X = pick (is_terminal T X) (action T s X) (goto T s (nonterminal_of T X))

-- does this cell go to that state
abbrev pub goes_to : Cell → ℕ → Bool
goes_to (Shift s) to = eqb s.0 to
goes_to (Reduce p) to = false
goes_to Error to = false

abbrev pub is_shift : Cell → Bool
is_shift (Shift s) = true
is_shift (Reduce p) = false
is_shift Error = false

abbrev pub is_error : Cell → Bool
is_error (Shift s) = false
is_error (Reduce p) = false
is_error Error = true

-- the state that a cell goes to; where it goes to none, state 0, which no transition of passing tables enters
abbrev pub target : Cell → ℕ
target (Shift s) = s.0
target (Reduce p) = 0
target Error = 0

-- "productions (left side, length)"; "Left sides are nonterminal numbers."
unfoldable pub left : Tables → ℕ → ℕ
left T p = word16 T.productions (4 * p)

unfoldable pub size : Tables → ℕ → ℕ
size T p = word16 T.productions (4 * p + 2)

-- the right sides stand one behind the other
unfoldable pub right_start : Tables → ℕ → ℕ
right_start T zero = 0
right_start T (suc p) = right_start T p + size T p

unfoldable pub symbol : Tables → ℕ → ℕ → ℕ
symbol T p d = word16 T.rights (2 * (right_start T p + d))

-- the symbols of production p from the dot d on, n of them
unfoldable pub symbols_from : Tables → ℕ → ℕ → ℕ → List ℕ
symbols_from T p d zero = []
symbols_from T p d (suc n) = symbol T p d ∷ symbols_from T p (suc d) n

unfoldable pub rhs : Tables → ℕ → List ℕ
rhs T p = symbols_from T p 0 (size T p)

-- "An item is (state, production, dot, lookahead column)."
pub record Item : Type 0 where
  pub state : ℕ
  pub production : ℕ
  pub dot : ℕ
  pub lookahead : ℕ

unfoldable pub item_at : Tables → ℕ → Item
item_at T i =
    record {
      state = word16 T.items (8 * i);
      production = word16 T.items (8 * i + 2);
      dot = word16 T.items (8 * i + 4);
      lookahead = word16 T.items (8 * i + 6);
    }

-- "Each nonterminal has a nullable flag and a first set of kinds 0..t." "A first set: nullable flag, then 32 bytes, kind k at
-- bit k mod 8 of byte k/8."
unfoldable pub nullable_byte : Tables → ℕ → ℕ
nullable_byte T j = get_or T.sets (33 * j) 0

unfoldable pub in_set : Tables → ℕ → ℕ → Bool
in_set T j k = eqb (get_or T.sets (33 * j + 1 + k / 8) 0 / 2 ^ (k % 8) % 2) 1

-- the same of a symbol: a terminal is not nullable, and begins with itself
unfoldable pub nullable : Tables → ℕ → Bool
nullable T X = pick (is_terminal T X) false (eqb (nullable_byte T (nonterminal_of T X)) 1)

unfoldable pub in_first : Tables → ℕ → ℕ → Bool
in_first T X k = pick (is_terminal T X) (eqb X k) (in_set T (nonterminal_of T X) k)
