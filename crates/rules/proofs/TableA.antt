-- Table A of document 01's bench examples and its variants, as the seven payloads of a call.
use mathlib.Core.List.{List, [], ◌∷◌, ◌++◌}
use Prim.Native.Nat.{ℕ, suc, ◌-◌}
use lib.ListN.{length, set, replicate}
use Rattle.words.specs.Words.{le2, le4}
use Rattle.rules.specs.Tables.{Tables}

-- a list of 16-bit numbers as bytes
abbrev pub bytes16 : List ℕ → List ℕ
bytes16 [] = []
bytes16 (n ∷ ns) = le2 n ++ bytes16 ns

-- a negative cell's 16 bits
abbrev pub minus : ℕ → ℕ
minus n = 65536 - n

-- "kinds a, `;` (t = 2); nonterminals S, L, E": states, t, nonterminals, productions, items, flag
abbrev pub sizes_a : List ℕ
sizes_a = 6 ∷ 2 ∷ 3 ∷ 5 ∷ 21 ∷ 1 ∷ []

-- "Actions in columns a, `;`, error, end"
abbrev pub actions_a : List ℕ
actions_a =
    minus 2 ∷ 0 ∷ minus 2 ∷ minus 2
    ∷ 4 ∷ 0 ∷ 5 ∷ minus 1
    ∷ 0 ∷ 6 ∷ 0 ∷ 0
    ∷ 0 ∷ minus 4 ∷ 0 ∷ 0
    ∷ 0 ∷ minus 5 ∷ 0 ∷ 0
    ∷ minus 3 ∷ 0 ∷ minus 3 ∷ minus 3
    ∷ []

-- "Gotos: s0 L is 2, s1 E is 3."
abbrev pub gotos_a : List ℕ
gotos_a =
    0 ∷ 2 ∷ 0
    ∷ 0 ∷ 0 ∷ 3
    ∷ 0 ∷ 0 ∷ 0
    ∷ 0 ∷ 0 ∷ 0
    ∷ 0 ∷ 0 ∷ 0
    ∷ 0 ∷ 0 ∷ 0
    ∷ []

-- "p0 S to L, p1 L to nothing, p2 L to L E `;`, p3 E to a, p4 E to error": left side and length, and the right sides, in which a is
-- 0, `;` 1, error 2, S 3, L 4 and E 5
abbrev pub productions_a : List ℕ
productions_a = 0 ∷ 1 ∷ 1 ∷ 0 ∷ 1 ∷ 3 ∷ 2 ∷ 1 ∷ 2 ∷ 1 ∷ []

abbrev pub rights_a : List ℕ
rights_a = 4 ∷ 4 ∷ 5 ∷ 1 ∷ 0 ∷ 2 ∷ []

-- "It has 21 items."
abbrev pub items_a : List ℕ
items_a =
    0 ∷ 0 ∷ 0 ∷ 3
    ∷ 0 ∷ 1 ∷ 0 ∷ 0
    ∷ 0 ∷ 1 ∷ 0 ∷ 2
    ∷ 0 ∷ 1 ∷ 0 ∷ 3
    ∷ 0 ∷ 2 ∷ 0 ∷ 0
    ∷ 0 ∷ 2 ∷ 0 ∷ 2
    ∷ 0 ∷ 2 ∷ 0 ∷ 3
    ∷ 1 ∷ 0 ∷ 1 ∷ 3
    ∷ 1 ∷ 2 ∷ 1 ∷ 0
    ∷ 1 ∷ 2 ∷ 1 ∷ 2
    ∷ 1 ∷ 2 ∷ 1 ∷ 3
    ∷ 1 ∷ 3 ∷ 0 ∷ 1
    ∷ 1 ∷ 4 ∷ 0 ∷ 1
    ∷ 2 ∷ 2 ∷ 2 ∷ 0
    ∷ 2 ∷ 2 ∷ 2 ∷ 2
    ∷ 2 ∷ 2 ∷ 2 ∷ 3
    ∷ 3 ∷ 3 ∷ 1 ∷ 1
    ∷ 4 ∷ 4 ∷ 1 ∷ 1
    ∷ 5 ∷ 2 ∷ 3 ∷ 0
    ∷ 5 ∷ 2 ∷ 3 ∷ 2
    ∷ 5 ∷ 2 ∷ 3 ∷ 3
    ∷ []

-- 31 zero bytes: a set of 33 bytes is its nullable flag, the kinds 0 to 7, and these
abbrev pub none_above : List ℕ
none_above =
    0 ∷ 0 ∷ 0 ∷ 0 ∷ 0 ∷ 0 ∷ 0 ∷ 0 ∷ 0 ∷ 0 ∷ 0 ∷ 0 ∷ 0 ∷ 0 ∷ 0 ∷ 0 ∷ 0 ∷ 0 ∷ 0 ∷ 0 ∷ 0 ∷ 0 ∷ 0 ∷ 0 ∷ 0 ∷ 0 ∷ 0 ∷ 0 ∷ 0 ∷ 0 ∷ 0 ∷ []

-- S and L begin with nothing, a or error; E with a or error
abbrev pub sets_a : List ℕ
sets_a = (1 ∷ 5 ∷ none_above) ++ (1 ∷ 5 ∷ none_above) ++ (0 ∷ 5 ∷ none_above)

abbrev pub tables : List ℕ → List ℕ → List ℕ → List ℕ → List ℕ → List ℕ → List ℕ → Tables
tables sizes actions gotos productions rights items sets =
    record {
      sizes = bytes16 sizes;
      actions = bytes16 actions;
      gotos = bytes16 gotos;
      productions = bytes16 productions;
      rights = bytes16 rights;
      items = bytes16 items;
      sets = sets;
    }

-- table A with other action cells
unfoldable pub with_actions : List ℕ → Tables
with_actions actions = tables sizes_a actions gotos_a productions_a rights_a items_a sets_a

-- with other gotos
unfoldable pub with_gotos : List ℕ → Tables
with_gotos gotos = tables sizes_a actions_a gotos productions_a rights_a items_a sets_a

-- with other productions
unfoldable pub with_productions : List ℕ → List ℕ → Tables
with_productions productions rights = tables sizes_a actions_a gotos_a productions rights items_a sets_a

-- with other sets
unfoldable pub with_sets : List ℕ → Tables
with_sets sets = tables sizes_a actions_a gotos_a productions_a rights_a items_a sets

-- with other items
unfoldable pub with_items : ℕ → List ℕ → Tables
with_items count items = tables (set sizes_a 4 count) actions_a gotos_a productions_a rights_a items sets_a

unfoldable pub table_a : Tables
table_a = with_actions actions_a

-- "s1 and s5 `;` cells made -1 and -3"
unfoldable pub table_extra : Tables
table_extra = with_actions (set (set actions_a 5 (minus 1)) 21 (minus 3))

-- no transition, no item
unfoldable pub table_bare : Tables
table_bare = tables (set sizes_a 4 0) (replicate 24 0) (replicate 18 0) productions_a rights_a [] sets_a

-- "p4 and its items gone, s4 row 0, error no longer in first sets or lookaheads, s1 error cell -1"
unfoldable pub table_early : Tables
table_early =
    tables (6 ∷ 2 ∷ 3 ∷ 4 ∷ 14 ∷ 1 ∷ [])
    (minus 2 ∷ 0 ∷ minus 2 ∷ minus 2
    ∷ 4 ∷ 0 ∷ minus 1 ∷ minus 1
    ∷ 0 ∷ 6 ∷ 0 ∷ 0
    ∷ 0 ∷ minus 4 ∷ 0 ∷ 0
    ∷ 0 ∷ 0 ∷ 0 ∷ 0
    ∷ minus 3 ∷ 0 ∷ minus 3 ∷ minus 3
    ∷ [])
    gotos_a (0 ∷ 1 ∷ 1 ∷ 0 ∷ 1 ∷ 3 ∷ 2 ∷ 1 ∷ []) (4 ∷ 4 ∷ 5 ∷ 1 ∷ 0 ∷ [])
    (0 ∷ 0 ∷ 0 ∷ 3
    ∷ 0 ∷ 1 ∷ 0 ∷ 0
    ∷ 0 ∷ 1 ∷ 0 ∷ 3
    ∷ 0 ∷ 2 ∷ 0 ∷ 0
    ∷ 0 ∷ 2 ∷ 0 ∷ 3
    ∷ 1 ∷ 0 ∷ 1 ∷ 3
    ∷ 1 ∷ 2 ∷ 1 ∷ 0
    ∷ 1 ∷ 2 ∷ 1 ∷ 3
    ∷ 1 ∷ 3 ∷ 0 ∷ 1
    ∷ 2 ∷ 2 ∷ 2 ∷ 0
    ∷ 2 ∷ 2 ∷ 2 ∷ 3
    ∷ 3 ∷ 3 ∷ 1 ∷ 1
    ∷ 5 ∷ 2 ∷ 3 ∷ 0
    ∷ 5 ∷ 2 ∷ 3 ∷ 3
    ∷ [])
    ((1 ∷ 1 ∷ none_above) ++ (1 ∷ 1 ∷ none_above) ++ (0 ∷ 1 ∷ none_above))

-- a record of the file: "length (4 bytes, payload only), kind (2 bytes), payload"
abbrev pub file_record : ℕ → List ℕ → List ℕ
file_record kind payload = le4 (length payload) ++ le2 kind ++ payload

-- a file's tokens, "Token n spans n to n+1."
abbrev pub file_tokens : ℕ → List ℕ → List ℕ
file_tokens n [] = []
file_tokens n (k ∷ ks) = le2 k ++ le4 n ++ le4 (suc n) ++ file_tokens (suc n) ks

-- the file of table A with a list of kinds
unfoldable pub file_a : List ℕ → List ℕ
unfolding table_a with_actions
file_a kinds =
    file_record 1 table_a.sizes ++ file_record 2 table_a.actions ++ file_record 3 table_a.gotos ++ file_record 4 table_a.productions
    ++ file_record 5 table_a.rights ++ file_record 6 table_a.items ++ file_record 7 table_a.sets ++ file_record 8 (file_tokens 0 kinds)
