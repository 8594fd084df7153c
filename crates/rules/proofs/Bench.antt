-- The starred bench examples of document 01, as one equation over one table of cases; the whole of `a a ;`; and the refusals.
-- Each side is computed from the definitions of `rules`.
use mathlib.Core.List.{List, [], ◌∷◌, ◌++◌, map}
use mathlib.Core.Path.{◌≡◌, refl}
use Prim.Native.Nat.{ℕ, suc}
use lib.ListN.{set, take, drop}
use Rattle.rules.specs.Basics.{text}
use Rattle.rules.specs.Tables.{Tables}
use Rattle.rules.specs.Answers.{Limits, Reply, number_of, roots_of, places_of, expected_of, counts_of, bytes_of}
use Rattle.rules.specs.File.{kinds_of, program_limits}
use Rattle.rules.specs.Verdict.{Passes, Refused}
use Rattle.rules.proofs.Opened.{judged, replied, written, lines_of}
use Rattle.rules.proofs.TableA.{tables, table_a, table_extra, table_early, table_bare, with_actions, with_gotos, with_productions, with_sets, with_items, sizes_a, actions_a, gotos_a, productions_a, rights_a, items_a, sets_a, file_a, minus}

-- "Token n spans n to n+1.": the words of a list of kinds; a is kind 0 and `;` kind 1
abbrev spelled : ℕ → List ℕ → List ℕ
spelled n [] = []
spelled n (k ∷ ks) = k ∷ n ∷ suc n ∷ spelled (suc n) ks

pub record Case : Type 0 where
  pub tables : Tables
  pub kinds : List ℕ
  pub limits : Limits

-- what 01 says of a run: number and root; token or location; expected kinds; units, nodes, child entries, records
abbrev shown : Tables → Reply → List (List ℕ)
shown T (Reply.refused number place) = (number ∷ place ∷ []) ∷ []
shown T (Reply.answered a r) = (number_of a ∷ roots_of a) ∷ places_of a ∷ kinds_of 0 (expected_of T a) ∷ counts_of r ∷ []

unfoldable pub outcome : Case → List (List ℕ)
unfolding replied written bytes_of
outcome c = shown c.tables (replied c.tables (bytes_of (spelled 0 c.kinds)) 0 c.limits)

-- the limits: budget, depth, child entries, nodes, records
abbrev within : ℕ → ℕ → ℕ → ℕ → ℕ → Limits
within budget depth children nodes records =
    record { budget = budget; depth = depth; children = children; nodes = nodes; records = records }

abbrev plenty : Limits
plenty = program_limits

abbrev case : Tables → List ℕ → Limits → Case
case tables kinds limits = record { tables = tables; kinds = kinds; limits = limits }

-- The starred lines, in 01's order.
pub starred :
    map outcome
    (case table_a [] plenty
    ∷ case table_a (0 ∷ 1 ∷ []) plenty
    ∷ case table_a (0 ∷ 1 ∷ []) (within 6 4 4 5 0)
    ∷ case table_a (0 ∷ 1 ∷ []) (within 5 4 4 5 0)
    ∷ case table_a (0 ∷ 1 ∷ []) (within 6 3 4 5 0)
    ∷ case table_a (0 ∷ 1 ∷ []) (within 6 4 3 5 0)
    ∷ case table_a (0 ∷ 1 ∷ []) (within 6 4 4 4 0)
    ∷ case table_a (1 ∷ []) plenty
    ∷ case table_a (1 ∷ []) (within 10 512 4096 1024 0)
    ∷ case table_a (0 ∷ 0 ∷ 1 ∷ []) plenty
    ∷ case table_a (0 ∷ []) plenty
    ∷ case table_a (0 ∷ 0 ∷ []) plenty
    ∷ case table_a (0 ∷ 7 ∷ []) plenty
    ∷ case table_a (0 ∷ 0 ∷ 7 ∷ []) plenty
    ∷ case table_extra (0 ∷ 1 ∷ 1 ∷ []) plenty
    ∷ case table_early (0 ∷ 1 ∷ 1 ∷ []) plenty
    ∷ [])
    ≡
    -- empty: 1, 2 units
    ((1 ∷ 0 ∷ []) ∷ [] ∷ [] ∷ (2 ∷ 1 ∷ 0 ∷ 0 ∷ []) ∷ [])
    -- `a ;`: 1, 6 units, 5 nodes, 4 child entries, depth 4
    ∷ ((1 ∷ 4 ∷ []) ∷ [] ∷ [] ∷ (6 ∷ 5 ∷ 4 ∷ 0 ∷ []) ∷ [])
    ∷ ((1 ∷ 4 ∷ []) ∷ [] ∷ [] ∷ (6 ∷ 5 ∷ 4 ∷ 0 ∷ []) ∷ [])
    -- budget 5: answer 19
    ∷ ((19 ∷ []) ∷ [] ∷ [] ∷ (5 ∷ 5 ∷ 4 ∷ 0 ∷ []) ∷ [])
    -- depth 3: 20 at unit 4
    ∷ ((20 ∷ []) ∷ [] ∷ [] ∷ (4 ∷ 3 ∷ 1 ∷ 0 ∷ []) ∷ [])
    -- child entries 3: 21 at unit 5
    ∷ ((21 ∷ []) ∷ [] ∷ [] ∷ (5 ∷ 4 ∷ 1 ∷ 0 ∷ []) ∷ [])
    -- nodes 4: 22 at unit 5
    ∷ ((22 ∷ []) ∷ [] ∷ [] ∷ (5 ∷ 4 ∷ 1 ∷ 0 ∷ []) ∷ [])
    -- `;`: 1, 10 units
    ∷ ((1 ∷ 4 ∷ []) ∷ [] ∷ [] ∷ (10 ∷ 5 ∷ 4 ∷ 1 ∷ []) ∷ [])
    -- with no record room: 23 at unit 6
    ∷ ((23 ∷ []) ∷ [] ∷ [] ∷ (6 ∷ 1 ∷ 0 ∷ 0 ∷ []) ∷ [])
    -- `a a ;`: 1, 16 units
    ∷ ((1 ∷ 5 ∷ []) ∷ [] ∷ [] ∷ (16 ∷ 6 ∷ 4 ∷ 1 ∷ []) ∷ [])
    -- `a`: 4, location 1, expected `;`, 8 units
    ∷ ((4 ∷ []) ∷ (1 ∷ []) ∷ (1 ∷ []) ∷ (8 ∷ 2 ∷ 0 ∷ 0 ∷ []) ∷ [])
    -- `a a`: 3 at token 1, 12 units
    ∷ ((3 ∷ []) ∷ (1 ∷ []) ∷ (1 ∷ []) ∷ (12 ∷ 2 ∷ 0 ∷ 0 ∷ []) ∷ [])
    -- `a` then kind 7: 3 at token 1, 2 units
    ∷ ((3 ∷ []) ∷ (1 ∷ []) ∷ (1 ∷ []) ∷ (2 ∷ 2 ∷ 0 ∷ 0 ∷ []) ∷ [])
    -- `a a` then 7: 3 at token 2, 8 units
    ∷ ((3 ∷ []) ∷ (2 ∷ []) ∷ (1 ∷ []) ∷ (8 ∷ 2 ∷ 0 ∷ 0 ∷ []) ∷ [])
    -- s1 and s5 `;` cells made -1 and -3, `a ; ;`: 5 at token 2, 6 units
    ∷ ((5 ∷ []) ∷ (2 ∷ []) ∷ [] ∷ (6 ∷ 5 ∷ 4 ∷ 0 ∷ []) ∷ [])
    -- p4 gone, s1 error cell -1, `a ; ;`: 2 at token 2, 7 units
    ∷ ((2 ∷ 4 ∷ []) ∷ (2 ∷ []) ∷ [] ∷ (7 ∷ 5 ∷ 4 ∷ 0 ∷ []) ∷ [])
    ∷ []
unfolding outcome table_a table_extra table_early with_actions
starred = refl

-- `a a ;`: "every word of nodes, child entries and records"
abbrev written_by : Reply → List (List ℕ)
written_by (Reply.refused number place) = []
written_by (Reply.answered a r) = written table_a r

pub words_of_a_a :
    written_by (replied table_a (bytes_of (spelled 0 (0 ∷ 0 ∷ 1 ∷ []))) 0 plenty)
    ≡
    bytes_of
    -- the empty L, at token 0
    (2 ∷ 1 ∷ 0 ∷ 0 ∷ 0 ∷ 0 ∷ 0 ∷ 0
    -- the first `a`, which the mark pops
    ∷ 0 ∷ 0 ∷ 0 ∷ 0 ∷ 0 ∷ 1 ∷ 0 ∷ 1
    -- the mark, over both
    ∷ 1 ∷ 0 ∷ 0 ∷ 0 ∷ 0 ∷ 2 ∷ 0 ∷ 2
    -- E over the mark
    ∷ 2 ∷ 4 ∷ 0 ∷ 1 ∷ 0 ∷ 2 ∷ 0 ∷ 2
    -- `;`
    ∷ 0 ∷ 2 ∷ 0 ∷ 0 ∷ 2 ∷ 3 ∷ 2 ∷ 3
    -- L over the three
    ∷ 2 ∷ 2 ∷ 1 ∷ 3 ∷ 0 ∷ 3 ∷ 0 ∷ 3
    ∷ [])
    ∷ bytes_of (2 ∷ 0 ∷ 3 ∷ 4 ∷ [])
    -- error 3 at token 1, tokens 0 to 2, dropped from 1, span 0 to 2, one kind expected: `;`
    ∷ bytes_of (3 ∷ 1 ∷ 0 ∷ 2 ∷ 1 ∷ 0 ∷ 2 ∷ 1 ∷ 2 ∷ 0 ∷ 0 ∷ 0 ∷ 0 ∷ 0 ∷ 0 ∷ 0 ∷ [])
    ∷ []
unfolding replied written table_a with_actions bytes_of
words_of_a_a = refl

-- `a a ;`: "whole output"; and of two more lines what the program prints
pub printed_of_a_a :
    lines_of (file_a (0 ∷ 0 ∷ 1 ∷ []))
    ≡ text "answer 1\nunits 16\ntree [1: [1: ], [2: !0], t2]\nmark 0 tokens 0 2 dropped 1 span 0 2 error 3 at 1 expected 1\n"
unfolding lines_of file_a
printed_of_a_a = refl

pub printed_of_nothing : lines_of (file_a []) ≡ text "answer 1\nunits 2\ntree [1: ]\n"
unfolding lines_of file_a
printed_of_nothing = refl

-- "so `a` on table A below prints `answer 4 1 1`"
pub printed_of_a : lines_of (file_a (0 ∷ [])) ≡ text "answer 4 1 1\nunits 8\n"
unfolding lines_of file_a
printed_of_a = refl

-- The refusals: "s3 `;` cell clamped to 0: 17, place 16. Made -5: 16, place 13. Last item removed: 17, place 15. s1 end cell 4: 11,
-- place 7." And table A and the two others of the runs pass.
pub verdicts :
    map judged
    (table_a
    ∷ table_extra
    ∷ table_early
    ∷ with_actions (set actions_a 13 0)
    ∷ with_actions (set actions_a 13 (minus 5))
    ∷ with_items 20 (take 80 items_a)
    ∷ with_actions (set actions_a 7 4)
    ∷ [])
    ≡ Passes ∷ Passes ∷ Passes ∷ Refused 17 16 ∷ Refused 16 13 ∷ Refused 17 15 ∷ Refused 11 7 ∷ []
unfolding judged table_a table_extra table_early with_actions with_items
verdicts = refl

-- Beyond the bench: each number, and each clause of it that a small change of table A can show.
pub refusals :
    map judged
    -- 10: flag 2; a set with kind 3
    (tables (set sizes_a 5 2) actions_a gotos_a productions_a rights_a items_a sets_a
    ∷ with_sets (set sets_a 1 13)
    -- 11: reduces production 5; a goto enters state 0; a negative goto
    ∷ with_actions (set actions_a 0 (minus 6))
    ∷ with_gotos (set gotos_a 1 1)
    ∷ with_gotos (set gotos_a 1 (minus 2))
    -- 12: production 0 over a terminal; nonterminal 0 left of production 1; nonterminal 0 on a right side
    ∷ with_productions productions_a (set rights_a 0 0)
    ∷ with_productions (set productions_a 2 0) rights_a
    ∷ with_productions productions_a (set rights_a 1 3)
    -- 13: L not nullable; L does not begin with a
    ∷ with_sets (set sets_a 33 0)
    ∷ with_sets (set sets_a 34 4)
    -- 14: a dot past the end; an item twice
    ∷ with_items 21 (set items_a 30 4)
    ∷ with_items 21 (set (set items_a 5 0) 7 3)
    -- 15: dot 1 in state 0; production 0 at dot 0 in state 1; state 3 is entered over a and not over error; no item (1, 3, 0)
    ∷ with_items 21 (set items_a 26 1)
    ∷ with_items 21 (set items_a 30 0)
    ∷ with_items 21 (set items_a 65 4)
    ∷ with_items 20 (take 44 items_a ++ drop 48 items_a)
    -- 17: (0, 0, 0, end) missing, at the item count
    ∷ table_bare
    ∷ [])
    ≡
    Refused 10 0
    ∷ Refused 10 0
    ∷ Refused 11 0
    ∷ Refused 11 25
    ∷ Refused 11 25
    ∷ Refused 12 0
    ∷ Refused 12 1
    ∷ Refused 12 2
    ∷ Refused 13 1
    ∷ Refused 13 2
    ∷ Refused 14 7
    ∷ Refused 14 1
    ∷ Refused 15 6
    ∷ Refused 15 7
    ∷ Refused 15 16
    ∷ Refused 15 15
    ∷ Refused 17 0
    ∷ []
unfolding judged with_actions with_gotos with_productions with_sets with_items table_bare
refusals = refl
