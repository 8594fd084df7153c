-- "The check, in this order, lowest place first". For each number a test at a place; the refusal is the first place at which
-- its test is false.
use Rattle.std.specs.Prelude.{Bool, true, false, ◌&&◌, ◌||◌, not, List, [], ◌∷◌, ℕ, zero, suc, ◌+◌, ◌*◌, ◌-◌, ◌/◌, ◌%◌, leb, ltb, eqb, length, drop}
use Rattle.words.specs.Words.{pick, word32}
use Rattle.rules.specs.declared.Cell.{Cell}
use Rattle.rules.specs.declared.Cell.TheVariants.{Shift, Reduce, Error}
use Rattle.rules.specs.Verdict.{Verdict, Passes, Refused}
use Rattle.rules.specs.Basics.{all_below, any_below, between}
use Rattle.rules.specs.Tables.{Tables, states, kinds, nonterminals, production_count, item_count, flag, end_column, columns, symbol_count, is_terminal, symbol_of, nonterminal_of, cell_at, action, goto, move, goes_to, is_shift, left, size, right_start, symbol, rhs, Item, item_at, nullable_byte, in_set, nullable, in_first}

-- the ends of the sizes
abbrev pub max_states : ℕ
max_states = 1024

abbrev pub max_tokens : ℕ
max_tokens = 4096

-- 10: "a size, flag or set bit is out of range, or a list's length disagrees with the sizes"
unfoldable pub sizes_fit : Tables → Bool
sizes_fit T =
    between 1 max_states (states T) && between 1 254 (kinds T) && between 1 255 (nonterminals T) && between 1 1024 (production_count T)
    && leb (item_count T) 65535 && leb (flag T) 1

unfoldable pub lengths_agree : Tables → Bool
lengths_agree T =
    eqb (length T.actions) (2 * (states T * columns T)) && eqb (length T.gotos) (2 * (states T * nonterminals T))
    && eqb (length T.productions) (4 * production_count T) && all_below (production_count T) (λ p. leb (size T p) 32)
    && eqb (length T.rights) (2 * right_start T (production_count T)) && eqb (length T.items) (8 * item_count T)
    && eqb (length T.sets) (33 * nonterminals T)

-- a nullable flag is 0 or 1, and no set has a kind past t
unfoldable pub set_fits : Tables → ℕ → Bool
set_fits T j = leb (nullable_byte T j) 1 && all_below 256 (λ k. leb k (kinds T) || not (in_set T j k))

unfoldable pub ok10 : Tables → ℕ → Bool
ok10 T place = eqb (length T.sizes) 12 && sizes_fit T && lengths_agree T && all_below (nonterminals T) (set_fits T)

-- 11: "a cell names no state or production, enters state 0, is positive at end of input, or is a negative goto"
unfoldable pub enters_well : Tables → ℕ → Bool
enters_well T s = not (eqb s 0) && ltb s (states T)

unfoldable pub action_fits : Tables → ℕ → Cell → Bool
action_fits T c (Shift s) = enters_well T s.0 && not (eqb c (end_column T))
action_fits T c (Reduce p) = ltb p.0 (production_count T)
action_fits T c Error = true

unfoldable pub goto_fits : Tables → Cell → Bool
goto_fits T (Shift s) = enters_well T s.0
goto_fits T (Reduce p) = false
goto_fits T Error = true

abbrev pub action_cells : Tables → ℕ
action_cells T = states T * columns T

abbrev pub goto_cells : Tables → ℕ
goto_cells T = states T * nonterminals T

-- "cell, gotos counted after all actions"
unfoldable pub ok11 : Tables → ℕ → Bool
ok11 T i =
    pick (ltb i (action_cells T)) (action_fits T (i % columns T) (cell_at T.actions i))
    (goto_fits T (cell_at T.gotos (i - action_cells T)))

-- 12: "a symbol or left side is out of range; nonterminal 0 is on a right side or left of another production; production 0 is
-- misshapen": it is "nonterminal 0 to one other nonterminal"
unfoldable pub symbol_fits : Tables → ℕ → Bool
symbol_fits T X = ltb X (symbol_count T) && not (eqb X (symbol_of T 0))

unfoldable pub left_fits : Tables → ℕ → Bool
left_fits T zero = eqb (left T 0) 0 && eqb (size T 0) 1 && not (is_terminal T (symbol T 0 0))
left_fits T (suc p) = not (eqb (left T (suc p)) 0) && ltb (left T (suc p)) (nonterminals T)

unfoldable pub ok12 : Tables → ℕ → Bool
ok12 T p = left_fits T p && all_below (size T p) (λ d. symbol_fits T (symbol T p d))

-- what a list of symbols can begin with, "by the given sets", and whether it can be nothing
unfoldable pub all_nullable : Tables → List ℕ → Bool
all_nullable T [] = true
all_nullable T (X ∷ β) = nullable T X && all_nullable T β

unfoldable pub begins_with : Tables → List ℕ → ℕ → Bool
begins_with T [] k = false
begins_with T (X ∷ β) k = in_first T X k || (nullable T X && begins_with T β k)

-- 13: "nullable flags or first sets are not closed under it"
unfoldable pub ok13 : Tables → ℕ → Bool
ok13 T p =
    (not (all_nullable T (rhs T p)) || nullable T (symbol_of T (left T p)))
    && all_below (kinds T + 1) (λ k. not (begins_with T (rhs T p) k) || in_first T (symbol_of T (left T p)) k)

-- 14: "an item is out of range, or the list is not strictly ascending"
unfoldable pub item_fits : Tables → Item → Bool
item_fits T x =
    ltb x.state (states T) && ltb x.production (production_count T) && leb x.dot (size T x.production)
    && leb x.lookahead (end_column T)

unfoldable pub before : Item → Item → Bool
before x y =
    ltb x.state y.state
    || (eqb x.state y.state
    && (ltb x.production y.production
    || (eqb x.production y.production
    && (ltb x.dot y.dot || (eqb x.dot y.dot && ltb x.lookahead y.lookahead)))))

unfoldable pub ascends : Tables → ℕ → Bool
ascends T zero = true
ascends T (suc i) = before (item_at T i) (item_at T (suc i))

unfoldable pub ok14 : Tables → ℕ → Bool
ok14 T i = item_fits T (item_at T i) && ascends T i

-- is there an item of this state, production and dot: with any lookahead, or with this one
unfoldable pub is_at : ℕ → ℕ → ℕ → Item → Bool
is_at s p d x = eqb x.state s && eqb x.production p && eqb x.dot d

unfoldable pub has_item : Tables → ℕ → ℕ → ℕ → Bool
has_item T s p d = any_below (item_count T) (λ i. is_at s p d (item_at T i))

unfoldable pub has_item_for : Tables → ℕ → ℕ → ℕ → ℕ → Bool
has_item_for T s p d a = any_below (item_count T) (λ i. is_at s p d (item_at T i) && eqb (item_at T i).lookahead a)

-- 15: "dot > 0 in state 0; production 0 at dot 0 elsewhere; or dot d > 0 and some shift or goto into its state is not over the
-- symbol before the dot, or comes from a state with no item of that production at d-1". Here the dot is d + 1.
unfoldable pub comes_well : Tables → ℕ → ℕ → ℕ → Bool
comes_well T s p d =
    all_below (states T) (λ r.
    all_below (symbol_count T) (λ X. not (goes_to (move T r X) s) || (eqb X (symbol T p d) && has_item T r p d)))

unfoldable pub dot_fits : Tables → ℕ → ℕ → ℕ → Bool
dot_fits T s p zero = not (eqb p 0) || eqb s 0
dot_fits T s p (suc d) = not (eqb s 0) && comes_well T s p d

unfoldable pub ok15 : Tables → ℕ → Bool
ok15 T i = dot_fits T (item_at T i).state (item_at T i).production (item_at T i).dot

-- 16: "a reduce cell's state has no item of that production with the dot at its end"
unfoldable pub reduce_fits : Tables → ℕ → Cell → Bool
reduce_fits T s (Shift to) = true
reduce_fits T s (Reduce p) = has_item T s p.0 (size T p.0)
reduce_fits T s Error = true

unfoldable pub ok16 : Tables → ℕ → Bool
ok16 T i = reduce_fits T (i / columns T) (cell_at T.actions i)

-- "each b that can begin what follows B and then a, by the given sets"
unfoldable pub can_begin : Tables → List ℕ → ℕ → ℕ → Bool
can_begin T β a b = begins_with T β b || (all_nullable T β && eqb b a)

-- "Before symbol X: the transition on X exists and its state has (p, d+1, a)."
unfoldable pub moves_on : Tables → Cell → ℕ → ℕ → ℕ → Bool
moves_on T (Shift s) p d a = has_item_for T s.0 p (suc d) a
moves_on T (Reduce q) p d a = false
moves_on T Error p d a = false

-- "Before nonterminal B: s also has (q, 0, b) for each production q of B and each b that can begin what follows B and then a"
unfoldable pub opens : Tables → ℕ → ℕ → List ℕ → ℕ → Bool
opens T s B β a =
    all_below (production_count T) (λ q.
    not (eqb (left T q) B) || all_below (columns T) (λ b. not (can_begin T β a b) || has_item_for T s q 0 b))

unfoldable pub follows_symbol : Tables → ℕ → ℕ → ℕ → ℕ → Bool
follows_symbol T s p d a =
    moves_on T (move T s (symbol T p d)) p d a
    && (is_terminal T (symbol T p d) || opens T s (nonterminal_of T (symbol T p d)) (drop (suc d) (rhs T p)) a)

-- "At the end: cell (s, a) reduces p."
unfoldable pub reduces : Cell → ℕ → Bool
reduces (Shift s) p = false
reduces (Reduce q) p = eqb q.0 p
reduces Error p = false

-- "At dot 0, p not 0: goto of p's left side exists in s."
unfoldable pub has_goto : Tables → ℕ → ℕ → ℕ → Bool
has_goto T s p d = not (eqb d 0) || eqb p 0 || is_shift (goto T s (left T p))

unfoldable pub follow_ups : Tables → ℕ → ℕ → ℕ → ℕ → Bool
follow_ups T s p d a =
    pick (ltb d (size T p)) (follows_symbol T s p d a) (reduces (action T s a) p) && has_goto T s p d

-- 17: "an item lacks its follow-up"; at the item count, "where (0, 0, 0, end) is missing, tested last"
unfoldable pub ok17 : Tables → ℕ → Bool
ok17 T i =
    pick (ltb i (item_count T))
    (follow_ups T (item_at T i).state (item_at T i).production (item_at T i).dot (item_at T i).lookahead)
    (has_item_for T 0 0 0 (end_column T))

-- the first of the n places from i on at which the test is false is refused; where there is none, the rest judges
unfoldable pub first_false : ℕ → (ℕ → Bool) → ℕ → ℕ → Verdict → Verdict
first_false number ok i zero rest = rest
first_false number ok i (suc n) rest =
    elim (ok i) [ true ↦ first_false number ok (suc i) n rest | false ↦ Refused number i ]

unfoldable pub judge : ℕ → (ℕ → Bool) → ℕ → Verdict → Verdict
judge number ok n rest = first_false number ok 0 n rest

-- "The check, in this order, lowest place first"
unfoldable pub check17 : Tables → Verdict
check17 T = judge 17 (ok17 T) (item_count T + 1) Passes

unfoldable pub check16 : Tables → Verdict
check16 T = judge 16 (ok16 T) (action_cells T) (check17 T)

unfoldable pub check15 : Tables → Verdict
check15 T = judge 15 (ok15 T) (item_count T) (check16 T)

unfoldable pub check14 : Tables → Verdict
check14 T = judge 14 (ok14 T) (item_count T) (check15 T)

unfoldable pub check13 : Tables → Verdict
check13 T = judge 13 (ok13 T) (production_count T) (check14 T)

unfoldable pub check12 : Tables → Verdict
check12 T = judge 12 (ok12 T) (production_count T) (check13 T)

unfoldable pub check11 : Tables → Verdict
check11 T = judge 11 (ok11 T) (action_cells T + goto_cells T) (check12 T)

unfoldable pub check : Tables → Verdict
check T = judge 10 (ok10 T) 1 (check11 T)

-- "Then 18: token list not triples of 32-bit words, a kind over 65,535, or over 4,096 tokens; place 0." Of the list's bytes.
unfoldable pub ok18 : List ℕ → Bool
ok18 s =
    eqb (length s % 12) 0 && leb (length s / 12) max_tokens
    && all_below (length s / 12) (λ i. leb (word32 s (12 * i)) 65535)
