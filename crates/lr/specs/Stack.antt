-- The states on a stack are a path of transitions from state 0, and so an item of the top state walks down its production: a
-- reduction pops exactly its right side, never below the bottom, and the state below has the goto.
use Rattle.std.specs.Prelude.{List, [], ◌∷◌, ◌≡◌, refl, ℕ, zero, suc, ◌+◌, ◌-◌, ◌≤◌, ◌<◌, length, drop}
use Rattle.std.proofs.Common.{⊎_elim, sym, ap, ◌∙◌, arith, le-leb}
use Rattle.std.proofs.lemmas.Bool.{lt-leb}
use Rattle.rules.specs.declared.Cell.TheVariants.{Shift}
use Rattle.rules.specs.Tables.{Tables, kinds, production_count, is_terminal, symbol_of, nonterminal_of, action, goto, move, left, size, symbol, rhs}
use Rattle.rules.specs.Driving.{top_of}
use Rattle.lr.specs.Bools.{whether, pick_true, pick_false}
use Rattle.lr.specs.Checked.{Has, Moves, Enters, Laws}

-- ---- transitions

pub move_terminal : (T : Tables) (s X : ℕ) → X ≤ kinds T → move T s X ≡ action T s X
unfolding move
move_terminal T s X h = pick_true _ _ (le-leb X (kinds T) h)

pub move_nonterminal : (T : Tables) (s j : ℕ) → move T s (symbol_of T j) ≡ goto T s j
unfolding move
move_nonterminal T s j =
    let e : symbol_of T j - (kinds T + 1) ≡ j = omega arith in
    pick_false _ _ (lt-leb (symbol_of T j) (kinds T) (omega arith)) ∙ ap (λ n. goto T s n) e

pub moves_enter : {T : Tables} → Laws T → (r X s : ℕ) → Moves T r X s → Enters T s
unfolding move
moves_enter {T} L r X s e =
    ⊎_elim (λ t. L.shift_enters r X (sym (pick_true _ _ t) ∙ e)) (λ f. L.goto_enters r (nonterminal_of T X) (sym (pick_false _ _ f) ∙ e))
    (whether (is_terminal T X))

-- ---- a stack of states, the top first, with the symbols over which they were entered

pub data Along (T : Tables) : List ℕ → List ℕ → Type 0 where
  bottom : Along T [] []
  above : {ss Xs : List ℕ} {X s : ℕ} → Moves T (top_of ss) X s → Along T ss Xs → Along T (s ∷ ss) (X ∷ Xs)

-- the d symbols on top are production p's first d, the last of them on top
abbrev pub Behind : Tables → ℕ → ℕ → List ℕ → Type 0
Behind T p zero Xs = Unit
Behind T p (suc d) [] = ⊥
Behind T p (suc d) (X ∷ Xs) = (drop d (rhs T p) ≡ X ∷ drop (suc d) (rhs T p)) × Behind T p d Xs

-- what an item (p, d) of the top state says of the stack
pub record Walked (T : Tables) (ss Xs : List ℕ) (p d : ℕ) : Type 0 where
  pub fits : d ≤ length ss
  pub symbols : Behind T p d Xs
  pub lookahead : ℕ
  pub opened : Has T (top_of (drop d ss)) p 0 lookahead
  pub rest : Along T (drop d ss) (drop d Xs)

-- a state other than the bottom one is not state 0
pub only_bottom : {T : Tables} → Laws T → {ss Xs : List ℕ} → Along T ss Xs → top_of ss ≡ 0 → length ss ≡ 0
only_bottom L bottom e = refl
only_bottom L (above {ss = ss} {X = X} {s = s} m al) e = absurd ((moves_enter L (top_of ss) X s m).not_first e)

-- ---- what a reduce cell under the top state says of the stack

-- Production 0: it is the only symbol on the stack. Another: there are enough symbols, and the state below them has the goto.
pub record Reducible (T : Tables) (ss Xs : List ℕ) (p : ℕ) : Type 0 where
  pub fits : size T p ≤ length ss
  pub symbols : Behind T p (size T p) Xs
  pub production : p < production_count T
  pub to : ℕ
  pub goes : goto T (top_of (drop (size T p) ss)) (left T p) ≡ Shift (record { 0 = to })
  pub enters : Enters T to
  pub along : Along T (to ∷ drop (size T p) ss) (symbol_of T (left T p) ∷ drop (size T p) Xs)

-- "Production 0 is nonterminal 0 to one other nonterminal; reducing it accepts": over exactly that one symbol
pub record Whole (T : Tables) (ss Xs : List ℕ) : Type 0 where
  pub one : length ss ≡ 1
  pub symbols : Xs ≡ symbol T 0 0 ∷ []
