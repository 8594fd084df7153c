-- What tables that pass the check satisfy, in the form that the theory uses: one law for each sentence of 10 to 17.
-- Each comes from the test that the check makes at one place, by the lemmas of `Bools`.
use Rattle.std.proofs.Math.Bool.{Bool, true, false, not}
use Rattle.std.specs.Prelude.{◌&&◌, ◌||◌, List, [], ◌∷◌, ◌≢◌, ◌≡◌, length, drop}
use Rattle.std.proofs.Math.Logic.{⊎_elim, by_cases}
use Rattle.std.proofs.Math.Path.{refl, sym, ap, subst}
use Rattle.std.proofs.Common.{◌∙◌, mul-le-mul_right, drop_of_length-le}
use Prim.Native.Nat.{ℕ, zero, suc, ◌+◌, ◌*◌, ◌-◌, ◌/◌, ◌%◌, ◌≤◌, ◌<◌}
use Rattle.std.proofs.Math.Nat.{mul-add-mod_self_right, mul-add-div_right, mod-eq_of_lt, div-eq_of_lt, add-zero}
use native.Mathlib.Omega.{arith}
use Rattle.std.proofs.Math.Decide.{dec_lt}
use Rattle.std.proofs.Math.Dec.{leb, ltb, eqb}
use borrow.Author.Tests.{ltb-true, leb-true, leb-false, eqb-true, eqb-false, not-true, lt-ltb, le-ltb, lt-leb, eq-eqb, ne_eqb}
use Rattle.words.specs.Words.{pick}
use Rattle.rules.specs.declared.Cell.{Cell}
use Rattle.rules.specs.declared.Cell.TheVariants.{Shift, Reduce, Error}
use Rattle.rules.specs.declared.StateNo.{StateNo}
use Rattle.rules.specs.declared.ProdNo.{ProdNo}
use Rattle.rules.specs.Verdict.{Passes, Refused}
use Rattle.rules.specs.Basics.{all_below, between}
use Rattle.rules.specs.Tables.{Tables, states, kinds, nonterminals, production_count, item_count, flag, end_column, columns, symbol_count, is_terminal, symbol_of, nonterminal_of, cell_at, action, goto, move, goes_to, is_shift, left, size, symbol, rhs, symbols_from, Item, item_at, nullable, in_first}
use Rattle.rules.specs.Check.{max_states, sizes_fit, lengths_agree, set_fits, ok10, enters_well, action_fits, goto_fits, action_cells, goto_cells, ok11, symbol_fits, left_fits, ok12, all_nullable, begins_with, ok13, item_fits, ok14, is_at, has_item, has_item_for, comes_well, dot_fits, ok15, reduce_fits, ok16, can_begin, moves_on, opens, follows_symbol, reduces, has_goto, follow_ups, ok17, check17, check16, check15, check14, check13, check12, check11, check}
use Rattle.lr.specs.Bools.{whether, not_both, and_left, and_right, or_cases, implied, pick_true, pick_false, all_below_law, any_below_law, Row, judge_all, AllHold, FirstBad, all_of_passes, bad_of_refused, passes_of}

-- "The check, in this order": its numbers, tests and places
abbrev pub rows : Tables → List Row
rows T =
    record { number = 10; test = ok10 T; places = 1 }
    ∷ record { number = 11; test = ok11 T; places = action_cells T + goto_cells T }
    ∷ record { number = 12; test = ok12 T; places = production_count T }
    ∷ record { number = 13; test = ok13 T; places = production_count T }
    ∷ record { number = 14; test = ok14 T; places = item_count T }
    ∷ record { number = 15; test = ok15 T; places = item_count T }
    ∷ record { number = 16; test = ok16 T; places = action_cells T }
    ∷ record { number = 17; test = ok17 T; places = item_count T + 1 }
    ∷ []

pub check_rows : (T : Tables) → check T ≡ judge_all (rows T)
unfolding check check11 check12 check13 check14 check15 check16 check17
check_rows T = refl

-- ---- the words of the laws

-- state s has item (p, d) with lookahead a
pub record Has (T : Tables) (s p d a : ℕ) : Type 0 where
  pub index : ℕ
  pub inside : index < item_count T
  pub in_state : (item_at T index).state ≡ s
  pub of_production : (item_at T index).production ≡ p
  pub at_dot : (item_at T index).dot ≡ d
  pub with_lookahead : (item_at T index).lookahead ≡ a

-- the transition on X, a shift or a goto, leads from r to s
abbrev pub Moves : Tables → ℕ → ℕ → ℕ → Type 0
Moves T r X s = move T r X ≡ Shift (record { 0 = s })

-- a state that a transition may enter
pub record Enters (T : Tables) (s : ℕ) : Type 0 where
  pub not_first : s ≢ 0
  pub known : s < states T

pub record ItemIn (T : Tables) (s p d a : ℕ) : Type 0 where
  pub state_in_law : s < states T
  pub production_in_law : p < production_count T
  pub dot_in_law : d ≤ size T p
  pub lookahead_in_law : a ≤ end_column T

-- ---- tests as laws

-- an item that a test finds
pub found : (T : Tables) (s p d a : ℕ) → has_item_for T s p d a ≡ true → Has T s p d a
unfolding has_item_for is_at
found T s p d a e =
    let r = any_below_law (item_count T) _ e in
    let x : Item = item_at T r.0 in
    let u = and_left (eqb x.state s && eqb x.production p && eqb x.dot d) (eqb x.lookahead a) r.2 in
    let v = and_left (eqb x.state s && eqb x.production p) (eqb x.dot d) u in
    record {
      index = r.0;
      inside = r.1;
      in_state = eqb-true _ _ (and_left (eqb x.state s) (eqb x.production p) v);
      of_production = eqb-true _ _ (and_right (eqb x.state s) (eqb x.production p) v);
      at_dot = eqb-true _ _ (and_right (eqb x.state s && eqb x.production p) (eqb x.dot d) u);
      with_lookahead = eqb-true _ _ (and_right (eqb x.state s && eqb x.production p && eqb x.dot d) (eqb x.lookahead a) r.2);
    }

pub found_any : (T : Tables) (s p d : ℕ) → has_item T s p d ≡ true → (a : ℕ) × Has T s p d a
unfolding has_item is_at
found_any T s p d e =
    let r = any_below_law (item_count T) _ e in
    let x : Item = item_at T r.0 in
    let v = and_left (eqb x.state s && eqb x.production p) (eqb x.dot d) r.2 in (
      x.lookahead,
      record {
        index = r.0;
        inside = r.1;
        in_state = eqb-true _ _ (and_left (eqb x.state s) (eqb x.production p) v);
        of_production = eqb-true _ _ (and_right (eqb x.state s) (eqb x.production p) v);
        at_dot = eqb-true _ _ (and_right (eqb x.state s && eqb x.production p) (eqb x.dot d) r.2);
        with_lookahead = refl;
      },
    )

-- a cell that is not an error lies inside its table
action_in_law : (T : Tables) (s c : ℕ) (x : Cell) → action T s c ≡ x → (x ≡ Error → ⊥) → (s < states T) × (c < columns T) × (cell_at T.actions (s * columns T + c) ≡ x)
unfolding action
action_in_law T s c x e ne =
    ⊎_elim
    (λ t. (ltb-true _ _ (and_left (ltb s (states T)) (ltb c (columns T)) t), ltb-true _ _ (and_right (ltb s (states T)) (ltb c (columns T)) t), sym (pick_true _ Error t) ∙ e))
    (λ f. absurd (ne (sym e ∙ pick_false (cell_at T.actions (s * columns T + c)) Error f)))
    (whether (ltb s (states T) && ltb c (columns T)))

goto_in_law : (T : Tables) (s j : ℕ) (x : Cell) → goto T s j ≡ x → (x ≡ Error → ⊥) → (s < states T) × (j < nonterminals T) × (cell_at T.gotos (s * nonterminals T + j) ≡ x)
unfolding goto
goto_in_law T s j x e ne =
    ⊎_elim
    (λ t. (ltb-true _ _ (and_left (ltb s (states T)) (ltb j (nonterminals T)) t), ltb-true _ _ (and_right (ltb s (states T)) (ltb j (nonterminals T)) t), sym (pick_true _ Error t) ∙ e))
    (λ f. absurd (ne (sym e ∙ pick_false (cell_at T.gotos (s * nonterminals T + j)) Error f)))
    (whether (ltb s (states T) && ltb j (nonterminals T)))

-- the place of a cell in its table, by state and column
place_in : (s c m n : ℕ) → s < m → c < n → s * n + c < m * n
place_in s c m n h k = omega (arith, mul-le-mul_right {m = suc s} {n = m} n h)

shift_not_error : (s : StateNo) → ◌≡◌ {A = Cell} (Shift s) Error → ⊥
shift_not_error s e = let z : ◌≡◌ {A = ℕ} 0 1 = cc in omega arith

reduce_not_error : (p : ProdNo) → ◌≡◌ {A = Cell} (Reduce p) Error → ⊥
reduce_not_error p e = let z : ◌≡◌ {A = ℕ} 0 1 = cc in omega arith

-- ---- the dot: what stands behind it

length_symbols : (T : Tables) (p d n : ℕ) → length (symbols_from T p d n) ≡ n
unfolding symbols_from
length_symbols T p d zero = refl
length_symbols T p d (suc n) = ap suc (length_symbols T p (suc d) n)

pub length_rhs : (T : Tables) (p : ℕ) → length (rhs T p) ≡ size T p
unfolding rhs
length_rhs T p = length_symbols T p 0 (size T p)

drop_symbols : (T : Tables) (p e d n : ℕ) → d < n → drop d (symbols_from T p e n) ≡ symbol T p (e + d) ∷ drop (suc d) (symbols_from T p e n)
unfolding symbols_from
drop_symbols T p e d zero h = absurd (omega arith)
drop_symbols T p e zero (suc n) h = rw add-zero
drop_symbols T p e (suc d) (suc n) h =
    let q : e + suc d ≡ suc e + d = omega arith in rw q (drop_symbols T p (suc e) d n (omega arith))

pub dot_before : (T : Tables) (p d : ℕ) → d < size T p → drop d (rhs T p) ≡ symbol T p d ∷ drop (suc d) (rhs T p)
unfolding rhs
dot_before T p d h = let q : 0 + d ≡ d = omega arith in rw q at (drop_symbols T p 0 d (size T p) h)

pub dot_inside : (T : Tables) (p d X : ℕ) (β : List ℕ) → drop d (rhs T p) ≡ X ∷ β → d < size T p
dot_inside T p d X β e =
    by_cases (dec_lt d (size T p)) (λ h. h)
    (λ h. let n : drop d (rhs T p) ≡ [] = drop_of_length-le (rhs T p) {i = d} (rw length_rhs (omega arith)) in
    let z : ◌≡◌ {A = ℕ} 0 1 = cc in absurd (omega arith))

pub dot_behind : (T : Tables) (p d X : ℕ) (β : List ℕ) → drop d (rhs T p) ≡ X ∷ β → drop (suc d) (rhs T p) ≡ β
dot_behind T p d X β e = let n = dot_before T p d (dot_inside T p d X β e) in cc

pub dot_at_end : (T : Tables) (p d : ℕ) → d ≤ size T p → drop d (rhs T p) ≡ [] → d ≡ size T p
dot_at_end T p d h e =
    by_cases (dec_lt d (size T p))
    (λ k. let n = dot_before T p d k in let z : ◌≡◌ {A = ℕ} 0 1 = cc in absurd (omega arith))
    (λ k. omega arith)

module _ (T : Tables) (ok : check T ≡ Passes) where
  all : AllHold (rows T)
  all = all_of_passes (rows T) (sym (check_rows T) ∙ ok)

  -- 10
  sizes_fit_law : sizes_fit T ≡ true
  unfolding ok10
  sizes_fit_law = and_right (eqb (length T.sizes) 12) (sizes_fit T) (and_left _ (lengths_agree T) (and_left _ (all_below (nonterminals T) (set_fits T)) (all.0 0 (omega arith))))

  first_sizes : (between 1 max_states (states T) && between 1 254 (kinds T) && between 1 255 (nonterminals T) && between 1 1024 (production_count T)) ≡ true
  unfolding sizes_fit
  first_sizes = and_left _ (leb (item_count T) 65535) (and_left _ (leb (flag T) 1) sizes_fit_law)

  kinds_small : kinds T ≤ 254
  kinds_small =
      leb-true (kinds T) 254
      (and_right (leb 1 (kinds T)) (leb (kinds T) 254)
      (and_right (between 1 max_states (states T)) (between 1 254 (kinds T))
      (and_left _ (between 1 255 (nonterminals T)) (and_left _ (between 1 1024 (production_count T)) first_sizes))))

  some_production : 1 ≤ production_count T
  some_production =
      leb-true 1 (production_count T)
      (and_left (leb 1 (production_count T)) (leb (production_count T) 1024)
      (and_right (between 1 max_states (states T) && between 1 254 (kinds T) && between 1 255 (nonterminals T)) (between 1 1024 (production_count T)) first_sizes))

  -- 11: what a cell of passing tables may be
  action_fits_law : (s c : ℕ) (x : Cell) → action T s c ≡ x → (x ≡ Error → ⊥) → action_fits T c x ≡ true
  unfolding ok11
  action_fits_law s c x e ne =
      let r = action_in_law T s c x e ne in
      let i : s * columns T + c < action_cells T = place_in s c (states T) (columns T) r.0 r.1 in
      let h = all.1.0 (s * columns T + c) (omega arith) in
      let g = sym (pick_true (action_fits T ((s * columns T + c) % columns T) (cell_at T.actions (s * columns T + c))) _ (lt-ltb (s * columns T + c) (action_cells T) i)) ∙ h in
      let m : (s * columns T + c) % columns T ≡ c = mul-add-mod_self_right s (columns T) c ∙ mod-eq_of_lt r.1 in
      subst (λ y. action_fits T c y ≡ true) r.2 (subst (λ k. action_fits T k (cell_at T.actions (s * columns T + c)) ≡ true) m g)

  goto_fits_law : (s j : ℕ) (x : Cell) → goto T s j ≡ x → (x ≡ Error → ⊥) → goto_fits T x ≡ true
  unfolding ok11
  goto_fits_law s j x e ne =
      let r = goto_in_law T s j x e ne in
      let i : s * nonterminals T + j < goto_cells T = place_in s j (states T) (nonterminals T) r.0 r.1 in
      let at : ℕ = action_cells T + (s * nonterminals T + j) in
      let h = all.1.0 at (omega arith) in
      let g = sym (pick_false _ (goto_fits T (cell_at T.gotos (at - action_cells T))) (le-ltb at (action_cells T) (omega arith))) ∙ h in
      let m : at - action_cells T ≡ s * nonterminals T + j = omega arith in
      subst (λ y. goto_fits T y ≡ true) r.2 (subst (λ k. goto_fits T (cell_at T.gotos k) ≡ true) m g)

  enters : (s : ℕ) → enters_well T s ≡ true → Enters T s
  unfolding enters_well
  enters s e =
      record {
        not_first = eqb-false s 0 (not-true (eqb s 0) (and_left (not (eqb s 0)) (ltb s (states T)) e));
        known = ltb-true s (states T) (and_right (not (eqb s 0)) (ltb s (states T)) e);
      }

  shift_enters : (s c : ℕ) (n : StateNo) → action T s c ≡ Shift n → Enters T n.0
  unfolding action_fits
  shift_enters s c n e =
      enters n.0 (and_left (enters_well T n.0) (not (eqb c (end_column T))) (action_fits_law s c (Shift n) e (shift_not_error n)))

  shift_not_at_end : (s c : ℕ) (n : StateNo) → action T s c ≡ Shift n → c ≢ end_column T
  unfolding action_fits
  shift_not_at_end s c n e =
      eqb-false c (end_column T)
      (not-true (eqb c (end_column T)) (and_right (enters_well T n.0) (not (eqb c (end_column T))) (action_fits_law s c (Shift n) e (shift_not_error n))))

  goto_enters : (s j : ℕ) (n : StateNo) → goto T s j ≡ Shift n → Enters T n.0
  unfolding goto_fits
  goto_enters s j n e = enters n.0 (goto_fits_law s j (Shift n) e (shift_not_error n))

  goto_no_reduce : (s j : ℕ) (p : ProdNo) → goto T s j ≡ Reduce p → ⊥
  unfolding goto_fits
  goto_no_reduce s j p e = not_both (goto_fits_law s j (Reduce p) e (reduce_not_error p)) refl

  -- 12
  symbols_fit : (p : ℕ) → p < production_count T → (d : ℕ) → d < size T p → symbol_fits T (symbol T p d) ≡ true
  unfolding ok12
  symbols_fit p h d k =
      all_below_law (size T p) (λ d. symbol_fits T (symbol T p d)) (and_right (left_fits T p) _ (all.1.1.0 p h)) d k

  symbol_in_law : (p d : ℕ) → p < production_count T → d < size T p → symbol T p d < symbol_count T
  unfolding symbol_fits
  symbol_in_law p d h k = ltb-true _ _ (and_left _ (not (eqb (symbol T p d) (symbol_of T 0))) (symbols_fit p h d k))

  symbol_not_start : (p d : ℕ) → p < production_count T → d < size T p → symbol T p d ≢ symbol_of T 0
  unfolding symbol_fits
  symbol_not_start p d h k =
      eqb-false _ _ (not-true (eqb (symbol T p d) (symbol_of T 0)) (and_right (ltb (symbol T p d) (symbol_count T)) _ (symbols_fit p h d k)))

  left_fits_law : (p : ℕ) → p < production_count T → left_fits T p ≡ true
  unfolding ok12
  left_fits_law p h = and_left (left_fits T p) _ (all.1.1.0 p h)

  left_of_zero : left T 0 ≡ 0
  unfolding left_fits
  left_of_zero = eqb-true _ _ (and_left (eqb (left T 0) 0) (eqb (size T 0) 1) (and_left _ (not (is_terminal T (symbol T 0 0))) (left_fits_law 0 some_production)))

  size_of_zero : size T 0 ≡ 1
  unfolding left_fits
  size_of_zero = eqb-true _ _ (and_right (eqb (left T 0) 0) (eqb (size T 0) 1) (and_left _ (not (is_terminal T (symbol T 0 0))) (left_fits_law 0 some_production)))

  root_nonterminal : kinds T < symbol T 0 0
  unfolding left_fits
  root_nonterminal = leb-false _ _ (not-true (is_terminal T (symbol T 0 0)) (and_right (eqb (left T 0) 0 && eqb (size T 0) 1) _ (left_fits_law 0 some_production)))

  left_not_start : (p : ℕ) → suc p < production_count T → left T (suc p) ≢ 0
  unfolding left_fits
  left_not_start p h = eqb-false _ _ (not-true (eqb (left T (suc p)) 0) (and_left _ (ltb (left T (suc p)) (nonterminals T)) (left_fits_law (suc p) h)))

  left_in : (p : ℕ) → suc p < production_count T → left T (suc p) < nonterminals T
  unfolding left_fits
  left_in p h = ltb-true _ _ (and_right (not (eqb (left T (suc p)) 0)) _ (left_fits_law (suc p) h))

  -- 13
  null_closed : (p : ℕ) → p < production_count T → all_nullable T (rhs T p) ≡ true → nullable T (symbol_of T (left T p)) ≡ true
  unfolding ok13
  null_closed p h e =
      implied (all_nullable T (rhs T p)) (nullable T (symbol_of T (left T p))) (and_left (not (all_nullable T (rhs T p)) || nullable T (symbol_of T (left T p))) _ (all.1.1.1.0 p h)) e

  first_closed : (p k : ℕ) → p < production_count T → k ≤ kinds T → begins_with T (rhs T p) k ≡ true → in_first T (symbol_of T (left T p)) k ≡ true
  unfolding ok13
  first_closed p k h l e =
      implied (begins_with T (rhs T p) k) (in_first T (symbol_of T (left T p)) k)
      (all_below_law (kinds T + 1) (λ k. not (begins_with T (rhs T p) k) || in_first T (symbol_of T (left T p)) k)
      (and_right (not (all_nullable T (rhs T p)) || nullable T (symbol_of T (left T p))) _ (all.1.1.1.0 p h)) k (omega arith))
      e

  -- 14
  item_in : {s p d a : ℕ} → Has T s p d a → ItemIn T s p d a
  unfolding ok14 item_fits
  item_in {s} {p} {d} {a} x =
      let y : Item = item_at T x.index in
      let A : Bool = ltb y.state (states T) in
      let B : Bool = ltb y.production (production_count T) in
      let C : Bool = leb y.dot (size T y.production) in
      let D : Bool = leb y.lookahead (end_column T) in
      let e : (A && B && C && D) ≡ true = and_left (A && B && C && D) _ (all.1.1.1.1.0 x.index x.inside) in
      let fa : y.state < states T = ltb-true _ _ (and_left A B (and_left (A && B) C (and_left (A && B && C) D e))) in
      let fb : y.production < production_count T = ltb-true _ _ (and_right A B (and_left (A && B) C (and_left (A && B && C) D e))) in
      let fc : y.dot ≤ size T y.production = leb-true _ _ (and_right (A && B) C (and_left (A && B && C) D e)) in
      let fd : y.lookahead ≤ end_column T = leb-true _ _ (and_right (A && B && C) D e) in
      record {
        state_in_law = rw x.in_state at fa;
        production_in_law = rw x.of_production at fb;
        dot_in_law = rw (x.of_production, x.at_dot) at fc;
        lookahead_in_law = rw x.with_lookahead at fd;
      }

  -- 15
  dot_fits_law : {s p d a : ℕ} → Has T s p d a → dot_fits T s p d ≡ true
  unfolding ok15
  dot_fits_law x = rw (x.in_state, x.of_production, x.at_dot) at (all.1.1.1.1.1.0 x.index x.inside)

  only_start : {s a : ℕ} → Has T s 0 0 a → s ≡ 0
  unfolding dot_fits
  only_start {s} x = eqb-true s 0 (dot_fits_law x)

  dot_up : {s p d a : ℕ} → Has T s p (suc d) a → s ≢ 0
  unfolding dot_fits
  dot_up {s} {p} {d} x = eqb-false s 0 (not-true (eqb s 0) (and_left (not (eqb s 0)) (comes_well T s p d) (dot_fits_law x)))

  -- a transition is between known states, over a symbol in range
  move_in_law : (r X s : ℕ) → Moves T r X s → (r < states T) × (X < symbol_count T)
  unfolding move
  move_in_law r X s e = ⊎_elim (λ t. term t) (λ f. nonterm f) (whether (is_terminal T X))
    where
      term : is_terminal T X ≡ true → (r < states T) × (X < symbol_count T)
      term t =
          let k : X ≤ kinds T = leb-true _ _ t in
          ((action_in_law T r X (Shift (record { 0 = s })) (sym (pick_true _ _ t) ∙ e) (shift_not_error _)).0, omega arith)

      nonterm : is_terminal T X ≡ false → (r < states T) × (X < symbol_count T)
      nonterm f =
          let k : kinds T < X = leb-false _ _ f in
          let g = goto_in_law T r (nonterminal_of T X) (Shift (record { 0 = s })) (sym (pick_false _ _ f) ∙ e) (shift_not_error _) in
          let h : X - (kinds T + 1) < nonterminals T = g.1 in
          (g.0, omega arith)

  comes : {s p d a : ℕ} (r X : ℕ) → Has T s p (suc d) a → Moves T r X s → (X ≡ symbol T p d) × ((b : ℕ) × Has T r p d b)
  unfolding dot_fits comes_well
  comes {s} {p} {d} r X x e =
      let m = move_in_law r X s e in
      let f = all_below_law (states T) _ (and_right (not (eqb s 0)) (comes_well T s p d) (dot_fits_law x)) r m.0 in
      let g = all_below_law (symbol_count T) _ f X m.1 in
      let to : goes_to (move T r X) s ≡ true = rw e (eq-eqb s s refl) in
      let h = implied (goes_to (move T r X) s) (eqb X (symbol T p d) && has_item T r p d) g to in
      (eqb-true _ _ (and_left (eqb X (symbol T p d)) (has_item T r p d) h), found_any T r p d (and_right (eqb X (symbol T p d)) (has_item T r p d) h))

  -- 16
  reduce_known : (s c : ℕ) (p : ProdNo) → action T s c ≡ Reduce p → p.0 < production_count T
  unfolding action_fits
  reduce_known s c p e = ltb-true _ _ (action_fits_law s c (Reduce p) e (reduce_not_error p))

  reduce_item : (s c : ℕ) (p : ProdNo) → action T s c ≡ Reduce p → (a : ℕ) × Has T s p.0 (size T p.0) a
  unfolding ok16 reduce_fits
  reduce_item s c p e =
      let r = action_in_law T s c (Reduce p) e (reduce_not_error p) in
      let i : s * columns T + c < action_cells T = place_in s c (states T) (columns T) r.0 r.1 in
      let h : reduce_fits T ((s * columns T + c) / columns T) (cell_at T.actions (s * columns T + c)) ≡ true = all.1.1.1.1.1.1.0 (s * columns T + c) i in
      let pos : 0 < columns T = omega arith in
      let q : (s * columns T + c) / columns T ≡ s = mul-add-div_right pos s c ∙ ap (λ n. s + n) (div-eq_of_lt r.1) ∙ add-zero s in
      found_any T s p.0 (size T p.0) (subst (λ n. reduce_fits T n (Reduce p) ≡ true) q (subst (λ y. reduce_fits T ((s * columns T + c) / columns T) y ≡ true) r.2 h))

  -- 17
  start : Has T 0 0 0 (end_column T)
  unfolding ok17
  start =
      let h = all.1.1.1.1.1.1.1.0 (item_count T) (omega arith) in
      found T 0 0 0 (end_column T) (sym (pick_false _ (has_item_for T 0 0 0 (end_column T)) (le-ltb (item_count T) (item_count T) (omega arith))) ∙ h)

  follow_ups_law : {s p d a : ℕ} → Has T s p d a → follow_ups T s p d a ≡ true
  unfolding ok17
  follow_ups_law {s} {p} {d} {a} x =
      let h = all.1.1.1.1.1.1.1.0 x.index (omega (arith, x.inside)) in
      let g : follow_ups T (item_at T x.index).state (item_at T x.index).production (item_at T x.index).dot (item_at T x.index).lookahead ≡ true =
      sym (pick_true (follow_ups T (item_at T x.index).state (item_at T x.index).production (item_at T x.index).dot (item_at T x.index).lookahead) _ (lt-ltb x.index (item_count T) x.inside)) ∙ h in
      rw (x.in_state, x.of_production, x.at_dot, x.with_lookahead) at g

  follows : {s p d a : ℕ} → Has T s p d a → d < size T p → follows_symbol T s p d a ≡ true
  unfolding follow_ups
  follows {s} {p} {d} {a} x h =
      sym (pick_true (follows_symbol T s p d a) (reduces (action T s a) p) (lt-ltb d (size T p) h)) ∙ and_left (pick (ltb d (size T p)) (follows_symbol T s p d a) (reduces (action T s a) p)) (has_goto T s p d) (follow_ups_law x)

  -- "Before symbol X: the transition on X exists and its state has (p, d+1, a)."
  moves_on_law : {s p d a : ℕ} → Has T s p d a → d < size T p → (s' : ℕ) × Moves T s (symbol T p d) s' × Has T s' p (suc d) a
  unfolding follows_symbol moves_on
  moves_on_law {s} {p} {d} {a} x h = go (move T s (symbol T p d)) refl (and_left (moves_on T (move T s (symbol T p d)) p d a) _ (follows x h))
    where
      go : (c : Cell) → move T s (symbol T p d) ≡ c → moves_on T c p d a ≡ true → (s' : ℕ) × Moves T s (symbol T p d) s' × Has T s' p (suc d) a
      go (Shift n) e t = (n.0, e, found T n.0 p (suc d) a t)
      go (Reduce q) e t = not_both refl (sym t)
      go Error e t = not_both refl (sym t)

  -- "Before nonterminal B: s also has (q, 0, b) for each production q of B and each b that can begin what follows B and then a"
  opens_to : {s p d a : ℕ} (q b : ℕ) → Has T s p d a → d < size T p → q < production_count T → symbol T p d ≡ symbol_of T (left T q) → b ≤ end_column T
      → can_begin T (drop (suc d) (rhs T p)) a b ≡ true → Has T s q 0 b
  unfolding follows_symbol opens
  opens_to {s} {p} {d} {a} q b x h k e l c =
      let nt : is_terminal T (symbol T p d) ≡ false = lt-leb (symbol T p d) (kinds T) (omega arith) in
      let f = and_right (moves_on T (move T s (symbol T p d)) p d a) (is_terminal T (symbol T p d) || opens T s (nonterminal_of T (symbol T p d)) (drop (suc d) (rhs T p)) a) (follows x h) in
      let g : opens T s (nonterminal_of T (symbol T p d)) (drop (suc d) (rhs T p)) a ≡ true = ⊎_elim (λ t. not_both t nt) (λ t. t) (or_cases (is_terminal T (symbol T p d)) _ f) in
      let m : eqb (left T q) (nonterminal_of T (symbol T p d)) ≡ true = eq-eqb (left T q) (nonterminal_of T (symbol T p d)) (omega arith) in
      let u = implied (eqb (left T q) (nonterminal_of T (symbol T p d))) _ (all_below_law (production_count T) _ g q k) m in
      found T s q 0 b (implied (can_begin T (drop (suc d) (rhs T p)) a b) (has_item_for T s q 0 b) (all_below_law (columns T) _ u b (omega arith)) c)

  -- "At the end: cell (s, a) reduces p."
  reduces_at_end : {s p a : ℕ} → Has T s p (size T p) a → action T s a ≡ Reduce (record { 0 = p })
  unfolding follow_ups reduces
  reduces_at_end {s} {p} {a} x =
      go (action T s a) (sym (pick_false (follows_symbol T s p (size T p) a) (reduces (action T s a) p) (le-ltb (size T p) (size T p) (omega arith))) ∙ and_left (pick (ltb (size T p) (size T p)) (follows_symbol T s p (size T p) a) (reduces (action T s a) p)) (has_goto T s p (size T p)) (follow_ups_law x))
    where
      go : (c : Cell) → reduces c p ≡ true → c ≡ Reduce (record { 0 = p })
      go (Shift n) t = not_both refl (sym t)
      go (Reduce q) t = let e : q.0 ≡ p = eqb-true _ _ t in λ i. Reduce (record { 0 = e i })
      go Error t = not_both refl (sym t)

  -- "At dot 0, p not 0: goto of p's left side exists in s."
  has_goto_law : {s p a : ℕ} → Has T s (suc p) 0 a → (s' : ℕ) × (goto T s (left T (suc p)) ≡ Shift (record { 0 = s' }))
  unfolding follow_ups has_goto
  has_goto_law {s} {p} {a} x = go (goto T s (left T (suc p))) refl (⊎_elim (λ t. not_both t (ne_eqb (suc p) 0 (λ e. omega arith))) (λ t. t) (or_cases (eqb (suc p) 0) (is_shift (goto T s (left T (suc p)))) (and_right (pick (ltb 0 (size T (suc p))) (follows_symbol T s (suc p) 0 a) (reduces (action T s a) (suc p))) (has_goto T s (suc p) 0) (follow_ups_law x))))
    where
      go : (c : Cell) → goto T s (left T (suc p)) ≡ c → is_shift c ≡ true → (s' : ℕ) × (goto T s (left T (suc p)) ≡ Shift (record { 0 = s' }))
      go (Shift n) e t = (n.0, e)
      go (Reduce q) e t = not_both refl (sym t)
      go Error e t = not_both refl (sym t)

-- ---- the laws of passing tables, all that the theory uses

pub record Laws (T : Tables) : Type 0 where
  -- "user kinds t 1 to 254"
  pub few_kinds : kinds T ≤ 254
  pub item_in : {s p d a : ℕ} → Has T s p d a → ItemIn T s p d a
  -- 11: no transition enters state 0 or an unknown state, no shift at the end of input, no negative goto, no unknown production
  pub shift_enters : (s c : ℕ) {n : StateNo} → action T s c ≡ Shift n → Enters T n.0
  pub shift_not_at_end : (s : ℕ) {n : StateNo} → action T s (end_column T) ≡ Shift n → ⊥
  pub goto_enters : (s j : ℕ) {n : StateNo} → goto T s j ≡ Shift n → Enters T n.0
  pub goto_no_reduce : (s j : ℕ) {p : ProdNo} → goto T s j ≡ Reduce p → ⊥
  pub reduce_known : (s c : ℕ) {p : ProdNo} → action T s c ≡ Reduce p → p.0 < production_count T
  -- 12
  pub some_production : 0 < production_count T
  pub root : rhs T 0 ≡ symbol T 0 0 ∷ []
  pub root_size : size T 0 ≡ 1
  pub root_left : left T 0 ≡ 0
  pub root_nonterminal : kinds T < symbol T 0 0
  pub symbol_in_law : (p d : ℕ) {X : ℕ} {β : List ℕ} → p < production_count T → drop d (rhs T p) ≡ X ∷ β → X < symbol_count T
  pub symbol_not_start : (p d : ℕ) {X : ℕ} {β : List ℕ} → p < production_count T → drop d (rhs T p) ≡ X ∷ β → X ≢ symbol_of T 0
  pub left_in : (p : ℕ) → suc p < production_count T → (left T (suc p) ≢ 0) × (left T (suc p) < nonterminals T)
  -- 13
  pub null_closed : (p : ℕ) → p < production_count T → all_nullable T (rhs T p) ≡ true → nullable T (symbol_of T (left T p)) ≡ true
  pub first_closed : (p k : ℕ) → p < production_count T → k ≤ kinds T → begins_with T (rhs T p) k ≡ true → in_first T (symbol_of T (left T p)) k ≡ true
  -- 15: a dot > 0 is not in state 0; each transition into its state is over the symbol before the dot, from a state with the dot one less
  pub only_start : {s a : ℕ} → Has T s 0 0 a → s ≡ 0
  pub dot_up : {s p d a : ℕ} → Has T s p (suc d) a → s ≢ 0
  pub comes : {s p d a : ℕ} (r X : ℕ) → Has T s p (suc d) a → Moves T r X s → (drop d (rhs T p) ≡ X ∷ drop (suc d) (rhs T p)) × ((b : ℕ) × Has T r p d b)
  -- 16
  pub reduce_item : (s c : ℕ) {p : ProdNo} → action T s c ≡ Reduce p → (a : ℕ) × Has T s p.0 (size T p.0) a
  -- 17
  pub start : Has T 0 0 0 (end_column T)
  pub moves_on_law : {s p d a X : ℕ} {β : List ℕ} → Has T s p d a → drop d (rhs T p) ≡ X ∷ β → (s' : ℕ) × Moves T s X s' × Has T s' p (suc d) a
  pub opens : {s p d a q b X : ℕ} {β : List ℕ} → Has T s p d a → drop d (rhs T p) ≡ X ∷ β → q < production_count T → symbol_of T (left T q) ≡ X → b ≤ end_column T
      → can_begin T β a b ≡ true → Has T s q 0 b
  pub reduces : {s p d a : ℕ} → Has T s p d a → drop d (rhs T p) ≡ [] → action T s a ≡ Reduce (record { 0 = p })
  pub has_goto_law : {s p a : ℕ} → Has T s (suc p) 0 a → (s' : ℕ) × (goto T s (left T (suc p)) ≡ Shift (record { 0 = s' }))

pub laws : (T : Tables) → check T ≡ Passes → Laws T
laws T ok =
    record {
      few_kinds = kinds_small T ok;
      item_in = λ x. item_in T ok x;
      shift_enters = λ s c {n} e. shift_enters T ok s c n e;
      shift_not_at_end = λ s {n} e. shift_not_at_end T ok s (end_column T) n e refl;
      goto_enters = λ s j {n} e. goto_enters T ok s j n e;
      goto_no_reduce = λ s j {p} e. goto_no_reduce T ok s j p e;
      reduce_known = λ s c {p} e. reduce_known T ok s c p e;
      some_production = some_production T ok;
      root = root_rhs;
      root_size = size_of_zero T ok;
      root_left = left_of_zero T ok;
      root_nonterminal = root_nonterminal T ok;
      symbol_in_law = λ p d {X} {β} h e. subst (λ Y. Y < symbol_count T) (before p d X β e) (symbol_in_law T ok p d h (dot_inside T p d X β e));
      symbol_not_start =
          λ p d {X} {β} h e. subst (λ Y. Y ≢ symbol_of T 0) (before p d X β e) (symbol_not_start T ok p d h (dot_inside T p d X β e));
      left_in = λ p h. (left_not_start T ok p h, left_in T ok p h);
      null_closed = null_closed T ok;
      first_closed = first_closed T ok;
      only_start = λ x. only_start T ok x;
      dot_up = λ x. dot_up T ok x;
      comes = λ {s} {p} {d} {a} r X x e. come s p d a r X x e;
      reduce_item = λ s c {p} e. reduce_item T ok s c p e;
      start = start T ok;
      moves_on_law = λ {s} {p} {d} {a} {X} {β} x e. on s p d a X β x e;
      opens = λ {s} {p} {d} {a} {q} {b} {X} {β} x e k l h c. open_to s p d a q b X β x e k l h c;
      reduces = λ {s} {p} {d} {a} x e. reduces_at_end T ok (subst (λ n. Has T s p n a) (dot_at_end T p d (item_in T ok x).dot_in_law e) x);
      has_goto_law = λ x. has_goto_law T ok x;
    }
  where
    root_rhs : rhs T 0 ≡ symbol T 0 0 ∷ []
    root_rhs =
        let k : 0 < size T 0 = omega (arith, size_of_zero T ok) in
        let l : length (rhs T 0) ≤ 1 = rw length_rhs (omega (arith, size_of_zero T ok)) in
        dot_before T 0 0 k ∙ ap {B = List ℕ} (λ β. symbol T 0 0 ∷ β) (drop_of_length-le (rhs T 0) {i = 1} l)

    before : (p d X : ℕ) (β : List ℕ) → drop d (rhs T p) ≡ X ∷ β → symbol T p d ≡ X
    before p d X β e = let n = dot_before T p d (dot_inside T p d X β e) in cc

    come : (s p d a r X : ℕ) → Has T s p (suc d) a → Moves T r X s → (drop d (rhs T p) ≡ X ∷ drop (suc d) (rhs T p)) × ((b : ℕ) × Has T r p d b)
    come s p d a r X x e =
        let c = comes T ok r X x e in
        (dot_before T p d (item_in T ok x).dot_in_law ∙ ap {B = List ℕ} (λ Y. Y ∷ drop (suc d) (rhs T p)) (sym c.0), c.1)

    on : (s p d a X : ℕ) (β : List ℕ) → Has T s p d a → drop d (rhs T p) ≡ X ∷ β → (s' : ℕ) × Moves T s X s' × Has T s' p (suc d) a
    on s p d a X β x e =
        subst (λ Y. (s' : ℕ) × Moves T s Y s' × Has T s' p (suc d) a) (before p d X β e) (moves_on_law T ok x (dot_inside T p d X β e))

    open_to : (s p d a q b X : ℕ) (β : List ℕ) → Has T s p d a → drop d (rhs T p) ≡ X ∷ β → q < production_count T → symbol_of T (left T q) ≡ X → b ≤ end_column T
        → can_begin T β a b ≡ true → Has T s q 0 b
    open_to s p d a q b X β x e k l h c =
        opens_to T ok q b x (dot_inside T p d X β e) k (before p d X β e ∙ sym l) h (subst (λ γ. can_begin T γ a b ≡ true) (sym (dot_behind T p d X β e)) c)

-- a refusal is the first bad place, and tables pass where there is none
pub refused_is_first_bad : (T : Tables) (n p : ℕ) → check T ≡ Refused n p → FirstBad (rows T) n p
refused_is_first_bad T n p e = bad_of_refused (rows T) n p (sym (check_rows T) ∙ e)

pub passes_is_all : (T : Tables) → check T ≡ Passes → AllHold (rows T)
passes_is_all T e = all_of_passes (rows T) (sym (check_rows T) ∙ e)

pub all_is_passes : (T : Tables) → AllHold (rows T) → check T ≡ Passes
all_is_passes T h = check_rows T ∙ passes_of (rows T) h
