-- What tables that pass 10 are known to be: every size within its bounds, every list as long as the sizes say.
-- `fit` has it from 10's test, so that the tests behind 10 may ask for it.
use Rattle.std.specs.Prelude.{Bool, true, false, ◌&&◌, ◌≡◌, refl, ℕ, zero, suc, ◌*◌, ◌<◌, ◌≤◌, leb, eqb, length}
use Rattle.std.proofs.Math.Decide.{dec_lt}
use Rattle.std.proofs.Common.{arith, leb-true, eqb-true}
use Rattle.rules.specs.Basics.{all_below, between}
use Rattle.rules.specs.Tables.{Tables, states, kinds, nonterminals, production_count, item_count, flag, columns, size, right_start}
use Rattle.rules.specs.Check.{sizes_fit, lengths_agree, set_fits, ok10}

pub record Fit (T : Tables) : Type 0 where
  pub sizes : length T.sizes ≡ 12
  pub states_some : 1 ≤ states T
  pub states_few : states T ≤ 1024
  pub kinds_some : 1 ≤ kinds T
  pub kinds_few : kinds T ≤ 254
  pub nonterminals_some : 1 ≤ nonterminals T
  pub nonterminals_few : nonterminals T ≤ 255
  pub productions_some : 1 ≤ production_count T
  pub productions_few : production_count T ≤ 1024
  pub items_few : item_count T ≤ 65535
  pub flag_few : flag T ≤ 1
  pub actions : length T.actions ≡ 2 * (states T * columns T)
  pub gotos : length T.gotos ≡ 2 * (states T * nonterminals T)
  pub productions : length T.productions ≡ 4 * production_count T
  pub short : (p : ℕ) → p < production_count T → size T p ≤ 32
  pub rights : length T.rights ≡ 2 * right_start T (production_count T)
  pub items : length T.items ≡ 8 * item_count T
  pub sets : length T.sets ≡ 33 * nonterminals T
  pub set_fits_law : (j : ℕ) → j < nonterminals T → set_fits T j ≡ true

-- ---- the parts of a test
pub and_left : (a b : Bool) → (a && b) ≡ true → a ≡ true
and_left true b e = refl
and_left false b e = e

pub and_right : (a b : Bool) → (a && b) ≡ true → b ≡ true
and_right true b e = e
and_right false true e = refl
and_right false false e = e

pub below_at : (f : ℕ → Bool) (n i : ℕ) → all_below n f ≡ true → i < n → f i ≡ true
unfolding all_below
below_at f zero i e h = absurd (omega arith)
below_at f (suc n) i e h =
    elim (dec_lt i n) [
      | yes k ↦ below_at f n i (and_left (all_below n f) (f n) e) k
      | no k ↦ let q : i ≡ n = omega arith in rw q (and_right (all_below n f) (f n) e)
    ]

abbrev Yes : Bool → Type 0
Yes b = b ≡ true

-- the parts of four tests, of six and of seven
module _ (a b c d : Bool) where
  four : (a && b && c && d) ≡ true → Yes a × Yes b × Yes c × Yes d
  four e =
      let abc = and_left (a && b && c) d e in
      let ab = and_left (a && b) c abc in
      (and_left a b ab, and_right a b ab, and_right (a && b) c abc, and_right (a && b && c) d e)

  six : (e f : Bool) → (a && b && c && d && e && f) ≡ true → Yes a × Yes b × Yes c × Yes d × Yes e × Yes f
  six e f h =
      let upto-e = and_left (a && b && c && d && e) f h in
      let r = four (and_left (a && b && c && d) e upto-e) in
      (r.0, r.1, r.2, r.3, and_right (a && b && c && d) e upto-e, and_right (a && b && c && d && e) f h)

  seven : (e f g : Bool) → (a && b && c && d && e && f && g) ≡ true → Yes a × Yes b × Yes c × Yes d × Yes e × Yes f × Yes g
  seven e f g h =
      let r = six e f (and_left (a && b && c && d && e && f) g h) in
      (r.0, r.1, r.2, r.3, r.4, r.5, and_right (a && b && c && d && e && f) g h)

between_low : (lo hi n : ℕ) → between lo hi n ≡ true → lo ≤ n
between_low lo hi n e = leb-true lo n (and_left (leb lo n) (leb n hi) e)

between_high : (lo hi n : ℕ) → between lo hi n ≡ true → n ≤ hi
between_high lo hi n e = leb-true n hi (and_right (leb lo n) (leb n hi) e)

pub fit : (T : Tables) (place : ℕ) → ok10 T place ≡ true → Fit T
unfolding ok10 sizes_fit lengths_agree
fit T place e =
    let all = four (eqb (length T.sizes) 12) (sizes_fit T) (lengths_agree T) (all_below (nonterminals T) (set_fits T)) e in
    let n = six (between 1 1024 (states T)) (between 1 254 (kinds T)) (between 1 255 (nonterminals T)) (between 1 1024 (production_count T)) (leb (item_count T) 65535) (leb (flag T) 1) all.1 in
    let l = seven (eqb (length T.actions) (2 * (states T * columns T))) (eqb (length T.gotos) (2 * (states T * nonterminals T))) (eqb (length T.productions) (4 * production_count T)) (all_below (production_count T) (λ p. leb (size T p) 32)) (eqb (length T.rights) (2 * right_start T (production_count T))) (eqb (length T.items) (8 * item_count T)) (eqb (length T.sets) (33 * nonterminals T)) all.2 in
    record {
      sizes = eqb-true _ _ all.0;
      states_some = between_low 1 1024 _ n.0;
      states_few = between_high 1 1024 _ n.0;
      kinds_some = between_low 1 254 _ n.1;
      kinds_few = between_high 1 254 _ n.1;
      nonterminals_some = between_low 1 255 _ n.2;
      nonterminals_few = between_high 1 255 _ n.2;
      productions_some = between_low 1 1024 _ n.3;
      productions_few = between_high 1 1024 _ n.3;
      items_few = leb-true _ _ n.4;
      flag_few = leb-true _ _ n.5;
      actions = eqb-true _ _ l.0;
      gotos = eqb-true _ _ l.1;
      productions = eqb-true _ _ l.2;
      short = λ p h. leb-true _ _ (below_at (λ p. leb (size T p) 32) (production_count T) p l.3 h);
      rights = eqb-true _ _ l.4;
      items = eqb-true _ _ l.5;
      sets = eqb-true _ _ l.6;
      set_fits_law = λ j h. below_at (set_fits T) (nonterminals T) j all.3 h;
    }
