-- The lookup among a call's items, with any lookahead or with a given one: `has_item` and `has_item_for` of the rules as one. And
-- whether an item repeats the place of the one before it.
use Rattle.std.specs.Prelude.{Bool, true, false, ◌&&◌, ◌≢◌, ◌≡◌, refl, ℕ, zero, suc, ◌*◌, ◌-◌, ◌≤◌, ◌<◌, Option, Some, None, length}
use Rattle.std.proofs.Common.{◌∙◌, sym, arith, eqb-true}
use borrow.Author.Tests.{eq-eqb, ne_eqb}
use Rattle.std.proofs.Math.Dec.{eqb}
use Rattle.rules.specs.Tables.{Tables, item_count, Item, item_at}
use Rattle.rules.specs.Check.{is_at, has_item, has_item_for, before, item_fits, ascends, ok14}
use Rattle.std.proofs.lemmas.Bool.{and_parts}
use Rattle.tables.specs.Places.{first_bad, good_at}
use Rattle.tables.specs.Fit.{Fit, and_right}

-- is there an item of this state, production and dot: with any lookahead, or with this one
unfoldable pub has_item_with : Tables → ℕ → ℕ → ℕ → Option ℕ → Bool
has_item_with T s p d None = has_item T s p d
has_item_with T s p d (Some a) = has_item_for T s p d a

-- has item i the state, production and dot of the item before it
unfoldable pub repeats : Tables → ℕ → Bool
repeats T zero = false
repeats T (suc i) = is_at (item_at T i).state (item_at T i).production (item_at T i).dot (item_at T (suc i))

pub first_new : (T : Tables) (i : ℕ) → (1 ≤ i → ⊥) → false ≡ repeats T i
unfolding repeats
first_new T zero h = refl
first_new T (suc i) h = absurd (h (omega arith))

pub later_repeats : (T : Tables) (i j : ℕ) (x : Item) (b : Bool) → 1 ≤ i → j ≡ i - 1 → x ≡ item_at T j → b ≡ is_at x.state x.production x.dot (item_at T i) → b ≡ repeats T i
unfolding repeats
later_repeats T zero j x b h e f k = absurd (omega arith)
later_repeats T (suc i) j x b h e f k =
    let p : j ≡ i = omega arith in
    let q : x ≡ item_at T i = rw (← p) f in rw (← q) k

-- the tests one by one: n is the state of the item y, as it is read alone, and x is y, as it is read whole
module _ (s p d n : ℕ) (y : Item) (e : n ≡ y.state) where
  pub other_state : n ≢ s → false ≡ is_at s p d y
  unfolding is_at
  other_state h = simp (ne_eqb _ _ (λ q. h (e ∙ q)))

  pub other_production : n ≡ s → (x : Item) → x ≡ y → x.production ≢ p → eqb x.production p ≡ is_at s p d y
  unfolding is_at
  other_production h x f g = let q : x.state ≡ s = rw f (sym e ∙ h) in rw (← f) (simp (eq-eqb _ _ q, ne_eqb _ _ g))

  pub by_the_dot : n ≡ s → (x : Item) → x ≡ y → x.production ≡ p → eqb x.dot d ≡ is_at s p d y
  unfolding is_at
  by_the_dot h x f g = let q : x.state ≡ s = rw f (sym e ∙ h) in rw (← f) (simp (eq-eqb _ _ q, eq-eqb _ _ g))

-- what an item at a place has there
pub same_place : (s p d : ℕ) (x : Item) → is_at s p d x ≡ true → (x.state ≡ s) × (x.production ≡ p) × (x.dot ≡ d)
unfolding is_at
same_place s p d x h =
    let a = and_parts (eqb x.state s && eqb x.production p) (eqb x.dot d) h in
    let b = and_parts (eqb x.state s) (eqb x.production p) a.0 in (eqb-true _ _ b.0, eqb-true _ _ b.1, eqb-true _ _ a.1)

-- What a search of the list may lean on, from tests 10 and 14: the list is whole, and "strictly ascending". The scan from the front
-- needs none of it.
pub record Listed (T : Tables) : Type 0 where
  pub few : item_count T ≤ 65535
  pub whole : length T.items ≡ 8 * item_count T
  pub ascending : (i : ℕ) → suc i < item_count T → before (item_at T i) (item_at T (suc i)) ≡ true

pub listed : (T : Tables) → Fit T → first_bad (ok14 T) 0 (item_count T) ≡ None → Listed T
unfolding ok14 ascends
listed T f h =
    record {
      few = f.items_few;
      whole = f.items;
      ascending =
          λ i k. and_right (item_fits T (item_at T (suc i))) _ (good_at (ok14 T) 0 (item_count T) h (suc i) (omega arith) (omega arith));
    }
