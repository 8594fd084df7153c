-- What a refusal of the check says: its number is one of 10 to 17, the tests of every lower number hold at all their places, its own
-- test holds at all lower places, and fails at this one. No other number and place are so, and they are so exactly if it refuses.
use Rattle.std.specs.Prelude.{Bool, true, false, List, [], ◌∷◌, ◌↔◌, ◌≡◌, refl, ℕ, ◌≤◌, ◌<◌, eqb, Ok, Err}
use Rattle.std.proofs.Math.Logic.{by_cases}
use Rattle.std.proofs.Common.{sym, subst, ◌∙◌, arith, lit≤, eq-eqb, ne_eqb}
use Rattle.std.proofs.Math.Decide.{dec_lt, ℕ_discrete}
use Rattle.words.specs.Words.{pick}
use Rattle.rules.specs.Verdict.{Verdict, Passes, Refused}
use Rattle.rules.specs.Tables.{Tables}
use Rattle.rules.specs.Check.{check}
use Rattle.lr.specs.Bools.{not_both, pick_true, pick_false, Row, AllHold, FirstBad, here, later}
use Rattle.lr.specs.Checked.{rows, refused_is_first_bad, passes_is_all, all_is_passes}

-- ---- the test of a number, and how many places it has

abbrev pub test_in : List Row → ℕ → ℕ → Bool
test_in [] n i = true
test_in (row ∷ rs) n i = pick (eqb row.number n) (row.test i) (test_in rs n i)

abbrev pub places_in : List Row → ℕ → ℕ
places_in [] n = 0
places_in (row ∷ rs) n = pick (eqb row.number n) row.places (places_in rs n)

pub record Bad (rs : List Row) (n p : ℕ) : Type 0 where
  pub earlier : (m : ℕ) → m < n → (i : ℕ) → i < places_in rs m → test_in rs m i ≡ true
  pub place_in : p < places_in rs n
  pub lower : (i : ℕ) → i < p → test_in rs n i ≡ true
  pub fails : test_in rs n p ≡ false

-- the numbers ascend, from above k on
abbrev Over : ℕ → List Row → Type 0
Over k [] = Unit
Over k (row ∷ rs) = (k < row.number) × Over row.number rs

this_test : (row : Row) (rs : List Row) (i : ℕ) → test_in (row ∷ rs) row.number i ≡ row.test i
this_test row rs i = pick_true _ _ (eq-eqb row.number row.number refl)

this_places : (row : Row) (rs : List Row) → places_in (row ∷ rs) row.number ≡ row.places
this_places row rs = pick_true _ _ (eq-eqb row.number row.number refl)

other_test : (row : Row) (rs : List Row) (n i : ℕ) → (row.number ≡ n → ⊥) → test_in (row ∷ rs) n i ≡ test_in rs n i
other_test row rs n i h = pick_false _ _ (ne_eqb row.number n h)

other_places : (row : Row) (rs : List Row) (n : ℕ) → (row.number ≡ n → ⊥) → places_in (row ∷ rs) n ≡ places_in rs n
other_places row rs n h = pick_false _ _ (ne_eqb row.number n h)

none_below : (rs : List Row) (k n : ℕ) → Over k rs → n ≤ k → places_in rs n ≡ 0
none_below [] k n o h = refl
none_below (row ∷ rs) k n o h =
    other_places row rs n (λ e. omega (arith, o.0)) ∙ none_below rs row.number n o.1 (omega (arith, o.0))

bad_over : {rs : List Row} {n p : ℕ} → FirstBad rs n p → (k : ℕ) → Over k rs → k < n
bad_over (here e h l f) k o = omega (arith, o.0)
bad_over (later {row = row} h b) k o = omega (arith, o.0, bad_over b row.number o.1)

bad_here : (row : Row) (rs : List Row) (p : ℕ) → Over row.number rs → p < row.places → ((i : ℕ) → i < p → row.test i ≡ true) → row.test p ≡ false
    → Bad (row ∷ rs) row.number p
bad_here row rs p o h l f =
    record {
      earlier = λ m k i q. none m k i (subst (λ x. i < x) (other_places row rs m (λ e. omega arith) ∙ none_below rs row.number m o (omega arith)) q);
      place_in = rw this_places h;
      lower = λ i k. this_test row rs i ∙ l i k;
      fails = this_test row rs p ∙ f;
    }
  where
    none : (m : ℕ) → m < row.number → (i : ℕ) → i < 0 → test_in (row ∷ rs) m i ≡ true
    none m k i q = absurd (omega arith)

bad_later : (row : Row) (rs : List Row) (n p : ℕ) → row.number < n → ((i : ℕ) → i < row.places → row.test i ≡ true) → Bad rs n p → Bad (row ∷ rs) n p
bad_later row rs n p k h b =
    record {
      earlier = early;
      place_in = rw (other_places row rs n (λ e. omega arith)) b.place_in;
      lower = λ i l. other_test row rs n i (λ e. omega arith) ∙ b.lower i l;
      fails = other_test row rs n p (λ e. omega arith) ∙ b.fails;
    }
  where
    at_this : (m i : ℕ) → row.number ≡ m → i < places_in (row ∷ rs) m → test_in (row ∷ rs) m i ≡ true
    at_this m i e q =
        pick_true _ _ (eq-eqb row.number m e) ∙ h i (subst (λ x. i < x) (pick_true _ _ (eq-eqb row.number m e)) q)

    elsewhere : (m i : ℕ) → m < n → (row.number ≡ m → ⊥) → i < places_in (row ∷ rs) m → test_in (row ∷ rs) m i ≡ true
    elsewhere m i l ne q = other_test row rs m i ne ∙ b.earlier m l i (subst (λ x. i < x) (other_places row rs m ne) q)

    early : (m : ℕ) → m < n → (i : ℕ) → i < places_in (row ∷ rs) m → test_in (row ∷ rs) m i ≡ true
    early m l i q =
        by_cases (ℕ_discrete row.number m) (λ e. at_this m i e q) (λ ne. elsewhere m i l ne q)

first_is_bad : {rs : List Row} {n p : ℕ} → FirstBad rs n p → (k : ℕ) → Over k rs → Bad rs n p
first_is_bad (here {row = row} {rows = rs} {p = p} e h l f) k o = subst (λ n. Bad (row ∷ rs) n p) e (bad_here row rs p o.1 h l f)
first_is_bad (later {row = row} {rows = rs} {n = n} {p = p} h b) k o =
    bad_later row rs n p (bad_over b row.number o.1) h (first_is_bad b row.number o.1)

-- all tests of all numbers hold
abbrev pub Good : List Row → Type 0
Good rs = (n i : ℕ) → i < places_in rs n → test_in rs n i ≡ true

all_good : (rs : List Row) → AllHold rs → Good rs
all_good [] a n i h = refl
all_good (row ∷ rs) a n i h =
    by_cases (ℕ_discrete row.number n)
    (λ e. pick_true _ _ (eq-eqb row.number n e) ∙ a.0 i (subst (λ x. i < x) (pick_true _ _ (eq-eqb row.number n e)) h))
    (λ ne. other_test row rs n i ne ∙ all_good rs a.1 n i (subst (λ x. i < x) (other_places row rs n ne) h))

good_all : (rs : List Row) (k : ℕ) → Over k rs → Good rs → AllHold rs
good_all [] k o g = tt
good_all (row ∷ rs) k o g =
    ((λ i h. sym (this_test row rs i) ∙ g row.number i (rw this_places h)), good_all rs row.number o.1 (λ n i h. rest n i h))
  where
    rest : (n i : ℕ) → i < places_in rs n → test_in rs n i ≡ true
    rest n i h =
        by_cases (dec_lt row.number n)
        (λ l. sym (other_test row rs n i (λ e. omega arith)) ∙ g n i (rw (other_places row rs n (λ e. omega arith)) h))
        (λ l. nothing (subst (λ x. i < x) (none_below rs row.number n o.1 (omega arith)) h))
      where
        nothing : i < 0 → test_in rs n i ≡ true
        nothing z = absurd (omega arith)

abbrev Under : ℕ → List Row → Type 0
Under k [] = Unit
Under k (row ∷ rs) = (row.number ≤ k) × Under k rs

bad_under : {rs : List Row} {n p : ℕ} → FirstBad rs n p → (k : ℕ) → Under k rs → n ≤ k
bad_under (here e h l f) k u = omega (arith, u.0)
bad_under (later h b) k u = bad_under b k u.1

-- ---- the check

-- "The check, in this order": the test of a number at a place, and the number's places
abbrev pub test_of : Tables → ℕ → ℕ → Bool
test_of T n i = test_in (rows T) n i

abbrev pub places_of : Tables → ℕ → ℕ
places_of T n = places_in (rows T) n

pub record Refusal (T : Tables) (n p : ℕ) : Type 0 where
  pub number_low : 10 ≤ n
  pub number_high : n ≤ 17
  pub earlier : (m : ℕ) → m < n → (i : ℕ) → i < places_of T m → test_of T m i ≡ true
  pub place_in : p < places_of T n
  pub lower : (i : ℕ) → i < p → test_of T n i ≡ true
  pub fails : test_of T n p ≡ false

ascending : (T : Tables) → Over 9 (rows T)
ascending T = (lit≤ tt, (lit≤ tt, (lit≤ tt, (lit≤ tt, (lit≤ tt, (lit≤ tt, (lit≤ tt, (lit≤ tt, tt))))))))

highest : (T : Tables) → Under 17 (rows T)
highest T = (lit≤ tt, (lit≤ tt, (lit≤ tt, (lit≤ tt, (lit≤ tt, (lit≤ tt, (lit≤ tt, (lit≤ tt, tt))))))))

pub refusal : (T : Tables) (n p : ℕ) → check T ≡ Refused n p → Refusal T n p
refusal T n p e =
    let f = refused_is_first_bad T n p e in
    let b = first_is_bad f 9 (ascending T) in
    record {
      number_low = bad_over f 9 (ascending T);
      number_high = bad_under f 17 (highest T);
      earlier = b.earlier;
      place_in = b.place_in;
      lower = b.lower;
      fails = b.fails;
    }

-- two refusals are one
not_before : {T : Tables} {n p m q : ℕ} → Refusal T n p → Refusal T m q → n < m → ⊥
not_before {n = n} {p = p} a b h = not_both (b.earlier n h p a.place_in) a.fails

not_lower : {T : Tables} {n p q : ℕ} → Refusal T n p → Refusal T n q → p < q → ⊥
not_lower {p = p} a b h = not_both (b.lower p h) a.fails

pub one_refusal : {T : Tables} {n p m q : ℕ} → Refusal T n p → Refusal T m q → (n ≡ m) × (p ≡ q)
one_refusal {T} {n} {p} {m} {q} a b =
    let no_less : n < m → ⊥ = not_before a b in
    let no_more : m < n → ⊥ = not_before b a in
    let e : n ≡ m = omega arith in
    let c : Refusal T m p = subst (λ k. Refusal T k p) e a in
    let no_lower : p < q → ⊥ = not_lower c b in
    let no-higher : q < p → ⊥ = not_lower b c in
    (e, omega arith)

pub passes_exactly : (T : Tables) → (check T ≡ Passes) ↔ Good (rows T)
passes_exactly T = ((λ e. all_good (rows T) (passes_is_all T e)), (λ g. all_is_passes T (good_all (rows T) 9 (ascending T) g)))

pub refused_exactly : (T : Tables) (n p : ℕ) → (check T ≡ Refused n p) ↔ Refusal T n p
refused_exactly T n p = (refusal T n p, λ a. by a (check T) refl)
  where
    by : Refusal T n p → (v : Verdict) → check T ≡ v → check T ≡ Refused n p
    by a (Ok _) e = not_both ((passes_exactly T).0 e n p a.place_in) a.fails
    by a (Err r) e =
        let s = one_refusal (refusal T r.number r.place e) a in
        let u : r.number ≡ n = s.0 in
        let v : r.place ≡ p = s.1 in
        e ∙ (λ i. Refused (u i) (v i))
