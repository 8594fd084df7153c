-- The digits of a number, the lowest of them last.
use Rattle.std.specs.Prelude.{false, List, [], ◌∷◌, ◌++◌, ◌≢◌, ◌≡◌, refl, ℕ, zero, suc, ◌+◌, ◌*◌, ◌-◌, ◌/◌, ◌%◌, ◌^◌, ◌≤◌, ◌<◌}
use Rattle.std.specs.Fmt.{decimal as std_decimal, digits, digits_onto, digit_glyph}
use Rattle.std.proofs.Common.{append_assoc, append-nil, ◌∙◌, sub-one, arith, lt-ltb, le-ltb, ne_eqb}
use Rattle.std.proofs.Math.Decide.{dec_lt}
use Rattle.std.proofs.Math.Nat.{pow-succ'}
use Rattle.rules.specs.File.{digits_of, decimal}

digits_low : (fuel n : ℕ) (after : List ℕ) → n < 10 → digits_of (suc fuel) n after ≡ (48 + n) ∷ after
unfolding digits_of
digits_low fuel n after h = rw (lt-ltb _ _ h, digits_of)

digits_high : (fuel n : ℕ) (after : List ℕ) → 10 ≤ n → digits_of (suc fuel) n after ≡ digits_of fuel (n / 10) ((48 + n % 10) ∷ after)
unfolding digits_of
digits_high fuel n after h = rw (le-ltb _ _ h, digits_of)

digits_after : (fuel n : ℕ) (after : List ℕ) → digits_of fuel n after ≡ digits_of fuel n [] ++ after
unfolding digits_of
digits_after zero n after = refl
digits_after (suc fuel) n after =
    elim (dec_lt n 10) [
      | yes h ↦ rw (digits_low fuel n after h, digits_low fuel n [] h)
      | no h ↦
          let k : 10 ≤ n = omega arith in
          let d : List ℕ = (48 + n % 10) ∷ [] in
          digits_high fuel n after k
          ∙ digits_after fuel (n / 10) ((48 + n % 10) ∷ after)
          ∙ rw (digits_high fuel n [] k, digits_after fuel (n / 10) d, append_assoc)
    ]

-- with no digit left, with one that is the whole number, and with one behind the others
pub digits_none : (n left : ℕ) → left ≡ 0 → digits_of left n [] ≡ []
unfolding digits_of
digits_none n left e = rw e

pub digits_one : (n left : ℕ) → left ≢ 0 → n < 10 → digits_of left n [] ≡ (48 + n) ∷ []
digits_one n zero z h = absurd (z refl)
digits_one n (suc left) z h = digits_low left n [] h

pub digits_more : (n left : ℕ) → left ≢ 0 → 10 ≤ n → digits_of left n [] ≡ digits_of (left - 1) (n / 10) [] ++ ((48 + n % 10) ∷ [])
digits_more n zero z h = absurd (z refl)
digits_more n (suc left) z h = digits_high left n [] h ∙ rw (digits_after left (n / 10) ((48 + n % 10) ∷ []), sub-one)

-- ---- the digits that std's `decimal` writes

glyph_low : (d : ℕ) → d < 10 → digit_glyph false d ≡ 48 + d
glyph_low d h = rw (lt-ltb _ _ h)

onto_low : (k n : ℕ) (after : List ℕ) → n < 10 → digits_onto (suc k) 10 false n after ≡ (48 + n) ∷ after
onto_low k n after h =
    let q : n / 10 ≡ 0 = omega arith in
    let r : n % 10 ≡ n = omega arith in rw (q, r, lt-ltb _ _ h)

onto_high : (k n : ℕ) (after : List ℕ) → 10 ≤ n → digits_onto (suc k) 10 false n after ≡ digits_onto k 10 false (n / 10) ((48 + n % 10) ∷ after)
onto_high k n after h =
    let q : n / 10 ≢ 0 = λ e. omega arith in
    let r : n % 10 < 10 = omega arith in rw (ne_eqb _ _ q, glyph_low _ r)

same_digits : (j k n : ℕ) (after : List ℕ) → n < 10 ^ suc j → n < 10 ^ suc k → digits_onto (suc k) 10 false n after ≡ digits_of (suc j) n [] ++ after
same_digits zero k n after g h = rw (onto_low k n after g, digits_low 0 n [] g)
same_digits (suc j) zero n after g h = rw (onto_low 0 n after h, digits_low (suc j) n [] h)
same_digits (suc j) (suc k) n after g h =
    elim (dec_lt n 10) [
      | yes l ↦ rw (onto_low (suc k) n after l, digits_low (suc j) n [] l)
      | no l ↦
          let m : 10 ≤ n = omega arith in
          let a : n < 10 * 10 ^ suc j = rw (pow-succ' 10 (suc j)) at g in
          let b : n < 10 * 10 ^ suc k = rw (pow-succ' 10 (suc k)) at h in
          onto_high (suc k) n after m
          ∙ same_digits j k (n / 10) ((48 + n % 10) ∷ after) (omega arith) (omega arith)
          ∙ rw (digits_more n (suc (suc j)) (λ e. omega arith) m, sub-one, append_assoc)
    ]

pub decimal_is : (n : ℕ) → n < 2 ^ 64 → std_decimal n ≡ decimal n
unfolding decimal digits
decimal_is n h = same_digits 19 63 n [] (omega arith) (omega arith) ∙ append-nil (digits_of 20 n [])
