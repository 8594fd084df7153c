-- A text written into a buffer from a place on: a byte at a time, and none past the end. `then` puts one text behind another.
use Rattle.std.specs.Prelude.{List, [], ◌∷◌, ◌++◌, ◌≡◌, refl, ℕ, suc, ◌+◌, ◌≤◌, ◌<◌, ltb, length, get_or, set, take, drop}
use Rattle.std.proofs.Common.{sym, ap, ◌∙◌, zero-add, add-one, arith, lt-ltb, le-ltb, length-set, drop_of_length-le, drop-cons}
use Rattle.std.proofs.Math.Decide.{dec_lt}
use Rattle.std.proofs.lemmas.List.Edits.{sets, sets-eq}
use Rattle.std.proofs.Math.Seq.{set_out, take-append_seam}
use Rattle.words.specs.Words.{pick}

-- the place behind a byte at a place, in a buffer of that length
unfoldable pub next : ℕ → ℕ → ℕ
next n at = pick (ltb at n) (at + 1) at

-- the buffer with the text, and the place behind it
unfoldable pub written : List ℕ → ℕ → List ℕ → List ℕ
written b at [] = b
written b at (x ∷ xs) = written (set b at x) (next (length b) at) xs

unfoldable pub behind : ℕ → ℕ → List ℕ → ℕ
behind n at [] = at
behind n at (x ∷ xs) = behind n (next n at) xs

-- what a function that writes `t` leaves, and what it returns
pub record Wrote (b : List ℕ) (at : ℕ) (t : List ℕ) (b' : List ℕ) (r : ℕ) : Type 0 where
  pub bytes : b' ≡ written b at t
  pub place : r ≡ behind (length b) at t

length_written : (b : List ℕ) (at : ℕ) (t : List ℕ) → length (written b at t) ≡ length b
unfolding written
length_written b at [] = refl
length_written b at (x ∷ xs) = length_written (set b at x) (next (length b) at) xs ∙ length-set b at x

pub kept : {b : List ℕ} {at : ℕ} {t b' : List ℕ} {r : ℕ} → Wrote b at t b' r → length b' ≡ length b
kept {b} {at} {t} w = ap length w.bytes ∙ length_written b at t

-- nothing, and one text behind another
pub none : (b : List ℕ) (at : ℕ) → Wrote b at [] b at
unfolding written behind
none b at = record { bytes = refl; place = refl }

written_append : (b : List ℕ) (at : ℕ) (x y : List ℕ) → written b at (x ++ y) ≡ written (written b at x) (behind (length b) at x) y
unfolding written behind
written_append b at [] y = refl
written_append b at (a ∷ x) y =
    written_append (set b at a) (next (length b) at) x y ∙ rw (length-set b at a)

behind_append : (n at : ℕ) (x y : List ℕ) → behind n at (x ++ y) ≡ behind n (behind n at x) y
unfolding behind
behind_append n at [] y = refl
behind_append n at (a ∷ x) y = behind_append n (next n at) x y

pub then : {b b₁ b₂ x y : List ℕ} {at r s : ℕ} → Wrote b at x b₁ r → Wrote b₁ r y b₂ s → Wrote b at (x ++ y) b₂ s
then {b} {b₁} {b₂} {x} {y} {at} {r} {s} v w =
    record {
      bytes = w.bytes ∙ rw (v.bytes, v.place) (sym (written_append b at x y));
      place = w.place ∙ rw (kept v, v.place) (sym (behind_append (length b) at x y));
    }

-- one byte, inside and past the end
pub one_in : (b : List ℕ) (at x : ℕ) → at < length b → Wrote b at (x ∷ []) (set b at x) (at + 1)
unfolding written behind next
one_in b at x h = record { bytes = refl; place = rw (lt-ltb _ _ h) }

pub one_out : (b : List ℕ) (at x : ℕ) → length b ≤ at → Wrote b at (x ∷ []) b at
unfolding written behind next
one_out b at x h = record { bytes = sym (set_out b at x h); place = rw (le-ltb _ _ h) }

-- What a loop keeps: whatever is written with the rest of a text behind, the whole text is written.
abbrev pub Rest : List ℕ → ℕ → List ℕ → List ℕ → ℕ → List ℕ → Type 0
Rest b at t b₁ p rest = (b₂ : List ℕ) (r : ℕ) → Wrote b₁ p rest b₂ r → Wrote b at t b₂ r

pub rest_turn : (b : List ℕ) (at : ℕ) (t b₁ : List ℕ) (p : ℕ) (x rest b₂ : List ℕ) (q : ℕ) → Wrote b₁ p x b₂ q → Rest b at t b₁ p (x ++ rest) → Rest b at t b₂ q rest
rest_turn b at t b₁ p x rest b₂ q w f b₃ r v = f b₃ r (then w v)

pub rest_end : (b : List ℕ) (at : ℕ) (t b₁ : List ℕ) (p : ℕ) → Rest b at t b₁ p [] → Wrote b at t b₁ p
rest_end b at t b₁ p f = f b₁ p (none b₁ p)

-- a text's next byte, and its end
pub text_turn : (b : List ℕ) (at : ℕ) (t b₁ : List ℕ) (p i : ℕ) (b₂ : List ℕ) (q : ℕ) → i < length t → Wrote b₁ p (get_or t i 0 ∷ []) b₂ q → Rest b at t b₁ p (drop i t) → Rest b at t b₂ q (drop (i + 1) t)
text_turn b at t b₁ p i b₂ q h w f =
    let e : drop i t ≡ (get_or t i 0 ∷ []) ++ drop (i + 1) t = rw (drop-cons t i 0 h, add-one) in
    rest_turn b at t b₁ p (get_or t i 0 ∷ []) (drop (i + 1) t) b₂ q w (rw e at f)

pub text_end : (b : List ℕ) (at : ℕ) (t b₁ : List ℕ) (p i : ℕ) → length t ≤ i → Rest b at t b₁ p (drop i t) → Wrote b at t b₁ p
text_end b at t b₁ p i h f = rest_end b at t b₁ p (rw (drop_of_length-le t {i = i} h) at f)

-- a turn, and the end, by what the rest is
pub rest_by : (b : List ℕ) (at : ℕ) (t b₁ : List ℕ) (p : ℕ) (x all rest b₂ : List ℕ) (q : ℕ) → all ≡ x ++ rest → Wrote b₁ p x b₂ q → Rest b at t b₁ p all → Rest b at t b₂ q rest
rest_by b at t b₁ p x all rest b₂ q e w f = rest_turn b at t b₁ p x rest b₂ q w (rw e at f)

pub rest_all : (b : List ℕ) (at : ℕ) (t all : List ℕ) → t ≡ all → Rest b at t b at all
rest_all b at t all e b₂ r w = rw e w

pub rest_none : (b : List ℕ) (at : ℕ) (t b₁ : List ℕ) (p : ℕ) (rest : List ℕ) → rest ≡ [] → Rest b at t b₁ p rest → Wrote b at t b₁ p
rest_none b at t b₁ p rest e f = rest_end b at t b₁ p (rw e at f)

-- ---- what a caller reads: a place before the buffer's end says that all of the text is there

behind_ge : (n at : ℕ) (t : List ℕ) → at ≤ behind n at t
unfolding behind next
behind_ge n at [] = omega arith
behind_ge n at (x ∷ t) =
    elim (dec_lt at n) [
      | yes h ↦ rw (lt-ltb _ _ h) (omega (arith, behind_ge n (at + 1) t))
      | no h ↦ let k : n ≤ at = omega arith in rw (le-ltb _ _ k) (behind_ge n at t)
    ]

-- a place before the end is as far on as the text is long
behind_in : (n at : ℕ) (t : List ℕ) → behind n at t < n → behind n at t ≡ at + length t
unfolding behind next
behind_in n at [] h = omega arith
behind_in n at (x ∷ t) h =
    let k : at < n = omega (arith, behind_ge n at (x ∷ t)) in
    let e : next n at ≡ at + 1 = rw (lt-ltb _ _ k) in
    let r : behind n (at + 1) t < n = rw e at h in
    rw e (omega (arith, behind_in n (at + 1) t r))

-- where all fits, writing is storing one byte behind the other
written_sets : (b : List ℕ) (at : ℕ) (t : List ℕ) → at + length t ≤ length b → written b at t ≡ sets b at t
unfolding written next
written_sets b at [] h = refl
written_sets b at (x ∷ t) h =
    let k : at < length b = omega arith in
    rw (lt-ltb _ _ k, add-one) (written_sets (set b at x) (suc at) t (simp length-set (omega arith)))

-- a text written from the front of a buffer
pub wrote_whole : {b t b' : List ℕ} {r : ℕ} → Wrote b 0 t b' r → r < length b → take r b' ≡ t
wrote_whole {b} {t} {b'} {r} w h =
    let p : behind (length b) 0 t < length b = rw (← w.place) h in
    let e : r ≡ length t = w.place ∙ behind_in (length b) 0 t p ∙ zero-add (length t) in
    let f : 0 + length t ≤ length b = omega arith in
    let s : b' ≡ take 0 b ++ t ++ drop (0 + length t) b = w.bytes ∙ written_sets b 0 t f ∙ sets-eq t b 0 f in
    rw (s, e) (take-append_seam t (drop (0 + length t) b))
