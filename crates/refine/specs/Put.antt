-- Stores of whole words as one store of their bytes: a store behind what is written appends, and a load finds the word stored.
-- Each of `put8`, `put_entry`, `put_node` and `put_record` is such a store, so that these laws are all that is needed of them.
use Rattle.std.specs.Prelude.{◌≡◌, refl, List, [], ◌∷◌, ◌++◌, ℕ, zero, suc, ◌+◌, ◌*◌, ◌<◌, ◌≤◌, ◌^◌, length, get_or, set, drop}
use Rattle.std.proofs.Common.{sym, ap, ◌∙◌, inl, append_assoc, append-nil, add-zero, arith, length-append, length-drop, drop-drop}
use Rattle.std.proofs.lemmas.List.Edits.{sets}
use Rattle.std.proofs.Math.Seq.{length-sets}
use Rattle.words.specs.Words.{get32, put32, le4}
use Rattle.words.specs.Laws.{value, Apart, get32_gets, put32_sets, gets_sets_other, sets_end, length_le4, get32_put32_same}
use Rattle.rules.specs.Answers.{bytes_of}
use Rattle.model.specs.Bytes.{put4, put8}

-- ---- bytes of words

pub length_bytes_of : (ws : List ℕ) → length (bytes_of ws) ≡ 4 * length ws
unfolding bytes_of
length_bytes_of [] = refl
length_bytes_of (w ∷ ws) = simp (length-append, length_le4) (omega (arith, length_bytes_of ws))

pub bytes_of_append : (us vs : List ℕ) → bytes_of (us ++ vs) ≡ bytes_of us ++ bytes_of vs
unfolding bytes_of
bytes_of_append [] vs = refl
bytes_of_append (w ∷ us) vs = rw (bytes_of_append us vs) (sym (append_assoc (le4 w) (bytes_of us) (bytes_of vs)))

-- ---- stores of words

sets_append : (us vs s : List ℕ) (at : ℕ) → sets s at (us ++ vs) ≡ sets (sets s at us) (at + length us) vs
sets_append [] vs s at = rw add-zero
sets_append (u ∷ us) vs s at =
    let e : at + suc (length us) ≡ suc at + length us = omega arith in
    rw e (sets_append us vs (set s at u) (suc at))

put32_bytes : (s : List ℕ) (at v : ℕ) → put32 s at v ≡ sets s at (bytes_of (v ∷ []))
unfolding bytes_of
put32_bytes s at v = rw (append-nil (le4 v)) (put32_sets s at v)

-- words behind words
pub sets_words : (s us vs : List ℕ) (at to : ℕ) → to ≡ at + 4 * length us → sets (sets s at (bytes_of us)) to (bytes_of vs) ≡ sets s at (bytes_of (us ++ vs))
sets_words s us vs at to e =
    rw (bytes_of_append us vs, sets_append (bytes_of us) (bytes_of vs) s at, length_bytes_of us, ← e)

pub put32_words : (s us : List ℕ) (at to v : ℕ) → to ≡ at + 4 * length us → put32 (sets s at (bytes_of us)) to v ≡ sets s at (bytes_of (us ++ (v ∷ [])))
put32_words s us at to v e = put32_bytes (sets s at (bytes_of us)) to v ∙ sets_words s us (v ∷ []) at to e

pub put8_words : (s : List ℕ) (at a b c d e f g h : ℕ) → put8 s at a b c d e f g h ≡ sets s at (bytes_of (a ∷ b ∷ c ∷ d ∷ e ∷ f ∷ g ∷ h ∷ []))
unfolding put8 put4
put8_words s at a b c d e f g h =
    rw (
      put32_bytes s at a,
      put32_words s (a ∷ []) at (at + 4) b (omega arith),
      put32_words s (a ∷ b ∷ []) at (at + 8) c (omega arith),
      put32_words s (a ∷ b ∷ c ∷ []) at (at + 12) d (omega arith),
      put32_words s (a ∷ b ∷ c ∷ d ∷ []) at (at + 16) e (omega arith),
      put32_words s (a ∷ b ∷ c ∷ d ∷ e ∷ []) at (at + 16 + 4) f (omega arith),
      put32_words s (a ∷ b ∷ c ∷ d ∷ e ∷ f ∷ []) at (at + 16 + 8) g (omega arith),
      put32_words s (a ∷ b ∷ c ∷ d ∷ e ∷ f ∷ g ∷ []) at (at + 16 + 12) h (omega arith),
    )

-- ---- a room: what is written, and behind it what was there

pub record Written (from room bytes : List ℕ) : Type 0 where
  pub is : room ≡ bytes ++ drop (length bytes) from
  pub fits : length bytes ≤ length from

pub written_length : {from room bytes : List ℕ} → Written from room bytes → length room ≡ length from
written_length {from} {room} {bytes} W =
    let f = W.fits in rw (W.is, length-append, length-drop) (omega arith)

pub written_none : (from : List ℕ) → Written from from []
written_none from = record { is = refl; fits = omega arith }

written_more : {from room bytes : List ℕ} (vs : List ℕ) (at : ℕ) → Written from room bytes → at ≡ length bytes → length bytes + length vs ≤ length from → Written from (sets room at vs) (bytes ++ vs)
written_more {from} {room} {bytes} vs at W e h =
    let r : length vs ≤ length (drop (length bytes) from) = simp length-drop (omega arith) in
    let p : sets (bytes ++ drop (length bytes) from) (length bytes) vs ≡ bytes ++ vs ++ drop (length (bytes ++ vs)) from = rw (sets_end vs bytes (drop (length bytes) from) r, drop-drop, length-append) in
    record { is = rw (W.is, e) p; fits = simp length-append (omega arith) }

-- words behind the words that are written
pub written_words : {from room : List ℕ} (us vs : List ℕ) (at : ℕ) → Written from room (bytes_of us) → at ≡ 4 * length us → 4 * (length us + length vs) ≤ length from → Written from (sets room at (bytes_of vs)) (bytes_of (us ++ vs))
written_words {from} {room} us vs at W e h =
    let l = length_bytes_of us in
    let m = length_bytes_of vs in
    rw bytes_of_append (written_more (bytes_of vs) at W (omega arith) (omega arith))

-- ---- loads of words

pub get32_sets_other : (s vs : List ℕ) (at i : ℕ) → Apart i 4 at (length vs) → get32 (sets s at vs) i ≡ get32 s i
get32_sets_other s vs at i h = simp get32_gets (ap value (gets_sets_other 4 vs s at i h))

-- word number j of the words stored is loaded there
pub get32_sets_word : (ws s : List ℕ) (at i j : ℕ) → at + 4 * length ws ≤ length s → j < length ws → i ≡ at + 4 * j → get_or ws j 0 < 2 ^ 32 → get32 (sets s at (bytes_of ws)) i ≡ get_or ws j 0
unfolding bytes_of
get32_sets_word [] s at i j h k e b = absurd (omega arith)
get32_sets_word (w ∷ ws) s at i zero h k e b =
    let p : i ≡ at = omega arith in
    let q : get32 (sets (sets s at (le4 w)) (at + 4) (bytes_of ws)) at ≡ get32 (sets s at (le4 w)) at = get32_sets_other (sets s at (le4 w)) (bytes_of ws) (at + 4) at (inl (omega arith)) in
    rw (p, sets_append (le4 w) (bytes_of ws) s at, length_le4, q, ← (put32_sets s at w)) (get32_put32_same s at w (omega arith) b)
get32_sets_word (w ∷ ws) s at i (suc j) h k e b =
    rw (sets_append (le4 w) (bytes_of ws) s at, length_le4)
    (get32_sets_word ws (sets s at (le4 w)) (at + 4) i j (simp length-sets (omega arith)) (omega arith) (omega arith) b)
