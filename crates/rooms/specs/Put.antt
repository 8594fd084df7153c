-- Words in a row from a byte offset on: four of them are the model's `put4`, eight its `put8`.
use Rattle.std.specs.Prelude.{List, [], ◌∷◌, ◌≡◌, ℕ, ◌+◌}
use Rattle.std.proofs.Common.{arith}
use Rattle.words.specs.Words.{put32}
use Rattle.model.specs.Bytes.{put4, put8}

unfoldable pub put_words : List ℕ → ℕ → List ℕ → List ℕ
put_words s at [] = s
put_words s at (w ∷ ws) = put_words (put32 s at w) (at + 4) ws

pub put_four : (s : List ℕ) (at a b c d : ℕ) → put_words s at (a ∷ b ∷ c ∷ d ∷ []) ≡ put4 s at a b c d
unfolding put_words put4
put_four s at a b c d =
    let p : at + 4 + 4 ≡ at + 8 = omega arith in
    let q : at + 8 + 4 ≡ at + 12 = omega arith in
    rw (p, q)

-- eight words are four and four
pub put_eight : (s : List ℕ) (at a b c d e f g h : ℕ) → put_words s at (a ∷ b ∷ c ∷ d ∷ e ∷ f ∷ g ∷ h ∷ [])
    ≡ put8 s at a b c d e f g h
unfolding put_words put4 put8
put_eight s at a b c d e f g h =
    let p : at + 4 + 4 ≡ at + 8 = omega arith in
    let q : at + 8 + 4 ≡ at + 12 = omega arith in
    let r : at + 12 + 4 ≡ at + 16 = omega arith in
    let t : at + 16 + 4 + 4 ≡ at + 16 + 8 = omega arith in
    let u : at + 16 + 8 + 4 ≡ at + 16 + 12 = omega arith in
    rw (p, q, r, t, u)
