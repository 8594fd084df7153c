-- What a read finds after a write, where a write leaves the rest alone, and a write as an append, for numbers in a list of bytes.
-- Each is proved once, for a list of bytes of any length (`gets` reads, `sets` writes); that of 16 and of 32 bits is an instance.
-- Assumes nothing.
use Rattle.std.specs.Prelude.{◌≡◌, refl, ◌⊎◌, Bool, true, false, List, [], ◌∷◌, ◌++◌, ℕ, zero, suc, ◌+◌, ◌*◌, ◌/◌, ◌%◌, ◌^◌, ◌≤◌, ◌<◌, length, get_or, set, take, drop, ltb, leb, eqb}
use Rattle.std.proofs.Common.{ap, ◌∙◌, inl, inr, pow-suc, div-lt_iff_lt-mul, add-one, arith, length-set, length-append, get_or-set_same, get_or-set_other, le-leb, ltb-true, ltb-false, leb-true, leb-false, eqb-true}
use Rattle.std.proofs.Math.Nat.{pow-succ', mod-add-div, div-div-eq-div-mul}
use Rattle.std.proofs.lemmas.List.Edits.{sets, sets-eq}
use Rattle.std.proofs.Math.Seq.{length-sets, take-append_seam, drop-append-add, drop-append_seam}
use Rattle.std.proofs.lemmas.Bool.{lt-leb, eqb-false}
use Rattle.words.specs.Words.{pick, le2, le4, get16, get32, put16, put32, word16, word32}

-- ---- any width: the bytes of a number, and the number that bytes make

-- the `n` low bytes of a number
unfoldable pub le : ℕ → ℕ → List ℕ
le zero v = []
le (suc n) v = v % 256 ∷ le n (v / 256)

-- the number that bytes make, lowest first
unfoldable pub value : List ℕ → ℕ
value [] = 0
value (b ∷ bs) = b + 256 * value bs

-- each element is a byte; past the end `get_or` gives 0, so this holds of every index
abbrev pub Bytes : List ℕ → Type 0
Bytes s = (k : ℕ) → get_or s k 0 < 256

pub length_le : (n v : ℕ) → length (le n v) ≡ n
unfolding le
length_le zero v = refl
length_le (suc n) v = ap suc (length_le n (v / 256))

pub value_le : (n v : ℕ) → v < 256 ^ n → value (le n v) ≡ v
unfolding le value
value_le zero v h = omega arith
value_le (suc n) v h =
    let d : v / 256 < 256 ^ n = (div-lt_iff_lt-mul {k = 256} {x = v} {y = 256 ^ n} (omega arith)).1 (rw pow-suc at h) in
    rw (value_le n (v / 256) d) (mod-add-div v 256)

-- ---- any width: a read of bytes, and a write of bytes, which is `sets`

-- the `n` bytes from `at` on
unfoldable pub gets : List ℕ → ℕ → ℕ → List ℕ
gets s at zero = []
gets s at (suc n) = get_or s at 0 ∷ gets s (suc at) n

-- `n` places from `i` on, and `m` from `at` on, have none in common
abbrev pub Apart : ℕ → ℕ → ℕ → ℕ → Type 0
Apart i n at m = (i + n ≤ at) ⊎ (at + m ≤ i)

get_d_sets_other : (vs s : List ℕ) (at k : ℕ) → Apart k 1 at (length vs) → get_or (sets s at vs) k 0 ≡ get_or s k 0
get_d_sets_other [] s at k h = refl
get_d_sets_other (v ∷ vs) s at k (inl h) =
    get_d_sets_other vs (set s at v) (suc at) k (inl (omega arith)) ∙ get_or-set_other s at k v 0 (λ e. omega arith)
get_d_sets_other (v ∷ vs) s at k (inr h) =
    get_d_sets_other vs (set s at v) (suc at) k (inr (omega arith)) ∙ get_or-set_other s at k v 0 (λ e. omega arith)

-- what was written is read
pub gets_sets_same : (vs s : List ℕ) (at : ℕ) → at + length vs ≤ length s → gets (sets s at vs) at (length vs) ≡ vs
unfolding gets
gets_sets_same [] s at h = refl
gets_sets_same (v ∷ vs) s at h =
    let first : get_or (sets (set s at v) (suc at) vs) at 0 ≡ v = get_d_sets_other vs (set s at v) (suc at) at (inl (omega arith)) ∙ get_or-set_same s at v 0 (omega arith) in
    let rest : gets (sets (set s at v) (suc at) vs) (suc at) (length vs) ≡ vs = gets_sets_same vs (set s at v) (suc at) (simp length-set (omega arith)) in
    λ i. first i ∷ rest i

-- what was not written is as it was
pub gets_sets_other : (n : ℕ) (vs s : List ℕ) (at i : ℕ) → Apart i n at (length vs) → gets (sets s at vs) i n ≡ gets s i n
unfolding gets
gets_sets_other zero vs s at i h = refl
gets_sets_other (suc n) vs s at i (inl h) =
    λ j. get_d_sets_other vs s at i (inl (omega arith)) j ∷ gets_sets_other n vs s at (suc i) (inl (omega arith)) j
gets_sets_other (suc n) vs s at i (inr h) =
    λ j. get_d_sets_other vs s at i (inr (omega arith)) j ∷ gets_sets_other n vs s at (suc i) (inr (omega arith)) j

-- a write at the end of what is written: it is appended, and takes as much off the rest
pub sets_end : (vs pre rest : List ℕ) → length vs ≤ length rest → sets (pre ++ rest) (length pre) vs ≡ (pre ++ vs) ++ drop (length vs) rest
sets_end vs pre rest h =
    let r : length pre + length vs ≤ length (pre ++ rest) = simp length-append (omega arith) in
    rw (sets-eq vs (pre ++ rest) (length pre) r, take-append_seam, drop-append-add)

-- bytes that stand somewhere are read there
pub gets_append : (vs pre post : List ℕ) → gets (pre ++ vs ++ post) (length pre) (length vs) ≡ vs
gets_append vs pre post =
    let r : length vs ≤ length (vs ++ post) = simp length-append (omega arith) in
    let q : length pre + length vs ≤ length (pre ++ (vs ++ post)) = simp length-append (omega arith) in
    let e : sets (pre ++ (vs ++ post)) (length pre) vs ≡ pre ++ vs ++ post = rw (sets_end vs pre (vs ++ post) r, drop-append_seam) in
    rw (← e) (gets_sets_same vs (pre ++ (vs ++ post)) (length pre) q)

-- a number that is read is below the power of its width
pub value_gets_lt : (n : ℕ) (s : List ℕ) (at : ℕ) → Bytes s → value (gets s at n) < 256 ^ n
unfolding value gets
value_gets_lt zero s at b = omega arith
value_gets_lt (suc n) s at b = rw pow-succ' (omega (arith, b at, value_gets_lt n s (suc at) b))

-- ---- 16 and 32 bits as instances

pub le2_le : (v : ℕ) → le2 v ≡ le 2 v
unfolding le2 le
le2_le v = refl

pub le4_le : (v : ℕ) → le4 v ≡ le 4 v
unfolding le4 le
le4_le v = simp div-div-eq-div-mul

pub get16_gets : (s : List ℕ) (at : ℕ) → get16 s at ≡ value (gets s at 2)
unfolding get16 value gets
get16_gets s at = rw add-one (omega arith)

pub get32_gets : (s : List ℕ) (at : ℕ) → get32 s at ≡ value (gets s at 4)
unfolding get32 value gets
get32_gets s at =
    let p : at + 1 ≡ suc at = omega arith in
    let q : at + 2 ≡ suc (suc at) = omega arith in
    let r : at + 3 ≡ suc (suc (suc at)) = omega arith in
    rw (p, q, r) (omega arith)

pub put16_sets : (s : List ℕ) (at v : ℕ) → put16 s at v ≡ sets s at (le2 v)
unfolding put16 le2
put16_sets s at v = rw add-one

pub put32_sets : (s : List ℕ) (at v : ℕ) → put32 s at v ≡ sets s at (le4 v)
unfolding put32 le4
put32_sets s at v =
    let p : at + 1 ≡ suc at = omega arith in
    let q : at + 2 ≡ suc (suc at) = omega arith in
    let r : at + 3 ≡ suc (suc (suc at)) = omega arith in
    rw (p, q, r)

pub length_le2 : (v : ℕ) → length (le2 v) ≡ 2
length_le2 v = rw (le2_le, length_le)

pub length_le4 : (v : ℕ) → length (le4 v) ≡ 4
length_le4 v = rw (le4_le, length_le)

pub length_put16 : (s : List ℕ) (at v : ℕ) → length (put16 s at v) ≡ length s
length_put16 s at v = rw (put16_sets, length-sets)

pub length_put32 : (s : List ℕ) (at v : ℕ) → length (put32 s at v) ≡ length s
length_put32 s at v = rw (put32_sets, length-sets)

pub get16_put16_same : (s : List ℕ) (at v : ℕ) → at + 2 ≤ length s → v < 2 ^ 16 → get16 (put16 s at v) at ≡ v
unfolding le2
get16_put16_same s at v h k = rw (get16_gets, put16_sets, gets_sets_same (le2 v) s at h, le2_le) (value_le 2 v k)

pub get32_put32_same : (s : List ℕ) (at v : ℕ) → at + 4 ≤ length s → v < 2 ^ 32 → get32 (put32 s at v) at ≡ v
unfolding le4
get32_put32_same s at v h k = rw (get32_gets, put32_sets, gets_sets_same (le4 v) s at h, le4_le) (value_le 4 v k)

pub get16_put16_other : (s : List ℕ) (at v i : ℕ) → Apart i 2 at 2 → get16 (put16 s at v) i ≡ get16 s i
unfolding le2
get16_put16_other s at v i h = simp (get16_gets, put16_sets) (ap value (gets_sets_other 2 (le2 v) s at i h))

pub get16_put32_other : (s : List ℕ) (at v i : ℕ) → Apart i 2 at 4 → get16 (put32 s at v) i ≡ get16 s i
unfolding le4
get16_put32_other s at v i h = simp (get16_gets, put32_sets) (ap value (gets_sets_other 2 (le4 v) s at i h))

pub get32_put16_other : (s : List ℕ) (at v i : ℕ) → Apart i 4 at 2 → get32 (put16 s at v) i ≡ get32 s i
unfolding le2
get32_put16_other s at v i h = simp (get32_gets, put16_sets) (ap value (gets_sets_other 4 (le2 v) s at i h))

pub get32_put32_other : (s : List ℕ) (at v i : ℕ) → Apart i 4 at 4 → get32 (put32 s at v) i ≡ get32 s i
unfolding le4
get32_put32_other s at v i h = simp (get32_gets, put32_sets) (ap value (gets_sets_other 4 (le4 v) s at i h))

-- a write, as a cut and a paste
pub put16_eq : (s : List ℕ) (at v : ℕ) → at + 2 ≤ length s → put16 s at v ≡ take at s ++ le2 v ++ drop (at + 2) s
unfolding le2
put16_eq s at v h = rw put16_sets (sets-eq (le2 v) s at h)

pub put32_eq : (s : List ℕ) (at v : ℕ) → at + 4 ≤ length s → put32 s at v ≡ take at s ++ le4 v ++ drop (at + 4) s
unfolding le4
put32_eq s at v h = rw put32_sets (sets-eq (le4 v) s at h)

pub put16_end : (s pre rest : List ℕ) (at v : ℕ) → s ≡ pre ++ rest → at ≡ length pre → 2 ≤ length rest → put16 s at v ≡ (pre ++ le2 v) ++ drop 2 rest
unfolding le2
put16_end s pre rest at v e p h = rw (e, p, put16_sets) (sets_end (le2 v) pre rest h)

pub put32_end : (s pre rest : List ℕ) (at v : ℕ) → s ≡ pre ++ rest → at ≡ length pre → 4 ≤ length rest → put32 s at v ≡ (pre ++ le4 v) ++ drop 4 rest
unfolding le4
put32_end s pre rest at v e p h = rw (e, p, put32_sets) (sets_end (le4 v) pre rest h)

-- a number whose bytes stand somewhere is read there
pub get16_append : (pre post : List ℕ) (at v : ℕ) → at ≡ length pre → v < 2 ^ 16 → get16 (pre ++ le2 v ++ post) at ≡ v
unfolding le2
get16_append pre post at v p k = rw (p, get16_gets, gets_append (le2 v) pre post, le2_le) (value_le 2 v k)

pub get32_append : (pre post : List ℕ) (at v : ℕ) → at ≡ length pre → v < 2 ^ 32 → get32 (pre ++ le4 v ++ post) at ≡ v
unfolding le4
get32_append pre post at v p k = rw (p, get32_gets, gets_append (le4 v) pre post, le4_le) (value_le 4 v k)

pub get16_lt : (s : List ℕ) (at : ℕ) → Bytes s → get16 s at < 2 ^ 16
get16_lt s at b = rw get16_gets (value_gets_lt 2 s at b)

pub get32_lt : (s : List ℕ) (at : ℕ) → Bytes s → get32 s at < 2 ^ 32
get32_lt s at b = rw get32_gets (value_gets_lt 4 s at b)

-- ---- the reads that ask nothing: inside they are the others, elsewhere 0

pub word16_in : (s : List ℕ) (at : ℕ) → at + 2 ≤ length s → word16 s at ≡ get16 s at
unfolding word16
word16_in s at h = rw le-leb

pub word16_out : (s : List ℕ) (at : ℕ) → length s < at + 2 → word16 s at ≡ 0
unfolding word16
word16_out s at h = rw lt-leb

pub word32_in : (s : List ℕ) (at : ℕ) → at + 4 ≤ length s → word32 s at ≡ get32 s at
unfolding word32
word32_in s at h = rw le-leb

pub word32_out : (s : List ℕ) (at : ℕ) → length s < at + 4 → word32 s at ≡ 0
unfolding word32
word32_out s at h = rw lt-leb

-- ---- `pick`: what holds of both answers, each where its test led to it, holds of the one picked

pub pick_case : {A : Type 0} (P : A → Type 0) (t : Bool) (x y : A) → (t ≡ true → P x) → (t ≡ false → P y) → P (pick t x y)
pick_case P true x y f g = f refl
pick_case P false x y f g = g refl

module _ {A : Type 0} (P : A → Type 0) (a b : ℕ) (x y : A) where
  pub pick_leb : (a ≤ b → P x) → (b < a → P y) → P (pick (leb a b) x y)
  pick_leb f g = pick_case P (leb a b) x y (λ e. f (leb-true a b e)) (λ e. g (leb-false a b e))

  pub pick_ltb : (a < b → P x) → (b ≤ a → P y) → P (pick (ltb a b) x y)
  pick_ltb f g = pick_case P (ltb a b) x y (λ e. f (ltb-true a b e)) (λ e. g (ltb-false a b e))

  pub pick_eqb : (a ≡ b → P x) → ((a ≡ b → ⊥) → P y) → P (pick (eqb a b) x y)
  pick_eqb f g = pick_case P (eqb a b) x y (λ e. f (eqb-true a b e)) (λ e. g (eqb-false a b e))
