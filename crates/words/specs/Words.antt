-- Numbers of 16 and 32 bits in a list of bytes, lowest byte first: their bytes, a read, a write, and a read that asks nothing.
-- A place is a byte's index. Each is written out byte by byte; `Laws` has the form over any width.
-- Assumes nothing.
use Rattle.std.specs.Prelude.{ℕ, ◌+◌, ◌*◌, ◌/◌, ◌%◌, List, [], ◌∷◌, Bool, true, false, length, get_or, set, leb}

-- the `if` of a spec
abbrev pub pick : {A : Type 0} → Bool → A → A → A
pick true a b = a
pick false a b = b

-- the bytes of a number below 2 ^ 16, and of one below 2 ^ 32; of a larger number its low bytes
unfoldable pub le2 : ℕ → List ℕ
le2 v = v % 256 ∷ v / 256 % 256 ∷ []

unfoldable pub le4 : ℕ → List ℕ
le4 v = v % 256 ∷ v / 256 % 256 ∷ v / 65536 % 256 ∷ v / 16777216 % 256 ∷ []

-- the number whose bytes start at `at`; a byte past the end is 0
unfoldable pub get16 : List ℕ → ℕ → ℕ
get16 s at = get_or s at 0 + get_or s (at + 1) 0 * 256

unfoldable pub get32 : List ℕ → ℕ → ℕ
get32 s at = get_or s at 0 + get_or s (at + 1) 0 * 256 + get_or s (at + 2) 0 * 65536 + get_or s (at + 3) 0 * 16777216

-- `s` with the bytes of `v` from `at` on
unfoldable pub put16 : List ℕ → ℕ → ℕ → List ℕ
put16 s at v = set (set s at (v % 256)) (at + 1) (v / 256 % 256)

unfoldable pub put32 : List ℕ → ℕ → ℕ → List ℕ
put32 s at v =
    set (set (set (set s at (v % 256)) (at + 1) (v / 256 % 256)) (at + 2) (v / 65536 % 256)) (at + 3) (v / 16777216 % 256)

-- the number at `at` if it lies wholly inside, else 0
unfoldable pub word16 : List ℕ → ℕ → ℕ
word16 s at = pick (leb (at + 2) (length s)) (get16 s at) 0

unfoldable pub word32 : List ℕ → ℕ → ℕ
word32 s at = pick (leb (at + 4) (length s)) (get32 s at) 0
