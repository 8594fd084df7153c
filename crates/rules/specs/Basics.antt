-- What the sections share: tests of all or any number below a bound, bits, and text.
use Rattle.std.specs.Prelude.{Bool, true, false, ◌&&◌, ◌||◌, List, [], ◌∷◌, ℕ, zero, suc, ◌+◌, ◌^◌, leb}
use Prim.Native.Char.{code}
use Prim.Native.String.{String, len, char_at}
use Rattle.words.specs.Words.{pick}

-- the test holds of every number below n
unfoldable pub all_below : ℕ → (ℕ → Bool) → Bool
all_below zero f = true
all_below (suc n) f = all_below n f && f n

-- the test holds of some number below n
unfoldable pub any_below : ℕ → (ℕ → Bool) → Bool
any_below zero f = false
any_below (suc n) f = any_below n f || f n

-- from lo to hi, both included
abbrev pub between : ℕ → ℕ → ℕ → Bool
between lo hi n = leb lo n && leb n hi

-- the number whose lowest n bits are the tests' values
unfoldable pub bits : ℕ → (ℕ → Bool) → ℕ
bits zero f = 0
bits (suc n) f = bits n f + pick (f n) (2 ^ n) 0

-- a text's ASCII codes, the n from i on
unfoldable pub codes_from : ℕ → String → ℕ → List ℕ
codes_from zero s i = []
codes_from (suc n) s i = code (char_at s i) ∷ codes_from n s (suc i)

unfoldable pub text : String → List ℕ
text s = codes_from (len s) s 0
