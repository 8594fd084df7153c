-- A cell's bits are the signed number of their width; what that number says is `cell_of` of the rules, whatever the width.
-- Here: the same by tests on the bits, over the width; and the values at 0, -1, the lowest and the highest number of 16 bits.
use Rattle.std.specs.Prelude.{◌≡◌, refl, ℕ, zero, suc, ◌-◌, ◌<◌, ◌≤◌, ◌^◌, eqb, ltb}
use Rattle.std.proofs.Common.{arith, sub-one, lt-ltb, le-ltb, ne_eqb, pow_pos}
use Rattle.std.proofs.Math.Decide.{dec_lt}
use Rattle.std.specs.Int.{Width, w16}
use mir.Val.{to_z, bits, hbits}
use Rattle.words.specs.Words.{pick}
use Rattle.rules.specs.declared.Cell.{Cell}
use Rattle.rules.specs.declared.Cell.TheVariants.{Shift, Reduce, Error}
use Rattle.rules.specs.Tables.{cell_of}

-- the cell whose bits are n, by tests: 0 is error, the lower half of the numbers shifts and the upper half reduces
unfoldable pub cell_bits : Width → ℕ → Cell
cell_bits w n =
    pick (eqb n 0) Error (pick (ltb n (2 ^ hbits w)) (Shift (record { 0 = n - 1 })) (Reduce (record { 0 = 2 ^ bits w - 1 - n })))

-- the number below the middle: 0 is error, another one shifts
below : (w : Width) (n : ℕ) → n < 2 ^ hbits w → cell_of (to_z w n) ≡ cell_bits w n
unfolding cell_bits
below w zero h = simp (lt-ltb _ _ h)
below w (suc n) h = simp (lt-ltb _ _ h, ne_eqb (suc n) 0 (λ e. omega arith), sub-one)

-- a number from the middle up reduces
above : (w : Width) (n : ℕ) → 0 < n → 2 ^ hbits w ≤ n → cell_of (to_z w n) ≡ cell_bits w n
unfolding cell_bits
above w n p h =
    let e : 2 ^ bits w - suc n ≡ 2 ^ bits w - 1 - n = omega arith in
    simp (le-ltb _ _ h, ne_eqb n 0 (λ e. omega arith), e)

-- the tests say what the signed number says, at every width
pub cell_signed : (w : Width) (n : ℕ) → cell_of (to_z w n) ≡ cell_bits w n
cell_signed w n =
    elim (dec_lt n (2 ^ hbits w)) [
      | yes h ↦ below w n h
      | no h ↦
          let k : 2 ^ hbits w ≤ n = omega arith in
          let z : 0 < 2 ^ hbits w = pow_pos (hbits w) in above w n (omega arith) k
    ]

-- the cell of 16 bits
abbrev pub cell16 : ℕ → Cell
cell16 n = cell_of (to_z w16 n)

pub at_zero : cell16 0 ≡ Error
at_zero = refl

pub at_minus_one : cell16 65535 ≡ Reduce (record { 0 = 0 })
at_minus_one = refl

pub at_lowest : cell16 32768 ≡ Reduce (record { 0 = 32767 })
at_lowest = refl

pub at_highest : cell16 32767 ≡ Shift (record { 0 = 32766 })
at_highest = refl
