-- A scan may skip each place whose test is that of the place before it.
-- Assumes nothing.
use Rattle.std.specs.Prelude.{Bool, true, false, ◌||◌, ◌≡◌}
use Rattle.std.proofs.Math.Path.{refl}
use Rattle.std.proofs.Common.{◌∙◌}
use Rattle.std.proofs.lemmas.Bool.{cases_Bool, or_right}
use mathlib.Core.Logic.{⊎_elim}
use Prim.Native.Nat.{ℕ, zero, suc}
use native.Mathlib.Omega.{arith}
use Rattle.tables.specs.Places.{first_bad}

-- where the test at a place to skip is that of the place before, skipping changes no first bad place
pub bad_skips : (ok skip : ℕ → Bool) → ((i : ℕ) → skip (suc i) ≡ true → ok (suc i) ≡ ok i) → (i n : ℕ) → (skip i ≡ true → ok i ≡ true) → first_bad (λ k. skip k || ok k) i n ≡ first_bad ok i n
unfolding first_bad
bad_skips ok skip h i zero s = refl
bad_skips ok skip h i (suc n) s =
    ⊎_elim
    (λ e. rw (or_right (skip i) (ok i) e, e) (bad_skips ok skip h (suc i) n (λ k. h i k ∙ e)))
    (λ e.
    ⊎_elim
    (λ k. let t : ok i ≡ true = s k in absurd (let z : ◌≡◌ {A = ℕ} 0 1 = cc in omega arith))
    (λ k. let q : skip i ≡ false = k in let r : ok i ≡ false = e in rw (q, r))
    (cases_Bool (skip i)))
    (cases_Bool (ok i))
