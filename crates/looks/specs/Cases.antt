-- A production that is not 0 is reduced: the model says so by the successor, the code by a test.
use Rattle.std.specs.Prelude.{Bool, ◌≡◌}
use Rattle.std.proofs.Math.Bool.{true, false}
use Rattle.std.proofs.Math.Path.{refl}
use Prim.Native.Nat.{ℕ, zero, suc, ◌-◌, ◌<◌}
use Rattle.std.proofs.Common.{arith}
use Rattle.rules.specs.declared.Cell.{Cell}
use Rattle.rules.specs.declared.Cell.TheVariants.{Shift, Reduce, Error}
use Rattle.rules.specs.declared.ProdNo.{ProdNo}
use Rattle.rules.specs.declared.StateNo.{StateNo}
use Rattle.rules.specs.Tables.{size}
use Rattle.model.specs.Model.{Call, World, reduce, fail, further, formed_at, main_look, main_reduce, column_reduce, search_look, simulate_reduce, simulate_over}

module _ (C : Call) (w : World) where
  pub main_more : (token : Bool) (p : ℕ) → (p ≡ 0 → ⊥) → main_reduce C w token p ≡ reduce C w p
  unfolding main_reduce
  main_more token zero h = absurd (h refl)
  main_more token (suc p) h = refl

  pub column_more : (p : ℕ) → (p ≡ 0 → ⊥) → column_reduce C w p ≡ reduce C w p
  unfolding column_reduce
  column_more zero h = absurd (h refl)
  column_more (suc p) h = refl

  pub simulate_more : (p : ℕ) → 0 < p → simulate_reduce C w p ≡
      simulate_over C w p (w.st.base - (size C.tables p - w.st.pushed)) (w.st.pushed - size C.tables p)
  unfolding simulate_reduce
  simulate_more zero h = absurd (omega arith)
  simulate_more (suc p) h = refl

  -- what a cell that is no shift says, whatever the lookahead
  pub main_reduces : (token : Bool) (p : ProdNo) → main_look C w token (Reduce p) ≡ main_reduce C w token p.0
  unfolding main_look
  main_reduces true p = refl
  main_reduces false p = refl

  pub main_fails : (token : Bool) → main_look C w token Error ≡ fail C w (formed_at w token)
  unfolding main_look
  main_fails true = refl
  main_fails false = refl

  -- what the `else` of `let Cell::Shift(s) = cell else ..` tells: whichever cell it is, the search goes on
  pub no_shift : (cell : Cell) → ((s : StateNo) → cell ≡ Shift s → ⊥) → search_look C w cell ≡ further C w
  unfolding search_look
  no_shift (Shift s) h = absurd (h s refl)
  no_shift (Reduce p) h = refl
  no_shift Error h = refl
