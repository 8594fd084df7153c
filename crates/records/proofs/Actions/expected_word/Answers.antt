-- `records::Actions::expected_word` is the word of its tests: after b turns it is the lowest b of them, below the weight of bit b.
-- Assumes nothing.
use Rattle.std.proofs.Common.{Bool, true, false, ◌≡◌, ℕ, ◌+◌, ◌*◌, ◌^◌, ◌≤◌, ◌<◌, ◌%◌, add-one, arith, refl, sym, ◌∙◌}
use Rattle.words.specs.Words.{pick}
use Rattle.rules.specs.Basics.{bits}
use Rattle.records.specs.Expected.{word_stops}
use Rattle.std.proofs.Math.Nat.{pow-succ', mod-eq_of_lt}
use Rattle.std.proofs.Math.Pow.{pow-lt}
use Rattle.records.proofs.Actions.expected_word.Goals.{then-expects, else-expects}
use Rattle.records.proofs.Actions.expected_word.Goals as goal

-- one bit more
one_more : (f : ℕ → Bool) (w v b : ℕ) → w ≡ bits b f → w < 2 ^ b → v ≡ w + pick (f b) (2 ^ b) 0 → v ≤ w + 2 ^ b
    → (v ≡ bits (b + 1) f) × (v < 2 ^ (b + 1))
unfolding bits
one_more f w v b e l s m =
    let p : 2 ^ (b + 1) ≡ 2 * 2 ^ b = rw add-one (pow-succ' 2 b) in
    (rw (add-one, ← e) s, omega arith)

one_set : (f : ℕ → Bool) (w v b : ℕ) → w ≡ bits b f → w < 2 ^ b → b < 32 → true ≡ f b → v ≡ w + (1 * 2 ^ b) % 4294967296
    → (v ≡ bits (b + 1) f) × (v < 2 ^ (b + 1))
one_set f w v b e l h t s =
    let q : 2 ^ b < 2 ^ 32 = pow-lt h in
    let r : (1 * 2 ^ b) % 4294967296 ≡ 2 ^ b = mod-eq_of_lt {n = 1 * 2 ^ b} {m = 4294967296} (omega arith) ∙ (omega arith) in
    one_more f w v b e l (rw (← t) (omega arith)) (omega arith)

one_unset : (f : ℕ → Bool) (w v b : ℕ) → w ≡ bits b f → w < 2 ^ b → false ≡ f b → v ≡ w → (v ≡ bits (b + 1) f) × (v < 2 ^ (b + 1))
one_unset f w v b e l t s = one_more f w v b e l (rw (← t) (omega arith)) (omega arith)

pub loop-b-init : goal.loop-b-init
unfolding bits
loop-b-init c = (refl, omega arith)

pub loop-b-preserved : goal.loop-b-preserved
loop-b-preserved c =
    let l = c.loop-b.invariant in
    let m = c.bits_in-b-end.ensures.most in
    elim c.if-expects.branch [
      | then-expects w ↦ one_set _ _ _ _ l.0 l.1 (omega arith) (sym w.if-expects.true ∙ c.expects.ensures) w.word-is
      | else-expects w ↦ one_unset _ _ _ _ l.0 l.1 (sym w.if-expects.false ∙ c.expects.ensures) w.word-is
    ]

pub returns : goal.returns
returns c = let e : c.loop-b.b ≡ c.bits_in-b-end.result = omega arith in
    rw (word_stops _ _ _ _ _ _ c.bits_in-b-end.ensures, ← e) c.loop-b.invariant.0
