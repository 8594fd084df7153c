-- `records::Actions::expected_words` are the eight words, each by its own call.
-- Assumes nothing.
use Rattle.std.proofs.Common.{rules, ◌≡◌, List, ℕ, zero, suc, ◌+◌, ◌≤◌, ◌<◌, get_or, arith, ◌∙◌, ⊎_elim, refl, map}
use Rattle.std.specs.Fn.{Mut, Called}
use Rattle.std.specs.Array.{IsFromFnResultFrom, IsFromFnResult}
use Rattle.std.specs.List.{range_with_len}
use Rattle.std.proofs.Math.Nat.{eq-or-lt_of_le}
use Rattle.std.proofs.lemmas.List.FromFn.{fill_by_all}
use Rattle.records.specs.Expected.{words_in, word_in}
use Rattle.records.proofs.Actions.expected_words.Goals as goal

-- what was made by calls that answer f of their number, and change nothing, is f of each number
made_from : {F : Type 0} (g : Mut F (ℕ × Unit {0}) ℕ) (f : ℕ → ℕ) (s : F)
    → ((j r : ℕ) (q : F) → Called g s (j, tt) r q → (q ≡ s) × (r ≡ f j))
    → (ys : List ℕ) (p : F) (i n : ℕ) → p ≡ s → IsFromFnResultFrom g p ys i n → (k : ℕ) → i ≤ k → k < i + n → get_or ys k 0 ≡ f k
made_from g f s says ys p i zero e h k low high = absurd (omega arith)
made_from g f s says ys p i (suc n) e h k low high =
    let m = says i h.1 h.0 (rw e at h.3) in
    ⊎_elim
    (λ (z : i ≡ k). rw (← z) (h.2.1 0 ∙ m.1))
    (λ (z : i < k). made_from g f s says ys h.0 (i + 1) n m.0 h.4 k (omega arith) (omega arith))
    (eq-or-lt_of_le low)

made_by : {F : Type 0} {g : Mut F (ℕ × Unit {0}) ℕ} {s : F} {ys : List ℕ} {n : ℕ} (f : ℕ → ℕ) → IsFromFnResult g s ys n
    → ((j r : ℕ) (q : F) → Called g s (j, tt) r q → (q ≡ s) × (r ≡ f j)) → ys ≡ map f (range_with_len 0 n)
made_by {F} {g} {s} {ys} {n} f h says =
    fill_by_all f ys n 0 h.long (λ k l. made_from g f s says ys s 0 n refl h.each k (omega arith) (omega arith))

pub returns : goal.returns
unfolding words_in
returns c =
    made_by (word_in c.args.self.bytes.now c.args.self.states c.args.self.kinds c.args.state) c.from_fn.ensures.items (λ j r q d. search rules)
