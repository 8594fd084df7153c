-- Expected kinds over the actions' bytes and the two sizes that say where a row lies: what the code reads.
-- They are the rules' own, by definition.
use Rattle.std.specs.Prelude.{Bool, false, not, List, [], ◌∷◌, ◌≡◌, ℕ, zero, suc, ◌+◌, ◌*◌, ◌-◌, ◌≤◌, ◌<◌, ltb}
use Rattle.std.proofs.Common.{add-zero, arith, le-ltb}
use Rattle.words.specs.Words.{pick}
use Rattle.rules.specs.Basics.{bits}
use Rattle.rules.specs.Tables.{Tables, states, kinds, is_error, action}
use Rattle.rules.specs.Driving.{expects, expected_word}
use Rattle.rules.specs.Answers.{expected_words}
use Rattle.tables.specs.Readers.{cell_in}

-- the part of the tables that is read
pub record Row (T : Tables) (actions : List ℕ) (rows user : ℕ) : Type 0 where
  pub actions_are : T.actions ≡ actions
  pub states_are : states T ≡ rows
  pub kinds_are : kinds T ≡ user

unfoldable pub expects_in : List ℕ → ℕ → ℕ → ℕ → ℕ → Bool
expects_in actions rows user s k = pick (ltb k user) (not (is_error (cell_in actions rows (user + 2) s k))) false

unfoldable pub word_in : List ℕ → ℕ → ℕ → ℕ → ℕ → ℕ
word_in actions rows user s j = bits 32 (λ b. expects_in actions rows user s (32 * j + b))

-- the word's bits from the r-th on are past the user kinds
pub record Bound (user j r : ℕ) : Type 0 where
  pub most : r ≤ 32
  pub past : (k : ℕ) → r ≤ k → k < 32 → user ≤ 32 * j + k

-- where no bit is set any more, the word is what the lower bits make
bits_stop : (f : ℕ → Bool) (n d : ℕ) → ((k : ℕ) → n ≤ k → k < n + d → f k ≡ false) → bits (n + d) f ≡ bits n f
unfolding bits
bits_stop f n zero h = rw add-zero
bits_stop f n (suc d) h =
    let e : f (n + d) ≡ false = h (n + d) (omega arith) (omega arith) in
    let r : bits (n + d) f ≡ bits n f = bits_stop f n d (λ k a b. h k a (omega arith)) in
    let s : n + suc d ≡ suc (n + d) = omega arith in
    rw (s, e, r) (omega arith)

past_kinds : (actions : List ℕ) (rows user s k : ℕ) → user ≤ k → expects_in actions rows user s k ≡ false
unfolding expects_in
past_kinds actions rows user s k h = rw (le-ltb _ _ h)

pub word_stops : (actions : List ℕ) (rows user s j r : ℕ) → Bound user j r → word_in actions rows user s j ≡
    bits r (λ b. expects_in actions rows user s (32 * j + b))
unfolding word_in
word_stops actions rows user s j r b =
    let m : r ≤ 32 = b.most in
    let f : ℕ → Bool = λ b. expects_in actions rows user s (32 * j + b) in
    let e : r + (32 - r) ≡ 32 = omega arith in
    let q : bits (r + (32 - r)) f ≡ bits r f = bits_stop f r (32 - r) (λ k h l. past_kinds actions rows user s (32 * j + k)
    (b.past k h (omega arith))) in
    rw e at q

unfoldable pub words_in : List ℕ → ℕ → ℕ → ℕ → List ℕ
words_in actions rows user s =
    word_in actions rows user s 0 ∷ word_in actions rows user s 1 ∷ word_in actions rows user s 2 ∷ word_in actions rows user s 3
    ∷ word_in actions rows user s 4 ∷ word_in actions rows user s 5 ∷ word_in actions rows user s 6 ∷ word_in actions rows user s 7
    ∷ []

pub word_in_law : {T : Tables} {actions : List ℕ} {rows user : ℕ} → Row T actions rows user → (s j : ℕ) → expected_word T s j ≡
    word_in actions rows user s j
unfolding expected_word expects action word_in expects_in cell_in
word_in_law {T} r s j = rw (← r.actions_are, ← r.states_are, ← r.kinds_are)

pub words_in_law : {T : Tables} {actions : List ℕ} {rows user : ℕ} → Row T actions rows user → (s : ℕ) → expected_words T s ≡
    words_in actions rows user s
unfolding expected_words words_in
words_in_law r s = simp (word_in_law r)
