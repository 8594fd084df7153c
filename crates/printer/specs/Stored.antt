-- Words that stand in bytes are read there: the words of `bytes_of`, whatever stands before and behind them.
use Rattle.std.specs.Prelude.{List, [], ◌∷◌, ◌++◌, ◌≡◌, refl, ℕ, zero, suc, ◌+◌, ◌*◌, ◌-◌, ◌≤◌, ◌<◌, ◌^◌, length, get_or, drop}
use Rattle.std.proofs.Common.{append_assoc, sym, ◌∙◌, arith, length-append}
use Rattle.words.specs.Words.{le4, word32}
use Rattle.words.specs.Laws.{length_le4, get32_append, word32_in}
use Rattle.rules.specs.Answers.{bytes_of}
use Rattle.printer.specs.Lines.{words_from}

-- every word has 32 bits
abbrev pub Small : List ℕ → Type 0
Small [] = Unit
Small (w ∷ ws) = (w < 2 ^ 32) × Small ws

pub bytes_append : (xs ys : List ℕ) → bytes_of (xs ++ ys) ≡ bytes_of xs ++ bytes_of ys
unfolding bytes_of
bytes_append [] ys = refl
bytes_append (x ∷ xs) ys = rw (bytes_append xs ys) (sym (append_assoc (le4 x) (bytes_of xs) (bytes_of ys)))

pub length_bytes : (ws : List ℕ) → length (bytes_of ws) ≡ 4 * length ws
unfolding bytes_of
length_bytes [] = refl
length_bytes (w ∷ ws) = simp (length-append, length_le4, length_bytes ws) (omega arith)

pub word_in_law : (s pre post : List ℕ) (at v : ℕ) → s ≡ pre ++ le4 v ++ post → at ≡ length pre → v < 2 ^ 32 → word32 s at ≡ v
word_in_law s pre post at v e p h =
    let r : at + 4 ≤ length (pre ++ le4 v ++ post) = simp (length-append, length_le4) (omega arith) in
    rw (e, word32_in (pre ++ le4 v ++ post) at r) (get32_append pre post at v p h)

pub words_in_law : (ws s pre post : List ℕ) (at : ℕ) → s ≡ pre ++ bytes_of ws ++ post → at ≡ length pre → Small ws → words_from (length ws) s at ≡ ws
unfolding bytes_of words_from
words_in_law [] s pre post at e p h = refl
words_in_law (w ∷ ws) s pre post at e p h =
    let first : word32 s at ≡ w = word_in_law s pre (bytes_of ws ++ post) at w (e ∙ simp append_assoc) p h.0 in
    let rest : words_from (length ws) s (at + 4) ≡ ws = words_in_law ws s (pre ++ le4 w) post (at + 4) (e ∙ simp append_assoc) (simp (length-append, length_le4) (omega arith)) h.1 in
    λ i. first i ∷ rest i

-- the j-th word, and the words from it on
pub word_nth : (n : ℕ) (s : List ℕ) (at j : ℕ) → j < n → get_or (words_from n s at) j 0 ≡ word32 s (at + 4 * j)
unfolding words_from
word_nth zero s at j h = absurd (omega arith)
word_nth (suc n) s at zero h = let e : at + 4 * 0 ≡ at = omega arith in rw e
word_nth (suc n) s at (suc j) h =
    let e : at + 4 * suc j ≡ at + 4 + 4 * j = omega arith in rw e (word_nth n s (at + 4) j (omega arith))

pub words_drop : (j n : ℕ) (s : List ℕ) (at : ℕ) → drop j (words_from n s at) ≡ words_from (n - j) s (at + 4 * j)
unfolding words_from
words_drop zero n s at =
    let e : at + 4 * 0 ≡ at = omega arith in
    let d : n - 0 ≡ n = omega arith in rw (e, d)
words_drop (suc j) zero s at = let d : 0 - suc j ≡ 0 = omega arith in rw d
words_drop (suc j) (suc n) s at =
    let e : at + 4 * suc j ≡ at + 4 + 4 * j = omega arith in
    let d : suc n - suc j ≡ n - j = omega arith in rw (e, d) (words_drop j n s (at + 4))
