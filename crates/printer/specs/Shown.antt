-- The lines' texts are the rules' lines, where the numbers are the answer's and the words are those that a call leaves.
use Rattle.std.specs.Prelude.{Bool, true, false, ◌≡◌, refl, ℕ, zero, suc, ◌+◌, ◌*◌, ◌≤◌, ◌<◌, ◌^◌, length, get_or}
use mathlib.Core.List.{List, [], ◌∷◌, ◌++◌, append_assoc}
use Rattle.std.proofs.Math.Path.{sym, ap}
use Rattle.std.proofs.Common.{◌∙◌, length-append}
use Rattle.std.proofs.Math.Nat.{pow-succ'}
use native.Mathlib.Omega.{arith}
use Rattle.std.proofs.lemmas.Nat.{ones-le}
use Rattle.std.proofs.Math.ListN.{drop}
use Rattle.words.specs.Words.{pick, word32}
use Rattle.rules.specs.declared.Answer.{Answer}
use Rattle.rules.specs.Basics.{bits, text}
use Rattle.rules.specs.Tables.{Tables}
use Rattle.rules.specs.Driving.{Run, Marked, expected_word, expects}
use Rattle.rules.specs.Answers.{number_of, places_of, no_words, expected_of, expected_words, ones_of, record_words, bytes_of, records_bytes}
use Rattle.rules.specs.File.{units_line, answer_line, mark_line, mark_lines, spaced, spaced_all, kinds_of, newline}
use Rattle.printer.specs.Lines.{units_text, answer_text, places_by, words_from, kinds_text, mark_tokens, mark_error, mark_expected, mark_text, marks_text}
use Rattle.printer.specs.Stored.{Small, length_bytes, words_in_law, word_nth, words_drop}

pub units_shown : (r : Run) → units_text r.units ≡ units_line r
unfolding units_text units_line
units_shown r = refl

-- ---- the answer's line

-- the token or location of the answers that have one
abbrev pub place_in : Answer → ℕ
place_in (Answer.Accepted root) = 0
place_in (Answer.AcceptedEarly root token) = token
place_in (Answer.UnrecognizedToken token top) = token
place_in (Answer.UnrecognizedEnd location top) = location
place_in (Answer.ExtraToken token) = token
place_in (Answer.TokenizerError token) = token
place_in Answer.OutOfUnits = 0
place_in Answer.OutOfDepth = 0
place_in Answer.OutOfChildren = 0
place_in Answer.OutOfNodes = 0
place_in Answer.OutOfRecords = 0

pub places_shown : (a : Answer) → places_by (number_of a) (place_in a) ≡ places_of a
unfolding places_by
places_shown (Answer.Accepted root) = refl
places_shown (Answer.AcceptedEarly root token) = refl
places_shown (Answer.UnrecognizedToken token top) = refl
places_shown (Answer.UnrecognizedEnd location top) = refl
places_shown (Answer.ExtraToken token) = refl
places_shown (Answer.TokenizerError token) = refl
places_shown Answer.OutOfUnits = refl
places_shown Answer.OutOfDepth = refl
places_shown Answer.OutOfChildren = refl
places_shown Answer.OutOfNodes = refl
places_shown Answer.OutOfRecords = refl

pub answer_shown : (T : Tables) (a : Answer) (s : List ℕ) → words_from 8 s 0 ≡ expected_of T a → answer_text (number_of a) (place_in a) s ≡ answer_line T a
unfolding answer_text answer_line kinds_text
answer_shown T a s e = rw (places_shown a, e)

-- an empty slice holds no expected kinds
pub no_words_law : words_from 8 [] 0 ≡ no_words
unfolding words_from word32
no_words_law = refl

-- ---- a mark's line

-- every expected word has 32 bits
bits_lt : (n : ℕ) (f : ℕ → Bool) → bits n f < 2 ^ n
unfolding bits
bits_lt zero f = omega arith
bits_lt (suc n) f = bit_lt n f (f n) (bits_lt n f)
  where
    bit_lt : (n : ℕ) (f : ℕ → Bool) (t : Bool) → bits n f < 2 ^ n → bits n f + pick t (2 ^ n) 0 < 2 ^ suc n
    bit_lt n f true h = rw pow-succ' (omega arith)
    bit_lt n f false h = rw pow-succ' (omega arith)

expected_lt : (T : Tables) (s j : ℕ) → expected_word T s j < 2 ^ 32
unfolding expected_word
expected_lt T s j = bits_lt 32 (λ b. expects T s (32 * j + b))

pub small_expected : (T : Tables) (s : ℕ) → Small (expected_words T s)
unfolding expected_words
small_expected T s =
    (expected_lt T s 0, (expected_lt T s 1, (expected_lt T s 2, (expected_lt T s 3, (expected_lt T s 4, (expected_lt T s 5, (expected_lt T s 6, (expected_lt T s 7, tt))))))))

ones_small : (ws : List ℕ) → Small ws → ones_of ws ≤ 32 * length ws
unfolding ones_of
ones_small [] h = omega arith
ones_small (w ∷ ws) h = omega (arith, ones-le 32 w h.0, ones_small ws h.1)

-- the numbers of a mark have 32 bits
pub record Fits (m : Marked) : Type 0 where
  pub number : m.error.number < 2 ^ 32
  pub at : m.error.at < 2 ^ 32
  pub from : m.error.from < 2 ^ 32
  pub first : m.first < 2 ^ 32
  pub after : m.after < 2 ^ 32
  pub start : m.start < 2 ^ 32
  pub end : m.end < 2 ^ 32

pub small_record : (T : Tables) (m : Marked) → Fits m → Small (record_words T m)
unfolding record_words expected_words
small_record T m f =
    let ws : List ℕ = expected_words T m.error.top.0 in
    let h : Small ws = small_expected T m.error.top.0 in
    let n : ones_of ws < 2 ^ 32 = omega (arith, ones_small ws h) in
    (f.number, (f.at, (f.first, (f.after, (f.from, (f.start, (f.end, (n, h))))))))

-- the line in three parts is the line
regroup : (a b c d e f g h i j k l m n o p q : List ℕ) → (a ++ b ++ (c ++ d) ++ e ++ (f ++ g)) ++ (h ++ i ++ j ++ (k ++ l) ++ (m ++ n)) ++ (o ++ p ++ q) ≡ a ++ b ++ c ++ d ++ e ++ f ++ g ++ h ++ i ++ j ++ k ++ l ++ m ++ n ++ o ++ p ++ q
regroup a b c d e f g h i j k l m n o p q = simp append_assoc

-- the words of a record that stands in bytes
module _ (T : Tables) (m : Marked) (f : Fits m) (s pre post : List ℕ) (from : ℕ) (e : s ≡ pre ++ bytes_of (record_words T m) ++ post) (p : from ≡ length pre) where
  record_words_law : words_from 16 s from ≡ record_words T m
  unfolding record_words expected_words
  record_words_law = words_in_law (record_words T m) s pre post from e p (small_record T m f)

  -- a word of its first half, and the expected words
  record_word : (j : ℕ) → j < 16 → word32 s (from + 4 * j) ≡ get_or (record_words T m) j 0
  record_word j h = sym (word_nth 16 s from j h) ∙ ap (λ (ws : List ℕ). get_or ws j 0) record_words_law

  record_expected : words_from 8 s (from + 32) ≡ expected_words T m.error.top.0
  unfolding record_words
  record_expected = sym (words_drop 8 16 s from) ∙ ap (λ (ws : List ℕ). drop 8 ws) record_words_law

  pub mark_shown : (i : ℕ) → mark_text i s from ≡ mark_line T i m
  unfolding record_words mark_text mark_tokens mark_error mark_expected mark_line kinds_text
  mark_shown i =
      let z : from + 4 * 0 ≡ from = omega arith in
      let number : word32 s from ≡ m.error.number = rw z at (record_word 0 (omega arith)) in
      let at : word32 s (from + 4) ≡ m.error.at = record_word 1 (omega arith) in
      let first : word32 s (from + 8) ≡ m.first = record_word 2 (omega arith) in
      let after : word32 s (from + 12) ≡ m.after = record_word 3 (omega arith) in
      let dropped : word32 s (from + 16) ≡ m.error.from = record_word 4 (omega arith) in
      let start : word32 s (from + 20) ≡ m.start = record_word 5 (omega arith) in
      let end : word32 s (from + 24) ≡ m.end = record_word 6 (omega arith) in
      rw (number, at, first, after, dropped, start, end, record_expected)
      (regroup (text "mark") (spaced i) (text " tokens") (spaced m.first) (spaced m.after) (text " dropped") (spaced m.error.from) (text " span") (spaced m.start) (spaced m.end) (text " error") (spaced m.error.number) (text " at") (spaced m.error.at) (text " expected") (spaced_all (kinds_of 0 (expected_words T m.error.top.0))) newline)

-- "all records follow"
abbrev pub AllFit : List Marked → Type 0
AllFit [] = Unit
AllFit (m ∷ ms) = Fits m × AllFit ms

length_record : (T : Tables) (m : Marked) → length (bytes_of (record_words T m)) ≡ 64
unfolding record_words expected_words
length_record T m = length_bytes (record_words T m)

marks_from : (T : Tables) (ms : List Marked) (i : ℕ) (s pre post : List ℕ) (from : ℕ) → s ≡ pre ++ records_bytes T ms ++ post → from ≡ length pre → AllFit ms → marks_text (length ms) i s from ≡ mark_lines T i ms
unfolding marks_text mark_lines records_bytes
marks_from T [] i s pre post from e p a = refl
marks_from T (m ∷ ms) i s pre post from e p a =
    let q : s ≡ pre ++ bytes_of (record_words T m) ++ (records_bytes T ms ++ post) = e ∙ simp append_assoc in
    let r : s ≡ (pre ++ bytes_of (record_words T m)) ++ records_bytes T ms ++ post = e ∙ simp append_assoc in
    let l : from + 64 ≡ length (pre ++ bytes_of (record_words T m)) = simp (length-append, length_record) (omega arith) in
    let first : mark_text i s from ≡ mark_line T i m = mark_shown T m a.0 s pre (records_bytes T ms ++ post) from q p i in
    let rest : marks_text (length ms) (i + 1) s (from + 64) ≡ mark_lines T (i + 1) ms = marks_from T ms (i + 1) s (pre ++ bytes_of (record_words T m)) post (from + 64) r l a.1 in
    λ k. first k ++ rest k

pub marks_shown : (T : Tables) (ms : List Marked) (rest : List ℕ) → AllFit ms → marks_text (length ms) 0 (records_bytes T ms ++ rest) 0 ≡ mark_lines T 0 ms
marks_shown T ms rest a = marks_from T ms 0 (records_bytes T ms ++ rest) [] rest 0 refl refl a
