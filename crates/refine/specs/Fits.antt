-- What fits a word, and lists of words that all do: the bytes of such a list give each of its words back.
-- Nodes and records as lists of words; the words of a record's expected kinds fit by themselves.
use Rattle.std.specs.Prelude.{◌≡◌, refl, Bool, true, false, List, [], ◌∷◌, ◌++◌, ℕ, zero, suc, ◌+◌, ◌*◌, ◌<◌, ◌≤◌, ◌^◌, length, get_or}
use Rattle.std.proofs.Common.{sym, append_assoc, append-nil, pow-suc, arith, length-append, get_or-append-add}
use Rattle.std.proofs.lemmas.Nat.{ones-le}
use Rattle.std.proofs.Math.ListN.{get_or-append}
use Rattle.words.specs.Words.{pick, get32, le4}
use Rattle.words.specs.Laws.{get32_append, length_le4}
use Rattle.rules.specs.Basics.{bits}
use Rattle.rules.specs.Tables.{Tables}
use Rattle.rules.specs.Driving.{Node, Marked, expects, expected_word}
use Rattle.rules.specs.Answers.{bytes_of, nodes_bytes, records_bytes, node_words, record_words, expected_words, ones_of}
use Rattle.refine.specs.Put.{bytes_of_append}

abbrev pub Word : ℕ → Type 0
Word n = n < 2 ^ 32

abbrev pub Fitting : List ℕ → Type 0
Fitting [] = Unit {0}
Fitting (w ∷ ws) = Word w × Fitting ws

pub fitting_append : (us vs : List ℕ) → Fitting us → Fitting vs → Fitting (us ++ vs)
fitting_append [] vs p q = q
fitting_append (u ∷ us) vs p q = (p.0, fitting_append us vs p.1 q)

-- ---- the words of a list of nodes or of records, each of which has so many

module _ {A : Type 0} (words : A → List ℕ) where
  abbrev pub words_of : List A → List ℕ
  words_of [] = []
  words_of (a ∷ l) = words a ++ words_of l

  pub words_of_snoc : (l : List A) (a : A) → words_of (l ++ (a ∷ [])) ≡ words_of l ++ words a
  words_of_snoc [] a = append-nil (words a)
  words_of_snoc (c ∷ l) a = rw (words_of_snoc l a) (sym (append_assoc (words c) (words_of l) (words a)))

  module _ (width : ℕ) (wide : (a : A) → length (words a) ≡ width) where
    pub length_words_of : (l : List A) → length (words_of l) ≡ length l * width
    length_words_of [] = omega arith
    length_words_of (a ∷ l) = rw (length-append, wide a) (omega (arith, length_words_of l))

    -- word j of element i
    pub words_of_at : (d : A) (l : List A) (i j : ℕ) → i < length l → j < width → get_or (words_of l) (i * width + j) 0 ≡ get_or (words (get_or l i d)) j 0
    words_of_at d [] i j h k = absurd (omega arith)
    words_of_at d (a ∷ l) zero j h k =
        let e : 0 * width + j ≡ j = omega arith in
        rw e (get_or-append (words a) (words_of l) 0 j (omega (arith, wide a)))
    words_of_at d (a ∷ l) (suc i) j h k =
        let e : suc i * width + j ≡ length (words a) + (i * width + j) = rw (wide a) (omega arith) in
        rw (e, get_or-append-add) (words_of_at d l i j (omega arith) k)

pub length_node_words : (n : Node) → length (node_words n) ≡ 8
unfolding node_words
length_node_words n = refl

pub length_record_words : (T : Tables) (m : Marked) → length (record_words T m) ≡ 16
unfolding record_words expected_words
length_record_words T m = refl

pub nodes_words : (ns : List Node) → nodes_bytes ns ≡ bytes_of (words_of node_words ns)
unfolding nodes_bytes bytes_of
nodes_words [] = refl
nodes_words (n ∷ ns) = rw (bytes_of_append (node_words n) (words_of node_words ns), nodes_words ns)

pub records_words : (T : Tables) (ms : List Marked) → records_bytes T ms ≡ bytes_of (words_of (record_words T) ms)
unfolding records_bytes bytes_of
records_words T [] = refl
records_words T (m ∷ ms) = rw (bytes_of_append (record_words T m) (words_of (record_words T) ms), records_words T ms)

-- ---- the bytes give each word back

word_behind : (pre ws post : List ℕ) (k : ℕ) → Fitting ws → k < length ws → get32 (pre ++ (bytes_of ws ++ post)) (length pre + 4 * k) ≡ get_or ws k 0
unfolding bytes_of
word_behind pre [] post k f h = absurd (omega arith)
word_behind pre (w ∷ ws) post zero f h =
    let e : length pre + 4 * 0 ≡ length pre = omega arith in
    let q : pre ++ ((le4 w ++ bytes_of ws) ++ post) ≡ pre ++ le4 w ++ (bytes_of ws ++ post) = simp append_assoc in
    rw (e, q) (get32_append pre (bytes_of ws ++ post) (length pre) w refl f.0)
word_behind pre (w ∷ ws) post (suc k) f h =
    let q : pre ++ ((le4 w ++ bytes_of ws) ++ post) ≡ (pre ++ le4 w) ++ (bytes_of ws ++ post) = simp append_assoc in
    let l : length pre + 4 * suc k ≡ length (pre ++ le4 w) + 4 * k = simp (length-append, length_le4) (omega arith) in
    rw (q, l) (word_behind (pre ++ le4 w) ws post k f.1 (omega arith))

pub word_of : (ws room post : List ℕ) (k : ℕ) → room ≡ bytes_of ws ++ post → Fitting ws → k < length ws → get32 room (4 * k) ≡ get_or ws k 0
word_of ws room post k e f h =
    let z : 0 + 4 * k ≡ 4 * k = omega arith in rw e (rw z at (word_behind [] ws post k f h))

-- ---- the expected kinds

bits_lt : (n : ℕ) (f : ℕ → Bool) → bits n f < 2 ^ n
unfolding bits
bits_lt zero f = omega arith
bits_lt (suc n) f = rw pow-suc (bit_lt (f n) (bits_lt n f))
  where
    bit_lt : (t : Bool) {a : ℕ} → a < 2 ^ n → a + pick t (2 ^ n) 0 < 2 ^ n * 2
    bit_lt true h = omega arith
    bit_lt false h = omega arith

expected_word_law : (T : Tables) (s j : ℕ) → Word (expected_word T s j)
unfolding expected_word
expected_word_law T s j = bits_lt 32 (λ b. expects T s (32 * j + b))

pub expected_fitting : (T : Tables) (s : ℕ) → Fitting (expected_words T s)
unfolding expected_words
expected_fitting T s =
    let w : (j : ℕ) → Word (expected_word T s j) = expected_word_law T s in
    (w 0, (w 1, (w 2, (w 3, (w 4, (w 5, (w 6, (w 7, tt))))))))

ones_few : (ws : List ℕ) → Fitting ws → ones_of ws ≤ 32 * length ws
unfolding ones_of
ones_few [] f = omega arith
ones_few (w ∷ ws) f = omega (arith, ones-le 32 w f.0, ones_few ws f.1)

length_expected : (T : Tables) (s : ℕ) → length (expected_words T s) ≡ 8
unfolding expected_words
length_expected T s = refl

pub ones_fit : (T : Tables) (s : ℕ) → Word (ones_of (expected_words T s))
ones_fit T s = omega (arith, length_expected T s, ones_few (expected_words T s) (expected_fitting T s))
