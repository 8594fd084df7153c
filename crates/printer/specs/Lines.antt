-- The lines' texts from numbers and from the words that a call leaves, and the laws that their loops go by.
use Rattle.std.specs.Prelude.{◌&&◌, List, [], ◌∷◌, ◌++◌, ◌≢◌, ◌≡◌, refl, ℕ, zero, suc, ◌+◌, ◌*◌, ◌-◌, ◌/◌, ◌%◌, ◌≤◌, ◌<◌, leb, eqb}
use Rattle.std.proofs.Common.{append_assoc, append-nil, sym, arith, le-leb, ne_eqb}
use Rattle.std.proofs.lemmas.Bool.{lt-leb}
use Rattle.words.specs.Words.{pick, word32}
use Rattle.rules.specs.Basics.{text}
use Rattle.rules.specs.File.{spaced, spaced_all, newline, kinds_in, kinds_of}

-- "units N"
unfoldable pub units_text : ℕ → List ℕ
units_text n = text "units" ++ spaced n ++ newline

-- kind k, if the lowest bit of the word is set
unfoldable pub kind_text : ℕ → ℕ → List ℕ
kind_text w k = spaced_all (pick (eqb (w % 2) 1) (k ∷ []) [])

-- n words from a place on
unfoldable pub words_from : ℕ → List ℕ → ℕ → List ℕ
words_from zero s at = []
words_from (suc n) s at = word32 s at ∷ words_from n s (at + 4)

-- the kinds of the eight words from a place on
unfoldable pub kinds_text : List ℕ → ℕ → List ℕ
kinds_text s at = spaced_all (kinds_of 0 (words_from 8 s at))

-- the token or location that an answer prints, by the answer's number
unfoldable pub places_by : ℕ → ℕ → List ℕ
places_by number place = pick (leb 2 number && leb number 6) (place ∷ []) []

unfoldable pub answer_text : ℕ → ℕ → List ℕ → List ℕ
answer_text number place words =
    text "answer" ++ spaced number ++ spaced_all (places_by number place) ++ kinds_text words 0 ++ newline

-- "mark 0 tokens 0 2 dropped 1 span 0 2 error 3 at 1 expected 1"
unfoldable pub mark_tokens : ℕ → ℕ → ℕ → ℕ → List ℕ
mark_tokens i first after dropped =
    (text "mark" ++ spaced i) ++ (text " tokens" ++ spaced first) ++ spaced after ++ (text " dropped" ++ spaced dropped)

unfoldable pub mark_error : ℕ → ℕ → ℕ → ℕ → List ℕ
mark_error start end number place =
    (text " span" ++ spaced start) ++ spaced end ++ (text " error" ++ spaced number) ++ (text " at" ++ spaced place)

unfoldable pub mark_expected : List ℕ → ℕ → List ℕ
mark_expected s from = text " expected" ++ kinds_text s (from + 32) ++ newline

-- the line of record i, whose words start at `from`
unfoldable pub mark_text : ℕ → List ℕ → ℕ → List ℕ
mark_text i s from =
    mark_tokens i (word32 s (from + 8)) (word32 s (from + 12)) (word32 s (from + 16))
    ++ mark_error (word32 s (from + 20)) (word32 s (from + 24)) (word32 s from) (word32 s (from + 4))
    ++ mark_expected s from

-- the lines of n records from record i on, whose words start at `from`
unfoldable pub marks_text : ℕ → ℕ → List ℕ → ℕ → List ℕ
marks_text zero i s from = []
marks_text (suc n) i s from = mark_text i s from ++ marks_text n (i + 1) s (from + 64)

-- ---- a kind, and a place, that is printed or not

spaced_append : (xs ys : List ℕ) → spaced_all (xs ++ ys) ≡ spaced_all xs ++ spaced_all ys
unfolding spaced_all
spaced_append [] ys = refl
spaced_append (x ∷ xs) ys = rw (spaced_append xs ys) (sym (append_assoc (spaced x) (spaced_all xs) (spaced_all ys)))

pub spaced_one : (n : ℕ) → spaced_all (n ∷ []) ≡ spaced n
unfolding spaced_all
spaced_one n = append-nil (spaced n)

pub kind_set : (w k : ℕ) → w % 2 ≡ 1 → kind_text w k ≡ spaced k
unfolding kind_text
kind_set w k e = rw e (spaced_one k)

pub kind_clear : (w k : ℕ) → w % 2 ≢ 1 → kind_text w k ≡ []
unfolding kind_text spaced_all
kind_clear w k e = rw (ne_eqb _ _ e)

pub place_low : (number place : ℕ) → number < 2 → spaced_all (places_by number place) ≡ []
unfolding places_by spaced_all
place_low number place h = rw (lt-leb _ _ h)

pub place_high : (number place : ℕ) → 2 ≤ number → 6 < number → spaced_all (places_by number place) ≡ []
unfolding places_by spaced_all
place_high number place l h = rw (le-leb _ _ l, lt-leb _ _ h)

pub place_one : (number place : ℕ) → 2 ≤ number → number ≤ 6 → spaced_all (places_by number place) ≡ spaced place
unfolding places_by
place_one number place l h = rw (le-leb _ _ l, le-leb _ _ h) (spaced_one place)

-- ---- the loops: what is left, before a turn and after it

-- the kinds of a word whose lowest i bits are done
abbrev pub word_left : ℕ → ℕ → ℕ → List ℕ
word_left first w i = spaced_all (kinds_in (32 - i) (first + i) w)

pub word_all : (first w : ℕ) → spaced_all (kinds_in 32 first w) ≡ word_left first w 0
word_all first w = let e : first + 0 ≡ first = omega arith in rw e

pub word_turn : (first w i : ℕ) → i < 32 → word_left first w i ≡ kind_text w (first + i) ++ word_left first (w / 2) (i + 1)
unfolding kind_text kinds_in
word_turn first w i h =
    let n : 32 - i ≡ suc (32 - (i + 1)) = omega arith in
    let k : first + i + 1 ≡ first + (i + 1) = omega arith in
    rw (n, ← k) (spaced_append (pick (eqb (w % 2) 1) ((first + i) ∷ []) []) (kinds_in (32 - (i + 1)) (first + i + 1) (w / 2)))

pub word_none : (first w i : ℕ) → 32 ≤ i → word_left first w i ≡ []
unfolding spaced_all kinds_in
word_none first w i h = let e : 32 - i ≡ 0 = omega arith in rw e

-- the kinds of the words from the i-th of eight on
abbrev pub words_left : List ℕ → ℕ → ℕ → List ℕ
words_left s from i = spaced_all (kinds_of (32 * i) (words_from (8 - i) s (from + 4 * i)))

pub words_all : (s : List ℕ) (from : ℕ) → kinds_text s from ≡ words_left s from 0
unfolding kinds_text
words_all s from = let e : from + 4 * 0 ≡ from = omega arith in rw e

pub words_turn : (s : List ℕ) (from i : ℕ) → i < 8 → words_left s from i ≡ spaced_all (kinds_in 32 (32 * i) (word32 s (from + 4 * i))) ++ words_left s from (i + 1)
unfolding words_from kinds_of
words_turn s from i h =
    let n : 8 - i ≡ suc (8 - (i + 1)) = omega arith in
    let k : 32 * i + 32 ≡ 32 * (i + 1) = omega arith in
    let p : from + 4 * i + 4 ≡ from + 4 * (i + 1) = omega arith in
    rw (n, ← k, ← p)
    (spaced_append (kinds_in 32 (32 * i) (word32 s (from + 4 * i))) (kinds_of (32 * i + 32) (words_from (8 - (i + 1)) s (from + 4 * i + 4))))

pub words_none : (s : List ℕ) (from i : ℕ) → 8 ≤ i → words_left s from i ≡ []
unfolding spaced_all kinds_of words_from
words_none s from i h = let e : 8 - i ≡ 0 = omega arith in rw e

-- the lines of the records from the i-th of n on
abbrev pub marks_left : ℕ → List ℕ → ℕ → List ℕ
marks_left n s i = marks_text (n - i) i s (64 * i)

pub marks_all : (n : ℕ) (s : List ℕ) → marks_text n 0 s 0 ≡ marks_left n s 0
marks_all n s = let e : n - 0 ≡ n = omega arith in rw e

pub marks_turn : (n : ℕ) (s : List ℕ) (i : ℕ) → i < n → marks_left n s i ≡ mark_text i s (64 * i) ++ marks_left n s (i + 1)
unfolding marks_text
marks_turn n s i h =
    let m : n - i ≡ suc (n - (i + 1)) = omega arith in
    let p : 64 * i + 64 ≡ 64 * (i + 1) = omega arith in rw (m, ← p)

pub marks_none : (n : ℕ) (s : List ℕ) (i : ℕ) → n ≤ i → marks_left n s i ≡ []
unfolding marks_text
marks_none n s i h = let e : n - i ≡ 0 = omega arith in rw e
