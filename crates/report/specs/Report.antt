-- The words of a report, from an answer and the four counts: the rules' `report_words`, where the counts are a run's.
use Rattle.std.specs.Prelude.{List, ◌∷◌, [], ◌++◌, ◌≡◌, refl, ℕ, ◌+◌, ◌≤◌, length}
use Rattle.std.proofs.Common.{append-nil, length-append, ap, ◌∙◌, arith, drop_of_length-le}
use Rattle.std.proofs.lemmas.List.Edits.{sets, sets-eq}
use Rattle.words.specs.Words.{put32}
use Rattle.rules.specs.declared.Answer.{Answer}
use Rattle.rules.specs.declared.Answer.TheVariants.{Accepted, AcceptedEarly, UnrecognizedToken, UnrecognizedEnd, ExtraToken, TokenizerError, OutOfUnits, OutOfDepth, OutOfChildren, OutOfNodes, OutOfRecords}
use Rattle.rules.specs.Tables.{Tables}
use Rattle.rules.specs.Answers.{number_of, roots_of, places_of, expected_of, expected_words, first_of, ones_of, bytes_of}
use Rattle.refine.specs.Put.{length_bytes_of, put32_words, sets_words}
use Rattle.rooms.specs.Put.{put_words}

unfoldable pub answer_words : Tables → Answer → ℕ → ℕ → ℕ → ℕ → List ℕ
answer_words T a units nodes children records =
    number_of a ∷ first_of (roots_of a) ∷ first_of (places_of a) ∷ ones_of (expected_of T a) ∷ units ∷ nodes ∷ children ∷ records ∷ expected_of T a

-- Words in a row are stored as their bytes are.
put_words_sets : (s : List ℕ) (at : ℕ) (ws : List ℕ) → put_words s at ws ≡ sets s at (bytes_of ws)
unfolding put_words bytes_of
put_words_sets s at [] = refl
put_words_sets s at (w ∷ ws) =
    rw (put_words_sets (put32 s at w) (at + 4) ws, put32_words s [] at at w (omega arith))
    (sets_words s (w ∷ []) ws at (at + 4) refl)

-- Two times eight words fill a room of 64 bytes.
two_halves : (s us vs : List ℕ) → length s ≡ 64 → length us ≡ 8 → length vs ≡ 8 → put_words (put_words s 0 us) 32 vs ≡ bytes_of (us ++ vs)
two_halves s us vs z m n =
    let size : length (bytes_of (us ++ vs)) ≡ 64 = length_bytes_of (us ++ vs) ∙ simp (length-append us vs) (omega arith) in
    let fits : 0 + length (bytes_of (us ++ vs)) ≤ length s = omega arith in
    let past : length s ≤ 0 + length (bytes_of (us ++ vs)) = omega arith in
    rw (
      put_words_sets (put_words s 0 us) 32 vs,
      put_words_sets s 0 us,
      sets_words s us vs 0 32 (omega arith),
      sets-eq (bytes_of (us ++ vs)) s 0 fits,
      drop_of_length-le s past,
      append-nil (bytes_of (us ++ vs)),
    )

-- the expected kinds are eight words, whatever the answer
pub eight_expected : (T : Tables) (a : Answer) → length (expected_of T a) ≡ 8
unfolding expected_of expected_words
eight_expected T (Accepted root) = refl
eight_expected T (AcceptedEarly root token) = refl
eight_expected T (UnrecognizedToken token top) = refl
eight_expected T (UnrecognizedEnd location top) = refl
eight_expected T (ExtraToken token) = refl
eight_expected T (TokenizerError token) = refl
eight_expected T OutOfUnits = refl
eight_expected T OutOfDepth = refl
eight_expected T OutOfChildren = refl
eight_expected T OutOfNodes = refl
eight_expected T OutOfRecords = refl

-- the report as the code writes it: eight words, and the eight of the expected kinds behind them
pub report_bytes : (T : Tables) (a : Answer) (units nodes children records : ℕ) (s ws : List ℕ) → length s ≡ 64 → ws ≡ expected_of T a
    → put_words
    (put_words s 0 (number_of a ∷ first_of (roots_of a) ∷ first_of (places_of a) ∷ ones_of ws ∷ units ∷ nodes ∷ children ∷ records ∷ []))
    32 ws
    ≡ bytes_of (answer_words T a units nodes children records)
unfolding answer_words
report_bytes T a units nodes children records s ws z e =
    two_halves s _ ws z refl (ap length e ∙ eight_expected T a) ∙ rw e
