-- `report::expected_of` gives the words of the state that answers 3 and 4 name, and no bit for any other answer.
-- Assumes nothing.
use Rattle.std.proofs.Common.{◌≡◌, refl, ℕ, ⊎_elim}
use Rattle.rules.specs.declared.Answer.{Answer}
use Rattle.rules.specs.declared.StateNo.{StateNo}
use Rattle.rules.specs.declared.Answer.TheVariants.{Accepted, AcceptedEarly, UnrecognizedToken, UnrecognizedEnd, ExtraToken, TokenizerError, OutOfUnits, OutOfDepth, OutOfChildren, OutOfNodes, OutOfRecords}
use Rattle.rules.specs.Tables.{Tables}
use Rattle.rules.specs.Answers.{expected_of, no_words}
use Rattle.records.specs.Expected.{words_in_law}
use Rattle.report.proofs.expected_of.Goals as goal

no_bit : (T : Tables) (a : Answer) → ((token : ℕ) (top : StateNo) → a ≡ UnrecognizedToken token top → ⊥)
    → ((location : ℕ) (top : StateNo) → a ≡ UnrecognizedEnd location top → ⊥) → no_words ≡ expected_of T a
unfolding expected_of
no_bit T (Accepted root) t e = refl
no_bit T (AcceptedEarly root token) t e = refl
no_bit T (UnrecognizedToken token top) t e = absurd (t token top refl)
no_bit T (UnrecognizedEnd location top) t e = absurd (e location top refl)
no_bit T (ExtraToken token) t e = refl
no_bit T (TokenizerError token) t e = refl
no_bit T OutOfUnits t e = refl
no_bit T OutOfDepth t e = refl
no_bit T OutOfChildren t e = refl
no_bit T OutOfNodes t e = refl
no_bit T OutOfRecords t e = refl

pub returns-in_default : goal.returns-in_default
returns-in_default c = λ T m. no_bit T _ c.in_default.not-UnrecognizedToken c.in_default.not-UnrecognizedEnd

pub returns-in-UnrecognizedToken : goal.returns-in-UnrecognizedToken
unfolding expected_of
returns-in-UnrecognizedToken c = λ T m. ⊎_elim
    (λ w. rw (w.1, words_in_law m) c.expected_words.ensures)
    (λ w. rw (w.1, words_in_law m) c.expected_words.ensures)
    c.in-UnrecognizedToken.is
