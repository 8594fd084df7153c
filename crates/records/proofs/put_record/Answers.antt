-- `records::put_record` writes the sixteen words of a record, eight and eight: the words expected are those that the rules' table gives.
-- Assumes nothing.
use Rattle.rooms.specs.Put.{put_eight}
use Rattle.records.specs.Expected.{words_in, words_in_law, word_in_law}
use Rattle.model.specs.Model.{put_record}
use Rattle.records.proofs.put_record.Goals as goal

pub returns : goal.returns
unfolding put_record words_in
returns c = λ T m. rw (
  c.put_words-2.ensures,
  c.put_words.ensures,
  c.ones_of.ensures,
  c.expected_words-words.ensures,
  words_in_law m,
)
    (simp (put_eight, word_in_law m))
