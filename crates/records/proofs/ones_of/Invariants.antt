-- `records::ones_of` adds up the ones of the words: those counted and those of the words that are left make the whole.
-- Assumes nothing.
use Rattle.std.proofs.Common.{◌≡◌, ◌+◌, ◌*◌, ◌≤◌, drop}
use Rattle.rules.specs.Answers.{ones_of}
use Rattle.records.proofs.ones_of.Given as goal

abbrev pub invariant-loop-word : goal.invariant-loop-word
invariant-loop-word l = (l.ones + ones_of (drop l.word-index l.fn.words) ≡ ones_of l.fn.words) × (l.ones ≤ 32 * l.word-index)
