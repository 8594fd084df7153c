-- `records::ones_of` adds up the ones of the words: those counted and those of the words that are left make the whole.
-- Assumes nothing.
use Rattle.std.proofs.Common.{◌≡◌, ◌+◌, ◌<◌, refl, sym, List, ℕ, [], ◌∷◌, length, get_or, drop, add-one, arith, rules}
use Rattle.std.proofs.Math.ListN.{drop_of_length-le}
use Rattle.std.proofs.Math.Seq.{drop-cons}
use Rattle.std.proofs.lemmas.List.FromFn.{fill_by_all}
use Rattle.std.specs.Int.Count.{ones}
use Rattle.rules.specs.Answers.{ones_of}
use Rattle.records.proofs.ones_of.Goals as goal

-- a word counted is one less to count
counted : (ws : List ℕ) (i : ℕ) → i < length ws → ones_of (drop i ws) ≡ ones (get_or ws i 0) + ones_of (drop (i + 1) ws)
unfolding ones_of
counted ws i h = rw (drop-cons ws i 0 h, add-one)

-- eight words, one by one, are the words
eight : (ws : List ℕ) → length ws ≡ 8 → get_or ws 0 0 ∷ get_or ws 1 0 ∷ get_or ws 2 0 ∷ get_or ws 3 0 ∷ get_or ws 4 0 ∷ get_or ws 5 0 ∷ get_or ws 6 0 ∷ get_or ws 7 0 ∷ [] ≡ ws
eight ws h = sym (fill_by_all (λ k. get_or ws k 0) ws 8 0 h (λ k l. refl))

pub loop-word-preserved : goal.loop-word-preserved
loop-word-preserved c = search (rules, counted, eight)

pub returns : goal.returns
unfolding ones_of
returns c = let e : drop c.loop-word.word-index c.args.words ≡ [] = drop_of_length-le c.args.words (omega arith) in
    let h = rw e at c.loop-word.invariant.0 in omega arith
