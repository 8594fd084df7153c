-- `rooms::put_words` writes the words one behind the other: what is left to write makes the whole, and the room is as long as it was.
-- Assumes nothing.
use Rattle.std.proofs.Common.{rules, ◌≡◌, ◌+◌, ◌*◌, ◌<◌, [], List, ℕ, length, get_or, drop, add-one, arith, ◌∙◌, sym}
use Rattle.std.proofs.Math.ListN.{drop_of_length-le}
use Rattle.std.proofs.Math.Seq.{drop-cons}
use Rattle.words.specs.Words.{put32}
use Rattle.rooms.specs.Put.{put_words}
use Rattle.rooms.proofs.put_words.Goals as goal

-- a word written is one less to write
written : (s : List ℕ) (at i : ℕ) (ws : List ℕ) → i < length ws → put_words s (at + 4 * i) (drop i ws)
    ≡ put_words (put32 s (at + 4 * i) (get_or ws i 0)) (at + 4 * (i + 1)) (drop (i + 1) ws)
unfolding put_words
written s at i ws h =
    let p : at + 4 * (i + 1) ≡ at + 4 * i + 4 = omega arith in
    rw (p, drop-cons ws i 0 h, add-one)

pub loop-i-preserved : goal.loop-i-preserved
loop-i-preserved g c = (rw (c.put.ensures) (sym (written _ _ _ _ (search rules)) ∙ c.loop-i.invariant.0), cc)

pub returns : goal.returns
unfolding put_words
returns g c = let e : drop c.loop-i.i c.args.words ≡ [] = drop_of_length-le c.args.words (omega arith) in rw e at c.loop-i.invariant.0
