-- What the rooms hold, by byte offsets: a stack entry and a node are 8 words, a record 16, a child entry and a scratch state 1.
use Rattle.std.specs.Prelude.{List, ℕ, zero, suc, ◌+◌, ◌*◌, ◌-◌, eqb}
use Rattle.words.specs.Words.{pick, get32, put32}
use Rattle.rules.specs.declared.Entry.{Entry}
use Rattle.rules.specs.Answers.{kind_of, which_of}

-- four words, and eight, from a byte offset on
unfoldable pub put4 : List ℕ → ℕ → ℕ → ℕ → ℕ → ℕ → List ℕ
put4 s at a b c d = put32 (put32 (put32 (put32 s at a) (at + 4) b) (at + 8) c) (at + 12) d

unfoldable pub put8 : List ℕ → ℕ → ℕ → ℕ → ℕ → ℕ → ℕ → ℕ → ℕ → ℕ → List ℕ
put8 s at a b c d e f g h = put4 (put4 s at a b c d) (at + 16) e f g h

-- A stack entry, 8 words: state, node, kind and number of what it stands for, start, end, first token, token after the last.
unfoldable pub put_entry : List ℕ → ℕ → Entry → List ℕ
put_entry s i e =
    put8 s (32 * i) e.state.0 e.node (kind_of e.what) (which_of e.what) e.start e.end e.first e.after

unfoldable pub state_at : List ℕ → ℕ → ℕ
state_at s i = get32 s (32 * i)

unfoldable pub node_at : List ℕ → ℕ → ℕ
node_at s i = get32 s (32 * i + 4)

unfoldable pub start_at : List ℕ → ℕ → ℕ
start_at s i = get32 s (32 * i + 16)

unfoldable pub end_at : List ℕ → ℕ → ℕ
end_at s i = get32 s (32 * i + 20)

unfoldable pub first_at : List ℕ → ℕ → ℕ
first_at s i = get32 s (32 * i + 24)

unfoldable pub after_at : List ℕ → ℕ → ℕ
after_at s i = get32 s (32 * i + 28)

-- the top state of a stack of that height: state 0 where it is empty
unfoldable pub top_at : List ℕ → ℕ → ℕ
top_at s height = pick (eqb height 0) 0 (state_at s (height - 1))

-- the node of a stack entry, with its first child entry and their count
unfoldable pub put_node : List ℕ → ℕ → Entry → ℕ → ℕ → List ℕ
put_node s i e child count =
    put8 s (32 * i) (kind_of e.what) (which_of e.what) child count e.start e.end e.first e.after

-- the nodes of n stack entries from `from` on become child entries from `at` on
unfoldable pub copy_nodes : ℕ → List ℕ → ℕ → List ℕ → ℕ → List ℕ
copy_nodes zero children at stack from = children
copy_nodes (suc n) children at stack from =
    put32 (copy_nodes n children at stack from) (4 * (at + n)) (node_at stack (from + n))

-- the simulated stack's top: of the scratch room, or else of the real stack
unfoldable pub scratch_at : List ℕ → ℕ → ℕ
scratch_at s i = get32 s (4 * i)

unfoldable pub sim_top : List ℕ → List ℕ → ℕ → ℕ → ℕ
sim_top stack scratch base pushed = pick (eqb pushed 0) (top_at stack base) (scratch_at scratch (pushed - 1))
