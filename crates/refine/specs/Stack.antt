-- The stack's bytes hold a list of entries, top first: entry number i from the bottom is what the words from 32 * i on say.
-- A store at or above the height leaves them alone; what the model loads is what the rules take of the list.
use Rattle.std.specs.Prelude.{◌≡◌, refl, ℕ, zero, suc, ◌+◌, ◌*◌, ◌-◌, ◌≤◌, eqb, length, drop}
use Rattle.std.proofs.Common.{◌∙◌, inl, arith, length-append}
use mathlib.Core.List.{List, [], ◌∷◌, ◌++◌, reverse-cons}
use Rattle.std.proofs.Math.Dec.{eqb-suc-zero}
use Rattle.std.proofs.lemmas.List.{length-map, length-reverse}
use Rattle.std.proofs.lemmas.List.Edits.{sets}
use Rattle.std.proofs.Math.Seq.{length-sets}
use Rattle.words.specs.Words.{pick, get32}
use Rattle.rules.specs.declared.Entry.{Entry}
use Rattle.rules.specs.declared.What.{What}
use Rattle.rules.specs.declared.What.TheVariants.{Read, Mark, Production}
use Rattle.rules.specs.Driving.{top_state, root_of, start_or, end_or, first_or, after_or, nodes_of}
use Rattle.rules.specs.Answers.{bytes_of, kind_of, which_of}
use Rattle.model.specs.Bytes.{put_entry, state_at, node_at, start_at, end_at, first_at, after_at, top_at, copy_nodes}
use Rattle.refine.specs.Fits.{Word, Fitting, fitting_append}
use Rattle.refine.specs.Put.{put8_words, put32_words, get32_sets_other, get32_sets_word}

-- each word of an entry fits; its kind always does
pub record Small (e : Entry) : Type 0 where
  pub state : Word e.state.0
  pub node : Word e.node
  pub number : Word (which_of e.what)
  pub start : Word e.start
  pub end : Word e.end
  pub first : Word e.first
  pub after : Word e.after

-- the words of entry number i say e
pub record EntryAt (s : List ℕ) (i : ℕ) (e : Entry) : Type 0 where
  pub state : state_at s i ≡ e.state.0
  pub node : node_at s i ≡ e.node
  pub kind : get32 s (32 * i + 8) ≡ kind_of e.what
  pub number : get32 s (32 * i + 12) ≡ which_of e.what
  pub start : start_at s i ≡ e.start
  pub end : end_at s i ≡ e.end
  pub first : first_at s i ≡ e.first
  pub after : after_at s i ≡ e.after
  pub small : Small e

abbrev pub StackHolds : List ℕ → List Entry → Type 0
StackHolds s [] = Unit {0}
StackHolds s (e ∷ rest) = EntryAt s (length rest) e × StackHolds s rest

-- ---- a store of an entry

abbrev entry_words : Entry → List ℕ
entry_words e =
    e.state.0 ∷ e.node ∷ kind_of e.what ∷ which_of e.what ∷ e.start ∷ e.end ∷ e.first ∷ e.after ∷ []

put_entry_words : (s : List ℕ) (i : ℕ) (e : Entry) → put_entry s i e ≡ sets s (32 * i) (bytes_of (entry_words e))
unfolding put_entry
put_entry_words s i e =
    put8_words s (32 * i) e.state.0 e.node (kind_of e.what) (which_of e.what) e.start e.end e.first e.after

pub kind_fits : (x : What) → Word (kind_of x)
kind_fits (Read i) = omega arith
kind_fits (Mark i) = omega arith
kind_fits (Production p) = omega arith

pub length_put_entry : (s : List ℕ) (i : ℕ) (e : Entry) → length (put_entry s i e) ≡ length s
length_put_entry s i e = rw (put_entry_words, length-sets)

entry_put : (s : List ℕ) (i : ℕ) (e : Entry) → 32 * i + 32 ≤ length s → Small e → EntryAt (put_entry s i e) i e
unfolding state_at node_at start_at end_at first_at after_at
entry_put s i e h m =
    let ws : List ℕ = entry_words e in
    let at : ℕ = 32 * i in
    rw put_entry_words
    (record {
      state = get32_sets_word ws s at at 0 h (omega arith) (omega arith) m.state;
      node = get32_sets_word ws s at (at + 4) 1 h (omega arith) (omega arith) m.node;
      kind = get32_sets_word ws s at (at + 8) 2 h (omega arith) (omega arith) (kind_fits e.what);
      number = get32_sets_word ws s at (at + 12) 3 h (omega arith) (omega arith) m.number;
      start = get32_sets_word ws s at (at + 16) 4 h (omega arith) (omega arith) m.start;
      end = get32_sets_word ws s at (at + 20) 5 h (omega arith) (omega arith) m.end;
      first = get32_sets_word ws s at (at + 24) 6 h (omega arith) (omega arith) m.first;
      after = get32_sets_word ws s at (at + 28) 7 h (omega arith) (omega arith) m.after;
      small = m;
    })

entry_kept : {s : List ℕ} {e : Entry} (vs : List ℕ) (at i : ℕ) → 32 * i + 32 ≤ at → EntryAt s i e → EntryAt (sets s at vs) i e
unfolding state_at node_at start_at end_at first_at after_at
entry_kept {s} {e} vs at i h E =
    record {
      state = get32_sets_other s vs at (32 * i) (inl (omega arith)) ∙ E.state;
      node = get32_sets_other s vs at (32 * i + 4) (inl (omega arith)) ∙ E.node;
      kind = get32_sets_other s vs at (32 * i + 8) (inl (omega arith)) ∙ E.kind;
      number = get32_sets_other s vs at (32 * i + 12) (inl (omega arith)) ∙ E.number;
      start = get32_sets_other s vs at (32 * i + 16) (inl (omega arith)) ∙ E.start;
      end = get32_sets_other s vs at (32 * i + 20) (inl (omega arith)) ∙ E.end;
      first = get32_sets_other s vs at (32 * i + 24) (inl (omega arith)) ∙ E.first;
      after = get32_sets_other s vs at (32 * i + 28) (inl (omega arith)) ∙ E.after;
      small = E.small;
    }

sets_kept : (l : List Entry) (s vs : List ℕ) (at : ℕ) → 32 * length l ≤ at → StackHolds s l → StackHolds (sets s at vs) l
sets_kept [] s vs at h H = tt
sets_kept (e ∷ rest) s vs at h H =
    (entry_kept vs at (length rest) (omega arith) H.0, sets_kept rest s vs at (omega arith) H.1)

-- an entry goes on what is left of the stack
pub stack_put : (rest : List Entry) (s : List ℕ) (e : Entry) → 32 * length rest + 32 ≤ length s → Small e → StackHolds s rest → StackHolds (put_entry s (length rest) e) (e ∷ rest)
stack_put rest s e h m H =
    let kept : StackHolds (put_entry s (length rest) e) rest = rw put_entry_words (sets_kept rest s (bytes_of (entry_words e)) (32 * length rest) (omega arith) H) in
    (entry_put s (length rest) e h m, kept)

-- ---- parts of a stack

pub stack_below : (popped rest : List Entry) (s : List ℕ) → StackHolds s (popped ++ rest) → StackHolds s rest
stack_below [] rest s H = H
stack_below (e ∷ popped) rest s H = stack_below popped rest s H.1

pub stack_drop : (k : ℕ) (l : List Entry) (s : List ℕ) → StackHolds s l → StackHolds s (drop k l)
stack_drop zero l s H = H
stack_drop (suc k) [] s H = H
stack_drop (suc k) (e ∷ l) s H = stack_drop k l s H.1

-- ---- loads: the top

pub top_at_law : (l : List Entry) (s : List ℕ) → StackHolds s l → top_at s (length l) ≡ top_state l
unfolding top_at
top_at_law [] s H = refl
top_at_law (e ∷ rest) s H =
    let p : suc (length rest) - 1 ≡ length rest = omega arith in rw (eqb-suc-zero, p) H.0.state

pub root_at_law : (l : List Entry) (s : List ℕ) → StackHolds s l → pick (eqb (length l) 0) 0 (node_at s (length l - 1)) ≡ root_of l
root_at_law [] s H = refl
root_at_law (e ∷ rest) s H =
    let p : suc (length rest) - 1 ≡ length rest = omega arith in rw (eqb-suc-zero, p) H.0.node

pub end_at_law : (l : List Entry) (s : List ℕ) (d : ℕ) → StackHolds s l → pick (eqb (length l) 0) d (end_at s (length l - 1)) ≡ end_or d l
end_at_law [] s d H = refl
end_at_law (e ∷ rest) s d H =
    let p : suc (length rest) - 1 ≡ length rest = omega arith in rw (eqb-suc-zero, p) H.0.end

pub end_at_small : (l : List Entry) (s : List ℕ) (d : ℕ) → StackHolds s l → Word d → Word (end_or d l)
end_at_small [] s d H b = b
end_at_small (e ∷ rest) s d H b = H.0.small.end

-- ---- loads: the popped entries above the rest

module _ (s : List ℕ) (rest : List Entry) (d : ℕ) where
  pub end_popped : (popped : List Entry) → StackHolds s (popped ++ rest) → pick (eqb (length popped) 0) d (end_at s (length (popped ++ rest) - 1)) ≡ end_or d popped
  end_popped [] H = refl
  end_popped (e ∷ popped) H =
      let p : suc (length (popped ++ rest)) - 1 ≡ length (popped ++ rest) = omega arith in rw (eqb-suc-zero, p) H.0.end

  pub after_popped : (popped : List Entry) → StackHolds s (popped ++ rest) → pick (eqb (length popped) 0) d (after_at s (length (popped ++ rest) - 1)) ≡ after_or d popped
  after_popped [] H = refl
  after_popped (e ∷ popped) H =
      let p : suc (length (popped ++ rest)) - 1 ≡ length (popped ++ rest) = omega arith in rw (eqb-suc-zero, p) H.0.after

  pub start_popped : (popped : List Entry) → StackHolds s (popped ++ rest) → pick (eqb (length popped) 0) d (start_at s (length rest)) ≡ start_or d popped
  start_popped [] H = refl
  start_popped (e ∷ []) H = H.0.start
  start_popped (e ∷ (f ∷ popped)) H =
      rw eqb-suc-zero (rw eqb-suc-zero at (start_popped (f ∷ popped) H.1))

  pub first_popped : (popped : List Entry) → StackHolds s (popped ++ rest) → pick (eqb (length popped) 0) d (first_at s (length rest)) ≡ first_or d popped
  first_popped [] H = refl
  first_popped (e ∷ []) H = H.0.first
  first_popped (e ∷ (f ∷ popped)) H =
      rw eqb-suc-zero (rw eqb-suc-zero at (first_popped (f ∷ popped) H.1))

  pub end_small : (popped : List Entry) → StackHolds s (popped ++ rest) → Word d → Word (end_or d popped)
  end_small [] H b = b
  end_small (e ∷ popped) H b = H.0.small.end

  pub after_small : (popped : List Entry) → StackHolds s (popped ++ rest) → Word d → Word (after_or d popped)
  after_small [] H b = b
  after_small (e ∷ popped) H b = H.0.small.after

  pub start_small : (popped : List Entry) → StackHolds s (popped ++ rest) → Word d → Word (start_or d popped)
  start_small [] H b = b
  start_small (e ∷ []) H b = H.0.small.start
  start_small (e ∷ (f ∷ popped)) H b = start_small (f ∷ popped) H.1 b

  pub first_small : (popped : List Entry) → StackHolds s (popped ++ rest) → Word d → Word (first_or d popped)
  first_small [] H b = b
  first_small (e ∷ []) H b = H.0.small.first
  first_small (e ∷ (f ∷ popped)) H b = first_small (f ∷ popped) H.1 b

-- ---- the popped nodes become child entries

pub length_nodes_of : (popped : List Entry) → length (nodes_of popped) ≡ length popped
length_nodes_of popped = simp (length-reverse, length-map)

pub copy_words : (popped rest : List Entry) (s children : List ℕ) (at : ℕ) → StackHolds s (popped ++ rest) → copy_nodes (length popped) children at s (length rest) ≡ sets children (4 * at) (bytes_of (nodes_of popped))
unfolding copy_nodes bytes_of
copy_words [] rest s children at H = refl
copy_words (e ∷ popped) rest s children at H =
    let i : length rest + length popped ≡ length (popped ++ rest) = simp length-append (omega arith) in
    let w : node_at s (length rest + length popped) ≡ e.node = rw i H.0.node in
    rw (copy_words popped rest s children at H.1, w, reverse-cons)
    (put32_words children (nodes_of popped) (4 * at) (4 * (at + length popped)) e.node (omega (arith, length_nodes_of popped)))

pub nodes_fit_law : (popped rest : List Entry) (s : List ℕ) → StackHolds s (popped ++ rest) → Fitting (nodes_of popped)
nodes_fit_law [] rest s H = tt
nodes_fit_law (e ∷ popped) rest s H =
    rw reverse-cons (fitting_append (nodes_of popped) (e.node ∷ []) (nodes_fit_law popped rest s H.1) (H.0.small.node, tt))
