-- Every push: the model's `push` holds the rules' `grow`. The entry stands on what is left of the stack, and node, child entries
-- and record stand behind those written before.
use Rattle.std.specs.Prelude.{◌≡◌, refl, List, [], ◌∷◌, ◌++◌, ℕ, suc, ◌+◌, ◌*◌, ◌/◌, ◌<◌, ◌≤◌, eqb, length}
use Rattle.std.proofs.Common.{◌∙◌, add-one, arith}
use Rattle.std.proofs.Math.Dec.{eqb-suc-zero}
use Rattle.std.proofs.Math.ListN.{length-append}
use Rattle.std.proofs.lemmas.List.Edits.{sets}
use Rattle.words.specs.Words.{pick}
use Rattle.rules.specs.declared.Entry.{Entry}
use Rattle.rules.specs.Driving.{Mode, Run, Node, Marked, child_of, node_of, grow}
use Rattle.rules.specs.Answers.{bytes_of, node_words, record_words, kind_of, which_of}
use Rattle.model.specs.declared.Mode
use Rattle.model.specs.Bytes.{put_entry, put_node}
use Rattle.model.specs.Model.{Call, grown}
use Rattle.refine.specs.Put.{put8_words, Written, written_words}
use Rattle.refine.specs.Fits.{Word, Fitting, fitting_append, words_of, words_of_snoc, length_words_of, length_node_words}
use Rattle.refine.specs.Stack.{Small, StackHolds, kind_fits, length_put_entry, stack_put}
use Rattle.refine.specs.Tokens.{Rooms, Fit}
use Rattle.refine.specs.Holds.{Beside, st_of, Sized, Kept}

-- ---- a node, a record and child entries are appended

put_node_words : (s : List ℕ) (i : ℕ) (e : Entry) (at : ℕ) (kids : List ℕ) → put_node s i e (child_of at kids) (length kids) ≡ sets s (32 * i) (bytes_of (node_words (node_of e at kids)))
unfolding put_node node_words node_of
put_node_words s i e at kids =
    put8_words s (32 * i) (kind_of e.what) (which_of e.what) (child_of at kids) (length kids) e.start e.end e.first e.after

pub child_of_law : (at : ℕ) (kids : List ℕ) → pick (eqb (length kids) 0) 0 at ≡ child_of at kids
child_of_law at [] = refl
child_of_law at (k ∷ kids) = rw eqb-suc-zero

child_least : (at : ℕ) (kids : List ℕ) → child_of at kids ≤ at
child_least at [] = omega arith
child_least at (k ∷ kids) = omega arith

node_fits : (e : Entry) (at : ℕ) (kids : List ℕ) → Small e → Word at → Word (length kids) → Fitting (node_words (node_of e at kids))
unfolding node_words node_of
node_fits e at kids s w k =
    (kind_fits e.what, (s.number, (omega (arith, child_least at kids), (k, (s.start, (s.end, (s.first, (s.after, tt))))))))

module _ {C : Call} {b x : Rooms} {u : ℕ} {r : Run} (K : Kept C b u r x) where
  nodes_more : (e : Entry) (kids : List ℕ) → length r.nodes + 1 ≤ length b.nodes / 32 → Written b.nodes (put_node x.nodes (length r.nodes) e (child_of (length r.children) kids) (length kids)) (bytes_of (words_of node_words (r.nodes ++ (node_of e (length r.children) kids ∷ []))))
  nodes_more e kids h =
      let n : Node = node_of e (length r.children) kids in
      let l = length_words_of node_words 8 length_node_words r.nodes in
      let m = length_node_words n in
      rw (put_node_words, words_of_snoc) (written_words (words_of node_words r.nodes) (node_words n) (32 * length r.nodes) K.nodes (omega arith) (omega arith))

  pub children_more : (kids : List ℕ) → length r.children + length kids ≤ length b.children / 4 → Written b.children (sets x.children (4 * length r.children) (bytes_of kids)) (bytes_of (r.children ++ kids))
  children_more kids h = written_words r.children kids (4 * length r.children) K.children refl (omega arith)

-- ---- the push

abbrev pub rooms_over : Rooms → ℕ → Entry → ℕ → ℕ → ℕ → List ℕ → List ℕ → Rooms
rooms_over x height e node child count children records =
    record { stack = put_entry x.stack height e; scratch = x.scratch; nodes = put_node x.nodes node e child count; children = children; records = records }

abbrev pub next_at : Run → ℕ → Run
next_at r n =
    record { stack = r.stack; nodes = r.nodes; children = r.children; marks = r.marks; units = r.units; next = n; last = r.last; mode = r.mode }

pub grown_is : (r : Run) (a : Beside) (rest : List Entry) (e : Entry) (kids : List ℕ) (marks : List Marked) (n : ℕ) (m : Mode) (tag : Mode.Mode) → grown (st_of r a) (length rest + 1) (length kids) (length marks) n tag ≡ st_of (next_at (grow r rest e kids marks m) n) (record { mode = tag; formed = a.formed; popped = a.popped; base = a.base; pushed = a.pushed })
unfolding grow
grown_is r a rest e kids marks n m tag =
    let p : length r.nodes + 1 ≡ length (r.nodes ++ (node_of e (length r.children) kids ∷ [])) = simp length-append in
    let q : length r.children + length kids ≡ length (r.children ++ kids) = simp length-append in
    let v : length r.marks + length marks ≡ length (r.marks ++ marks) = simp length-append in
    rw (add-one (length rest), p, q, v)

module _ {C : Call} {b x : Rooms} {u : ℕ} {r : Run} (F : Fit C b) (K : Kept C b u r x) (rest : List Entry) (e : Entry) (kids : List ℕ) (marks : List Marked) (m : Mode) where
  grown_sized : Small e → length kids + length rest ≤ length r.stack → length marks ≤ 1 → Fitting kids → Fitting (words_of (record_words C.tables) (r.marks ++ marks)) → Word (length r.nodes + 1) → Sized C.tables (r.nodes ++ (node_of e (length r.children) kids ∷ [])) (r.children ++ kids) (r.marks ++ marks) (suc (length rest))
  grown_sized s h k fits marked n =
      let z = K.sized in
      let few = z.children_few in
      let more = z.records_few in
      let node : Node = node_of e (length r.children) kids in
      record {
        nodes_fit_law = rw words_of_snoc (fitting_append (words_of node_words r.nodes) (node_words node) z.nodes_fit_law (node_fits e (length r.children) kids s (omega arith) (omega arith)));
        children_fit_law = fitting_append r.children kids z.children_fit_law fits;
        records_fit_law = marked;
        children_few = simp length-append (omega arith);
        records_few = simp length-append (omega arith);
      }

  pub grow_kept : (children records : List ℕ) → StackHolds x.stack rest → Small e → length rest + 2 ≤ C.depth → length r.nodes + 1 ≤ length b.nodes / 32 → length r.nodes < r.units → Word r.units → length kids + length rest ≤ length r.stack → length marks ≤ 1 → Fitting kids → Fitting (words_of (record_words C.tables) (r.marks ++ marks)) → Written b.children children (bytes_of (r.children ++ kids)) → Written b.records records (bytes_of (words_of (record_words C.tables) (r.marks ++ marks))) → Kept C b u (grow r rest e kids marks m) (rooms_over x (length rest) e (length r.nodes) (child_of (length r.children) kids) (length kids) children records)
  unfolding grow
  grow_kept children records H s d n room small h k fits marked ch re =
      record {
        nodes = nodes_more K e kids n;
        children = ch;
        records = re;
        stack = stack_put rest x.stack e (omega arith) s H;
        stack_length = length_put_entry x.stack (length rest) e ∙ K.stack_length;
        scratch_length = K.scratch_length;
        sized = grown_sized s h k fits marked (omega arith);
        last = K.last;
        units = K.units;
        few = rw length-append (omega arith);
        read = K.read;
      }
