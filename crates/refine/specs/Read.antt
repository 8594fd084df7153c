-- What a host loads from the rooms that a call leaves: word j of node i, each child entry, word j of record i, are those of the
-- rules' lists. Every word that is written fits, so that nothing is lost.
use Rattle.std.specs.Prelude.{◌≡◌, List, ℕ, ◌+◌, ◌*◌, ◌<◌, length, get_or, drop}
use Rattle.std.proofs.Common.{◌∙◌, arith}
use Rattle.words.specs.Words.{get32}
use Rattle.rules.specs.declared.Answer.{Answer}
use Rattle.rules.specs.Tables.{Tables}
use Rattle.rules.specs.Driving.{Run, Node, Marked}
use Rattle.rules.specs.Answers.{node_words, record_words}
use Rattle.model.specs.Model.{World}
use Rattle.refine.specs.Fits.{words_of, words_of_at, length_words_of, length_node_words, length_record_words, nodes_words, records_words, word_of}
use Rattle.refine.specs.Tokens.{Rooms}
use Rattle.refine.specs.Run.{Left}

module _ {T : Tables} {b : Rooms} {budget : ℕ} {answer : Answer} {r : Run} {w : World} (L : Left T b budget answer r w) where
  pub node_word : (d : Node) (i j : ℕ) → i < length r.nodes → j < 8 → get32 w.nodes (32 * i + 4 * j) ≡ get_or (node_words (get_or r.nodes i d)) j 0
  node_word d i j h k =
      let ns : List ℕ = words_of node_words r.nodes in
      let e : 32 * i + 4 * j ≡ 4 * (i * 8 + j) = omega arith in
      let l : i * 8 + j < length ns = omega (arith, length_words_of node_words 8 length_node_words r.nodes) in
      let room = rw (nodes_words r.nodes) at L.nodes in
      rw e (word_of ns w.nodes (drop (32 * length r.nodes) b.nodes) (i * 8 + j) room L.sized.nodes_fit_law l ∙ words_of_at node_words 8 length_node_words d r.nodes i j h k)

  pub child_word : (i : ℕ) → i < length r.children → get32 w.children (4 * i) ≡ get_or r.children i 0
  child_word i h =
      word_of r.children w.children (drop (4 * length r.children) b.children) i L.children L.sized.children_fit_law h

  pub record_word : (d : Marked) (i j : ℕ) → i < length r.marks → j < 16 → get32 w.records (64 * i + 4 * j) ≡ get_or (record_words T (get_or r.marks i d)) j 0
  record_word d i j h k =
      let ms : List ℕ = words_of (record_words T) r.marks in
      let e : 64 * i + 4 * j ≡ 4 * (i * 16 + j) = omega arith in
      let l : i * 16 + j < length ms = omega (arith, length_words_of (record_words T) 16 (length_record_words T) r.marks) in
      let room = rw (records_words T r.marks) at L.records in
      rw e (word_of ms w.records (drop (64 * length r.marks) b.records) (i * 16 + j) room L.sized.records_fit_law l ∙ words_of_at (record_words T) 16 (length_record_words T) d r.marks i j h k)
