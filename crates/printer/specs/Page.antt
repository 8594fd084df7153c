-- A page: a lent buffer and the place behind the text that is written into it. What a method writes, one text behind another, and what
-- a loop keeps.
use Rattle.std.specs.Prelude.{List, [], ◌∷◌, ◌++◌, ◌≡◌, refl, ℕ, ◌+◌, ◌≤◌, ◌<◌, length, get_or, drop}
use Rattle.std.proofs.Common.{◌∙◌}
use Rattle.printer.specs.Writing.{Wrote, none, then, Rest, rest_by, rest_all, rest_none, text_turn, text_end}
use Rattle.printer.specs.TreeText.{tree_text, children_text, tree_line_text, tree_lines_text, answer_lines_text}
use Rattle.printer.specs.declared.Page.{Page}
use Rattle.printer.specs.declared.Trees.{Trees}
use Rattle.printer.specs.declared.Answer.{Answer}

-- what a method that writes `t` leaves of a page, in the buffer that was lent
pub record Written (p : Page) (t : List ℕ) (q : Page) : Type 0 where
  pub wrote : Wrote p.buf.now p.at t q.buf.now q.at
  pub same_buffer : q.buf.ghost_name ≡ p.buf.ghost_name

-- nothing, and one text behind another
pub nothing : (p : Page) → Written p [] p
nothing p = record { wrote = none p.buf.now p.at; same_buffer = refl }

pub chained : {p q r : Page} {x y : List ℕ} → Written p x q → Written q y r → Written p (x ++ y) r
chained v w = record { wrote = then v.wrote w.wrote; same_buffer = w.same_buffer ∙ v.same_buffer }

-- What a loop keeps: with the rest of a text behind, the whole text is written.
pub record Left (p : Page) (t : List ℕ) (q : Page) (rest : List ℕ) : Type 0 where
  pub rests : Rest p.buf.now p.at t q.buf.now q.at rest
  pub same_buffer : q.buf.ghost_name ≡ p.buf.ghost_name

-- all of a text is left, one part of it less, and nothing
pub left_all : (p : Page) (t all : List ℕ) → t ≡ all → Left p t p all
left_all p t all e = record { rests = rest_all p.buf.now p.at t all e; same_buffer = refl }

pub left_turn : (p : Page) (t : List ℕ) (q : Page) (x all rest : List ℕ) (r : Page) → all ≡ x ++ rest → Written q x r → Left p t q all → Left p t r rest
left_turn p t q x all rest r e w l =
    record {
      rests = rest_by p.buf.now p.at t q.buf.now q.at x all rest r.buf.now r.at e w.wrote l.rests;
      same_buffer = w.same_buffer ∙ l.same_buffer;
    }

pub left_none : (p : Page) (t : List ℕ) (q : Page) (rest : List ℕ) → rest ≡ [] → Left p t q rest → Written p t q
left_none p t q rest e l =
    record { wrote = rest_none p.buf.now p.at t q.buf.now q.at rest e l.rests; same_buffer = l.same_buffer }

-- a text's next byte, and its end
pub text_next : (p : Page) (t : List ℕ) (q : Page) (i : ℕ) (r : Page) → i < length t → Written q (get_or t i 0 ∷ []) r → Left p t q (drop i t) → Left p t r (drop (i + 1) t)
text_next p t q i r h w l =
    record {
      rests = text_turn p.buf.now p.at t q.buf.now q.at i r.buf.now r.at h w.wrote l.rests;
      same_buffer = w.same_buffer ∙ l.same_buffer;
    }

pub text_done : (p : Page) (t : List ℕ) (q : Page) (i : ℕ) → length t ≤ i → Left p t q (drop i t) → Written p t q
text_done p t q i h l =
    record { wrote = text_end p.buf.now p.at t q.buf.now q.at i h l.rests; same_buffer = l.same_buffer }

-- ---- the texts of trees and of an answer

abbrev pub tree_of : ℕ → Trees → ℕ → List ℕ
tree_of fuel t i = tree_text fuel t.productions.now t.nodes.now t.children.now i

abbrev pub children_of : ℕ → Trees → ℕ → ℕ → List ℕ
children_of count t from fuel = children_text count 0 t.productions.now t.nodes.now t.children.now from fuel

abbrev pub tree_line_of : Trees → ℕ → List ℕ
tree_line_of t root = tree_line_text t.productions.now t.nodes.now t.children.now root

abbrev pub tree_lines_of : ℕ → Trees → ℕ → List ℕ
tree_lines_of number t root = tree_lines_text number t.productions.now t.nodes.now t.children.now root

abbrev pub answer_lines_of : Answer → List ℕ
answer_lines_of a =
    answer_lines_text a.number a.place a.root a.units a.expected.now a.trees.productions.now a.trees.nodes.now
    a.trees.children.now a.records.now a.count
