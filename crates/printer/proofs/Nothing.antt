-- Nothing written: what `grind` takes a `Wrote` of no bytes apart to. `Page::kind`, `Page::place` and `Page::tree_lines` name these laws,
-- so that their goals are tried by the same laws whatever their tests are called.
use Rattle.std.specs.Prelude.{List, [], ◌≡◌, refl, ℕ}
use Rattle.printer.specs.Writing.{written, behind}
use Rattle.printer.specs.Lines.{kind_set, kind_clear, place_low, place_high, place_one}
use Rattle.printer.specs.TreeText.{tree_low, tree_high, tree_shown}

pub written_none : (b : List ℕ) (at : ℕ) → written b at [] ≡ b
unfolding written
written_none b at = refl

pub behind_none : (n at : ℕ) → behind n at [] ≡ at
unfolding behind
behind_none n at = refl

pub ruleset places = (place_low, place_high, place_one, written_none, behind_none)

pub ruleset trees = (tree_low, tree_high, tree_shown, written_none, behind_none)

pub ruleset kinds = (kind_set, kind_clear, written_none, behind_none)
