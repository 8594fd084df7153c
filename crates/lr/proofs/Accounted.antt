-- What an accepted call leaves accounts for every token that was read.
use Rattle.std.specs.Prelude.{◌≡◌, true, ℕ, ◌≤◌, length}
use Rattle.std.proofs.Common.{subst, arith}
use Rattle.rules.specs.declared.Formed.{Formed}
use Rattle.rules.specs.Verdict.{Passes}
use Rattle.rules.specs.declared.Answer.TheVariants.{Accepted, AcceptedEarly}
use Rattle.rules.specs.Tables.{kinds, symbol}
use Rattle.rules.specs.Check.{check}
use Rattle.rules.specs.Driving.{Job, Run, Outcome, drive}
use Rattle.rules.specs.Trees.{leaves, Derives}
use Rattle.lr.specs.Checked.{laws}
use Rattle.lr.specs.Invariant.{Fits}
use Rattle.lr.specs.Stands.{terminal, Rooted, Stands}
use Rattle.lr.proofs.Stands.{run_stands}
use Rattle.lr.proofs.Complete.{complete}
use Rattle.lr.specs.Choice.{FormedBy}
use Rattle.lr.specs.Tiles.{covered, one_holder}
use Rattle.lr.specs.Replaced.{replaced, numbered, replaced_derivation, put_back}
use Rattle.lr.specs.Recovered.{RootOver}
use Rattle.lr.proofs.Recovered.{accepted_whole, early_whole}
use Rattle.lr.specs.Accounted.{Accounted, derived_root, tree_of}

accounted : (J : Job) (r : Run) (root to : ℕ) → check J.tables ≡ Passes → RootOver J r root to
    → Derives J.tables (terminal J) (symbol J.tables 0 0) (tree_of r root) → Accounted J r root to
accounted J r root to ok w d =
    let all = covered (tree_of r root) r.marks 0 to w.tiles in
    record {
      side_by_side = all;
      once = λ k h. one_holder (leaves (tree_of r root)) r.marks 0 to k all (omega arith) h;
      marks_in_order = w.ascends;
      says = w.says;
      accepted = complete J.tables (replaced J r.marks (tree_of r root)) J.origin (numbered (tree_of r root)) ok (replaced_derivation J r.marks (tree_of r root) d);
      same = put_back (tree_of r root);
    }

-- jobs over tables that pass, which read no kind past the error token's
module _ (J : Job) (ok : check J.tables ≡ Passes) (reads_in : (k : ℕ) → J.reads k ≡ true → k ≤ kinds J.tables) (budget root : ℕ) (r : Run) where
  fits : Fits J
  fits = record { laws = laws J.tables ok; reads_in = reads_in }

  -- answer 1: every token
  pub accepted_accounts : drive J budget ≡ Outcome.done (Accepted root) r → Accounted J r root (length J.tokens)
  accepted_accounts e =
      let h : Rooted J r root = subst (Stands J) e (run_stands fits budget).1 in
      accounted J r root (length J.tokens) ok (accepted_whole J fits budget root r e) (derived_root J r root h)

  -- answer 2: every token before the one at which the error arose
  pub early_accounts : (i : ℕ) → drive J budget ≡ Outcome.done (AcceptedEarly root i) r
      → Accounted J r root i × ((f : Formed) × FormedBy J f r.marks × (f.from ≡ i)) × (i ≤ length J.tokens)
  early_accounts i e =
      let h : Rooted J r root = subst (Stands J) e (run_stands fits budget).1 in
      let w = early_whole J fits budget root r i e in
      (accounted J r root i ok w.0 (derived_root J r root h), w.1, w.2)
