-- The plain driver is sound: what it accepts is derived by the tree that it builds, whose leaves are the tokens in order.
use Rattle.std.specs.Prelude.{false, List, ◌≡◌, refl, ℕ, length}
use Rattle.std.proofs.Common.{sym, subst, ◌∙◌, leb-true}
use Rattle.rules.specs.declared.Token.{Token}
use Rattle.rules.specs.Verdict.{Passes}
use Rattle.rules.specs.Tables.{Tables, kinds, symbol}
use Rattle.rules.specs.Check.{check}
use Rattle.rules.specs.Driving.{Job, begin, drive}
use Rattle.rules.specs.Trees.{Tree, Leaf, leaves, Derives}
use Rattle.rules.specs.Plain.{plain_job, PlainAccepts}
use Rattle.lr.specs.Checked.{laws}
use Rattle.lr.specs.Invariant.{Fits, StaysOK, stays, begins_ok, run_keeps}
use Rattle.lr.proofs.Invariant.{does}
use Rattle.lr.specs.Built.{built_tree}
use Rattle.lr.specs.Stands.{kind_in}
use Rattle.lr.specs.Sound.{Derivation, Parsed, Reads, begin_reads, in_order, reads_on}

-- every run of a job that does not recover
pub run_reads : {J : Job} → Fits J → J.recovers ≡ false → (n : ℕ) → StaysOK J (drive J n) × Reads J (drive J n)
unfolding drive
run_reads {J} F nr n =
    run_keeps (λ o. StaysOK J o × Reads J o) J
    (λ r h. (stays F h.0 (does J F r h.0), reads_on F nr h.0 h.1 (does J F r h.0))) (λ r h. (tt, tt)) n (begin J)
    (begins_ok J, begin_reads J)

-- ---- the plain driver

pub plain_fits : (T : Tables) (tokens : List Token) (origin : ℕ) → check T ≡ Passes → Fits (plain_job T tokens origin)
unfolding plain_job
plain_fits T tokens origin ok = record { laws = laws T ok; reads_in = λ k e. leb-true k (kinds T) e }

pub sound : (T : Tables) (tokens : List Token) (origin : ℕ) (tree : Tree Leaf) → check T ≡ Passes → PlainAccepts T tokens origin tree → Derivation T tokens tree
unfolding plain_job
sound T tokens origin tree ok a =
    let J : Job = plain_job T tokens origin in
    let p : Parsed J a.run a.root = subst (Reads J) a.accepted (run_reads (plain_fits T tokens origin ok) refl a.looks).1 in
    let same : p.tree ≡ tree = sym (built_tree p.built) ∙ a.built in
    record {
      derives = subst (Derives T (kind_in T tokens) (symbol T 0 0)) same p.derives;
      order = subst (λ t. leaves t ≡ in_order 0 (length tokens)) same p.order;
    }
