-- Where the plain driver accepts a list of user kinds, a call that no limit stops gives the same tree, with no mark and no record.
use Rattle.std.specs.Prelude.{◌≡◌, refl, get_or}
use mathlib.Core.List.{List}
use Rattle.std.proofs.Common.{⊎_elim, arith, lt-ltb}
use Rattle.std.proofs.Math.Path.{subst}
use Prim.Native.Nat.{ℕ, ◌<◌}
use Rattle.rules.specs.declared.Token.{Token}
use Rattle.rules.specs.declared.Answer.{Answer}
use Rattle.rules.specs.Verdict.{Passes}
use Rattle.rules.specs.Tables.{Tables, kinds}
use Rattle.rules.specs.Check.{check}
use Rattle.rules.specs.Driving.{Job, Run, done, no_token, drive}
use Rattle.rules.specs.Trees.{Tree, Leaf}
use Rattle.rules.specs.Answers.{number_of, Limits, job_of}
use Rattle.rules.specs.Plain.{plain_job, PlainAccepts}
use Rattle.lr.specs.Sound.{Parsed, Reads}
use Rattle.lr.proofs.Sound.{run_reads, plain_fits, sound}
use Rattle.lr.specs.NoMark.{carried, AllRead, SameTree, UserKinds, drive_alike}

pub same_tree : (T : Tables) (tokens : List Token) (origin : ℕ) (L : Limits) (budget : ℕ) (tree : Tree Leaf) (a : Answer) (r : Run) → check T ≡ Passes
    → UserKinds T tokens → PlainAccepts T tokens origin tree → drive (job_of T tokens origin L) budget ≡ done a r → number_of a < 19 → SameTree tokens tree a r
unfolding job_of plain_job
same_tree T tokens origin L budget tree a r ok user p f l =
    let J : Job = job_of T tokens origin L in
    let P : Job = plain_job T tokens origin in
    let read : AllRead J = λ i h. (lt-ltb (get_or tokens i no_token).kind (kinds T) (user i h), omega (arith, user i h)) in
    let q : Parsed P p.run p.root = subst (Reads P) p.accepted (run_reads (plain_fits T tokens origin ok) refl p.looks).1 in
    let e = drive_alike J read budget p.looks p.root p.run a r p.accepted f in
    ⊎_elim (λ k. absurd (omega arith))
    (λ k. carried tokens tree a r p.root p.run k p.built (sound T tokens origin tree ok p).order q.unmarked q.no_marks) e
