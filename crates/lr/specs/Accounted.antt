-- What an accepted call leaves accounts for every token that was read: by one leaf or by exactly one mark's stretch; and the list with
-- one error token for each stretch is accepted by the plain driver, with the same productions over the same leaves.
use Rattle.std.specs.Prelude.{◌≡◌, refl, Bool, true, false, List, ℕ, ◌≤◌, ◌<◌, Ok, Err}
use Rattle.std.proofs.Common.{arith, ltb-true}
use Rattle.words.specs.Words.{pick}
use Rattle.rules.specs.declared.Token.{Token}
use Rattle.rules.specs.Verdict.{Verdict, Passes}
use Rattle.rules.specs.declared.Answer.{Answer}
use Rattle.rules.specs.declared.Answer.TheVariants.{OutOfUnits}
use Rattle.rules.specs.Tables.{Tables, kinds, symbol}
use Rattle.rules.specs.Check.{check, ok18}
use Rattle.rules.specs.Driving.{Job, Run, Outcome, drive}
use Rattle.rules.specs.Answers.{Limits, job_of, tokens_of, Reply, reply_of, drive_reply, after_check, parse_reply}
use Rattle.rules.specs.Trees.{Tree, Leaf, leaves, tree_at, Derives}
use Rattle.rules.specs.Plain.{PlainAccepts}
use Rattle.lr.specs.Each.{Each}
use Rattle.lr.specs.Built.{built_tree}
use Rattle.lr.specs.Stands.{terminal, Rooted}
use Rattle.lr.specs.Tiles.{Covers, holders}
use Rattle.lr.specs.Tiled.{NodeSays}
use Rattle.lr.specs.Ordered.{Ascends}
use Rattle.lr.specs.Replaced.{replaced, numbered, map_t, leaf_of}

-- the tree that a run's words hold at its root
abbrev pub tree_of : Run → ℕ → Tree Leaf
tree_of r root = tree_at r.nodes r.children root

-- the tokens before `to` are accounted for by the tree at the root
pub record Accounted (J : Job) (r : Run) (root to : ℕ) : Type 0 where
  -- the leaves in order, each token and each stretch behind the one before it, from the first token up to `to`
  pub side_by_side : Covers (leaves (tree_of r root)) r.marks 0 to
  -- so each token is one leaf, or lies in exactly one mark's stretch
  pub once : (k : ℕ) → k < to → holders r.marks k (leaves (tree_of r root)) ≡ 1
  -- the marks are distinct, and their records stand in the same order
  pub marks_in_order : Ascends (leaves (tree_of r root)) 0
  -- each mark node's number is its record's, and its stretch and span are that record's; a token's node holds that token
  pub says : Each (NodeSays r.marks) r.nodes
  -- the list with one error token for each stretch is accepted by the plain driver
  pub accepted : PlainAccepts J.tables (replaced J r.marks (tree_of r root)) J.origin (numbered (tree_of r root))
  -- with the same productions over the same leaves
  pub same : map_t (leaf_of (leaves (tree_of r root))) (numbered (tree_of r root)) ≡ tree_of r root

pub derived_root : (J : Job) (r : Run) (root : ℕ) → Rooted J r root → Derives J.tables (terminal J) (symbol J.tables 0 0) (tree_of r root)
derived_root J r root h = rw (built_tree h.built) h.derives

-- ---- of a call

after_check_law : (v : Verdict) (reply : Reply) (a : Answer) (r : Run) → after_check v reply ≡ Reply.answered a r → (v ≡ Passes) × (reply ≡ Reply.answered a r)
unfolding after_check
after_check_law (Ok _) reply a r e = (refl, e)
after_check_law (Err refusal) reply a r e = let z : ◌≡◌ {A = ℕ} 0 1 = cc in absurd (omega arith)

judged : (t : Bool) (reply : Reply) (a : Answer) (r : Run) → pick t reply (Reply.refused 18 0) ≡ Reply.answered a r → reply ≡ Reply.answered a r
judged true reply a r e = e
judged false reply a r e = let z : ◌≡◌ {A = ℕ} 0 1 = cc in absurd (omega arith)

of_reply : (o : Outcome) (a : Answer) (r : Run) → (a ≡ OutOfUnits → ⊥) → reply_of o ≡ Reply.answered a r → o ≡ Outcome.done a r
unfolding reply_of
of_reply (Outcome.more s) a r h e = let q : a ≡ OutOfUnits = cc in absurd (h q)
of_reply (Outcome.done b s) a r h e = let p : b ≡ a = cc in let q : s ≡ r = cc in λ i. Outcome.done (p i) (q i)

-- a call that is answered, with anything but 19, passed the check, and its run was so answered
pub answered_run : (T : Tables) (s : List ℕ) (origin : ℕ) (L : Limits) (a : Answer) (r : Run) → (a ≡ OutOfUnits → ⊥)
    → parse_reply T s origin L ≡ Reply.answered a r
    → (check T ≡ Passes) × (drive (job_of T (tokens_of s) origin L) L.budget ≡ Outcome.done a r)
unfolding parse_reply drive_reply
answered_run T s origin L a r h e =
    let c = after_check_law (check T) (drive_reply T s origin L) a r e in
    (c.0, of_reply (drive (job_of T (tokens_of s) origin L) L.budget) a r h (judged (ok18 s) (reply_of (drive (job_of T (tokens_of s) origin L) L.budget)) a r c.1))

pub reads_user_kinds : (T : Tables) (tokens : List Token) (origin : ℕ) (L : Limits) (k : ℕ) → (job_of T tokens origin L).reads k ≡ true → k ≤ kinds T
unfolding job_of
reads_user_kinds T tokens origin L k e = let h = ltb-true k (kinds T) e in omega arith
