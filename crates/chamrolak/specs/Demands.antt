-- The customer's three demands, as they hold of every result that the contract of `chamrolak_parse` admits. Each follows from that
-- contract (`Leaves` of the rules' reply) and from the theory (`lr`).
use Rattle.std.specs.Prelude.{Bool, true, false, List, ◌++◌, ◌⊎◌, ◌≡◌, refl, ℕ, ◌*◌, ◌≤◌, length, drop, Ok, Err}
use Rattle.std.proofs.Common.{inl, inr, arith}
use Rattle.words.specs.Words.{pick}
use Rattle.rules.specs.declared.Answer.{Answer}
use Rattle.rules.specs.declared.Answer.TheVariants.{Accepted, AcceptedEarly, UnrecognizedToken, UnrecognizedEnd, ExtraToken, TokenizerError, OutOfUnits, OutOfDepth, OutOfChildren, OutOfNodes, OutOfRecords}
use Rattle.rules.specs.Verdict.{Verdict}
use Rattle.rules.specs.Tables.{Tables}
use Rattle.rules.specs.Check.{check, ok18}
use Rattle.rules.specs.Driving.{Run, Outcome, drive}
use Rattle.rules.specs.Answers.{Reply, Limits, number_of, nodes_bytes, records_bytes, bytes_of, job_of, tokens_of, reply_of, drive_reply, after_check, parse_reply}
use Rattle.lr.specs.Accounted.{Accounted}
use Rattle.lr.proofs.Theorems.{accepted_call, check_refuses}
use Rattle.chamrolak.specs.declared.Returned.{Returned}
use Rattle.chamrolak.specs.Exit.{Lent, limits_in, Leaves}

-- ---- demand 1: "each call ends with an answer of document 01 .. Bad tables are refused .. with buffers untouched"

-- the numbers of 01: 1 to 6, 10 to 18, 19 to 23
abbrev pub Numbered : ℕ → Type 0
Numbered n = ((1 ≤ n) × (n ≤ 6)) ⊎ ((10 ≤ n) × (n ≤ 23))

answer_numbered : (a : Answer) → Numbered (number_of a)
answer_numbered (Accepted root) = inl (omega arith)
answer_numbered (AcceptedEarly root token) = inl (omega arith)
answer_numbered (UnrecognizedToken token top) = inl (omega arith)
answer_numbered (UnrecognizedEnd location top) = inl (omega arith)
answer_numbered (ExtraToken token) = inl (omega arith)
answer_numbered (TokenizerError token) = inl (omega arith)
answer_numbered OutOfUnits = inr (omega arith)
answer_numbered OutOfDepth = inr (omega arith)
answer_numbered OutOfChildren = inr (omega arith)
answer_numbered OutOfNodes = inr (omega arith)
answer_numbered OutOfRecords = inr (omega arith)

-- a refusal is one of 10 to 18
abbrev RefusalNumbered : Reply → Type 0
RefusalNumbered (Reply.refused number place) = (10 ≤ number) × (number ≤ 18)
RefusalNumbered (Reply.answered a r) = Unit

outcome_numbered : (o : Outcome) → RefusalNumbered (reply_of o)
unfolding reply_of
outcome_numbered (Outcome.more r) = tt
outcome_numbered (Outcome.done a r) = tt

drive_numbered : (b : Bool) (o : Outcome) → RefusalNumbered (pick b (reply_of o) (Reply.refused 18 0))
drive_numbered true o = outcome_numbered o
drive_numbered false o = omega arith

checked_numbered : (T : Tables) (v : Verdict) (reply : Reply) → check T ≡ v → RefusalNumbered reply → RefusalNumbered (after_check v reply)
unfolding after_check
checked_numbered T (Ok _) reply e h = h
checked_numbered T (Err r) reply e h = let x = (check_refuses T r.number r.place).0 e in (x.number_low, omega (arith, x.number_high))

parse_numbered : (T : Tables) (s : List ℕ) (origin : ℕ) (L : Limits) → RefusalNumbered (parse_reply T s origin L)
unfolding parse_reply drive_reply
parse_numbered T s origin L =
    checked_numbered T (check T) (pick (ok18 s) (reply_of (drive (job_of T (tokens_of s) origin L) L.budget)) (Reply.refused 18 0)) refl
    (drive_numbered (ok18 s) (drive (job_of T (tokens_of s) origin L) L.budget))

no_refusal : (a : Answer) → 10 ≤ number_of a → number_of a ≤ 18 → ⊥
no_refusal (Accepted root) x y = omega arith
no_refusal (AcceptedEarly root token) x y = omega arith
no_refusal (UnrecognizedToken token top) x y = omega arith
no_refusal (UnrecognizedEnd location top) x y = omega arith
no_refusal (ExtraToken token) x y = omega arith
no_refusal (TokenizerError token) x y = omega arith
no_refusal OutOfUnits x y = omega arith
no_refusal OutOfDepth x y = omega arith
no_refusal OutOfChildren x y = omega arith
no_refusal OutOfNodes x y = omega arith
no_refusal OutOfRecords x y = omega arith

same_number : (n m : ℕ) → n ≡ m → Numbered m → Numbered n
same_number n m e h = rw e h

reply_ends : (T : Tables) (reply : Reply) (r : Returned) (b e : Lent) → RefusalNumbered reply → Leaves T reply r b e
    → Numbered r.number × (10 ≤ r.number → r.number ≤ 18 → e ≡ b)
reply_ends T (Reply.refused number place) r b e h l =
    let n = l.numbered in (inr (omega (arith, h.0, h.1)), λ x y. l.untouched)
reply_ends T (Reply.answered a run) r b e h l =
    let n = l.numbered in
    (same_number r.number (number_of a) n (answer_numbered a), λ x y. absurd (no_refusal a (omega arith) (omega arith)))

-- The number is one of 01's, and a refusal has left every room as it was, stack and scratch too.
pub ends_in_an_answer : (T : Tables) (s : List ℕ) (origin budget : ℕ) (b e : Lent) (r : Returned) → Leaves T (parse_reply T s origin (limits_in b budget)) r b e
    → Numbered r.number × (10 ≤ r.number → r.number ≤ 18 → e ≡ b)
ends_in_an_answer T s origin budget b e r l =
    reply_ends T (parse_reply T s origin (limits_in b budget)) r b e (parse_numbered T s origin (limits_in b budget)) l

-- ---- demand 2: "every answer, span, record and dropped token equals the Rust driver's .. proved against the rules in 01": that is the
-- contract itself, `Leaves` of the rules' reply, and `one_result` of `Exit` shows that it admits no second result.

-- ---- demand 3, on the bytes that the call leaves

-- Answer 1 with the root that is returned: the rooms hold the words of a run whose tree at that root accounts for every token.
pub record TreeLeft (T : Tables) (s : List ℕ) (origin : ℕ) (L : Limits) (r : Returned) (b e : Lent) : Type 0 where
  pub run : Run
  pub accounts : Accounted (job_of T (tokens_of s) origin L) run r.value (length (tokens_of s))
  pub nodes : e.nodes ≡ nodes_bytes run.nodes ++ drop (32 * length run.nodes) b.nodes
  pub children : e.children ≡ bytes_of run.children ++ drop (4 * length run.children) b.children
  pub records : e.records ≡ records_bytes T run.marks ++ drop (64 * length run.marks) b.records

tree_left : (T : Tables) (s : List ℕ) (origin : ℕ) (L : Limits) (reply : Reply) (r : Returned) (b e : Lent) → parse_reply T s origin L ≡ reply
    → RefusalNumbered reply → Leaves T reply r b e → r.number ≡ 1 → TreeLeft T s origin L r b e
tree_left T s origin L (Reply.refused number place) r b e q h l one =
    let n = l.numbered in absurd (omega (arith, h.0))
tree_left T s origin L (Reply.answered (Accepted root) run) r b e q h l one =
    record {
      run = run;
      accounts = rw l.valued (accepted_call T s origin L root run q);
      nodes = l.nodes_left;
      children = l.children_left_law;
      records = l.records_left;
    }
tree_left T s origin L (Reply.answered (AcceptedEarly root token) run) r b e q h l one = let n = l.numbered in absurd (omega arith)
tree_left T s origin L (Reply.answered (UnrecognizedToken token top) run) r b e q h l one = let n = l.numbered in absurd (omega arith)
tree_left T s origin L (Reply.answered (UnrecognizedEnd location top) run) r b e q h l one = let n = l.numbered in absurd (omega arith)
tree_left T s origin L (Reply.answered (ExtraToken token) run) r b e q h l one = let n = l.numbered in absurd (omega arith)
tree_left T s origin L (Reply.answered (TokenizerError token) run) r b e q h l one = let n = l.numbered in absurd (omega arith)
tree_left T s origin L (Reply.answered OutOfUnits run) r b e q h l one = let n = l.numbered in absurd (omega arith)
tree_left T s origin L (Reply.answered OutOfDepth run) r b e q h l one = let n = l.numbered in absurd (omega arith)
tree_left T s origin L (Reply.answered OutOfChildren run) r b e q h l one = let n = l.numbered in absurd (omega arith)
tree_left T s origin L (Reply.answered OutOfNodes run) r b e q h l one = let n = l.numbered in absurd (omega arith)
tree_left T s origin L (Reply.answered OutOfRecords run) r b e q h l one = let n = l.numbered in absurd (omega arith)

pub accepted_tree : (T : Tables) (s : List ℕ) (origin budget : ℕ) (b e : Lent) (r : Returned) → Leaves T (parse_reply T s origin (limits_in b budget)) r b e
    → r.number ≡ 1 → TreeLeft T s origin (limits_in b budget) r b e
accepted_tree T s origin budget b e r l one =
    tree_left T s origin (limits_in b budget) (parse_reply T s origin (limits_in b budget)) r b e refl (parse_numbered T s origin (limits_in b budget)) l one
