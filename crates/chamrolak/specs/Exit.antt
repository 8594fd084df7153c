-- What a call returns and leaves, for all input: one definition, by cases on the rules' reply. A refusal touches nothing; an answer
-- leaves the bytes of its nodes, child entries and records, what was behind them, and its report. Stack and scratch are exempt.
use Rattle.std.specs.Prelude.{List, ◌++◌, ◌≡◌, ℕ, ◌*◌, ◌/◌, min, length, drop, Ok, Err}
use Rattle.std.proofs.Common.{sym, ◌∙◌}
use Rattle.rules.specs.Verdict.{Verdict}
use Rattle.rules.specs.declared.Answer.{Answer}
use Rattle.rules.specs.Tables.{Tables}
use Rattle.rules.specs.Driving.{Run}
use Rattle.rules.specs.Answers.{Reply, Limits, number_of, value_of, nodes_bytes, records_bytes, bytes_of, report_words}
use Rattle.chamrolak.specs.declared.Returned.{Returned}

-- "Bad tables are refused at the first failed check": the number and the place, 0 where they pass
abbrev pub returned_of : Verdict → Returned
returned_of (Ok _) = record { number = 0; value = 0 }
returned_of (Err refusal) = record { number = refusal.number; value = refusal.place }

-- the lent rooms
pub record Lent : Type 0 where
  pub stack : List ℕ
  pub scratch : List ℕ
  pub nodes : List ℕ
  pub children : List ℕ
  pub records : List ℕ
  pub report : List ℕ

abbrev pub lent : List ℕ → List ℕ → List ℕ → List ℕ → List ℕ → List ℕ → Lent
lent stack scratch nodes children records report =
    record { stack = stack; scratch = scratch; nodes = nodes; children = children; records = records; report = report }

-- "its limit is the shorter of stack and scratch room. The rest are lent lengths in whole entries."
abbrev pub limits_in : Lent → ℕ → Limits
limits_in b budget =
    record {
      budget = budget;
      depth = min (length b.stack / 32) (length b.scratch / 4);
      children = length b.children / 4;
      nodes = length b.nodes / 32;
      records = length b.records / 64;
    }

-- "Refusals 10 to 18 touch no buffer."
pub record Refusing (number place : ℕ) (r : Returned) (b e : Lent) : Type 0 where
  pub numbered : r.number ≡ number
  pub placed : r.value ≡ place
  pub untouched : e ≡ b

-- "A stopped run leaves what the steps before it wrote. Past the counts, buffers are unchanged."
pub record Answering (T : Tables) (a : Answer) (run : Run) (r : Returned) (b e : Lent) : Type 0 where
  pub numbered : r.number ≡ number_of a
  pub valued : r.value ≡ value_of a
  pub nodes_left : e.nodes ≡ nodes_bytes run.nodes ++ drop (32 * length run.nodes) b.nodes
  pub children_left_law : e.children ≡ bytes_of run.children ++ drop (4 * length run.children) b.children
  pub records_left : e.records ≡ records_bytes T run.marks ++ drop (64 * length run.marks) b.records
  pub report_left : e.report ≡ bytes_of (report_words T a run)

-- what is returned, and what the rooms b have become
abbrev pub Leaves : Tables → Reply → Returned → Lent → Lent → Type 0
Leaves T (Reply.refused number place) r b e = Refusing number place r b e
Leaves T (Reply.answered a run) r b e = Answering T a run r b e

-- what the host may look at
pub record Same (r s : Returned) (e f : Lent) : Type 0 where
  pub returned : r ≡ s
  pub nodes : e.nodes ≡ f.nodes
  pub children : e.children ≡ f.children
  pub records : e.records ≡ f.records
  pub report : e.report ≡ f.report

same_returned : (r s : Returned) → r.number ≡ s.number → r.value ≡ s.value → r ≡ s
same_returned r s p q = λ i. record { number = p i; value = q i }

-- "any two results the wording admits are shown equal"
pub one_result : (T : Tables) (reply : Reply) (r s : Returned) (b e f : Lent) → Leaves T reply r b e → Leaves T reply s b f → Same r s e f
one_result T (Reply.refused number place) r s b e f x y =
    record {
      returned = same_returned r s (x.numbered ∙ sym y.numbered) (x.placed ∙ sym y.placed);
      nodes = cc;
      children = cc;
      records = cc;
      report = cc;
    }
one_result T (Reply.answered a run) r s b e f x y =
    record {
      returned = same_returned r s (x.numbered ∙ sym y.numbered) (x.valued ∙ sym y.valued);
      nodes = x.nodes_left ∙ sym y.nodes_left;
      children = x.children_left_law ∙ sym y.children_left_law;
      records = x.records_left ∙ sym y.records_left;
      report = x.report_left ∙ sym y.report_left;
    }
