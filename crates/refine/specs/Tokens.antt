-- The call's bytes and the rules' job: a token read from the bytes is the token of the list, past the end too, where both are 0.
-- What is read from a cell, or as a word of the tokens, fits a word.
use Rattle.std.specs.Prelude.{◌≡◌, refl, Bool, true, false, ◌&&◌, List, ℕ, zero, suc, ◌+◌, ◌*◌, ◌/◌, ◌<◌, ◌≤◌, ◌^◌, leb, ltb, eqb, pos, length, get_or}
use Rattle.std.proofs.Common.{sym, ap, ◌∙◌, arith, to_z, lt-ltb, le-ltb}
use Rattle.std.specs.Int.{w16}
use Rattle.std.proofs.Math.Decide.{dec_lt}
use Rattle.words.specs.Words.{pick, word16, word32}
use Rattle.words.specs.Laws.{Bytes, get32_lt, word32_out, pick_case}
use Rattle.rules.specs.declared.Cell.{Cell}
use Rattle.rules.specs.declared.Cell.TheVariants.{Shift, Reduce, Error}
use Rattle.rules.specs.declared.Token.{Token}
use Rattle.rules.specs.Tables.{Tables, kinds, flag, columns, nonterminals, states, cell_of, cell_at, action, goto, target}
use Rattle.rules.specs.Driving.{Job, no_token}
use Rattle.rules.specs.Answers.{tokens_from, tokens_of}
use Rattle.model.specs.Model.{Call, token_kind, token_start, token_end}
use Rattle.refine.specs.Fits.{Word}

-- the five lent rooms
pub record Rooms : Type 0 where
  pub stack : List ℕ
  pub scratch : List ℕ
  pub nodes : List ℕ
  pub children : List ℕ
  pub records : List ℕ

-- a call, and the rooms at its entry: tokens that refusal 18 does not stop, and a depth that both rooms hold
pub record Fit (C : Call) (b : Rooms) : Type 0 where
  pub count : C.count ≡ length C.tokens / 12
  pub whole : length C.tokens ≡ 12 * C.count
  pub few : C.count ≤ 4096
  pub bytes : Bytes C.tokens
  pub origin : Word C.origin
  pub stack : 32 * C.depth ≤ length b.stack
  pub scratch : 4 * C.depth ≤ length b.scratch

-- the job of the rules that such a call is
abbrev pub job_for : Call → Rooms → Job
job_for C b =
    record {
      tables = C.tables;
      tokens = tokens_of C.tokens;
      origin = C.origin;
      recovers = eqb (flag C.tables) 1;
      reads = λ k. ltb k (kinds C.tables);
      depth_fits = λ n. leb n C.depth;
      children_fit = λ n. leb n (length b.children / 4);
      nodes_fit = λ n. leb n (length b.nodes / 32);
      records_fit = λ n. leb n (length b.records / 64);
    }

-- ---- tokens

abbrev pub token_of : Call → ℕ → Token
token_of C i = record { kind = token_kind C i; start = token_start C i; end = token_end C i }

length_tokens_from : (s : List ℕ) (at n : ℕ) → length (tokens_from s at n) ≡ n
unfolding tokens_from
length_tokens_from s at zero = refl
length_tokens_from s at (suc n) = ap suc (length_tokens_from s (at + 12) n)

token_from : (s : List ℕ) (at n i : ℕ) → length s ≡ at + 12 * n → get_or (tokens_from s at n) i no_token ≡ record { kind = word32 s (at + 12 * i); start = word32 s (at + 12 * i + 4); end = word32 s (at + 12 * i + 8) }
unfolding tokens_from
token_from s at zero i h =
    rw (word32_out s (at + 12 * i) (omega arith), word32_out s (at + 12 * i + 4) (omega arith), word32_out s (at + 12 * i + 8) (omega arith))
token_from s at (suc n) zero h =
    let e : at + 12 * 0 ≡ at = omega arith in rw e
token_from s at (suc n) (suc i) h =
    let e : at + 12 * suc i ≡ at + 12 + 12 * i = omega arith in rw e (token_from s (at + 12) n i (omega arith))

pub length_tokens : {C : Call} {b : Rooms} → Fit C b → length (tokens_of C.tokens) ≡ C.count
unfolding tokens_of
length_tokens {C} {b} F = length_tokens_from C.tokens 0 (length C.tokens / 12) ∙ sym F.count

pub token_at_law : {C : Call} {b : Rooms} → Fit C b → (i : ℕ) → get_or (tokens_of C.tokens) i no_token ≡ token_of C i
unfolding tokens_of
token_at_law {C} {b} F i =
    let h : length C.tokens ≡ 0 + 12 * (length C.tokens / 12) = rw (← F.count) (omega arith) in
    let e : 0 + 12 * i ≡ 12 * i = omega arith in
    rw e at (token_from C.tokens 0 (length C.tokens / 12) i h)

pub word32_small : (s : List ℕ) (at : ℕ) → Bytes s → Word (word32 s at)
unfolding word32
word32_small s at b = pick_case Word (leb (at + 4) (length s)) _ 0 (λ _. get32_lt s at b) (λ _. omega arith)

-- ---- cells

-- the production that a cell reduces, 0 where it reduces none
abbrev pub rule_of : Cell → ℕ
rule_of (Shift s) = 0
rule_of (Reduce p) = p.0
rule_of Error = 0

abbrev pub CellFits : Cell → Type 0
CellFits c = Word (target c) × Word (rule_of c)

cell_fits_law : (n : ℕ) → CellFits (cell_of (to_z w16 n))
cell_fits_law n =
    elim (dec_lt n (2 ^ 15)) [
      | yes h ↦ rw (lt-ltb _ _ h) (low n h)
      | no h ↦ let k : 2 ^ 15 ≤ n = omega arith in rw (le-ltb _ _ k) (omega arith)
    ]
  where
    low : (n : ℕ) → n < 2 ^ 15 → CellFits (cell_of (pos n))
    low zero h = omega arith
    low (suc n) h = omega arith

picked_fits : (t : Bool) (n : ℕ) → CellFits (pick t (cell_of (to_z w16 n)) Error)
picked_fits true n = cell_fits_law n
picked_fits false n = omega arith

pub action_fits_law : (T : Tables) (s c : ℕ) → CellFits (action T s c)
unfolding action cell_at
action_fits_law T s c =
    picked_fits (ltb s (states T) && ltb c (columns T)) (word16 T.actions (2 * (s * columns T + c)))

pub goto_fits_law : (T : Tables) (s j : ℕ) → CellFits (goto T s j)
unfolding goto cell_at
goto_fits_law T s j =
    picked_fits (ltb s (states T) && ltb j (nonterminals T)) (word16 T.gotos (2 * (s * nonterminals T + j)))
