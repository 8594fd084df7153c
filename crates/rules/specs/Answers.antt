-- "What comes back": the number and the values of each answer, and the words and bytes of nodes and records.
use Rattle.std.specs.Prelude.{List, [], ◌∷◌, ◌++◌, ℕ, zero, suc, ◌+◌, ◌/◌, leb, ltb, eqb, length, Ok, Err}
use Rattle.std.specs.Int.Count.{ones}
use Rattle.words.specs.Words.{pick, le4, word32}
use Rattle.rules.specs.declared.Token.{Token}
use Rattle.rules.specs.declared.What.{What}
use Rattle.rules.specs.declared.What.TheVariants.{Read, Mark, Production}
use Rattle.rules.specs.declared.Answer.{Answer}
use Rattle.rules.specs.declared.Answer.TheVariants.{Accepted, AcceptedEarly, UnrecognizedToken, UnrecognizedEnd, ExtraToken, TokenizerError, OutOfUnits, OutOfDepth, OutOfChildren, OutOfNodes, OutOfRecords}
use Rattle.rules.specs.Verdict.{Verdict}
use Rattle.rules.specs.Tables.{Tables, kinds, flag}
use Rattle.rules.specs.Check.{check, ok18}
use Rattle.rules.specs.Driving.{Job, Run, Node, Marked, Outcome, drive, expected_word}

-- "1 accepted", "2 accepted early", "3 unrecognized token", "4 unrecognized end", "5 extra token", "6 tokenizer error", "Then 19
-- consultations, 20 depth, 21 child entries, 22 nodes, 23 records"
abbrev pub number_of : Answer → ℕ
number_of (Accepted root) = 1
number_of (AcceptedEarly root token) = 2
number_of (UnrecognizedToken token top) = 3
number_of (UnrecognizedEnd location top) = 4
number_of (ExtraToken token) = 5
number_of (TokenizerError token) = 6
number_of OutOfUnits = 19
number_of OutOfDepth = 20
number_of OutOfChildren = 21
number_of OutOfNodes = 22
number_of OutOfRecords = 23

-- the root of the answers that have one
abbrev pub roots_of : Answer → List ℕ
roots_of (Accepted root) = root ∷ []
roots_of (AcceptedEarly root token) = root ∷ []
roots_of (UnrecognizedToken token top) = []
roots_of (UnrecognizedEnd location top) = []
roots_of (ExtraToken token) = []
roots_of (TokenizerError token) = []
roots_of OutOfUnits = []
roots_of OutOfDepth = []
roots_of OutOfChildren = []
roots_of OutOfNodes = []
roots_of OutOfRecords = []

-- its token or location
abbrev pub places_of : Answer → List ℕ
places_of (Accepted root) = []
places_of (AcceptedEarly root token) = token ∷ []
places_of (UnrecognizedToken token top) = token ∷ []
places_of (UnrecognizedEnd location top) = location ∷ []
places_of (ExtraToken token) = token ∷ []
places_of (TokenizerError token) = token ∷ []
places_of OutOfUnits = []
places_of OutOfDepth = []
places_of OutOfChildren = []
places_of OutOfNodes = []
places_of OutOfRecords = []

-- the first of an answer's own fields: root, token or location
abbrev pub first_of : List ℕ → ℕ
first_of [] = 0
first_of (n ∷ ns) = n

abbrev pub value_of : Answer → ℕ
value_of a = first_of (roots_of a ++ places_of a)

-- "8 words of expected bits (kind k at bit k mod 32 of word k/32)"
unfoldable pub expected_words : Tables → ℕ → List ℕ
expected_words T s =
    expected_word T s 0 ∷ expected_word T s 1 ∷ expected_word T s 2 ∷ expected_word T s 3 ∷ expected_word T s 4 ∷ expected_word T s 5
    ∷ expected_word T s 6 ∷ expected_word T s 7 ∷ []

abbrev pub no_words : List ℕ
no_words = 0 ∷ 0 ∷ 0 ∷ 0 ∷ 0 ∷ 0 ∷ 0 ∷ 0 ∷ []

-- the expected kinds that an answer carries
unfoldable pub expected_of : Tables → Answer → List ℕ
expected_of T (Accepted root) = no_words
expected_of T (AcceptedEarly root token) = no_words
expected_of T (UnrecognizedToken token top) = expected_words T top.0
expected_of T (UnrecognizedEnd location top) = expected_words T top.0
expected_of T (ExtraToken token) = no_words
expected_of T (TokenizerError token) = no_words
expected_of T OutOfUnits = no_words
expected_of T OutOfDepth = no_words
expected_of T OutOfChildren = no_words
expected_of T OutOfNodes = no_words
expected_of T OutOfRecords = no_words

-- "expected count as the number of ones"
unfoldable pub ones_of : List ℕ → ℕ
ones_of [] = 0
ones_of (w ∷ ws) = ones w + ones_of ws

-- "kind (0 token, 1 mark, 2 production), number (of that token, record or production)"
abbrev pub kind_of : What → ℕ
kind_of (Read i) = 0
kind_of (Mark i) = 1
kind_of (Production p) = 2

abbrev pub which_of : What → ℕ
which_of (Read i) = i
which_of (Mark i) = i
which_of (Production p) = p

-- "Node, 8 words: kind .., number .., first child entry, child count, start, end, first token, token after the last."
unfoldable pub node_words : Node → List ℕ
node_words n =
    kind_of n.what ∷ which_of n.what ∷ n.child ∷ n.count ∷ n.start ∷ n.end ∷ n.first ∷ n.after ∷ []

-- "Record, 16 words: error 3 or 4, token or location, stretch first, stretch after-last, dropped first (after-last if none),
-- start, end, expected count as the number of ones, 8 words of expected bits". The first dropped token is the lookahead of the
-- moment when the error arose; where nothing was dropped it is still the lookahead, and so the stretch's after-last.
unfoldable pub record_words : Tables → Marked → List ℕ
record_words T m =
    m.error.number ∷ m.error.at ∷ m.first ∷ m.after ∷ m.error.from ∷ m.start ∷ m.end
    ∷ ones_of (expected_words T m.error.top.0) ∷ expected_words T m.error.top.0

-- "Words are 32-bit.", "little-endian"
unfoldable pub bytes_of : List ℕ → List ℕ
bytes_of [] = []
bytes_of (w ∷ ws) = le4 w ++ bytes_of ws

unfoldable pub nodes_bytes : List Node → List ℕ
nodes_bytes [] = []
nodes_bytes (n ∷ ns) = bytes_of (node_words n) ++ nodes_bytes ns

unfoldable pub records_bytes : Tables → List Marked → List ℕ
records_bytes T [] = []
records_bytes T (m ∷ ms) = bytes_of (record_words T m) ++ records_bytes T ms

-- "All of 1 to 6 and 19 to 23 carry the units, node, child and record counts."
unfoldable pub counts_of : Run → List ℕ
counts_of r = r.units ∷ length r.nodes ∷ length r.children ∷ length r.marks ∷ []

-- The report of an answer, 16 words: number, root, token or location, expected count, units, node, child and record counts, and the
-- 8 words of expected bits; 0 where the answer has no such field.
unfoldable pub report_words : Tables → Answer → Run → List ℕ
report_words T a r =
    number_of a ∷ first_of (roots_of a) ∷ first_of (places_of a) ∷ ones_of (expected_of T a) ∷ (counts_of r ++ expected_of T a)

-- The limits of a call.
pub record Limits : Type 0 where
  pub budget : ℕ
  pub depth : ℕ
  pub children : ℕ
  pub nodes : ℕ
  pub records : ℕ

-- the run that a call makes: "kinds not below t" are not read, flag 1 recovers, and each limit is the most that fits
unfoldable pub job_of : Tables → List Token → ℕ → Limits → Job
job_of T tokens origin L =
    record {
      tables = T;
      tokens = tokens;
      origin = origin;
      recovers = eqb (flag T) 1;
      reads = λ k. ltb k (kinds T);
      depth_fits = λ n. leb n L.depth;
      children_fit = λ n. leb n L.children;
      nodes_fit = λ n. leb n L.nodes;
      records_fit = λ n. leb n L.records;
    }

-- a token list's bytes: triples of 32-bit words
unfoldable pub tokens_from : List ℕ → ℕ → ℕ → List Token
tokens_from s at zero = []
tokens_from s at (suc n) =
    record { kind = word32 s at; start = word32 s (at + 4); end = word32 s (at + 8) } ∷ tokens_from s (at + 12) n

unfoldable pub tokens_of : List ℕ → List Token
tokens_of s = tokens_from s 0 (length s / 12)

-- What a call answers: a refusal with its place, or the end of the run.
pub data Reply : Type 0 where
  refused : ℕ → ℕ → Reply
  answered : Answer → Run → Reply

unfoldable pub reply_of : Outcome → Reply
reply_of (Outcome.more r) = answered OutOfUnits r
reply_of (Outcome.done a r) = answered a r

-- "Then 18: .. place 0", before the run
unfoldable pub drive_reply : Tables → List ℕ → ℕ → Limits → Reply
drive_reply T s origin L = pick (ok18 s) (reply_of (drive (job_of T (tokens_of s) origin L) L.budget)) (refused 18 0)

unfoldable pub after_check : Verdict → Reply → Reply
after_check (Ok _) reply = reply
after_check (Err refusal) reply = refused refusal.number refusal.place

-- the whole of a call: 10 to 17, then 18, then the run
unfoldable pub parse_reply : Tables → List ℕ → ℕ → Limits → Reply
parse_reply T s origin L = after_check (check T) (drive_reply T s origin L)
