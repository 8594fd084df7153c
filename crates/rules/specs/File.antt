-- "The file": the records of a file and its refusals 30 to 33, and the lines that the program prints.
use Rattle.std.specs.Prelude.{Bool, true, false, ◌&&◌, ◌||◌, List, [], ◌∷◌, ◌++◌, ℕ, zero, suc, ◌+◌, ◌/◌, ◌%◌, leb, ltb, eqb, length, get_or, take, drop}
use Rattle.words.specs.Words.{pick, get16, get32}
use Rattle.rules.specs.Basics.{text}
use Rattle.rules.specs.declared.Token.{Token}
use Rattle.rules.specs.declared.Answer.{Answer}
use Rattle.rules.specs.Tables.{Tables, left}
use Rattle.rules.specs.Check.{check, max_tokens}
use Rattle.rules.specs.Driving.{Run, Marked, drive}
use Rattle.rules.specs.Answers.{number_of, roots_of, places_of, expected_of, expected_words, Limits, job_of, Reply, reply_of, after_check}
use Rattle.rules.specs.Trees.{Tree, Forest, Leaf, tree_at}
use Rattle.rules.specs.Trees.Tree.{leaf, branch}
use Rattle.rules.specs.Trees.Forest.{nil, cons}
use Rattle.rules.specs.Trees.Leaf.{token, mark}

-- "at most 65,536 bytes"
abbrev pub max_file : ℕ
max_file = 65536

-- "records of length (4 bytes, payload only), kind (2 bytes), payload, little-endian"
abbrev pub head_size : ℕ
head_size = 6

-- the bytes of an entry: "of 2 bytes in kinds 2, 3 and 5, 4 in kind 4, 8 in 6, 33 in 7, 10 in 8"; kind 1 is one of 12
abbrev pub entry_size : ℕ → ℕ
entry_size k =
    pick (eqb k 1) 12 (pick (eqb k 4) 4 (pick (eqb k 6) 8 (pick (eqb k 7) 33 (pick (eqb k 8) 10 2))))

-- "32 length wrong (kind 1: not 12 bytes; else not whole entries ..)"
unfoldable pub length_fits : ℕ → ℕ → Bool
length_fits k n = pick (eqb k 1) (eqb n 12) (eqb (n % entry_size k) 0)

-- A payload: its first byte and its length.
pub record Part : Type 0 where
  pub start : ℕ
  pub size : ℕ

-- What a file is: refused at a place, or its eight payloads.
pub data Filed : Type 0 where
  refused_at : ℕ → ℕ → Filed
  parts : List Part → Filed

-- a record at `at` is cut
unfoldable pub is_cut : List ℕ → ℕ → Bool
is_cut s at = ltb (length s) (at + head_size) || ltb (length s) (at + head_size + get32 s at)

-- What stands at a place of the file, where kind `want` is the next: nothing more, a refusal, a record to skip, or that kind.
pub data Found : Type 0 where
  nothing : Found
  wrong : ℕ → Found
  skipped : Found
  wanted : Found

-- "Kinds 1 to 8 once each, ascending ..; kinds 9 to 32767 are refused and 32768 up are skipped." "30 cut record, 31 kind wrong or
-- missing, 32 length wrong .. in that order record by record"
unfoldable pub found_at : List ℕ → ℕ → ℕ → Found
found_at s at want =
    pick (eqb at (length s)) (pick (eqb want 9) nothing (wrong 31))
    (pick (is_cut s at) (wrong 30)
    (pick (leb 32768 (get16 s (at + 4))) skipped
    (pick (eqb (get16 s (at + 4)) want && ltb want 9) (pick (length_fits want (get32 s at)) wanted (wrong 32)) (wrong 31))))

-- "place the record's first byte (.. file length for a missing kind)". The fuel bounds the number of records; `found` holds the
-- payloads so far.
unfoldable pub records_from : ℕ → List ℕ → ℕ → ℕ → List Part → Filed
records_from zero s at want found = refused_at 30 at
records_from (suc fuel) s at want found =
    elim (found_at s at want) [
      | nothing ↦ parts found
      | wrong number ↦ refused_at number at
      | skipped ↦ records_from fuel s (at + head_size + get32 s at) want found
      | wanted ↦ records_from fuel s (at + head_size + get32 s at) (want + 1) (found ++ (record { start = at + head_size; size = get32 s at } ∷ []))
    ]

-- "33 too long .. (0 for 33 ..)"
unfoldable pub file_of : List ℕ → Filed
file_of s = pick (leb (length s) max_file) (records_from (length s + 1) s 0 1 []) (refused_at 33 0)

-- a payload's bytes
abbrev pub no_part : Part
no_part = record { start = 0; size = 0 }

unfoldable pub part_of : List ℕ → List Part → ℕ → List ℕ
part_of s ps k = take (get_or ps k no_part).size (drop (get_or ps k no_part).start s)

unfoldable pub tables_of : List ℕ → List Part → Tables
tables_of s ps =
    record {
      sizes = part_of s ps 0;
      actions = part_of s ps 1;
      gotos = part_of s ps 2;
      productions = part_of s ps 3;
      rights = part_of s ps 4;
      items = part_of s ps 5;
      sets = part_of s ps 6;
    }

-- a file's token: "Numbers take 2 bytes, locations 4."
unfoldable pub file_tokens : List ℕ → ℕ → ℕ → List Token
file_tokens s at zero = []
file_tokens s at (suc n) =
    record { kind = get16 s at; start = get32 s (at + 2); end = get32 s (at + 6) } ∷ file_tokens s (at + 10) n

-- "Limits: 1,000,000 units, depth 512, 4,096 child entries, 1,024 nodes, 64 records; start location 0."
abbrev pub program_limits : Limits
program_limits = record { budget = 1000000; depth = 512; children = 4096; nodes = 1024; records = 64 }

-- of the refusals 18 a file can show only that it has too many tokens
unfoldable pub file_reply : Tables → List ℕ → Reply
file_reply T s =
    after_check (check T)
    (pick (leb (length s / 10) max_tokens) (reply_of (drive (job_of T (file_tokens s 0 (length s / 10)) 0 program_limits) program_limits.budget))
    (Reply.refused 18 0))

-- Printing. Text is a list of ASCII codes. "in decimal"
unfoldable pub digits_of : ℕ → ℕ → List ℕ → List ℕ
digits_of zero n after = after
digits_of (suc fuel) n after =
    elim (ltb n 10) [ true ↦ (48 + n) ∷ after | false ↦ digits_of fuel (n / 10) ((48 + n % 10) ∷ after) ]

unfoldable pub decimal : ℕ → List ℕ
decimal n = digits_of 20 n []

abbrev pub newline : List ℕ
newline = 10 ∷ []

-- " N"
abbrev pub spaced : ℕ → List ℕ
spaced n = 32 ∷ decimal n

unfoldable pub spaced_all : List ℕ → List ℕ
spaced_all [] = []
spaced_all (n ∷ ns) = spaced n ++ spaced_all ns

-- "expected lists kinds upward": the kinds whose bits are set in the words, the first word's from kind k on
unfoldable pub kinds_in : ℕ → ℕ → ℕ → List ℕ
kinds_in zero k w = []
kinds_in (suc n) k w = pick (eqb (w % 2) 1) (k ∷ []) [] ++ kinds_in n (k + 1) (w / 2)

unfoldable pub kinds_of : ℕ → List ℕ → List ℕ
kinds_of k [] = []
kinds_of k (w ∷ ws) = kinds_in 32 k w ++ kinds_of (k + 32) ws

abbrev pub show_leaf : Leaf → List ℕ
show_leaf (token i) = text "t" ++ decimal i
show_leaf (mark i) = text "!" ++ decimal i

-- "The tree's printed form" of the Rust's interpreter: `[N: .., ..]` with N the left side, `tI` a token, `!R` a mark
unfoldable mutual
  pub show_tree : Tables → Tree Leaf → List ℕ
  show_tree T (leaf x) = show_leaf x
  show_tree T (branch p f) = text "[" ++ decimal (left T p) ++ text ": " ++ show_first T f

  -- the children, and the closing bracket
  pub show_first : Tables → Forest Leaf → List ℕ
  show_first T nil = text "]"
  show_first T (cons t f) = show_tree T t ++ show_next T f

  pub show_next : Tables → Forest Leaf → List ℕ
  show_next T nil = text "]"
  show_next T (cons t f) = text ", " ++ show_tree T t ++ show_next T f

-- "Any refusal prints `refused`, number, place."
unfoldable pub refused_line : ℕ → ℕ → List ℕ
refused_line number place = text "refused" ++ spaced number ++ spaced place ++ newline

-- "The answer line goes on with the answer's fields in the order above, in decimal, one space between, root left out"
unfoldable pub answer_line : Tables → Answer → List ℕ
answer_line T a =
    text "answer" ++ spaced (number_of a) ++ spaced_all (places_of a) ++ spaced_all (kinds_of 0 (expected_of T a)) ++ newline

-- "of the counts only the units are printed, on the next line"
unfoldable pub units_line : Run → List ℕ
units_line r = text "units" ++ spaced r.units ++ newline

-- "1 and 2 print the tree"
unfoldable pub tree_line : Tables → Run → List ℕ → List ℕ
tree_line T r [] = []
tree_line T r (root ∷ more) = text "tree " ++ show_tree T (tree_at r.nodes r.children root) ++ newline

-- "mark 0 tokens 0 2 dropped 1 span 0 2 error 3 at 1 expected 1"
unfoldable pub mark_line : Tables → ℕ → Marked → List ℕ
mark_line T i m =
    text "mark" ++ spaced i
    ++ text " tokens" ++ spaced m.first ++ spaced m.after
    ++ text " dropped" ++ spaced m.error.from
    ++ text " span" ++ spaced m.start ++ spaced m.end
    ++ text " error" ++ spaced m.error.number
    ++ text " at" ++ spaced m.error.at
    ++ text " expected" ++ spaced_all (kinds_of 0 (expected_words T m.error.top.0))
    ++ newline

-- "all records follow"
unfoldable pub mark_lines : Tables → ℕ → List Marked → List ℕ
mark_lines T i [] = []
mark_lines T i (m ∷ ms) = mark_line T i m ++ mark_lines T (i + 1) ms

unfoldable pub show_reply : Tables → Reply → List ℕ
show_reply T (Reply.refused number place) = refused_line number place
show_reply T (Reply.answered a r) = answer_line T a ++ units_line r ++ tree_line T r (roots_of a) ++ mark_lines T 0 r.marks

-- what the program prints for a file
unfoldable pub show_file : List ℕ → Filed → List ℕ
show_file s (refused_at number place) = refused_line number place
show_file s (parts ps) = show_reply (tables_of s ps) (file_reply (tables_of s ps) (part_of s ps 7))

unfoldable pub printed : List ℕ → List ℕ
printed s = show_file s (file_of s)
