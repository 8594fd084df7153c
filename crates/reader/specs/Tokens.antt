-- A file's tokens in the form of a call: 10 bytes each become 12, three 32-bit words.
use Rattle.std.specs.Prelude.{List, [], ◌∷◌, ◌++◌, Bool, true, false, ◌&&◌, ◌≡◌, refl, ℕ, zero, suc, ◌+◌, ◌*◌, ◌/◌, ◌%◌, ◌≤◌, ◌<◌, ◌^◌, min, leb, length, get_or, take, drop}
use Rattle.std.proofs.Common.{append_assoc, append-nil, sym, ap, ◌∙◌, add-one, arith, le-leb, length-append, length-drop, drop-drop, take_at}
use Rattle.words.specs.Words.{le4, get16, get32, put32, word32}
use Rattle.words.specs.Laws.{Bytes, length_le4, put32_end, get32_append, get16_lt, get32_lt, word32_in}
use Rattle.rules.specs.declared.Token.{Token}
use Rattle.rules.specs.Basics.{all_below}
use Rattle.rules.specs.Tables.{Tables}
use Rattle.rules.specs.Check.{ok18, max_tokens}
use Rattle.rules.specs.Answers.{tokens_from, tokens_of, drive_reply, parse_reply}
use Rattle.rules.specs.File.{file_tokens, file_reply, program_limits}

-- the tokens of a payload that fit a room
abbrev pub fitting_of : ℕ → ℕ → ℕ
fitting_of payload room = min (payload / 10) (room / 12)

-- the token at `from` as three words at `at`
unfoldable pub widen_token : List ℕ → ℕ → List ℕ → ℕ → List ℕ
widen_token s from out at =
    put32 (put32 (put32 out at (get16 s from)) (at + 4) (get32 s (from + 2))) (at + 8) (get32 s (from + 6))

-- the bytes of a call's tokens
unfoldable pub call_bytes : List Token → List ℕ
call_bytes [] = []
call_bytes (t ∷ ts) = le4 t.kind ++ le4 t.start ++ le4 t.end ++ call_bytes ts

-- What widening leaves: the tokens that fit, in the form of a call, and then the room as it was; a call reads them as the file's.
pub record Widened (payload entry exit : List ℕ) (n : ℕ) : Type 0 where
  pub count : n ≡ fitting_of (length payload) (length entry)
  pub bytes : exit ≡ call_bytes (file_tokens payload 0 n) ++ drop (12 * n) entry
  pub tokens : tokens_of (take (12 * n) exit) ≡ file_tokens payload 0 n
  pub allowed : ok18 (take (12 * n) exit) ≡ leb n max_tokens

-- ---- the counts

pub fitting_le : (p r n : ℕ) → n ≡ fitting_of p r → (10 * n ≤ p) × (12 * n ≤ r)
fitting_le p r n e = (omega arith, omega arith)

length_tokens : (s : List ℕ) (at n : ℕ) → length (file_tokens s at n) ≡ n
unfolding file_tokens
length_tokens s at zero = refl
length_tokens s at (suc n) = ap suc (length_tokens s (at + 10) n)

length_call : (ts : List Token) → length (call_bytes ts) ≡ 12 * length ts
unfolding call_bytes
length_call [] = refl
length_call (t ∷ ts) = simp (length-append, length_le4, length_call ts) (omega arith)

-- ---- one token more, at the end

abbrev token_in : List ℕ → ℕ → Token
token_in s at = record { kind = get16 s at; start = get32 s (at + 2); end = get32 s (at + 6) }

tokens_snoc : (s : List ℕ) (at n : ℕ) → file_tokens s at (suc n) ≡ file_tokens s at n ++ (token_in s (at + 10 * n) ∷ [])
unfolding file_tokens
tokens_snoc s at zero = let e : at + 10 * 0 ≡ at = omega arith in rw e
tokens_snoc s at (suc n) =
    let e : at + 10 * suc n ≡ at + 10 + 10 * n = omega arith in
    rw e (ap (λ (ts : List Token). token_in s at ∷ ts) (tokens_snoc s (at + 10) n))

call_append : (ts us : List Token) → call_bytes (ts ++ us) ≡ call_bytes ts ++ call_bytes us
unfolding call_bytes
call_append [] us = refl
call_append (t ∷ ts) us = rw (call_append ts us) (simp append_assoc)

-- three words at the end of what is written
put_three : (s pre rest : List ℕ) (at a b c : ℕ) → s ≡ pre ++ rest → at ≡ length pre → 12 ≤ length rest → put32 (put32 (put32 s at a) (at + 4) b) (at + 8) c ≡ pre ++ (le4 a ++ le4 b ++ le4 c ++ []) ++ drop 12 rest
put_three s pre rest at a b c e p h =
    let one : put32 s at a ≡ (pre ++ le4 a) ++ drop 4 rest = put32_end s pre rest at a e p (omega arith) in
    let two : put32 (put32 s at a) (at + 4) b ≡ ((pre ++ le4 a) ++ le4 b) ++ drop 4 (drop 4 rest) = put32_end (put32 s at a) (pre ++ le4 a) (drop 4 rest) (at + 4) b one (simp (length-append, length_le4) (omega arith)) (simp length-drop (omega arith)) in
    let three : put32 (put32 (put32 s at a) (at + 4) b) (at + 8) c ≡ (((pre ++ le4 a) ++ le4 b) ++ le4 c) ++ drop 4 (drop 4 (drop 4 rest)) = put32_end (put32 (put32 s at a) (at + 4) b) ((pre ++ le4 a) ++ le4 b) (drop 4 (drop 4 rest)) (at + 8) c two (simp (length-append, length_le4) (omega arith)) (simp length-drop (omega arith)) in
    three ∙ simp (drop-drop, append_assoc, append-nil)

pub widen_step : (s entry out : List ℕ) (i : ℕ) → 12 * i + 12 ≤ length entry → out ≡ call_bytes (file_tokens s 0 i) ++ drop (12 * i) entry → widen_token s (10 * i) out (12 * i) ≡ call_bytes (file_tokens s 0 (i + 1)) ++ drop (12 * (i + 1)) entry
unfolding widen_token call_bytes
widen_step s entry out i h e =
    let l : 12 * i ≡ length (call_bytes (file_tokens s 0 i)) = sym (length_call (file_tokens s 0 i) ∙ ap (λ (n : ℕ). 12 * n) (length_tokens s 0 i)) in
    let r : 12 ≤ length (drop (12 * i) entry) = simp length-drop (omega arith) in
    let z : 0 + 10 * i ≡ 10 * i = omega arith in
    let m : 12 * i + 12 ≡ 12 * (i + 1) = omega arith in
    let d : drop 12 (drop (12 * i) entry) ≡ drop (12 * (i + 1)) entry = drop-drop 12 (12 * i) entry ∙ rw m in
    put_three out (call_bytes (file_tokens s 0 i)) (drop (12 * i) entry) (12 * i) (get16 s (10 * i)) (get32 s (10 * i + 2)) (get32 s (10 * i + 6)) e l r
    ∙ rw (d, add-one, tokens_snoc s 0 i, call_append, z)

-- ---- read back

abbrev Small : List Token → Type 0
Small [] = Unit
Small (t ∷ ts) = (t.kind < 2 ^ 32) × (t.start < 2 ^ 32) × (t.end < 2 ^ 32) × Small ts

small_tokens : (s : List ℕ) (at n : ℕ) → Bytes s → Small (file_tokens s at n)
unfolding file_tokens
small_tokens s at zero b = tt
small_tokens s at (suc n) b =
    (omega (arith, get16_lt s at b), get32_lt s (at + 2) b, get32_lt s (at + 6) b, small_tokens s (at + 10) n b)

-- a word in the middle of a list
word_in_law : (s pre post : List ℕ) (at v : ℕ) → s ≡ pre ++ le4 v ++ post → at ≡ length pre → v < 2 ^ 32 → word32 s at ≡ v
word_in_law s pre post at v e p h =
    let r : at + 4 ≤ length (pre ++ le4 v ++ post) = simp (length-append, length_le4) (omega arith) in
    rw (e, word32_in (pre ++ le4 v ++ post) at r) (get32_append pre post at v p h)

read_back : (ts : List Token) (pre : List ℕ) (at : ℕ) → at ≡ length pre → Small ts → tokens_from (pre ++ call_bytes ts) at (length ts) ≡ ts
unfolding tokens_from call_bytes
read_back [] pre at p q = refl
read_back (t ∷ ts) pre at p q =
    let s : List ℕ = pre ++ call_bytes (t ∷ ts) in
    let k : word32 s at ≡ t.kind = word_in_law s pre (le4 t.start ++ le4 t.end ++ call_bytes ts) at t.kind (simp append_assoc) p q.0 in
    let b : word32 s (at + 4) ≡ t.start = word_in_law s (pre ++ le4 t.kind) (le4 t.end ++ call_bytes ts) (at + 4) t.start (simp append_assoc) (simp (length-append, length_le4) (omega arith)) q.1 in
    let e : word32 s (at + 8) ≡ t.end = word_in_law s (pre ++ le4 t.kind ++ le4 t.start) (call_bytes ts) (at + 8) t.end (simp append_assoc) (simp (length-append, length_le4) (omega arith)) q.2 in
    let m : s ≡ (pre ++ le4 t.kind ++ le4 t.start ++ le4 t.end) ++ call_bytes ts = simp append_assoc in
    let r : tokens_from s (at + 12) (length ts) ≡ ts = rw m (read_back ts (pre ++ le4 t.kind ++ le4 t.start ++ le4 t.end) (at + 12) (simp (length-append, length_le4) (omega arith)) q.3) in
    λ i. record { kind = k i; start = b i; end = e i } ∷ r i

-- ---- of the refusals 18 only the count of the tokens is left: a file's kinds have 16 bits

and_true : (a : Bool) → (true && a && true) ≡ a
and_true true = refl
and_true false = refl

all_below_law : (n : ℕ) (f : ℕ → Bool) → ((i : ℕ) → i < n → f i ≡ true) → all_below n f ≡ true
unfolding all_below
all_below_law zero f h = refl
all_below_law (suc n) f h = rw (all_below_law n f (λ i k. h i (omega arith)), h n (omega arith))

kind_read : (n : ℕ) (s : List ℕ) (at i : ℕ) (d : Token) → i < n → (get_or (tokens_from s at n) i d).kind ≡ word32 s (at + 12 * i)
unfolding tokens_from
kind_read zero s at i d h = absurd (omega arith)
kind_read (suc n) s at zero d h = let e : at + 12 * 0 ≡ at = omega arith in rw e
kind_read (suc n) s at (suc i) d h =
    let e : at + 12 * suc i ≡ at + 12 + 12 * i = omega arith in rw e (kind_read n s (at + 12) i d (omega arith))

kind_lt : (n : ℕ) (s : List ℕ) (at i : ℕ) (d : Token) → Bytes s → i < n → (get_or (file_tokens s at n) i d).kind < 2 ^ 16
unfolding file_tokens
kind_lt zero s at i d b h = absurd (omega arith)
kind_lt (suc n) s at zero d b h = get16_lt s at b
kind_lt (suc n) s at (suc i) d b h = kind_lt n s (at + 10) i d b (omega arith)

allowed_by_count : (s t : List ℕ) (n : ℕ) → Bytes s → length t ≡ 12 * n → tokens_of t ≡ file_tokens s 0 n → ok18 t ≡ leb n max_tokens
unfolding ok18 tokens_of
allowed_by_count s t n b l e =
    let r : length t % 12 ≡ 0 = rw l (omega arith) in
    let q : length t / 12 ≡ n = rw l (omega arith) in
    let d : Token = token_in s 0 in
    let small : (i : ℕ) → i < n → leb (word32 t (12 * i)) 65535 ≡ true =
    λ i h.
    let z : 0 + 12 * i ≡ 12 * i = omega arith in
    let k : (get_or (tokens_from t 0 n) i d).kind ≡ word32 t (12 * i) = rw z at (kind_read n t 0 i d h) in
    let f : tokens_from t 0 n ≡ file_tokens s 0 n = rw q at e in
    let w : word32 t (12 * i) < 2 ^ 16 = rw (← k, f) (kind_lt n s 0 i d b h) in le-leb (word32 t (12 * i)) 65535 (omega arith) in
    rw (r, q, all_below_law n (λ i. leb (word32 t (12 * i)) 65535) small) (and_true (leb n max_tokens))

-- the first turn of the loop, and its end
pub widened : (s entry exit : List ℕ) (n : ℕ) → Bytes s → n ≡ fitting_of (length s) (length entry) → exit ≡ call_bytes (file_tokens s 0 n) ++ drop (12 * n) entry → Widened s entry exit n
unfolding tokens_of
widened s entry exit n b c e =
    let ts : List Token = file_tokens s 0 n in
    let l : length (call_bytes ts) ≡ 12 * n = length_call ts ∙ ap (λ (n : ℕ). 12 * n) (length_tokens s 0 n) in
    let t : take (12 * n) exit ≡ call_bytes ts = rw e (take_at (call_bytes ts) (drop (12 * n) entry) (12 * n) l) in
    let d : length (call_bytes ts) / 12 ≡ length ts = rw (l, length_tokens) (omega arith) in
    let r : tokens_of (call_bytes ts) ≡ ts = rw d (read_back ts [] 0 refl (small_tokens s 0 n b)) in
    record { count = c; bytes = e; tokens = rw t r; allowed = rw t (allowed_by_count s (call_bytes ts) n b l r) }

pub widen_none : (s entry : List ℕ) → entry ≡ call_bytes (file_tokens s 0 0) ++ drop (12 * 0) entry
unfolding call_bytes file_tokens
widen_none s entry = refl

-- What the program answers for a file is what a call answers for its tables and its widened tokens.
pub file_reply_law : (T : Tables) (payload entry exit : List ℕ) (n : ℕ) → Widened payload entry exit n → length payload / 10 ≤ length entry / 12 → file_reply T payload ≡ parse_reply T (take (12 * n) exit) 0 program_limits
unfolding file_reply parse_reply drive_reply
file_reply_law T payload entry exit n w h =
    let c : length payload / 10 ≡ n = omega (arith, w.count) in
    rw (c, w.allowed, w.tokens)
