-- The rules' file in the reader's own types: what a kind says, what stands at a place, and the payloads found so far.
use Rattle.std.specs.Prelude.{true, ◌&&◌, List, [], ◌∷◌, ◌≡◌, refl, ◌≢◌, ℕ, ◌+◌, ◌-◌, ◌%◌, ◌≤◌, ◌<◌, leb, ltb, eqb, length, map, take, drop, All, Option, None, Some, Result, Ok, Err}
use Rattle.std.proofs.Common.{sym, subst, arith, length-drop, length-take-le, lt-ltb, le-ltb, le-leb, eq-eqb, ne_eqb}
use Rattle.std.proofs.Math.Decide.{dec_lt, ℕ_discrete}
use Rattle.std.proofs.lemmas.Bool.{lt-leb}
use Rattle.words.specs.Words.{pick, get16, get32}
use Rattle.words.specs.Laws.{pick_case}
use Rattle.rules.specs.File.{entry_size, length_fits, is_cut, Part, Filed}
use Rattle.reader.specs.declared.Payload.{Payload}
use Rattle.reader.specs.declared.Payloads.{Payloads}
use Rattle.reader.specs.declared.Refusal.{Refusal}
use Rattle.reader.specs.declared.FileError.{FileError}
use Rattle.reader.specs.declared.Record.{Record}

-- "30 cut record, 31 kind wrong or missing, 32 length wrong", "33 too long"
abbrev pub number_of : Refusal → ℕ
number_of Refusal.Cut = 30
number_of Refusal.Kind = 31
number_of Refusal.Length = 32
number_of Refusal.TooLong = 33

-- what a kind says by itself
unfoldable pub class_of : ℕ → Result (Option ℕ) Refusal
class_of k = pick (leb 32768 k) (Ok None) (pick (leb 1 k && leb k 8) (Ok (Some (entry_size k))) (Err Refusal.Kind))

-- a record of a kind from 1 to 8, whose entries are so many bytes long
unfoldable pub fitted_of : ℕ → ℕ → ℕ → ℕ → Result Record Refusal
fitted_of kind entry size want =
    pick (eqb kind want)
    (pick (pick (eqb kind 1) (eqb size 12) (eqb (size % entry) 0)) (Ok (Record.Wanted size)) (Err Refusal.Length))
    (Err Refusal.Kind)

-- the end of the file
unfoldable pub ended_of : ℕ → Result (Option Record) Refusal
ended_of want = pick (eqb want 9) (Ok None) (Err Refusal.Kind)

-- what a record of that kind and payload length is where kind `want` is the next
unfoldable pub seen_of : ℕ → ℕ → ℕ → Result Record Refusal
seen_of kind size want =
    pick (leb 32768 kind) (Ok (Record.Skipped size))
    (pick (eqb kind want && ltb want 9)
    (pick (length_fits want size) (Ok (Record.Wanted size)) (Err Refusal.Length))
    (Err Refusal.Kind))

-- a record, where more than the end of the file can stand
abbrev pub some_of : Result Record Refusal → Result (Option Record) Refusal
some_of (Ok r) = Ok (Some r)
some_of (Err e) = Err e

unfoldable pub seen_at : List ℕ → ℕ → ℕ → Result (Option Record) Refusal
seen_at s at want =
    pick (eqb at (length s)) (ended_of want)
    (pick (is_cut s at) (Err Refusal.Cut) (some_of (seen_of (get16 s (at + 4)) (get32 s at) want)))

-- a refusal with its place
abbrev pub placed : ℕ → Result (Option Record) Refusal → Result (Option Record) FileError
placed at (Ok r) = Ok r
placed at (Err e) = Err (record { refusal = e; place = at })

-- as the rules have them
abbrev pub part_of : Payload → Part
part_of p = record { start = p.start; size = length p.bytes.now }

abbrev pub list_of : Payloads → List Payload
list_of ps =
    ps.sizes ∷ ps.actions ∷ ps.gotos ∷ ps.productions ∷ ps.rights ∷ ps.items ∷ ps.sets ∷ ps.tokens ∷ []

unfoldable pub parts_of : Payloads → List Part
parts_of ps = map part_of (list_of ps)

unfoldable pub filed_of : Result Payloads FileError → Filed
filed_of (Err e) = Filed.refused_at (number_of e.refusal) e.place
filed_of (Ok ps) = Filed.parts (parts_of ps)

-- the bytes that stand at a payload's place
abbrev pub IsCutOf : List ℕ → Payload → Type 0
IsCutOf s p = p.bytes.now ≡ take (length p.bytes.now) (drop p.start s)

-- each payload has the bytes that stand at its place
abbrev pub AreCutOf : List ℕ → Payloads → Type 0
AreCutOf s ps = All (IsCutOf s) (list_of ps)

pub placed_ok : (x : Result (Option Record) Refusal) (at : ℕ) (r : Option Record) → placed at x ≡ Ok r → x ≡ Ok r
placed_ok (Ok r) at r' e = cc
placed_ok (Err k) at r' e = cc

pub placed_err : (x : Result (Option Record) Refusal) (at : ℕ) (y : FileError) → placed at x ≡ Err y → (x ≡ Err y.refusal) × (y.place ≡ at)
placed_err (Ok r) at y e = cc
placed_err (Err k) at y e = (cc, cc)

-- the bytes of a part that lies inside the file
pub cut_size : (s : List ℕ) (a n : ℕ) → a + n ≤ length s → length (take (a + n - a) (drop a s)) ≡ n
cut_size s a n h =
    let z : a + n - a ≡ n = omega arith in rw z (length-take-le n (drop a s) (simp length-drop (omega arith)))

pub cut_here : (s : List ℕ) (a n : ℕ) → a + n ≤ length s → take (a + n - a) (drop a s) ≡ take (length (take (a + n - a) (drop a s))) (drop a s)
cut_here s a n h = let z : a + n - a ≡ n = omega arith in rw (cut_size s a n h, z)

-- a kind of two bytes an entry, one past the last, and one to skip
pub class_pairs : (k : ℕ) → 2 ≤ k → k < 4 → class_of k ≡ Ok (Some 2)
unfolding class_of
class_pairs k h g =
    let low : k < 32768 = omega arith in
    let high : k ≤ 8 = omega arith in
    let one : 1 ≤ k = omega arith in
    let four : k ≢ 4 = λ e. omega arith in
    let six : k ≢ 6 = λ e. omega arith in
    let seven : k ≢ 7 = λ e. omega arith in
    let eight : k ≢ 8 = λ e. omega arith in
    let first : k ≢ 1 = λ e. omega arith in
    simp (lt-leb _ _ low, le-leb _ _ one, le-leb _ _ high, ne_eqb _ _ first, ne_eqb _ _ four, ne_eqb _ _ six, ne_eqb _ _ seven, ne_eqb _ _ eight)

pub class_refused : (k : ℕ) → 8 < k → k < 32768 → class_of k ≡ Err Refusal.Kind
unfolding class_of
class_refused k h g = let one : 1 ≤ k = omega arith in simp (lt-leb _ _ g, lt-leb _ _ h, le-leb _ _ one)

pub class_skipped : (k : ℕ) → 32768 ≤ k → class_of k ≡ Ok None
unfolding class_of
class_skipped k h = simp (le-leb _ _ h)

-- a record too short for its head, and one whose head is there
pub cut_head : (s : List ℕ) (at : ℕ) → length s < at + 6 → is_cut s at ≡ true
unfolding is_cut
cut_head s at h = simp (lt-ltb _ _ h)

pub cut_payload : (s : List ℕ) (at : ℕ) → at + 6 ≤ length s → is_cut s at ≡ ltb (length s - at - 6) (get32 s at)
unfolding is_cut
cut_payload s at h =
    elim (dec_lt (length s) (at + 6 + get32 s at)) [
      | yes k ↦
          let a : length s - at - 6 < get32 s at = omega arith in simp (le-ltb _ _ h, lt-ltb _ _ k, lt-ltb _ _ a)
      | no k ↦
          let a : get32 s at ≤ length s - at - 6 = omega arith in
          let b : at + 6 + get32 s at ≤ length s = omega arith in simp (le-ltb _ _ h, le-ltb _ _ b, le-ltb _ _ a)
    ]

-- by classes: what the code tests is what the rules test, where kind 0 is not the next
abbrev pub on_class : Result (Option ℕ) Refusal → ℕ → ℕ → ℕ → Result Record Refusal
on_class (Err e) kind size want = Err e
on_class (Ok None) kind size want = Ok (Record.Skipped size)
on_class (Ok (Some n)) kind size want = fitted_of kind n size want

by_number : (kind size want : ℕ) → 1 ≤ kind → kind ≤ 8 → seen_of kind size want ≡ fitted_of kind (entry_size kind) size want
unfolding seen_of fitted_of length_fits
by_number kind size want h k =
    let low : kind < 32768 = omega arith in
    elim (ℕ_discrete kind want) [
      | yes e ↦ let nine : want < 9 = omega arith in rw (lt-leb _ _ low, lt-ltb _ _ nine, ← e) (simp (eq-eqb kind kind refl))
      | no e ↦ simp (lt-leb _ _ low, ne_eqb _ _ e)
    ]

pub by_class : (kind size want : ℕ) → 1 ≤ want → seen_of kind size want ≡ on_class (class_of kind) kind size want
unfolding seen_of class_of
by_class kind size want w =
    elim (dec_lt kind 32768) [
      | yes low ↦
          elim (dec_lt kind 1) [
            | yes z ↦ let e : kind ≢ want = λ e. omega arith in simp (lt-leb _ _ low, ne_eqb _ _ e, lt-leb _ _ z)
            | no z ↦
                let one : 1 ≤ kind = omega arith in
                elim (dec_lt 8 kind) [
                  | yes big ↦
                      elim (ℕ_discrete kind want) [
                        | yes e ↦ let nine : 9 ≤ want = omega arith in simp (lt-leb _ _ low, eq-eqb _ _ e, le-ltb _ _ nine, le-leb _ _ one, lt-leb _ _ big)
                        | no e ↦ simp (lt-leb _ _ low, ne_eqb _ _ e, le-leb _ _ one, lt-leb _ _ big)
                      ]
                  | no big ↦
                      let eight : kind ≤ 8 = omega arith in
                      rw (by_number kind size want one eight) (simp (lt-leb _ _ low, le-leb _ _ one, le-leb _ _ eight))
                ]
          ]
      | no low ↦ let high : 32768 ≤ kind = omega arith in simp (le-leb _ _ high)
    ]

-- an entry has at least a byte
abbrev pub Positive : Result (Option ℕ) Refusal → Type 0
Positive (Err e) = Unit
Positive (Ok None) = Unit
Positive (Ok (Some n)) = 0 < n

entry_positive : (k : ℕ) → 0 < entry_size k
entry_positive k =
    pick_case (λ n. 0 < n) (eqb k 1) 12 _ (λ e. omega arith)
    (λ e. pick_case (λ n. 0 < n) (eqb k 4) 4 _ (λ e. omega arith)
    (λ e. pick_case (λ n. 0 < n) (eqb k 6) 8 _ (λ e. omega arith)
    (λ e. pick_case (λ n. 0 < n) (eqb k 7) 33 _ (λ e. omega arith)
    (λ e. pick_case (λ n. 0 < n) (eqb k 8) 10 2 (λ e. omega arith) (λ e. omega arith)))))

pub positive : (k : ℕ) → Positive (class_of k)
unfolding class_of
positive k =
    pick_case Positive (leb 32768 k) (Ok None) _ (λ e. tt)
    (λ e. pick_case Positive (leb 1 k && leb k 8) (Ok (Some (entry_size k))) (Err Refusal.Kind) (λ e. entry_positive k) (λ e. tt))

pub positive_entries : (k n : ℕ) (x : Result (Option ℕ) Refusal) → x ≡ class_of k → x ≡ Ok (Some n) → 0 < n
positive_entries k n x e f = subst Positive f (subst Positive (sym e) (positive k))
