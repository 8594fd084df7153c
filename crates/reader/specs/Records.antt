-- What the reader sees at a place is what the rules find there; and `records_from` of the rules from a place on, a turn at a time,
-- with as much fuel as there are bytes left.
use Rattle.std.specs.Prelude.{Bool, true, false, ◌&&◌, List, [], ◌∷◌, ◌++◌, ◌≡◌, refl, ℕ, zero, suc, ◌+◌, ◌-◌, ◌≤◌, ◌<◌, leb, ltb, eqb, length, map, get_or, set, take, Option, None, Some, Result, Ok, Err}
use Rattle.std.proofs.Math.Path.{sym, ap}
use Rattle.std.proofs.Common.{subst, ◌∙◌, arith, take_all, ltb-true, ltb-false, eqb-true, le-leb}
use Rattle.std.proofs.lemmas.Bool.{lt-leb, and_parts, or_parts}
use Rattle.std.proofs.lemmas.List.{map_push, take_more_set}
use Rattle.words.specs.Words.{pick, get16, get32}
use Rattle.words.specs.Laws.{pick_case}
use Rattle.rules.specs.File.{length_fits, is_cut, found_at, records_from, file_of, Part, Filed, Found}
use Rattle.reader.specs.declared.Payload.{Payload}
use Rattle.reader.specs.declared.Payloads.{Payloads}
use Rattle.reader.specs.declared.Refusal.{Refusal}
use Rattle.reader.specs.declared.FileError.{FileError}
use Rattle.reader.specs.declared.Record.{Record}
use Rattle.reader.specs.Reading.{number_of, placed, placed_ok, some_of, seen_of, seen_at, ended_of, part_of, parts_of, list_of, filed_of}

-- what is seen: a record, the end, or a refusal
abbrev pub Seen : Type 0
Seen = Result (Option Record) Refusal

-- as the rules say it
abbrev pub found_of : Seen → Found
found_of (Err e) = Found.wrong (number_of e)
found_of (Ok None) = Found.nothing
found_of (Ok (Some (Record.Skipped size))) = Found.skipped
found_of (Ok (Some (Record.Wanted size))) = Found.wanted

found_pick : (t : Bool) (x y : Seen) → found_of (pick t x y) ≡ pick t (found_of x) (found_of y)
found_pick true x y = refl
found_pick false x y = refl

some_pick : (t : Bool) (x y : Result Record Refusal) → some_of (pick t x y) ≡ pick t (some_of x) (some_of y)
some_pick true x y = refl
some_pick false x y = refl

pub found_seen : (s : List ℕ) (at want : ℕ) → found_at s at want ≡ found_of (seen_at s at want)
unfolding found_at seen_at seen_of ended_of
found_seen s at want = simp (some_pick, found_pick)

-- what it means that something is seen
abbrev pub Sure : Seen → List ℕ → ℕ → ℕ → Type 0
Sure (Err e) s at want = Unit
Sure (Ok None) s at want = want ≡ 9
Sure (Ok (Some (Record.Skipped size))) s at want = (size ≡ get32 s at) × (at + 6 + size ≤ length s)
Sure (Ok (Some (Record.Wanted size))) s at want = (size ≡ get32 s at) × (at + 6 + size ≤ length s) × (want < 9)

pub whole : (s : List ℕ) (at : ℕ) → is_cut s at ≡ false → at + 6 + get32 s at ≤ length s
unfolding is_cut
whole s at e = ltb-false _ _ (or_parts (ltb (length s) (at + 6)) (ltb (length s) (at + 6 + get32 s at)) e).1

pub sure : (s : List ℕ) (at want : ℕ) → Sure (seen_at s at want) s at want
unfolding seen_at seen_of ended_of
sure s at want =
    let P : Seen → Type 0 = λ x. Sure x s at want in
    let Q : Result Record Refusal → Type 0 = λ x. Sure (some_of x) s at want in
    let size : ℕ = get32 s at in
    let kind : ℕ = get16 s (at + 4) in
    pick_case P (eqb at (length s)) _ _
    (λ e. pick_case P (eqb want 9) _ _ (λ n. eqb-true want 9 n) (λ n. tt))
    (λ e. pick_case P (is_cut s at) _ _ (λ k. tt)
    (λ k. pick_case Q (leb 32768 kind) _ _ (λ h. (refl, whole s at k))
    (λ h. pick_case Q (eqb kind want && ltb want 9) _ _
    (λ w. pick_case Q (length_fits want size) _ _ (λ f. (refl, whole s at k, ltb-true want 9 (and_parts (eqb kind want) (ltb want 9) w).1)) (λ f. tt))
    (λ w. tt))))

-- from a place on, with as much fuel as there are bytes left
unfoldable pub rest_of : List ℕ → ℕ → ℕ → List Part → Filed
rest_of s at want found = records_from (suc (length s - at)) s at want found

-- one turn of the rules, by what is found
module _ (s : List ℕ) (at want : ℕ) (found : List Part) (n : ℕ) where
  pub on_nothing : found_at s at want ≡ Found.nothing → records_from (suc n) s at want found ≡ Filed.parts found
  unfolding records_from
  on_nothing e = rw (e, records_from)

  pub on_wrong : (k : ℕ) → found_at s at want ≡ Found.wrong k → records_from (suc n) s at want found ≡ Filed.refused_at k at
  unfolding records_from
  on_wrong k e = rw (e, records_from)

  pub on_skipped : found_at s at want ≡ Found.skipped → records_from (suc n) s at want found ≡ records_from n s (at + 6 + get32 s at) want found
  unfolding records_from
  on_skipped e = rw (e, records_from)

  pub on_wanted : found_at s at want ≡ Found.wanted → records_from (suc n) s at want found ≡ records_from n s (at + 6 + get32 s at) (want + 1) (found ++ (record { start = at + 6; size = get32 s at } ∷ []))
  unfolding records_from
  on_wanted e = rw (e, records_from)

-- what is seen is found, and it is what it means
module _ (s : List ℕ) (at want : ℕ) (x : Seen) (e : seen_at s at want ≡ x) where
  pub found_so : found_at s at want ≡ found_of x
  found_so = found_seen s at want ∙ ap found_of e

  pub sure_so : Sure x s at want
  sure_so = subst (λ (y : Seen). Sure y s at want) e (sure s at want)

-- a record that is found, by the steps that take it out of what the code returns
module _ (s : List ℕ) (at want : ℕ) (x : Result (Option Record) FileError) (o : Option Record) (r k : Record) where
  pub seen_record : x ≡ placed at (seen_at s at want) → x ≡ Ok o → o ≡ Some r → r ≡ k → seen_at s at want ≡ Ok (Some k)
  seen_record p e f g =
      let q : placed at (seen_at s at want) ≡ Ok (Some k) = cc in placed_ok (seen_at s at want) at (Some k) q

  pub sure_record : x ≡ placed at (seen_at s at want) → x ≡ Ok o → o ≡ Some r → r ≡ k → Sure (Ok (Some k)) s at want
  sure_record p e f g = sure_so s at want (Ok (Some k)) (seen_record p e f g)

-- more fuel than there are bytes left changes nothing
abbrev Same : ℕ → ℕ → List ℕ → Type 0
Same n m s =
    (at want : ℕ) (found : List Part) → length s - at < n → length s - at < m → records_from n s at want found ≡ records_from m s at want found

same_turn : (n m : ℕ) (s : List ℕ) (at want : ℕ) (found : List Part) (x : Seen) → seen_at s at want ≡ x → length s - at < suc n → length s - at < suc m → Same n m s → records_from (suc n) s at want found ≡ records_from (suc m) s at want found
same_turn n m s at want found (Ok None) e h k r =
    let f = found_so s at want (Ok None) e in on_nothing s at want found n f ∙ sym (on_nothing s at want found m f)
same_turn n m s at want found (Err i) e h k r =
    let f = found_so s at want (Err i) e in on_wrong s at want found n (number_of i) f ∙ sym (on_wrong s at want found m (number_of i) f)
same_turn n m s at want found (Ok (Some (Record.Skipped size))) e h k r =
    let f = found_so s at want (Ok (Some (Record.Skipped size))) e in
    let q = sure_so s at want (Ok (Some (Record.Skipped size))) e in
    on_skipped s at want found n f
    ∙ r (at + 6 + get32 s at) want found (omega arith) (omega arith)
    ∙ sym (on_skipped s at want found m f)
same_turn n m s at want found (Ok (Some (Record.Wanted size))) e h k r =
    let f = found_so s at want (Ok (Some (Record.Wanted size))) e in
    let q = sure_so s at want (Ok (Some (Record.Wanted size))) e in
    on_wanted s at want found n f
    ∙ r (at + 6 + get32 s at) (want + 1) (found ++ (record { start = at + 6; size = get32 s at } ∷ [])) (omega arith) (omega arith)
    ∙ sym (on_wanted s at want found m f)

same : (n m : ℕ) (s : List ℕ) → Same n m s
same zero m s at want found h k = absurd (omega arith)
same (suc n) zero s at want found h k = absurd (omega arith)
same (suc n) (suc m) s at want found h k =
    same_turn n m s at want found (seen_at s at want) refl h k (λ at want found h k. same n m s at want found h k)

-- the reader's turns: what is left to read gives the whole
module _ (s : List ℕ) (at want : ℕ) (v : Filed) where
  pub rest_nothing : (found : List Part) → seen_at s at want ≡ Ok None → rest_of s at want found ≡ v → Filed.parts found ≡ v
  unfolding rest_of
  rest_nothing found e r = sym (on_nothing s at want found (length s - at) (found_so s at want (Ok None) e)) ∙ r

  pub rest_wrong : (found : List Part) (k : Refusal) → seen_at s at want ≡ Err k → rest_of s at want found ≡ v → Filed.refused_at (number_of k) at ≡ v
  unfolding rest_of
  rest_wrong found k e r = sym (on_wrong s at want found (length s - at) (number_of k) (found_so s at want (Err k) e)) ∙ r

  pub rest_skipped : (found : List Part) (size : ℕ) → seen_at s at want ≡ Ok (Some (Record.Skipped size)) → rest_of s at want found ≡ v → rest_of s (at + 6 + size) want found ≡ v
  unfolding rest_of
  rest_skipped found size e r =
      let q = sure_so s at want (Ok (Some (Record.Skipped size))) e in
      let z : size ≡ get32 s at = q.0 in
      rw z
      (same (suc (length s - (at + 6 + get32 s at))) (length s - at) s (at + 6 + get32 s at) want found (omega arith) (omega arith)
      ∙ sym (on_skipped s at want found (length s - at) (found_so s at want (Ok (Some (Record.Skipped size))) e))
      ∙ r)

  pub rest_wanted : (found : List Part) (size : ℕ) → seen_at s at want ≡ Ok (Some (Record.Wanted size)) → rest_of s at want found ≡ v → rest_of s (at + 6 + size) (want + 1) (found ++ (record { start = at + 6; size = size } ∷ [])) ≡ v
  unfolding rest_of
  rest_wanted found size e r =
      let q = sure_so s at want (Ok (Some (Record.Wanted size))) e in
      let z : size ≡ get32 s at = q.0 in
      rw z
      (same (suc (length s - (at + 6 + get32 s at))) (length s - at) s (at + 6 + get32 s at) (want + 1) (found ++ (record { start = at + 6; size = get32 s at } ∷ [])) (omega arith) (omega arith)
      ∙ sym (on_wanted s at want found (length s - at) (found_so s at want (Ok (Some (Record.Wanted size))) e))
      ∙ r)

-- the first turn, and a file that is too long
pub rest_first : (s : List ℕ) → length s ≤ 65536 → rest_of s 0 1 [] ≡ file_of s
unfolding rest_of file_of
rest_first s h =
    let e : suc (length s - 0) ≡ length s + 1 = omega arith in rw (le-leb _ _ h, e)

pub too_long : (s : List ℕ) → 65536 < length s → file_of s ≡ Filed.refused_at 33 0
unfolding file_of
too_long s h = rw (lt-leb _ _ h)

-- ---- the payloads found so far are the first of eight

pub eight : (xs : List Payload) (d : Payload) → length xs ≡ 8 → get_or xs 0 d ∷ get_or xs 1 d ∷ get_or xs 2 d ∷ get_or xs 3 d ∷ get_or xs 4 d ∷ get_or xs 5 d ∷ get_or xs 6 d ∷ get_or xs 7 d ∷ [] ≡ xs
eight [] d e = absurd (omega arith)
eight (x0 ∷ []) d e = absurd (omega arith)
eight (x0 ∷ x1 ∷ []) d e = absurd (omega arith)
eight (x0 ∷ x1 ∷ x2 ∷ []) d e = absurd (omega arith)
eight (x0 ∷ x1 ∷ x2 ∷ x3 ∷ []) d e = absurd (omega arith)
eight (x0 ∷ x1 ∷ x2 ∷ x3 ∷ x4 ∷ []) d e = absurd (omega arith)
eight (x0 ∷ x1 ∷ x2 ∷ x3 ∷ x4 ∷ x5 ∷ []) d e = absurd (omega arith)
eight (x0 ∷ x1 ∷ x2 ∷ x3 ∷ x4 ∷ x5 ∷ x6 ∷ []) d e = absurd (omega arith)
eight (x0 ∷ x1 ∷ x2 ∷ x3 ∷ x4 ∷ x5 ∷ x6 ∷ x7 ∷ []) d e = refl
eight (x0 ∷ x1 ∷ x2 ∷ x3 ∷ x4 ∷ x5 ∷ x6 ∷ x7 ∷ x8 ∷ xs) d e = absurd (omega arith)

abbrev pub parts_before : ℕ → List Payload → List Part
parts_before want found = map part_of (take (want - 1) found)

pub rest_whole : (s : List ℕ) (at want : ℕ) (v : Filed) (found : List Payload) (ps : Payloads) → list_of ps ≡ found → length found ≡ 8 → seen_at s at want ≡ Ok None → rest_of s at want (parts_before want found) ≡ v → filed_of (Ok ps) ≡ v
unfolding filed_of parts_of
rest_whole s at want v found ps l n e r =
    let q : want ≡ 9 = sure_so s at want (Ok None) e in
    let t : take (want - 1) found ≡ found = rw q (take_all 8 found (omega arith)) in
    let k : map part_of (list_of ps) ≡ parts_before want found = ap (map part_of) (l ∙ sym t) in
    ap Filed.parts k ∙ rest_nothing s at want v (parts_before want found) e r

-- the next payload stands behind those found so far
pub rest_taken : (s : List ℕ) (at want : ℕ) (v : Filed) (found : List Payload) (p : Payload) (size : ℕ) → 1 ≤ want → length found ≡ 8 → seen_at s at want ≡ Ok (Some (Record.Wanted size)) → part_of p ≡ record { start = at + 6; size = size } → rest_of s at want (parts_before want found) ≡ v → rest_of s (at + 6 + size) (want + 1) (parts_before (want + 1) (set found (want - 1) p)) ≡ v
rest_taken s at want v found p size h n e w t =
    let k : want < 9 = (sure_so s at want (Ok (Some (Record.Wanted size))) e).2 in
    let z : want + 1 - 1 ≡ want - 1 + 1 = omega arith in
    let l : want - 1 < length found = omega arith in
    rw (z, take_more_set found (want - 1) p l, map_push part_of, w)
    (rest_wanted s at want v (parts_before want found) size e t)
