-- The payloads of a file that is not refused lie inside it, and are the rules' tables and tokens.
use Rattle.std.specs.Prelude.{List, [], ◌∷◌, ◌++◌, ◌≡◌, refl, ℕ, zero, suc, ◌+◌, ◌≤◌, ◌<◌, leb, length, get_or, take, drop, None, Some, Ok, Err}
use Rattle.std.proofs.Common.{sym, subst, ◌∙◌, arith}
use Rattle.words.specs.Words.{get32}
use Rattle.words.specs.Laws.{pick_case}
use Rattle.rules.specs.File.{records_from, file_of, max_file, Part, Filed, part_of, tables_of}
use Rattle.reader.specs.declared.Payload.{Payload}
use Rattle.reader.specs.declared.Payloads.{Payloads}
use Rattle.reader.specs.declared.Record.{Record}
use Rattle.reader.specs.Reading.{number_of, list_of, parts_of, filed_of, IsCutOf, AreCutOf, seen_at}
use Rattle.reader.specs.Records.{Seen, found_so, sure_so, on_nothing, on_wrong, on_skipped, on_wanted}

-- every part ends by the file's end
abbrev pub AllIn : ℕ → List Part → Type 0
AllIn n [] = Unit
AllIn n (p ∷ ps) = (p.start + p.size ≤ n) × AllIn n ps

abbrev Fine : ℕ → Filed → Type 0
Fine n (Filed.refused_at number place) = Unit
Fine n (Filed.parts ps) = AllIn n ps

all_in_snoc : (n : ℕ) (ps : List Part) (p : Part) → AllIn n ps → p.start + p.size ≤ n → AllIn n (ps ++ (p ∷ []))
all_in_snoc n [] p a h = (h, tt)
all_in_snoc n (q ∷ ps) p a h = (a.0, all_in_snoc n ps p a.1 h)

abbrev FineFrom : ℕ → List ℕ → Type 0
FineFrom n s = (at want : ℕ) (found : List Part) → AllIn (length s) found → Fine (length s) (records_from n s at want found)

fine_turn : (n : ℕ) (s : List ℕ) (at want : ℕ) (found : List Part) (x : Seen) → seen_at s at want ≡ x → AllIn (length s) found → FineFrom n s → Fine (length s) (records_from (suc n) s at want found)
fine_turn n s at want found (Ok None) e a r = rw (on_nothing s at want found n (found_so s at want (Ok None) e)) a
fine_turn n s at want found (Err k) e a r = rw (on_wrong s at want found n (number_of k) (found_so s at want (Err k) e)) tt
fine_turn n s at want found (Ok (Some (Record.Skipped size))) e a r =
    rw (on_skipped s at want found n (found_so s at want (Ok (Some (Record.Skipped size))) e)) (r (at + 6 + get32 s at) want found a)
fine_turn n s at want found (Ok (Some (Record.Wanted size))) e a r =
    let q = sure_so s at want (Ok (Some (Record.Wanted size))) e in
    let p : Part = record { start = at + 6; size = get32 s at } in
    let h : at + 6 + get32 s at ≤ length s = omega arith in
    rw (on_wanted s at want found n (found_so s at want (Ok (Some (Record.Wanted size))) e))
    (r (at + 6 + get32 s at) (want + 1) (found ++ (p ∷ [])) (all_in_snoc (length s) found p a h))

fine_from : (n : ℕ) (s : List ℕ) → FineFrom n s
unfolding records_from
fine_from zero s at want found a = tt
fine_from (suc n) s at want found a =
    fine_turn n s at want found (seen_at s at want) refl a (λ at want found a. fine_from n s at want found a)

fine_file : (s : List ℕ) → Fine (length s) (file_of s)
unfolding file_of
fine_file s =
    pick_case (Fine (length s)) (leb (length s) max_file) (records_from (length s + 1) s 0 1 []) (Filed.refused_at 33 0)
    (λ e. fine_from (length s + 1) s 0 1 [] tt)
    (λ e. tt)

-- where each payload ends
pub record Inside (n : ℕ) (ps : Payloads) : Type 0 where
  pub sizes : ps.sizes.start + length ps.sizes.bytes.now ≤ n
  pub actions : ps.actions.start + length ps.actions.bytes.now ≤ n
  pub gotos : ps.gotos.start + length ps.gotos.bytes.now ≤ n
  pub productions : ps.productions.start + length ps.productions.bytes.now ≤ n
  pub rights : ps.rights.start + length ps.rights.bytes.now ≤ n
  pub items : ps.items.start + length ps.items.bytes.now ≤ n
  pub sets : ps.sets.start + length ps.sets.bytes.now ≤ n
  pub tokens : ps.tokens.start + length ps.tokens.bytes.now ≤ n

-- the payloads that the reader gives lie inside the file
pub inside : (s : List ℕ) (ps : Payloads) → filed_of (Ok ps) ≡ file_of s → Inside (length s) ps
unfolding filed_of parts_of
inside s ps e =
    let a : AllIn (length s) (parts_of ps) = subst (Fine (length s)) (sym e) (fine_file s) in
    record {
      sizes = a.0;
      actions = a.1.0;
      gotos = a.1.1.0;
      productions = a.1.1.1.0;
      rights = a.1.1.1.1.0;
      items = a.1.1.1.1.1.0;
      sets = a.1.1.1.1.1.1.0;
      tokens = a.1.1.1.1.1.1.1.0;
    }

-- a payload's bytes, as `&s[start..start + size]` has them
abbrev pub cut_out : List ℕ → Payload → List ℕ
cut_out s p = take (length p.bytes.now) (drop p.start s)

-- the rules' tables and tokens are the payloads' bytes
pub tables_cut : (s : List ℕ) (ps : Payloads) → tables_of s (parts_of ps) ≡ record { sizes = cut_out s ps.sizes; actions = cut_out s ps.actions; gotos = cut_out s ps.gotos; productions = cut_out s ps.productions; rights = cut_out s ps.rights; items = cut_out s ps.items; sets = cut_out s ps.sets }
unfolding tables_of part_of parts_of
tables_cut s ps = refl

pub tokens_cut : (s : List ℕ) (ps : Payloads) → part_of s (parts_of ps) 7 ≡ cut_out s ps.tokens
unfolding part_of parts_of
tokens_cut s ps = refl

-- the slices that the reader hands on are those bytes
pub tables_handed : (s : List ℕ) (ps : Payloads) → AreCutOf s ps → tables_of s (parts_of ps) ≡ record { sizes = ps.sizes.bytes.now; actions = ps.actions.bytes.now; gotos = ps.gotos.bytes.now; productions = ps.productions.bytes.now; rights = ps.rights.bytes.now; items = ps.items.bytes.now; sets = ps.sets.bytes.now }
tables_handed s ps a =
    let at : (k : ℕ) → k < 8 → IsCutOf s (get_or (list_of ps) k ps.sizes) = λ k h. a k ps.sizes h in
    rw (tables_cut s ps, ← at 0 (omega arith), ← at 1 (omega arith), ← at 2 (omega arith), ← at 3 (omega arith), ← at 4 (omega arith), ← at 5 (omega arith), ← at 6 (omega arith))

pub tokens_handed : (s : List ℕ) (ps : Payloads) → AreCutOf s ps → part_of s (parts_of ps) 7 ≡ ps.tokens.bytes.now
tokens_handed s ps a = tokens_cut s ps ∙ sym (a 7 ps.sizes (omega arith))
