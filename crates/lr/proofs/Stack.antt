-- Over passing tables an item of the top state walks down its production, and a reduce cell under the top state finds its right side.
use Rattle.std.specs.Prelude.{List, [], ◌∷◌, ◌≡◌, refl, ℕ, zero, suc, length, drop}
use Rattle.std.proofs.Common.{ap, subst, ◌∙◌, arith}
use Rattle.rules.specs.declared.Cell.TheVariants.{Reduce}
use Rattle.rules.specs.Tables.{Tables, action, left, size, symbol}
use Rattle.rules.specs.Driving.{top_of}
use Rattle.lr.specs.Checked.{Has, Laws}
use Rattle.lr.specs.Stack.{Along, Reducible, Walked, Whole, above, bottom, move_nonterminal, only_bottom}

pub walk : {T : Tables} → Laws T → {ss Xs : List ℕ} → Along T ss Xs → (p d a : ℕ) → Has T (top_of ss) p d a → Walked T ss Xs p d
walk L bottom p zero a x = record { fits = omega arith; symbols = tt; lookahead = a; opened = x; rest = bottom }
walk L (above m al) p zero a x = record { fits = omega arith; symbols = tt; lookahead = a; opened = x; rest = above m al }
walk L bottom p (suc d) a x = absurd (L.dot_up x refl)
walk L (above {ss = ss} {X = X} m al) p (suc d) a x =
    let c = L.comes (top_of ss) X x m in
    let w = walk L al p d c.1.0 c.1.1 in
    record { fits = omega (arith, w.fits); symbols = (c.0, w.symbols); lookahead = w.lookahead; opened = w.opened; rest = w.rest }

pub reducible : {T : Tables} → Laws T → {ss Xs : List ℕ} → Along T ss Xs → (c p : ℕ) → action T (top_of ss) c ≡ Reduce (record { 0 = suc p }) → Reducible T ss Xs (suc p)
reducible {T} L {ss} {Xs} al c p e =
    let x = L.reduce_item (top_of ss) c e in
    let w = walk L al (suc p) (size T (suc p)) x.0 x.1 in
    let g = L.has_goto_law w.opened in
    let below : ℕ = top_of (drop (size T (suc p)) ss) in
    record {
      fits = w.fits;
      symbols = w.symbols;
      production = L.reduce_known (top_of ss) c e;
      to = g.0;
      goes = g.1;
      enters = L.goto_enters below (left T (suc p)) g.1;
      along = above (move_nonterminal T below (left T (suc p)) ∙ g.1) w.rest;
    }

alone : {T : Tables} (s X : ℕ) {ss Xs : List ℕ} → Along T ss Xs → length ss ≡ 0 → X ≡ symbol T 0 0 → Whole T (s ∷ ss) (X ∷ Xs)
alone s X bottom z e = record { one = refl; symbols = ap {B = List ℕ} (λ Y. Y ∷ []) e }
alone s X (above m al) z e = absurd (omega arith)

on_top : {T : Tables} → Laws T → {ss Xs : List ℕ} → Along T ss Xs → Walked T ss Xs 0 1 → Whole T ss Xs
on_top L bottom w = absurd w.symbols
on_top {T} L (above {X = X} {s = s} m al) w =
    let first = L.root in
    let here = w.symbols.0 in
    let e : X ≡ symbol T 0 0 = cc in
    alone s X al (only_bottom L al (L.only_start w.opened)) e

pub whole : {T : Tables} → Laws T → {ss Xs : List ℕ} → Along T ss Xs → (c : ℕ) → action T (top_of ss) c ≡ Reduce (record { 0 = 0 }) → Whole T ss Xs
whole {T} L {ss} al c e =
    let x = L.reduce_item (top_of ss) c e in
    on_top L al (walk L al 0 1 x.0 (subst (λ n. Has T (top_of ss) 0 n x.0) L.root_size x.1))
