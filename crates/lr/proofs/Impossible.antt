-- Every look of every run over passing tables is safe: what `Impossible` of specs/ says of one.
use Rattle.std.specs.Prelude.{List, ◌≡◌, refl, ℕ, zero, suc, drop}
use Rattle.std.proofs.Common.{subst}
use Rattle.rules.specs.declared.Cell.{Cell}
use Rattle.rules.specs.declared.Cell.TheVariants.{Shift, Reduce, Error}
use Rattle.rules.specs.declared.Formed.{Formed}
use Rattle.rules.specs.Tables.{Tables, error_column, action}
use Rattle.rules.specs.Driving.{Job, Run, Mode, main, column, search, simulate, top_state, top_of}
use Rattle.lr.specs.Checked.{Laws}
use Rattle.lr.specs.Stack.{Along}
use Rattle.lr.proofs.Stack.{reducible, whole}
use Rattle.lr.specs.Invariant.{Fits, OK, ModeOK, along_drop, Carries, Reaches, begins, goes}
use Rattle.lr.proofs.Invariant.{does, always_ok}
use Rattle.lr.specs.Impossible.{Arose, AroseIn, CellSafe, Placed, ReduceSafe, Safe, agrees, arose, begin_arose, look_column_in, look_in, look_states, top_in}

-- ---- from the invariant

reduce_safe : {T : Tables} → Laws T → {ss Xs : List ℕ} → Along T ss Xs → (c p : ℕ) → action T (top_of ss) c ≡ Reduce (record { 0 = p }) → ReduceSafe T ss p
reduce_safe L al c zero e = (whole L al c e).one
reduce_safe L al c (suc p) e =
    let d = reducible L al c p e in
    record { known = d.production; enough = d.fits; to = d.to; goes_there = d.goes; enters = d.enters }

cell_safe : {T : Tables} → Laws T → {ss Xs : List ℕ} → Along T ss Xs → (c : ℕ) (x : Cell) → action T (top_of ss) c ≡ x → CellSafe T ss x
cell_safe L {ss} al c (Shift s) e = L.shift_enters (top_of ss) c e
cell_safe L al c (Reduce p) e = reduce_safe L al c p.0 e
cell_safe L al c Error e = tt

-- the path of transitions on which a look acts
look_along : {J : Job} {r : Run} → OK J r → (m : Mode) → r.mode ≡ m → (Xs : List ℕ) × Along J.tables (look_states r m) Xs
look_along ok main e = (_, ok.along)
look_along ok (column f) e = (_, ok.along)
look_along {J} {r} ok (search f k) e = (_, along_drop J r.stack k ok.along)
look_along {J} {r} ok (simulate f k sim) e = (subst (ModeOK J r.stack) e ok.mode_ok).2

look_placed : {J : Job} {r : Run} → Fits J → OK J r → (m : Mode) → r.mode ≡ m → Placed J r m
look_placed F ok main e = tt
look_placed F ok (column f) e = tt
look_placed {J} {r} F ok (search f k) e = subst (ModeOK J r.stack) e ok.mode_ok
look_placed {J} {r} F ok (simulate f k sim) e =
    let g = subst (ModeOK J r.stack) e ok.mode_ok in
    (g.0, (g.1.0, g.1.1, F.laws.shift_enters (top_state (drop k r.stack)) (error_column J.tables) g.1.1))

pub always_arose : {J : Job} → Fits J → {r : Run} → Reaches J r → (f : Formed) → Carries r.mode f → Arose J r f
always_arose {J} F (begins e) = subst (AroseIn J) e (begin_arose J)
always_arose {J} F (goes {r = r} h e) =
    let ok = always_ok F h in subst (AroseIn J) e (arose ok (always_arose F h) (does J F r ok))

-- ---- every look of every run is safe

pub always_safe : {J : Job} → Fits J → {r : Run} → Reaches J r → Safe J r
always_safe {J} F {r} h =
    let ok = always_ok F h in
    let a = agrees F ok in
    let al = look_along ok r.mode refl in
    record {
      state_in_law = top_in F.laws al.1;
      column_in = look_column_in a r.mode;
      cell = cell_safe F.laws al.1 (look_in J r r.mode) _ refl;
      placed = look_placed F ok r.mode refl;
      agrees = a;
      arose = always_arose F h;
      next_in = ok.in_tokens;
    }
