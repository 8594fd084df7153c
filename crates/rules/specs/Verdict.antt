-- What the check says: all is well, or a refusal, with its number of document 01 and its place.
use Rattle.std.specs.Prelude.{ℕ, Result, Ok, Err}
use Rattle.rules.specs.declared.Refusal.{Refusal}

abbrev pub Verdict : Type 0
Verdict = Result Unit Refusal

abbrev pub Passes : Verdict
Passes = Ok tt

abbrev pub Refused : ℕ → ℕ → Verdict
Refused number place = Err (record { number = number; place = place })
