-- The check by what its scans find: a place is refused with the scan's number, and where there is none the next scan judges.
use Rattle.std.specs.Prelude.{◌≡◌, refl, ℕ, ◌+◌, Option, Some, None, Ok}
use Rattle.std.proofs.Common.{sym, ◌∙◌, arith}
use Rattle.rules.specs.Verdict.{Verdict, Passes}
use Rattle.rules.specs.Tables.{Tables, production_count, item_count}
use Rattle.rules.specs.Check.{ok10, ok11, ok12, ok13, ok14, ok15, ok16, ok17, action_cells, goto_cells, check, check11, check12, check13, check14, check15, check16, check17}
use Rattle.tables.specs.Fit.{Fit, fit}
use Rattle.tables.specs.Places.{first_bad, verdict_at, judge_at, good_at}

-- "The check, in this order, lowest place first"
pub check_at : (T : Tables) → check T
    ≡ verdict_at 10 (first_bad (ok10 T) 0 1)
    (verdict_at 11 (first_bad (ok11 T) 0 (action_cells T + goto_cells T))
    (verdict_at 12 (first_bad (ok12 T) 0 (production_count T))
    (verdict_at 13 (first_bad (ok13 T) 0 (production_count T))
    (verdict_at 14 (first_bad (ok14 T) 0 (item_count T))
    (verdict_at 15 (first_bad (ok15 T) 0 (item_count T))
    (verdict_at 16 (first_bad (ok16 T) 0 (action_cells T))
    (verdict_at 17 (first_bad (ok17 T) 0 (item_count T + 1)) Passes)))))))
unfolding check check11 check12 check13 check14 check15 check16 check17
check_at T = simp judge_at

-- a scan that passes has found nothing
none_found : (number : ℕ) (found : Option ℕ) (u : Unit) → ◌≡◌ {A = Verdict} (Ok u) (verdict_at number found Passes) → found ≡ None
none_found number (Some i) u e = let z : ◌≡◌ {A = ℕ} 0 1 = cc in absurd (omega arith)
none_found number None u e = refl

-- so behind 10 the tables fit
pub fits : (T : Tables) (found : Option ℕ) (u : Unit) → found ≡ first_bad (ok10 T) 0 1
    → ◌≡◌ {A = Verdict} (Ok u) (verdict_at 10 found Passes) → Fit T
fits T found u is e = fit T 0 (good_at _ 0 1 (sym is ∙ none_found 10 found u e) 0 (omega arith) (omega arith))
