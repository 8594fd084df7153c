-- What a write through `s[at..at + n]` leaves: the cut and the paste that `Laws` makes of a `put`.
-- Assumes nothing.
use mathlib.Core.Path.{◌≡◌, sym, ap, ◌∙◌}
use mathlib.Core.List.{List, ◌++◌, append_assoc}
use Prim.Native.Nat.{ℕ, ◌+◌, ◌-◌, ◌≤◌}
use native.Mathlib.Omega.{arith}
use lib.ListN.{length, take, drop}
use lib.Seq.{drop-drop}
use borrow.Rule.Slice.PartMut.{put_mid}
use Rattle.words.specs.Words.{le2, le4, put16, put32}
use Rattle.words.specs.Laws.{put16_eq, put32_eq}

written : (at n : ℕ) (s ys : List ℕ) → put_mid at (at + n - at) s ys ≡ take at s ++ ys ++ drop (at + n) s
written at n s ys =
    let k : at + n - at ≡ n = omega arith in
    rw k (ap (λ l. take at s ++ (ys ++ l)) (drop-drop n at s) ∙ sym (append_assoc (take at s) ys (drop (at + n) s)))

pub written16 : (at v : ℕ) (s ys : List ℕ) → at + 2 ≤ length s → ys ≡ le2 v → put_mid at (at + 2 - at) s ys ≡ put16 s at v
written16 at v s ys h e = rw (e, put16_eq s at v h) (written at 2 s (le2 v))

pub written32 : (at v : ℕ) (s ys : List ℕ) → at + 4 ≤ length s → ys ≡ le4 v → put_mid at (at + 4 - at) s ys ≡ put32 s at v
written32 at v s ys h e = rw (e, put32_eq s at v h) (written at 4 s (le4 v))
