-- `reader::read_file` is the rules' `file_of`. The loop's invariant: what is left to read, behind the payloads found so far, gives
-- the whole file; the measure is what is left of the bytes.
-- Assumes nothing.
use mathlib.Core.Path.{refl, sym, ap, ◌∙◌}
use native.Mathlib.Omega.{arith}
use Rattle.std.specs.Prelude.{Ok}
use Rattle.std.proofs.Common.{ℕ, ◌+◌, length-set, rules}
use Rattle.std.proofs.lemmas.List.Elements.{All-set, All-same, All-replicate}
use Rattle.std.proofs.lemmas.Result.{err_from_is_err_and}
use Rattle.reader.specs.Records.{sure_so, seen_record, sure_record, eight, rest_first, rest_whole, rest_wrong, rest_skipped, rest_taken, too_long}
use Rattle.reader.specs.Reading.{IsCutOf, placed_ok, placed_err, cut_size, cut_here, filed_of}
use Rattle.reader.proofs.read_file.Goals as goal

pub returns-then-s-gt65536-clause-parts : goal.returns-then-s-gt65536-clause-parts
unfolding filed_of
returns-then-s-gt65536-clause-parts c = sym (too_long _ (omega arith))

pub loop-record-init : goal.loop-record-init
loop-record-init c =
    record {
      want_from = omega arith;
      want_to = omega arith;
      in_file = omega arith;
      short = omega arith;
      eight = refl;
      cut = All-replicate (IsCutOf c.args.s.now) 8 _ refl;
      rest = rest_first _ (omega arith);
    }

pub returns-in_err-record-clause-parts : goal.returns-in_err-record-clause-parts
unfolding filed_of
returns-in_err-record-clause-parts c =
    let p = err_from_is_err_and c.from_residual.result c.from_residual.ensures.1 in
    let q = placed_err _ _ _ (sym c.record_at.ensures ∙ c.in_err-record.was) in
    rw (p.1, p.2, q.1) (rest_wrong _ _ _ _ _ _ q.0 c.loop-record.invariant.rest)

-- a record to skip
pub overflow_add-at-in-Skipped : goal.overflow_add-at-in-Skipped
overflow_add-at-in-Skipped c =
    let q = sure_record _ _ _ _ _ _ _ c.record_at.ensures c.in_ok-record.was c.in-Some.is c.in-Skipped.is in omega arith

pub loop-record-smaller-in-Skipped : goal.loop-record-smaller-in-Skipped
loop-record-smaller-in-Skipped c =
    let q = sure_record _ _ _ _ _ _ _ c.record_at.ensures c.in_ok-record.was c.in-Some.is c.in-Skipped.is in omega arith

pub loop-record-preserved-in-Skipped : goal.loop-record-preserved-in-Skipped
loop-record-preserved-in-Skipped c =
    let e = seen_record _ _ _ _ _ _ _ c.record_at.ensures c.in_ok-record.was c.in-Some.is c.in-Skipped.is in
    let q = sure_so _ _ _ _ e in
    let i = c.loop-record.invariant in
    record {
      want_from = omega arith;
      want_to = omega arith;
      in_file = omega arith;
      short = omega arith;
      eight = i.eight;
      cut = i.cut;
      rest = rest_skipped _ _ _ _ _ _ e i.rest;
    }

-- the next payload
pub overflow_add-end : goal.overflow_add-end
overflow_add-end c =
    let q = sure_record _ _ _ _ _ _ _ c.record_at.ensures c.in_ok-record.was c.in-Some.is c.in-Wanted.is in omega arith

pub slice_bounds-found-end-in-Wanted : goal.slice_bounds-found-end-in-Wanted
slice_bounds-found-end-in-Wanted c =
    let q = sure_record _ _ _ _ _ _ _ c.record_at.ensures c.in_ok-record.was c.in-Some.is c.in-Wanted.is in search rules

pub bounds-found-want : goal.bounds-found-want
bounds-found-want c =
    let q = sure_record _ _ _ _ _ _ _ c.record_at.ensures c.in_ok-record.was c.in-Some.is c.in-Wanted.is in omega arith

pub loop-record-smaller : goal.loop-record-smaller
loop-record-smaller c =
    let q = sure_record _ _ _ _ _ _ _ c.record_at.ensures c.in_ok-record.was c.in-Some.is c.in-Wanted.is in omega arith

pub loop-record-preserved : goal.loop-record-preserved
loop-record-preserved c =
    let e = seen_record _ _ _ _ _ _ _ c.record_at.ensures c.in_ok-record.was c.in-Some.is c.in-Wanted.is in
    let q = sure_so _ _ _ _ e in
    let i = c.loop-record.invariant in
    let start : ℕ = c.loop-record.at + 6 in
    let z = cut_size c.args.s.now start c.in-Wanted.size q.1 in
    record {
      want_from = omega arith;
      want_to = omega arith;
      in_file = omega arith;
      short = omega arith;
      eight = length-set _ _ _ ∙ i.eight;
      cut = All-set (IsCutOf c.args.s.now) _ _ _ (cut_here c.args.s.now start c.in-Wanted.size q.1) i.cut;
      rest = rest_taken _ _ _ _ _ _ _ i.want_from i.eight e (λ j. record { start = start; size = z j }) i.rest;
    }

-- the end of the file
pub returns-clause-parts : goal.returns-clause-parts
returns-clause-parts c =
    let e = placed_ok _ _ _ (sym c.record_at.ensures ∙ c.in_ok-record.was ∙ ap Ok c.in_default.is) in
    let i = c.loop-record.invariant in
    rest_whole _ _ _ _ c.loop-record.found _ (eight _ _ i.eight) i.eight e i.rest

pub returns-clause-bytes : goal.returns-clause-bytes
returns-clause-bytes c =
    let i = c.loop-record.invariant in All-same (IsCutOf c.args.s.now) _ _ (eight _ _ i.eight) i.cut
