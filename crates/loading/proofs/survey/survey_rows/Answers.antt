use Rattle.std.proofs.Common.{◌<◌, [], length, slice_index_or, sym, ap, ◌∙◌, arith, below_more}
use Rattle.std.proofs.lemmas.Result.{err_from_is_err_and}
use Rattle.rows.proofs.Chunks.{words_in_chunk}
use Rattle.loading.specs.Surveys.{RowPasses}
use Rattle.loading.proofs.Order.{first_no}
use Rattle.loading.proofs.Passing.{each_part, parts_lower, row_within}
use Rattle.loading.proofs.Spared.{needs_none, needs_stay, known_more, more_within}
use Rattle.loading.proofs.survey.survey_rows.Goals as goal

pub loop-p-init : goal.loop-p-init
loop-p-init c = record {
  passed = λ k h. absurd (omega arith);
  needs = λ k. c.requires.blank k ∙ sym (needs_none c.args.table.now k);
}

pub check_row-requires : goal.check_row-requires
check_row-requires c =
    c.from.ensures
    ∙ words_in_chunk c.args.table.now c.loop-p.p _ (omega arith) (ap (λ l. slice_index_or l c.loop-p.p []) c.as_chunks.ensures.front)

pub returns-in_err-row : goal.returns-in_err-row
returns-in_err-row c =
    let p = err_from_is_err_and c.from_residual.result c.from_residual.ensures.1 in
    rw (p.1, p.2)
    (first_no c.args.table.now c.loop-p.p (omega arith) c.requires.long c.loop-p.invariant.passed _ c.in_err-row.ensures)

pub needs_of-requires : goal.needs_of-requires
needs_of-requires c =
    each_part (λ _ x. x < c.loop-p.p) (λ _ x. x < length c.loop-p.known) (λ _ x h. omega arith) c.in_ok-row.row
    (parts_lower c.args.table.now c.loop-p.p c.in_ok-row.ensures.0 c.in_ok-row.row c.in_ok-row.ensures.1)

pub new-requires : goal.new-requires
new-requires c =
    let row = row_within c.args.table.now c.loop-p.p (omega arith) ∙ c.in_ok-row.ensures.1 in
    let h = more_within c.args.table.now c.loop-p.known c.loop-p.p c.loop-p.invariant.needs c.in_ok-row.row row c.needs_of.result c.needs_of.ensures in
    (omega arith, omega arith)

pub loop-p-preserved : goal.loop-p-preserved
loop-p-preserved c =
    let row = row_within c.args.table.now c.loop-p.p (omega arith) ∙ c.in_ok-row.ensures.1 in
    record {
      passed = below_more (RowPasses c.args.table.now) c.loop-p.p c.loop-p.invariant.passed c.in_ok-row.ensures.0;
      needs =
          known_more c.args.table.now c.loop-p.known c.loop-p.p c.loop-p.invariant.needs c.in_ok-row.row row c.new.result
          (c.new.ensures ∙ c.needs_of.ensures) (omega arith);
    }

pub returns : goal.returns
returns c = record {
  passes = λ k h. c.loop-p.invariant.passed k (omega arith);
  needs = λ k h. c.loop-p.invariant.needs k ∙ needs_stay c.args.table.now c.loop-p.p k (omega arith);
}
