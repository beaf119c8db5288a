use Rattle.std.proofs.Common.{vec_items, arith}
use Rattle.std.proofs.ByRecursion.{All-push}
use Rattle.std.proofs.lemmas.Grind.{common_steps}
use Rattle.std.proofs.lemmas.List.{map_push}
use Rattle.std.proofs.lemmas.Result.{err_from_is_err_and}
use Rattle.fields.specs.Spans.{Next, reached}
use Rattle.fields.proofs.Given.{Gone, gone_all, next_given, none_given}
use Rattle.fields.proofs.Turns.{first_bad, read_all}
use Rattle.fields.proofs.read.unsigned_fields.Goals as goal
use Rattle.fields.proofs.read.unsigned_fields.Goals.{In-Some}

so_far : (c : In-Some) → Gone c.args.text.now 0 c.loop-field.yielded c.loop-field.field-iterator
so_far c = gone_all _ _ _ _ c.loop-field.yielded c.of-field-items.ensures c.into_iter-field-iterator.ensures.into_iter_gives c.loop-field.yielded_by

comes : (c : In-Some) → Next c.args.text.now (reached 0 c.loop-field.yielded) c.in-Some.field
comes c = next_given (so_far c) c.in-Some.field c.in-Some.ensures.steps.0

pub returns-in_err-number_in : goal.returns-in_err-number_in
returns-in_err-number_in c =
    let told = err_from_is_err_and c.from_residual.result c.from_residual.ensures.1 in
    let some = (goal.at.returns-in_err-number_in c).In-Some in
    rw (told.1, told.2, c.in_err-number_in.ensures.1) (
    first_bad c.args.text.now c.loop-field.yielded c.in-Some.field (so_far some).turn (comes some) c.loop-field.invariant.words c.in_err-number_in.ensures.0
    )

pub loop-field-preserved : goal.loop-field-preserved
loop-field-preserved c = record { words = grind (arith, common_steps, All-push); same = grind (arith, common_steps, map_push) }

pub returns : goal.returns
returns c =
    let given = gone_all _ _ _ _ c.loop-field.yielded c.of-field-items.ensures c.into_iter-field-iterator.ensures.into_iter_gives c.loop-field.yielded_by in
    read_all c.args.text.now c.loop-field.yielded (vec_items c.loop-field.values) (given.turn, none_given given c.in-None.ensures.steps.0) c.loop-field.invariant.words
    c.loop-field.invariant.same
