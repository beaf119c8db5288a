use Rattle.fields.specs.Spans.{FieldsOf}
use Rattle.fields.proofs.Given.{gone_all, none_given}
use Rattle.fields.proofs.Sole.{sole}
use Rattle.job_line.proofs.words.cut.Goals as goal

pub returns : goal.returns
returns c =
    let text = c.args.text.now in
    let given = gone_all _ _ _ _ c.loop-field.yielded c.of-field-items.ensures c.into_iter-field-iterator.ensures.into_iter_gives c.loop-field.yielded_by in
    let all : FieldsOf text c.loop-field.yielded = (given.turn, none_given given c.in-None.ensures.steps.0) in
    record { fields = c.loop-field.yielded; all = all; sole = λ gs. sole text c.loop-field.yielded gs all; same = c.loop-field.invariant }
