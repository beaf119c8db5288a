use Rattle.std.proofs.Common.{◌≡◌, Some, None, ◌∙◌}
use Rattle.worked.proofs.Ready.{line_of, as_claimed}
use Rattle.worked.proofs.line.Line.of_case.Goals as goal

pub returns : goal.returns
returns c =
    let e = c.in_ok-ended.ended in
    let n = c.args.number in
    let told : Some (record { number = n; end = c.number.result; row = c.row.result; count = c.count.result }) ≡ line_of n (Some e) =
    cc (c.number.ensures, c.row.ensures, c.count.ensures) in
    told ∙ as_claimed n c.in_ok-numbered.field-0 (Some e) c.in_ok-ended.ensures c.in_ok-numbered.ensures

pub returns-in_err-ended : goal.returns-in_err-ended
returns-in_err-ended c =
    c.from_residual-in_err-ended.ensures
    ∙ as_claimed c.args.number c.in_ok-numbered.field-0 None c.in_err-ended.ensures c.in_ok-numbered.ensures
