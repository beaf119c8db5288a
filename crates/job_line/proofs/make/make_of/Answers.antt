use Rattle.std.proofs.Common.{◌∷◌, ◌++◌, sym}
use Rattle.std.proofs.lemmas.Result.{err_from_is_err_and}
use Rattle.job_line.specs.Makes.{name_of}
use Rattle.job_line.proofs.Naming.{with_parameters, name_alone, unnamed, made}
use Rattle.job_line.proofs.make.make_of.Goals as goal
use Rattle.job_line.proofs.make.make_of.Goals.{in-Some+in_ok-kind_of-in-Some, in-None+in_ok-kind_of-in-None}

pub returns-in_err-kind_of-in-Some : goal.returns-in_err-kind_of-in-Some
returns-in_err-kind_of-in-Some c =
    let left = err_from_is_err_and c.from_residual.result c.from_residual.ensures.1 in
    rw (left.1, left.2) (unnamed (with_parameters c.in-Some.ensures) c.in_err-kind_of-in-Some.ensures)

pub returns-in_err-kind_of-in-None : goal.returns-in_err-kind_of-in-None
returns-in_err-kind_of-in-None c =
    let left = err_from_is_err_and c.from_residual-in_err-kind_of-in-None.result c.from_residual-in_err-kind_of-in-None.ensures.1 in
    rw (left.1, left.2) (unnamed (name_alone c.in-None.ensures) c.in_err-kind_of-in-None.ensures)

pub returns : goal.returns
returns c =
    rw c.ok_or.ensures.value (
    elim c.match-split_once.branch [
      | in-Some+in_ok-kind_of-in-Some w ↦
          let parted = w.in-Some.ensures in
          let is = w.in_ok-kind_of-in-Some.ensures in
          rw w.make-is (made c.args.word.now _ (name_of w.in_ok-kind_of-in-Some.field-0 ++ 58 ∷ w.in-Some.parameters.now) _ _ (with_parameters parted) is (cc (parted.whole, is)) w.make_with-make.ensures)
      | in-None+in_ok-kind_of-in-None w ↦
          let is = w.in_ok-kind_of-in-None.ensures in
          rw w.make-is (made c.args.word.now _ (name_of w.in_ok-kind_of-in-None.field-0) _ _ (name_alone w.in-None.ensures) is (sym is) w.bare_make-make.ensures)
    ])
