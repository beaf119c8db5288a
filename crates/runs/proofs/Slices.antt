-- A slice that is served and a go-on come to one board each.
use Rattle.std.proofs.Common.{◌≡◌, ℕ, suc, Option, refl, subst, arith as linear}
use Rattle.rows.specs.declared.row.Row.{Row}
use Rattle.semantics.specs.Machine.{Configuration}
use Rattle.runs.specs.Slices.{Board, Serves, finishes, runs_out, pauses, stops, steps, GoesOn, turned_down, served, OneAnswerOn, OneAnswer}
use Rattle.runs.proofs.Tries.{one_try}

module _ (rows : ℕ → Option Row) (k h limit : ℕ) where
  pub one_serving : {a n : ℕ} {s : Configuration} {b c : Board} → Serves rows k h limit a n s b → Serves rows k h limit a n s c → b ≡ c
  one_serving (finishes z) (finishes z') = refl
  one_serving (finishes z) (runs_out y le) = absurd (y z)
  one_serving (finishes z) (pauses y lt) = absurd (y z)
  one_serving (finishes z) (stops y lt w) = absurd (y z)
  one_serving (finishes z) (steps y lt w d) = absurd (y z)
  one_serving (runs_out y le) (finishes z) = absurd (y z)
  one_serving (runs_out y le) (runs_out y' le') = refl
  one_serving (runs_out y le) (pauses y' lt) = absurd (omega linear)
  one_serving (runs_out y le) (stops y' lt w) = absurd (omega linear)
  one_serving (runs_out y le) (steps y' lt w d) = absurd (omega linear)
  one_serving (pauses y lt) (finishes z) = absurd (y z)
  one_serving (pauses y lt) (runs_out y' le) = absurd (omega linear)
  one_serving (pauses y lt) (pauses y' lt') = refl
  one_serving (stops y lt w) (finishes z) = absurd (y z)
  one_serving (stops y lt w) (runs_out y' le) = absurd (omega linear)
  one_serving (stops y lt w) (stops y' lt' w') = let z = (one_try rows k h w w').0 in cc
  one_serving (stops y lt w) (steps y' lt' w' d) = let z = (one_try rows k h w w').0 in let x : ◌≡◌ {A = ℕ} 0 1 = cc in absurd (omega linear)
  one_serving (steps y lt w d) (finishes z) = absurd (y z)
  one_serving (steps y lt w d) (runs_out y' le) = absurd (omega linear)
  one_serving (steps y lt w d) (stops y' lt' w') = let z = (one_try rows k h w w').0 in let x : ◌≡◌ {A = ℕ} 0 1 = cc in absurd (omega linear)
  one_serving {c} (steps {a} {n} y lt w d) (steps y' lt' w' d') =
      one_serving d (subst (λ t. Serves rows k h limit a (suc n) t c) (one_try rows k h w' w).1 d')

  pub one_going_on : {a n : ℕ} {s : Configuration} {b c : Board} → GoesOn rows k h limit a n s b → GoesOn rows k h limit a n s c → b ≡ c
  one_going_on (turned_down lt) (turned_down lt') = refl
  one_going_on (turned_down lt) (served le d) = absurd (omega linear)
  one_going_on (served le d) (turned_down lt) = absurd (omega linear)
  one_going_on (served le d) (served le' d') = one_serving d d'

  one_answer_on : OneAnswerOn rows k h limit
  one_answer_on = record {
    one_try = λ s t u x y d d'. one_try rows k h d d';
    one_serving = λ a n s b c d d'. one_serving d d';
    one_going_on = λ a n s b c d d'. one_going_on d d';
  }

pub one_answer : OneAnswer
one_answer = one_answer_on
