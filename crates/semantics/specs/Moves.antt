-- The machine makes up its mind: of any configuration one thing holds, and one only.
use Rattle.std.specs.Prelude.{◌≡◌, ℕ, ◌⊎◌, Option}
use Rattle.rows.specs.declared.row.Row.{Row}
use Rattle.semantics.specs.declared.fault.Fault.{Fault}
use Rattle.semantics.specs.Machine.{Configuration, Transition, Refused, NoRuleFits}

pub record OneMove (rows : ℕ → Option Row) : Type 0 where
  pub one_transition : (s t u : Configuration) → Transition rows s t → Transition rows s u → t ≡ u
  pub one_fault : (s : Configuration) (f g : Fault) → Refused rows s f → Refused rows s g → f ≡ g
  pub not_both : (s t : Configuration) (f : Fault) → Transition rows s t → ¬ Refused rows s f
  pub one_of_three : (s : Configuration) →
      ((t : Configuration) × Transition rows s t) ⊎ (((f : Fault) × Refused rows s f) ⊎ NoRuleFits rows s)

abbrev pub MachineIsDeterministic : Type 0
MachineIsDeterministic = (rows : ℕ → Option Row) → OneMove rows
