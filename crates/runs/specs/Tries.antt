-- One transition, tried on stacks that have so many places.
use Rattle.std.specs.Prelude.{ℕ, Ok, Err, Option, Result}
use Rattle.rows.specs.declared.row.Row.{Row}
use Rattle.semantics.specs.declared.fault.Fault.{Fault}
use Rattle.semantics.specs.Machine.{Configuration, Transition, Refused, NoRuleFits}
use Rattle.semantics.specs.Traces.{Fits, ReadsWithin}
use Rattle.runs.specs.declared.end.Stop.{Stop}
use Rattle.runs.specs.declared.end.Stop.TheVariants as stop

-- the rows, and the places of the control stack and of the results stack
module _ (rows : ℕ → Option Row) (k h : ℕ) where
  -- What is answered, and the configuration that is left. Whether a rule fits and its items have their places is asked
  -- before any question of the store or of arithmetic.
  pub data Tried (s : Configuration) : Result (Unit {0}) Stop → Configuration → Type 0 where
    made : {t : Configuration} → Transition rows s t → Fits k h t → Tried s (Ok tt) t
    no_rule : NoRuleFits rows s → Tried s (Err stop.Stuck) s
    no_room : {t : Configuration} → Transition rows s t → ¬ Fits k h t → Tried s (Err stop.Stuck) s
    no_room_to_read : {f : Fault} → Refused rows s f → ¬ ReadsWithin h s → Tried s (Err stop.Stuck) s
    refused : {f : Fault} → Refused rows s f → ReadsWithin h s → Tried s (Err (stop.Fault f)) s
