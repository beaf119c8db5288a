-- Beginning a run: the questions in their order, and what is left.
use Rattle.std.specs.Prelude.{◌≡◌, ℕ, cond, ◌&&◌, List, Some, None, Ok, Err, Option, Result, nat_le}
use Rattle.rows.specs.Rows.{last_row}
use Rattle.loading.specs.Stacks.{needs_at}
use Rattle.semantics.specs.Machine.{Configuration, cells_of}
use Rattle.semantics.specs.WholeRuns.{program_over}
use Rattle.runs.specs.Histories.{largest_limit, Admits}
use Rattle.machine.specs.declared.run.Running.{Running}
use Rattle.machine.specs.declared.run.BeginRefusal.{BeginRefusal}
use Rattle.machine.specs.declared.run.BeginRefusal.TheVariants as no

-- the first no: of the limit, of the control stack's places, of the results stack's
abbrev pub first_no : List ℕ → ℕ → ℕ → ℕ → Option BeginRefusal
first_no table k h limit =
    cond (nat_le 1 limit && nat_le limit largest_limit)
    (cond (nat_le (needs_at table (last_row table)).control k)
    (cond (nat_le (needs_at table (last_row table)).results h) None (Some no.ResultsPlaces))
    (Some no.ControlPlaces))
    (Some no.Limit)

-- Begin was asked in the configuration s, and answered.
pub data Begins (table : List ℕ) (k h limit : ℕ) (s : Configuration) : Result Running BeginRefusal → Configuration → Type 0 where
  -- Every question got a yes: the count is 0, and the program stands alone on the stacks, over the same cells.
  begins : first_no table k h limit ≡ None → Admits table k h limit →
      Begins table k h limit s (Ok (record { count = 0; limit = limit })) (program_over table (cells_of s))
  -- One got a no: nothing is changed.
  refuses : {e : BeginRefusal} → first_no table k h limit ≡ Some e → Begins table k h limit s (Err e) s
