-- How many places a row's run needs on the control stack and on the results stack.
use Rattle.std.specs.Prelude.{◌≡◌, ℕ, zero, suc, ◌+◌, ◌<◌, max, cond, List, Some, None, Option, ◌==◌}
use Rattle.loading.specs.declared.needs.Needs.{Needs}
use Rattle.rows.specs.declared.row.Row.{Row}
use Rattle.rows.specs.declared.row.Row.TheVariants as row
use Rattle.rows.specs.Rows.{rows, row_at}

-- on the control stack, from what the parts need there
abbrev pub control_need : (ℕ → ℕ) → Row → ℕ
control_need K (row.Number n) = 1
control_need K (row.Contents l) = 1
control_need K (row.Arithmetic o x y) = max (K x + 2) (K y + 1)
control_need K (row.Truth t) = 1
control_need K (row.Comparison r x y) = max (K x + 2) (K y + 1)
control_need K (row.Not x) = K x + 1
control_need K (row.And x y) = max (K x + 2) (K y + 1)
control_need K row.Skip = 1
control_need K (row.Assignment l x) = K x + 1
control_need K (row.Sequence x y) = max (K x + 1) (K y)
control_need K (row.Choice b x y) = max (K b + 1) (max (K x) (K y))
control_need K (row.Loop b x) = max (K b) (K x) + 1

-- on the results stack, from what the parts need there
abbrev pub results_need : (ℕ → ℕ) → Row → ℕ
results_need R (row.Number n) = 1
results_need R (row.Contents l) = 1
results_need R (row.Arithmetic o x y) = max (R x) (R y + 1)
results_need R (row.Truth t) = 1
results_need R (row.Comparison r x y) = max (R x) (R y + 1)
results_need R (row.Not x) = R x
results_need R (row.And x y) = max (R x) (R y + 1)
results_need R row.Skip = 0
results_need R (row.Assignment l x) = R x + 1
results_need R (row.Sequence x y) = max (R x) (R y)
results_need R (row.Choice b x y) = max (R b + 2) (max (R x) (R y))
results_need R (row.Loop b x) = max (R b + 2) (R x)

-- on both, from what the parts need
abbrev pub needed : (ℕ → Needs) → Row → Needs
needed n r = record { control = control_need (λ x. (n x).control) r; results = results_need (λ x. (n x).results) r }

-- n gives every row of the table what it needs
abbrev pub MeetsNeeds : List ℕ → (ℕ → Needs) → Type 0
MeetsNeeds table n = (p : ℕ) (r : Row) → row_at table p ≡ Some r → n p ≡ needed n r

abbrev pub nothing : Needs
nothing = record { control = 0; results = 0 }

-- a row that is not there needs nothing
abbrev pub of_row : (ℕ → Needs) → Option Row → Needs
of_row n None = nothing
of_row n (Some r) = needed n r

-- the needs of the rows below n, a row after the other
unfoldable pub needs_below : List ℕ → ℕ → ℕ → Needs
needs_below table zero p = nothing
needs_below table (suc n) p = cond (p == n) (of_row (needs_below table n) (row_at table n)) (needs_below table n p)

-- the needs of the row p: the one way to meet the equations of a loaded table
unfoldable pub needs_at : List ℕ → ℕ → Needs
needs_at table p = needs_below table (suc p) p

-- n meets every row's equation, and nothing else does
pub record Settled (table : List ℕ) (n : ℕ → Needs) : Type 0 where
  pub meets : MeetsNeeds table n
  pub only : (f : ℕ → Needs) → MeetsNeeds table f → (p : ℕ) → p < rows table → f p ≡ n p
