-- What every loaded table is: the laws that the layers above rest on.
use Rattle.std.specs.Prelude.{◌≡◌, ℕ, ◌<◌, ◌≤◌, List, Some}
use Rattle.rows.specs.declared.row.Sort.TheVariants.{Command}
use Rattle.rows.specs.declared.row.Row.{Row}
use Rattle.rows.specs.Parts.{HasSort, SoundParts}
use Rattle.rows.specs.Rows.{rows, row_at, last_row}
use Rattle.loading.specs.Stacks.{needs_at, Settled}

pub record WellFormed (table : List ℕ) : Type 0 where
  -- it has from 1 to 4,096 rows
  pub sized : (1 ≤ rows table) × (rows table ≤ 4096)
  -- each of them decodes
  pub there : (p : ℕ) → p < rows table → (r : Row) × (row_at table p ≡ Some r)
  -- the rows that a row names lie below it and are of the sorts that it asks
  pub parts : (p : ℕ) (r : Row) → row_at table p ≡ Some r → SoundParts table p r
  -- the last row is a command
  pub program : HasSort table Command (last_row table)
  -- the needs of the rows meet their equations, and no others do
  pub settled : Settled table (needs_at table)
