-- What one pass over the rows of a table finds out: the steps to loading's answer.
use Rattle.std.specs.Prelude.{◌≡◌, ℕ, ◌<◌, ◌≤◌, List, slice_index_or}
use Rattle.rows.specs.Rows.{rows}
use Rattle.loading.specs.declared.needs.Needs.{Needs}
use Rattle.loading.specs.declared.refusal.Refusal.{Refusal}
use Rattle.loading.specs.declared.refusal.Refusal.TheVariants as no
use Rattle.loading.specs.Questions.{Yes}
use Rattle.loading.specs.Stacks.{nothing, needs_at}

-- the row p gets a yes to 2, 3, 4, 5 and 6
abbrev pub RowPasses : List ℕ → ℕ → Type 0
RowPasses table p = Yes table (no.Kind p) × Yes table (no.Unused p) × Yes table (no.Range p) × Yes table (no.Forward p) × Yes table (no.Mismatch p)

-- the row p gets its first no as the refusal says
abbrev pub RowRefused : List ℕ → ℕ → Refusal → Type 0
RowRefused table p no.Length = ⊥
RowRefused table p (no.Kind q) = (q ≡ p) × (Yes table (no.Kind p) → ⊥)
RowRefused table p (no.Unused q) = (q ≡ p) × Yes table (no.Kind p) × (Yes table (no.Unused p) → ⊥)
RowRefused table p (no.Range q) = (q ≡ p) × Yes table (no.Kind p) × Yes table (no.Unused p) × (Yes table (no.Range p) → ⊥)
RowRefused table p (no.Forward q) =
    (q ≡ p) × Yes table (no.Kind p) × Yes table (no.Unused p) × Yes table (no.Range p) × (Yes table (no.Forward p) → ⊥)
RowRefused table p (no.Mismatch q) =
    (q ≡ p) × Yes table (no.Kind p) × Yes table (no.Unused p) × Yes table (no.Range p) × Yes table (no.Forward p) × (Yes table (no.Mismatch p) → ⊥)
RowRefused table p (no.NotCommand q) = ⊥

-- the needs that a list has at x
abbrev pub known_of : List Needs → ℕ → Needs
known_of known x = slice_index_or known x nothing

-- needs from which those of one more row fit 16 bits
abbrev pub Small : Needs → Type 0
Small n = (n.control ≤ 8192) × (n.results ≤ 8192)

-- every row passes, and the list has the needs of each
pub record Surveyed (table : List ℕ) (known : List Needs) : Type 0 where
  pub passes : (k : ℕ) → k < rows table → RowPasses table k
  pub needs : (k : ℕ) → k < rows table → known_of known k ≡ needs_at table k
