-- Transitions that are SIMP's own.
use Rattle.std.specs.Prelude.{◌≡◌, ℕ, ◌+◌, List}
use Rattle.rows.specs.Rows.{row_at}
use Rattle.semantics.specs.Machine.{Configuration}
use Rattle.semantics.specs.Reading.{ReadsAs}
use Rattle.semantics.specs.Simp.{Simp, SimpTakes}
use Rattle.runs.specs.Slices.{Board}
use Rattle.runs.specs.Promise.{count_of, left_of}

-- read as configurations of SIMP, s goes to t by n transitions of SIMP's own machine
abbrev pub AsSimp : List ℕ → Configuration → ℕ → Configuration → Type 0
AsSimp table s n t = (S : Simp) → ReadsAs (row_at table) s S → (T : Simp) × ReadsAs (row_at table) t T × SimpTakes S n T

-- from the count n and the configuration s, every transition up to the board b is SIMP's
abbrev pub SimpOnward : List ℕ → ℕ → Configuration → Board → Type 0
SimpOnward table n s b = (i : ℕ) × (count_of b ≡ n + i) × AsSimp table s i (left_of b)
