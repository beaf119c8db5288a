-- The first line of a text.
use Rattle.std.specs.Prelude.{◌≡◌, ℕ, ◌⊎◌, List, []}
use Rattle.job_line.specs.Splits.{Lacks, Parted}

-- a line feed ends the line, or the text does
abbrev pub FirstLine : List ℕ → List ℕ → List ℕ → Type 0
FirstLine text line rest = Parted 10 text line rest ⊎ (Lacks 10 text × (line ≡ text) × (rest ≡ []))
