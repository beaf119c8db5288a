-- Two frames of one slice each.
use Rattle.std.specs.Prelude.{List, [], ◌∷◌, ◌⊎◌, ℕ, ◌<◌}
use Rattle.semantics.specs.Machine.{Configuration}
use Rattle.semantics.specs.Cuts.{largest_slice}
use Rattle.runs.specs.Slices.{Board, running}
use Rattle.runs.specs.Histories.{GoesThrough}
use Rattle.runs.specs.Promise.{Ended}

-- the second frame is made unless the run ended in the first, or the slice was turned down
abbrev pub Frames : List ℕ → ℕ → ℕ → ℕ → ℕ → ℕ → Configuration → Board → Type 0
Frames table k h limit a n s b =
    (GoesThrough table k h limit (running n s) (a ∷ []) b × (Ended b ⊎ (largest_slice < a)))
    ⊎ GoesThrough table k h limit (running n s) (a ∷ a ∷ []) b
