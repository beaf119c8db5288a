-- What the words of a command line ask for.
use Rattle.std.specs.Prelude.{◌≡◌, ◌⊎◌, ℕ, ◌<◌, List, [], ◌∷◌, ◌++◌, length, codes}
use Rattle.std.specs.List.{AllByRecursion}
use Rattle.command.specs.declared.arguments.Request.{Request}
use Rattle.command.specs.declared.arguments.Request.TheVariants.{Run, Help}

abbrev pub AsksHelp : List ℕ → Type 0
AsksHelp word = (word ≡ codes "--help") ⊎ (word ≡ codes "-h")

-- no words ask for a run, and one or more that all ask for help ask for it
abbrev pub Asks : List (List ℕ) → Request → Type 0
Asks words Run = words ≡ []
Asks words Help = (0 < length words) × AllByRecursion AsksHelp words

-- the first word that does not ask for help
pub record FirstOther (words : List (List ℕ)) (word : List ℕ) : Type 0 where
  pub before : List (List ℕ)
  pub after : List (List ℕ)
  pub whole : words ≡ before ++ word ∷ after
  pub help : AllByRecursion AsksHelp before
  pub other : AsksHelp word → ⊥
