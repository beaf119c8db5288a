-- Numbers that the words of a line write.
use Rattle.std.specs.Prelude.{◌≡◌, ℕ, ◌<◌, ◌≤◌, List, map, Result, MatchResult}
use Rattle.std.specs.List.{AllByRecursion}
use Rattle.fields.specs.Numbers.{Word, number_of}
use Rattle.job_line.specs.declared.wrong.Wrong.{Wrong}
use Rattle.job_line.specs.declared.wrong.Wrong.TheVariants.{NotWord, TooManyPlaces, Memory}

-- the value where it may be read, else what is wrong
abbrev pub Reads : {X : Type 0} → Result X Wrong → Type 0 → X → Wrong → Type 0
Reads r P v e = MatchResult r (λ x. P × (x ≡ v)) (λ w. (P → ⊥) × (w ≡ e))

-- a number of places that a stack can have
abbrev pub Places : List ℕ → ℕ → Type 0
Places w n = Word w × (n ≡ number_of w) × (n ≤ 1000000)

pub data RefusesPlaces (w : List ℕ) : Wrong → Type 0 where
  not_word : (Word w → ⊥) → RefusesPlaces w NotWord
  too_many : Word w → 1000000 < number_of w → RefusesPlaces w TooManyPlaces

-- each word is a number, and these are the numbers
abbrev pub Numbers : List (List ℕ) → List ℕ → Type 0
Numbers ws ns = AllByRecursion Word ws × (ns ≡ map number_of ws)

-- one of the words is no number; and it says nothing of when memory is wanting
pub data RefusesNumbers (ws : List (List ℕ)) : Wrong → Type 0 where
  not_words : (AllByRecursion Word ws → ⊥) → RefusesNumbers ws NotWord
  no_memory : RefusesNumbers ws Memory
