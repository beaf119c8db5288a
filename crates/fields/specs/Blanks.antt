-- White space: what parts the fields of a text.
use Rattle.std.specs.Prelude.{◌≡◌, ℕ, ◌<◌, ◌≤◌, ◌⊎◌, List, slice_index}

-- tab, line feed, vertical tab, form feed and carriage return, which are 9 to 13; or the space
abbrev pub Blank : ℕ → Type 0
Blank b = ((9 ≤ b) × (b ≤ 13)) ⊎ (b ≡ 32)

-- each byte from i up to j, without j, is blank
abbrev pub BlankBetween : List ℕ → ℕ → ℕ → Type 0
BlankBetween text i j = (k : ℕ) → i ≤ k → k < j → Blank (slice_index text k)

-- none of them is
abbrev pub SolidBetween : List ℕ → ℕ → ℕ → Type 0
SolidBetween text i j = (k : ℕ) → i ≤ k → k < j → Blank (slice_index text k) → ⊥
