-- From what a search over the locations tells to the next known cell.
use Rattle.std.proofs.Common.{◌≡◌, ℕ, ◌≤◌, ◌<◌, Some, None, Option, MatchOption, ap, ◌∙◌, inl, inr, arith}
use Rattle.std.proofs.lemmas.Bool.{cases_lt}
use Rattle.cells.specs.declared.cell.KnownCell.{KnownCell}
use Rattle.cells.specs.declared.cell.Cell.{Cell}
use Rattle.cells.specs.declared.cell.Cell.TheVariants.{Unknown, Known}
use Rattle.cells.specs.Cells.{Bounded}
use Rattle.store.specs.Known.{NextKnown}

-- what asking at k tells
abbrev pub IsTold : (ℕ → Cell) → ℕ → Option (ℕ × KnownCell) → Type 0
IsTold c k None = c k ≡ Unknown
IsTold c k (Some p) = (p.0 ≡ k) × (c k ≡ Known p.1)

pub told_next : (c : ℕ → Cell) (m : ℕ) → Bounded c → (r : Option (ℕ × KnownCell))
    → MatchOption r ((k : ℕ) → m ≤ k → k < 256 → c k ≡ Unknown) (λ y. (l : ℕ) × (m ≤ l) × (l < 256) × IsTold c l (Some y) × ((k : ℕ) → m ≤ k → k < l → c k ≡ Unknown))
    → NextKnown c m r
told_next c m bounded None h = λ k low. elim (cases_lt k 256) [ inl below ↦ h k low below | inr past ↦ bounded k past ]
told_next c m bounded (Some y) h = (omega (arith, h), ap c h.3.0 ∙ h.3.1, λ k low high. h.4 k low (omega arith))
