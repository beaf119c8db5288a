-- Two boards over equal cells have one fate, so they come to one end.
use Rattle.std.proofs.Common.{◌≡◌, ℕ, List, sym, ◌∙◌, subst}
use mathlib.Core.Path.{fun_ext}
use Rattle.loading.specs.Questions.{Loaded}
use Rattle.semantics.specs.Cells.{Cells}
use Rattle.runs.specs.Slices.{Board}
use Rattle.runs.specs.Histories.{History}
use Rattle.runs.specs.Promise.{Ended, BoardsAgree}
use Rattle.runs.proofs.Fates.{some_fate}
use Rattle.runs.proofs.Keeping.{settled, on_course, kept}

one_end : (table : List ℕ) → Loaded table → (m : Cells) (limit k₁ h₁ k₂ h₂ : ℕ) (l₁ l₂ : List ℕ) (b₁ b₂ : Board) →
    History table k₁ h₁ limit m l₁ b₁ → History table k₂ h₂ limit m l₂ b₂ → Ended b₁ → Ended b₂ → b₁ ≡ b₂
one_end table loaded m limit k₁ h₁ k₂ h₂ l₁ l₂ b₁ b₂ d₁ d₂ x₁ x₂ =
    let w = (some_fate table m limit loaded).3 in
    settled table limit (on_course table m limit k₁ h₁ l₁ b₁ d₁ w) x₁
    ∙ sym (settled table limit (on_course table m limit k₂ h₂ l₂ b₂ d₂ w) x₂)

pub agree : BoardsAgree
agree table loaded limit m₁ m₂ same k₁ h₁ k₂ h₂ l₁ l₂ b₁ b₂ d₁ d₂ =
    let d₁' : History table k₁ h₁ limit m₂ l₁ b₁ = subst (λ m. History table k₁ h₁ limit m l₁ b₁) (fun_ext same) d₁ in
    record {
      first = kept table loaded m₁ limit k₁ h₁ l₁ b₁ d₁;
      second = kept table loaded m₂ limit k₂ h₂ l₂ b₂ d₂;
      one_end = one_end table loaded m₂ limit k₁ h₁ k₂ h₂ l₁ l₂ b₁ b₂ d₁' d₂;
    }
