-- When bytes are no parameters of a cover.
use Rattle.std.proofs.Common.{◌≡◌, ℕ, List, sym, ◌∙◌, subst}
use Rattle.job_line.specs.Makes.{Byte, FromTo}
use Rattle.job_line.specs.Splits.{Lacks, Parted}
use Rattle.job_line.proofs.Parting.{lacks_none, one_parting, digits_lack}

abbrev pub NoParameters : List ℕ → Type 0
NoParameters p = (a b : ℕ) → FromTo p a b → ⊥

pub no_colon : (p : List ℕ) → Lacks 58 p → NoParameters p
no_colon p lacks a b h = lacks_none 58 h.0 h.1 (subst (Lacks 58) h.2 lacks)

module _ (p x y : List ℕ) (parted : Parted 58 p x y) where
  same : (a b : ℕ) (h : FromTo p a b) → (x ≡ h.0) × (y ≡ h.1)
  same a b h = one_parting 58 x y h.0 h.1 (sym parted.whole ∙ h.2) parted.first (digits_lack h.0 h.3.0.1)

  pub no_first : (Byte x → ⊥) → NoParameters p
  no_first never a b h = never (subst Byte (sym (same a b h).0) h.3)

  pub no_last : (Byte y → ⊥) → NoParameters p
  no_last never a b h = never (subst Byte (sym (same a b h).1) h.4)
