-- Cells that are put together from others meet the laws of a store.
use Rattle.std.specs.Prelude.{◌≡◌, ℕ, suc, Bool, true, false, cond, nat_lt, refl}
use Rattle.std.proofs.Common.{inl, inr, arith}
use Rattle.std.proofs.lemmas.Bool.Decides.{leb_tells}
use Rattle.cells.specs.declared.cell.Cell.{Cell}
use Rattle.cells.specs.declared.cell.Cell.TheVariants.{Unknown, Known}
use Rattle.cells.specs.Cells.{Lawful, Bounded, known_if, at_locations, fixed}

pub if_lawful : (b : Bool) (c : Cell) → Lawful c → Lawful (known_if b c)
if_lawful true c p = p
if_lawful false c p = tt

pub either_lawful : (b : Bool) (c d : Cell) → Lawful c → Lawful d → Lawful (cond b c d)
either_lawful true c d p q = p
either_lawful false c d p q = q

pub fixed_lawful : (c : Cell) → Lawful c → Lawful (fixed c)
fixed_lawful Unknown p = p
fixed_lawful (Known h) p = p

pub located_lawful : (c : ℕ → Cell) (k : ℕ) → Lawful (c k) → Lawful (at_locations c k)
located_lawful c k p = if_lawful (nat_lt k 256) (c k) p

pub located_bounded : (c : ℕ → Cell) → Bounded (at_locations c)
located_bounded c k h =
    elim (leb_tells (suc k) 256) [
      | inl p ↦ let none : ⊥ = omega arith in absurd none
      | inr p ↦ rw p.0
    ]

pub either_same : (b : Bool) (c : Cell) → cond b c c ≡ c
either_same true c = refl
either_same false c = refl
