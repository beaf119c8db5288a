-- A put, read as SIMP's update of the memory.
use Rattle.std.proofs.Common.{◌≡◌, ℕ, ℤ, Ok, sym, ap, inl, inr}
use mathlib.Core.Path.{fun_ext}
use Rattle.std.proofs.lemmas.Bool.Decides.{eqb_tells}
use Rattle.cells.proofs.Laws.{answer_accepted, read_back}
use Rattle.semantics.specs.Cells.{Cells, asked, written}
use Rattle.semantics.specs.Simp.{update}
use Rattle.semantics.specs.Reading.{in_memory, memory_of}

module _ (m : Cells) (l : ℕ) (a : ℤ) (accepted : asked m l a ≡ Ok tt) where
  at : (k : ℕ) → update (memory_of m) l a k ≡ memory_of (written m l a) k
  at k = elim (eqb_tells k l) [
    | inl p ↦ rw p.0 (sym (ap in_memory (read_back (m l) k a (answer_accepted (m l) l a tt accepted))))
    | inr p ↦ rw p.0
  ]

  pub updated : update (memory_of m) l a ≡ memory_of (written m l a)
  updated = fun_ext at
