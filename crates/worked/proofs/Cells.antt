-- Records that are set one after another stand for the cells of a case.
use Rattle.std.proofs.Common.{◌≡◌, ℕ, suc, ◌<◌, ◌≤◌, cond, eqb, ltb, List, [], ◌∷◌, ◌++◌, append_assoc, refl, length, get_or, set, replicate, ℤ, pos, negsuc, sym, ap, ◌∙◌, inl, inr, arith, get_or-set_same, w32, SFits, le-leb, Some, None}
use lib.ListN.{get_or-replicate}
use Rattle.std.specs.List.{push}
use Rattle.std.proofs.lemmas.Bool.Decides.{eqb_tells, leb_tells}
use Rattle.cells.specs.declared.cell.Cell.TheVariants.{Known}
use Rattle.cells.specs.Cells.{widest, known_if}
use Rattle.cells.proofs.Laws.{located}
use Rattle.semantics.specs.Worked.{cells_with}
use Rattle.sheet.specs.declared.record.Record.{Record}
use Rattle.sheet.specs.Sheets.{sound, cell_of, blank, sheet_cells}
use Rattle.sheet.proofs.SheetLemmas.{set_spares}
use Rattle.worked.specs.declared.start.Holding.{Holding}
use Rattle.worked.specs.Setups.{held_at, held}

-- before any is set
pub plain : (r : Record) → cell_of r ≡ Known (widest None) → (k : ℕ) → sheet_cells (replicate 256 r) k ≡ cells_with [] k
plain r e k = elim (leb_tells (suc k) 256) [
  | inl p ↦ ap (known_if (ltb k 256)) (ap cell_of (get_or-replicate 256 k r blank p.1) ∙ e)
  | inr p ↦ rw p.0
]

-- one record more
set_one : (rs : List Record) (l : ℕ) (r : Record) → l < 256 → length rs ≡ 256 → (k : ℕ) → sheet_cells (set rs l r) k ≡ cond (eqb k l) (cell_of r) (sheet_cells rs k)
set_one rs l r small full k = elim (eqb_tells k l) [
  | inl p ↦
      let here : sheet_cells (set rs l r) l ≡ cell_of r =
      located (λ i. cell_of (get_or (set rs l r) i blank)) l small ∙ ap cell_of (get_or-set_same rs l r blank (omega arith)) in
      ap (sheet_cells (set rs l r)) p.1 ∙ here ∙ sym (ap (λ b. cond b (cell_of r) (sheet_cells rs k)) p.0)
  | inr p ↦ set_spares rs l r k p.1 ∙ sym (ap (λ b. cond b (cell_of r) (sheet_cells rs k)) p.0)
]

-- one holding more, before those that are done
pub one_more :
    (done : List Holding) (h : Holding) (rs : List Record) (r : Record) → length rs ≡ 256 → h.location < 256 → cell_of r ≡ (held_at h).1 →
    ((k : ℕ) → sheet_cells rs k ≡ cells_with (held done) k) →
    (k : ℕ) → sheet_cells (set rs h.location r) k ≡ cells_with (held (h ∷ done)) k
one_more done h rs r full small stands before k =
    set_one rs h.location r small full k
    ∙ ap (λ c. cond (eqb k h.location) c (sheet_cells rs k)) stands
    ∙ ap (cond (eqb k h.location) (held_at h).1) (before k)

-- the last of those that are left comes before those that are done
pub one_left : (all left left' done : List Holding) (h : Holding) → all ≡ left ++ done → left ≡ push left' h → all ≡ left' ++ (h ∷ done)
one_left all left left' done h e q = e ∙ ap (λ l. l ++ done) q ∙ append_assoc left' (h ∷ []) done

none_of : (xs : List Holding) → length xs ≡ 0 → xs ≡ []
none_of [] e = refl
none_of (x ∷ xs) e = absurd (omega (arith, e))

pub all_done : (all left done : List Holding) → all ≡ left ++ done → length left ≡ 0 → all ≡ done
all_done all left done e q = e ∙ ap (λ l. l ++ done) (none_of left q)

-- every number of 32 bits lies within the widest limits
pub fitting : (n : ℤ) → SFits w32 n → sound (widest (Some n)) ≡ Known (widest (Some n))
fitting (pos n) f = let h : n ≤ 2147483647 = omega (arith, f.sfits) in rw (le-leb n 2147483647 h)
fitting (negsuc n) f = let h : n ≤ 2147483647 = omega (arith, f.sfits) in rw (le-leb n 2147483647 h)
