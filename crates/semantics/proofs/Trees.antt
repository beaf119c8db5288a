-- Every row that stands reads as one tree; and what a row says of the tree that it reads as.
use Rattle.std.proofs.Common.{◌≡◌, ℕ, List, ◌∷◌, ℤ, Some, None, Option, sym, refl, ap, ◌∙◌, subst, ap₂}
use Rattle.rows.specs.declared.row.Sort.{Sort}
use Rattle.rows.specs.declared.row.Sort.TheVariants.{Integer, Boolean, Command}
use Rattle.rows.specs.declared.row.Row.{Row}
use Rattle.rows.specs.declared.row.Row.TheVariants as row
use Rattle.semantics.specs.declared.item.Control.{Control}
use Rattle.semantics.specs.declared.item.Control.TheVariants.{Whole, Finish}
use Rattle.semantics.specs.declared.item.Item.{Item}
use Rattle.semantics.specs.declared.item.Item.TheVariants as item
use Rattle.semantics.specs.Simp as simp
use Rattle.semantics.specs.Simp.{Expression, bang, literal, operation, Condition, constant, comparison, negation, conjunction}
use Rattle.semantics.specs.Simp.{skip, set, sequence, if_else, while_do, Program, C, E, B}
use Rattle.semantics.specs.Simp.{Instruction, prog, op, not_sign, and_sign, bop, assign_sign, if_sign, while_sign, val, loc}
use Rattle.semantics.specs.Reading.{Reads, as_literal, as_bang, as_operation, as_constant, as_comparison, as_negation, as_conjunction, as_skip, as_set, as_sequence, as_if, as_while}
use Rattle.semantics.specs.Reading.{ReadsControl, whole, finish_op, finish_bop, finish_not, finish_and, finish_assign, finish_if, finish_while}
use Rattle.semantics.specs.Reading.{number, truth, location, a_row, ReadsStack, then_control, ReadsResults, then_item}
use Rattle.semantics.proofs.Shape.{Stands, a_number, a_contents, an_arithmetic, a_truth, a_comparison, a_not, an_and, a_skip, an_assignment, a_sequence, a_choice, a_loop}

module _ (rows : ℕ → Option Row) where
  -- what a row of that sort reads as
  abbrev pub Tree : Sort → ℕ → Type 0
  Tree Integer p = (X : Expression) × Reads rows p (E X)
  Tree Boolean p = (X : Condition) × Reads rows p (B X)
  Tree Command p = (X : simp.Command) × Reads rows p (C X)

  pub tree : {p : ℕ} {s : Sort} → Stands rows p s → Tree s p
  tree (a_number {a} e) = (literal a, as_literal e)
  tree (a_contents {l} e) = (bang l, as_bang e)
  tree (an_arithmetic {o} e gx gy) = let x = tree gx in let y = tree gy in (operation o x.0 y.0, as_operation e x.1 y.1)
  tree (a_truth {t} e) = (constant t, as_constant e)
  tree (a_comparison {o} e gx gy) = let x = tree gx in let y = tree gy in (comparison o x.0 y.0, as_comparison e x.1 y.1)
  tree (a_not e gx) = let x = tree gx in (negation x.0, as_negation e x.1)
  tree (an_and e gx gy) = let x = tree gx in let y = tree gy in (conjunction x.0 y.0, as_conjunction e x.1 y.1)
  tree (a_skip e) = (skip, as_skip e)
  tree (an_assignment {l} e gx) = let x = tree gx in (set l x.0, as_set e x.1)
  tree (a_sequence e gx gy) = let x = tree gx in let y = tree gy in (sequence x.0 y.0, as_sequence e x.1 y.1)
  tree (a_choice e gb gx gy) = let b = tree gb in let x = tree gx in let y = tree gy in (if_else b.0 x.0 y.0, as_if e b.1 x.1 y.1)
  tree (a_loop e gb gx) = let b = tree gb in let x = tree gx in (while_do b.0 x.0, as_while e b.1 x.1)

  pub program_of : (s : Sort) (p : ℕ) → Tree s p → (P : Program) × Reads rows p P
  program_of Integer p x = (E x.0, x.1)
  program_of Boolean p x = (B x.0, x.1)
  program_of Command p x = (C x.0, x.1)

  -- what a row says of its tree
  abbrev pub Said : Option Row → Program → Type 0
  Said None Q = ⊥
  Said (Some (row.Number a)) Q = Q ≡ E (literal a)
  Said (Some (row.Contents l)) Q = Q ≡ E (bang l)
  Said (Some (row.Arithmetic o x y)) Q = (X : Expression) × (Y : Expression) × (Q ≡ E (operation o X Y)) × Reads rows x (E X) × Reads rows y (E Y)
  Said (Some (row.Truth t)) Q = Q ≡ B (constant t)
  Said (Some (row.Comparison o x y)) Q = (X : Expression) × (Y : Expression) × (Q ≡ B (comparison o X Y)) × Reads rows x (E X) × Reads rows y (E Y)
  Said (Some (row.Not x)) Q = (X : Condition) × (Q ≡ B (negation X)) × Reads rows x (B X)
  Said (Some (row.And x y)) Q = (X : Condition) × (Y : Condition) × (Q ≡ B (conjunction X Y)) × Reads rows x (B X) × Reads rows y (B Y)
  Said (Some row.Skip) Q = Q ≡ C skip
  Said (Some (row.Assignment l x)) Q = (X : Expression) × (Q ≡ C (set l X)) × Reads rows x (E X)
  Said (Some (row.Sequence x y)) Q = (X : simp.Command) × (Y : simp.Command) × (Q ≡ C (sequence X Y)) × Reads rows x (C X) × Reads rows y (C Y)
  Said (Some (row.Choice b x y)) Q = (X : Condition) × (Y : simp.Command) × (Z : simp.Command) × (Q ≡ C (if_else X Y Z)) × Reads rows b (B X) × Reads rows x (C Y) × Reads rows y (C Z)
  Said (Some (row.Loop b x)) Q = (X : Condition) × (Y : simp.Command) × (Q ≡ C (while_do X Y)) × Reads rows b (B X) × Reads rows x (C Y)

  at : (p : ℕ) (w : Row) (Q : Program) → rows p ≡ Some w → Said (Some w) Q → Said (rows p) Q
  at p w Q e z = subst (λ w. Said w Q) (sym e) z

  said : {p : ℕ} {Q : Program} → Reads rows p Q → Said (rows p) Q
  said (as_literal {p} {a} e) = at p (row.Number a) (E (literal a)) e refl
  said (as_bang {p} {l} e) = at p (row.Contents l) (E (bang l)) e refl
  said (as_operation {p} {x} {y} {o} {X} {Y} e dx dy) = at p (row.Arithmetic o x y) (E (operation o X Y)) e (X, Y, refl, dx, dy)
  said (as_constant {p} {t} e) = at p (row.Truth t) (B (constant t)) e refl
  said (as_comparison {p} {x} {y} {o} {X} {Y} e dx dy) = at p (row.Comparison o x y) (B (comparison o X Y)) e (X, Y, refl, dx, dy)
  said (as_negation {p} {x} {X} e dx) = at p (row.Not x) (B (negation X)) e (X, refl, dx)
  said (as_conjunction {p} {x} {y} {X} {Y} e dx dy) = at p (row.And x y) (B (conjunction X Y)) e (X, Y, refl, dx, dy)
  said (as_skip {p} e) = at p row.Skip (C skip) e refl
  said (as_set {p} {l} {x} {X} e dx) = at p (row.Assignment l x) (C (set l X)) e (X, refl, dx)
  said (as_sequence {p} {x} {y} {X} {Y} e dx dy) = at p (row.Sequence x y) (C (sequence X Y)) e (X, Y, refl, dx, dy)
  said (as_if {p} {b} {x} {y} {X} {Y} {Z} e db dx dy) = at p (row.Choice b x y) (C (if_else X Y Z)) e (X, Y, Z, refl, db, dx, dy)
  said (as_while {p} {b} {x} {X} {Y} e db dx) = at p (row.Loop b x) (C (while_do X Y)) e (X, Y, refl, db, dx)

  pub says_so : {p : ℕ} {Q : Program} (w : Row) → rows p ≡ Some w → Reads rows p Q → Said (Some w) Q
  says_so {Q} w e d = subst (λ w. Said w Q) e (said d)

  pub one_tree : {p : ℕ} {P Q : Program} → Reads rows p P → Reads rows p Q → P ≡ Q
  one_tree (as_literal {a} e) d = sym (says_so (row.Number a) e d)
  one_tree (as_bang {l} e) d = sym (says_so (row.Contents l) e d)
  one_tree (as_operation {x} {y} {o} {X} {Y} e dx dy) d =
      let z = says_so (row.Arithmetic o x y) e d in
      let a = one_tree dx z.3 in let b = one_tree dy z.4 in
      let a' : X ≡ z.0 = cc in let b' : Y ≡ z.1 = cc in ap₂ (λ X Y. E (operation o X Y)) a' b' ∙ sym z.2
  one_tree (as_constant {t} e) d = sym (says_so (row.Truth t) e d)
  one_tree (as_comparison {x} {y} {o} {X} {Y} e dx dy) d =
      let z = says_so (row.Comparison o x y) e d in
      let a = one_tree dx z.3 in let b = one_tree dy z.4 in
      let a' : X ≡ z.0 = cc in let b' : Y ≡ z.1 = cc in ap₂ (λ X Y. B (comparison o X Y)) a' b' ∙ sym z.2
  one_tree (as_negation {x} {X} e dx) d =
      let z = says_so (row.Not x) e d in
      let a = one_tree dx z.2 in
      let a' : X ≡ z.0 = cc in ap (λ X. B (negation X)) a' ∙ sym z.1
  one_tree (as_conjunction {x} {y} {X} {Y} e dx dy) d =
      let z = says_so (row.And x y) e d in
      let a = one_tree dx z.3 in let b = one_tree dy z.4 in
      let a' : X ≡ z.0 = cc in let b' : Y ≡ z.1 = cc in ap₂ (λ X Y. B (conjunction X Y)) a' b' ∙ sym z.2
  one_tree (as_skip e) d = sym (says_so row.Skip e d)
  one_tree (as_set {l} {x} {X} e dx) d =
      let z = says_so (row.Assignment l x) e d in
      let a = one_tree dx z.2 in
      let a' : X ≡ z.0 = cc in ap (λ X. C (set l X)) a' ∙ sym z.1
  one_tree (as_sequence {x} {y} {X} {Y} e dx dy) d =
      let z = says_so (row.Sequence x y) e d in
      let a = one_tree dx z.3 in let b = one_tree dy z.4 in
      let a' : X ≡ z.0 = cc in let b' : Y ≡ z.1 = cc in ap₂ (λ X Y. C (sequence X Y)) a' b' ∙ sym z.2
  one_tree (as_if {b} {x} {y} {X} {Y} {Z} e db dx dy) d =
      let z = says_so (row.Choice b x y) e d in
      let a = one_tree db z.4 in let b' = one_tree dx z.5 in let c = one_tree dy z.6 in
      let a' : X ≡ z.0 = cc in let b'' : Y ≡ z.1 = cc in let c' : Z ≡ z.2 = cc in
      ap₂ (λ X Y. C (if_else X Y Z)) a' b'' ∙ ap (λ Z. C (if_else z.0 z.1 Z)) c' ∙ sym z.3
  one_tree (as_while {b} {x} {X} {Y} e db dx) d =
      let z = says_so (row.Loop b x) e d in
      let a = one_tree db z.3 in let b' = one_tree dx z.4 in
      let a' : X ≡ z.0 = cc in let b'' : Y ≡ z.1 = cc in ap₂ (λ X Y. C (while_do X Y)) a' b'' ∙ sym z.2

  -- what a row says of its operator or sign
  abbrev pub Signed : Option Row → Instruction → Type 0
  Signed None I = ⊥
  Signed (Some (row.Number a)) I = ⊥
  Signed (Some (row.Contents l)) I = ⊥
  Signed (Some (row.Arithmetic o x y)) I = I ≡ op o
  Signed (Some (row.Truth t)) I = ⊥
  Signed (Some (row.Comparison o x y)) I = I ≡ bop o
  Signed (Some (row.Not x)) I = I ≡ not_sign
  Signed (Some (row.And x y)) I = I ≡ and_sign
  Signed (Some row.Skip) I = ⊥
  Signed (Some (row.Assignment l x)) I = I ≡ assign_sign
  Signed (Some (row.Sequence x y)) I = ⊥
  Signed (Some (row.Choice b x y)) I = I ≡ if_sign
  Signed (Some (row.Loop b x)) I = I ≡ while_sign

  at_sign : (p : ℕ) (w : Row) (I : Instruction) → rows p ≡ Some w → Signed (Some w) I → Signed (rows p) I
  at_sign p w I e z = subst (λ w. Signed w I) (sym e) z

  signed : {p : ℕ} {I : Instruction} → ReadsControl rows (Finish p) I → Signed (rows p) I
  signed (finish_op {p} {x} {y} {o} e) = at_sign p (row.Arithmetic o x y) (op o) e refl
  signed (finish_bop {p} {x} {y} {o} e) = at_sign p (row.Comparison o x y) (bop o) e refl
  signed (finish_not {p} {x} e) = at_sign p (row.Not x) not_sign e refl
  signed (finish_and {p} {x} {y} e) = at_sign p (row.And x y) and_sign e refl
  signed (finish_assign {p} {l} {x} e) = at_sign p (row.Assignment l x) assign_sign e refl
  signed (finish_if {p} {b} {x} {y} e) = at_sign p (row.Choice b x y) if_sign e refl
  signed (finish_while {p} {b} {x} e) = at_sign p (row.Loop b x) while_sign e refl

  -- stacks whose topmost items are known
  pub whole_read : {p : ℕ} {c : List Control} {c' : List Instruction} (w : Row) → rows p ≡ Some w → ReadsStack rows (Whole p ∷ c) c' →
      (P : Program) × (c₁ : List Instruction) × (c' ≡ prog P ∷ c₁) × ReadsStack rows c c₁ × Said (Some w) P
  whole_read w e (then_control {c' = c₁} (whole {P} d) rc) = (P, c₁, refl, rc, says_so w e d)

  pub finish_read : {p : ℕ} {c : List Control} {c' : List Instruction} (w : Row) → rows p ≡ Some w → ReadsStack rows (Finish p ∷ c) c' →
      (I : Instruction) × (c₁ : List Instruction) × (c' ≡ I ∷ c₁) × ReadsStack rows c c₁ × Signed (Some w) I
  finish_read w e (then_control {I} {c' = c₁} d rc) = (I, c₁, refl, rc, subst (λ w. Signed w I) e (signed d))

  pub number_read : {a : ℤ} {r : List Item} {r' : List simp.Result} → ReadsResults rows (item.Number a ∷ r) r' →
      (r₁ : List simp.Result) × (r' ≡ val (E (literal a)) ∷ r₁) × ReadsResults rows r r₁
  number_read (then_item {r' = r₁} number rr) = (r₁, refl, rr)

  pub truth_read : {t : mathlib.Core.Bool.Bool} {r : List Item} {r' : List simp.Result} → ReadsResults rows (item.Truth t ∷ r) r' →
      (r₁ : List simp.Result) × (r' ≡ val (B (constant t)) ∷ r₁) × ReadsResults rows r r₁
  truth_read (then_item {r' = r₁} truth rr) = (r₁, refl, rr)

  pub location_read : {l : ℕ} {r : List Item} {r' : List simp.Result} → ReadsResults rows (item.Location l ∷ r) r' →
      (r₁ : List simp.Result) × (r' ≡ loc l ∷ r₁) × ReadsResults rows r r₁
  location_read (then_item {r' = r₁} location rr) = (r₁, refl, rr)

  pub row_read : {q : ℕ} {r : List Item} {r' : List simp.Result} → ReadsResults rows (item.Row q ∷ r) r' →
      (P : Program) × (r₁ : List simp.Result) × (r' ≡ val P ∷ r₁) × Reads rows q P × ReadsResults rows r r₁
  row_read (then_item {r' = r₁} (a_row {P} d) rr) = (P, r₁, refl, d, rr)
