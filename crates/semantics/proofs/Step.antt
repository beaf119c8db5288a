-- The machine as a function, and that it is the relation: so the machine is deterministic.
use Rattle.std.proofs.Common.{◌≡◌, ℕ, Bool, true, false, cond, not, ◌&&◌, eqb, ◌⊎◌, List, [], ◌∷◌, ℤ, Some, None, Ok, Err, Option, Result, sym, refl, ap, ◌∙◌, subst, subst₂, inl, inr, arith as linear, eq-eqb}
use Rattle.std.proofs.lemmas.Bool.Decides.{eqb_tells}
use Rattle.cells.specs.declared.fault.StoreFault.{StoreFault}
use Rattle.rows.specs.declared.row.Operator.{Operator}
use Rattle.rows.specs.declared.row.Row.{Row}
use Rattle.rows.specs.declared.row.Row.TheVariants as row
use Rattle.semantics.specs.declared.arithmetic.ArithmeticFault.{ArithmeticFault}
use Rattle.semantics.specs.declared.fault.Cause.TheVariants.{Store, Arithmetic}
use Rattle.semantics.specs.declared.fault.Fault.{Fault}
use Rattle.semantics.specs.declared.item.Control.{Control}
use Rattle.semantics.specs.declared.item.Control.TheVariants.{Whole, Finish}
use Rattle.semantics.specs.declared.item.Item.{Item}
use Rattle.semantics.specs.declared.item.Item.TheVariants as item
use Rattle.semantics.specs.Arithmetic.{computed, compared}
use Rattle.semantics.specs.Faults.{fault_at}
use Rattle.semantics.specs.Cells.{Cells, read, asked, written}
use Rattle.semantics.specs.Machine.{Configuration, conf, Refused, contents_refused, arithmetic_refused, assignment_refused, NoRuleFits}
use Rattle.semantics.specs.Machine.{Transition, number, contents, truth, arithmetic, finish_arithmetic, comparison, finish_comparison, negation, finish_negation, conjunction, finish_conjunction}
use Rattle.semantics.specs.Machine.{skip, assignment, finish_assignment, sequence, choice, finish_true, finish_false, loop, finish_turning, finish_leaving}
use Rattle.semantics.specs.Moves.{OneMove, MachineIsDeterministic}

-- what the machine makes of a configuration
pub data Move : Type 0 where
  goes : Configuration → Move
  refused : Fault → Move
  stuck : Move

-- the topmost result, where it is of that kind
abbrev with_number : List Item → (ℤ → List Item → Move) → Move
with_number [] k = stuck
with_number (item.Number a ∷ r) k = k a r
with_number (item.Truth t ∷ r) k = stuck
with_number (item.Location l ∷ r) k = stuck
with_number (item.Row q ∷ r) k = stuck

abbrev with_truth : List Item → (Bool → List Item → Move) → Move
with_truth [] k = stuck
with_truth (item.Number a ∷ r) k = stuck
with_truth (item.Truth t ∷ r) k = k t r
with_truth (item.Location l ∷ r) k = stuck
with_truth (item.Row q ∷ r) k = stuck

abbrev with_location : List Item → (ℕ → List Item → Move) → Move
with_location [] k = stuck
with_location (item.Number a ∷ r) k = stuck
with_location (item.Truth t ∷ r) k = stuck
with_location (item.Location l ∷ r) k = k l r
with_location (item.Row q ∷ r) k = stuck

abbrev with_row : List Item → (ℕ → List Item → Move) → Move
with_row [] k = stuck
with_row (item.Number a ∷ r) k = stuck
with_row (item.Truth t ∷ r) k = stuck
with_row (item.Location l ∷ r) k = stuck
with_row (item.Row q ∷ r) k = k q r

abbrev same : ℕ → ℕ → Move → Move
same x y w = cond (eqb x y) w stuck

abbrev given : Result ℤ StoreFault → ℕ → List Control → List Item → Cells → Move
given (Ok a) p c r m = goes (conf c (item.Number a ∷ r) m)
given (Err f) p c r m = refused (fault_at p (Store f))

abbrev made : Result ℤ ArithmeticFault → ℕ → List Control → List Item → Cells → Move
made (Ok a) p c r m = goes (conf c (item.Number a ∷ r) m)
made (Err f) p c r m = refused (fault_at p (Arithmetic f))

abbrev put : Result (Unit {0}) StoreFault → ℕ → Cells → List Control → List Item → Move
put (Ok tt) p m c r = goes (conf c r m)
put (Err f) p m c r = refused (fault_at p (Store f))

abbrev chosen : Bool → ℕ → ℕ → List Control → List Item → Cells → Move
chosen true x y c r m = goes (conf (Whole x ∷ c) r m)
chosen false x y c r m = goes (conf (Whole y ∷ c) r m)

abbrev turned : Bool → ℕ → ℕ → List Control → List Item → Cells → Move
turned true x p c r m = goes (conf (Whole x ∷ Whole p ∷ c) r m)
turned false x p c r m = goes (conf c r m)

abbrev pub opened : Option Row → ℕ → List Control → List Item → Cells → Move
opened None p c r m = stuck
opened (Some (row.Number a)) p c r m = goes (conf c (item.Number a ∷ r) m)
opened (Some (row.Contents l)) p c r m = given (read m l) p c r m
opened (Some (row.Arithmetic o x y)) p c r m = goes (conf (Whole x ∷ Whole y ∷ Finish p ∷ c) r m)
opened (Some (row.Truth t)) p c r m = goes (conf c (item.Truth t ∷ r) m)
opened (Some (row.Comparison o x y)) p c r m = goes (conf (Whole x ∷ Whole y ∷ Finish p ∷ c) r m)
opened (Some (row.Not x)) p c r m = goes (conf (Whole x ∷ Finish p ∷ c) r m)
opened (Some (row.And x y)) p c r m = goes (conf (Whole x ∷ Whole y ∷ Finish p ∷ c) r m)
opened (Some row.Skip) p c r m = goes (conf c r m)
opened (Some (row.Assignment l x)) p c r m = goes (conf (Whole x ∷ Finish p ∷ c) (item.Location l ∷ r) m)
opened (Some (row.Sequence x y)) p c r m = goes (conf (Whole x ∷ Whole y ∷ c) r m)
opened (Some (row.Choice b x y)) p c r m = goes (conf (Whole b ∷ Finish p ∷ c) (item.Row x ∷ item.Row y ∷ r) m)
opened (Some (row.Loop b x)) p c r m = goes (conf (Whole b ∷ Finish p ∷ c) (item.Row b ∷ item.Row x ∷ r) m)

abbrev pub closed : Option Row → ℕ → List Control → List Item → Cells → Move
closed None p c r m = stuck
closed (Some (row.Number a)) p c r m = stuck
closed (Some (row.Contents l)) p c r m = stuck
closed (Some (row.Arithmetic o x y)) p c r m = with_number r (λ b r₁. with_number r₁ (λ a r₂. made (computed o a b) p c r₂ m))
closed (Some (row.Truth t)) p c r m = stuck
closed (Some (row.Comparison o x y)) p c r m = with_number r (λ b r₁. with_number r₁ (λ a r₂. goes (conf c (item.Truth (compared o a b) ∷ r₂) m)))
closed (Some (row.Not x)) p c r m = with_truth r (λ t r₁. goes (conf c (item.Truth (not t) ∷ r₁) m))
closed (Some (row.And x y)) p c r m = with_truth r (λ t r₁. with_truth r₁ (λ s r₂. goes (conf c (item.Truth (s && t) ∷ r₂) m)))
closed (Some row.Skip) p c r m = stuck
closed (Some (row.Assignment l x)) p c r m = with_number r (λ a r₁. with_location r₁ (λ l' r₂. same l' l (put (asked m l a) p (written m l a) c r₂)))
closed (Some (row.Sequence x y)) p c r m = stuck
closed (Some (row.Choice b x y)) p c r m = with_truth r (λ t r₁. with_row r₁ (λ x' r₂. with_row r₂ (λ y' r₃. same x' x (same y' y (chosen t x y c r₃ m)))))
closed (Some (row.Loop b x)) p c r m = with_truth r (λ t r₁. with_row r₁ (λ b' r₂. with_row r₂ (λ x' r₃. same b' b (same x' x (turned t x p c r₃ m)))))

module _ (rows : ℕ → Option Row) where
  abbrev pub step : Configuration → Move
  step (conf [] r m) = stuck
  step (conf (Whole p ∷ c) r m) = opened (rows p) p c r m
  step (conf (Finish p ∷ c) r m) = closed (rows p) p c r m

  pub opens : {p : ℕ} {w : Row} → rows p ≡ Some w → (c : List Control) (r : List Item) (m : Cells) → step (conf (Whole p ∷ c) r m) ≡ opened (Some w) p c r m
  opens {p} e c r m = ap (λ w. opened w p c r m) e

  pub closes : {p : ℕ} {w : Row} → rows p ≡ Some w → (c : List Control) (r : List Item) (m : Cells) → step (conf (Finish p ∷ c) r m) ≡ closed (Some w) p c r m
  closes {p} e c r m = ap (λ w. closed w p c r m) e

  is_same : (x : ℕ) (w : Move) → same x x w ≡ w
  is_same x w = rw (eq-eqb x x refl)

  are_same : (x y : ℕ) (w : Move) → same x x (same y y w) ≡ w
  are_same x y w = is_same x (same y y w) ∙ is_same y w

  -- a transition of the relation is the function's
  pub made_so : {s t : Configuration} → Transition rows s t → step s ≡ goes t
  made_so (number {c} {r} {m} e) = opens e c r m
  made_so (contents {p} {c} {r} {m} e q) = opens e c r m ∙ ap (λ w. given w p c r m) q
  made_so (truth {c} {r} {m} e) = opens e c r m
  made_so (arithmetic {c} {r} {m} e) = opens e c r m
  made_so (finish_arithmetic {p} {a} {b} {c} {r} {m} e q) = closes e c (item.Number b ∷ item.Number a ∷ r) m ∙ ap (λ w. made w p c r m) q
  made_so (comparison {c} {r} {m} e) = opens e c r m
  made_so (finish_comparison {a} {b} {c} {r} {m} e) = closes e c (item.Number b ∷ item.Number a ∷ r) m
  made_so (negation {c} {r} {m} e) = opens e c r m
  made_so (finish_negation {t} {c} {r} {m} e) = closes e c (item.Truth t ∷ r) m
  made_so (conjunction {c} {r} {m} e) = opens e c r m
  made_so (finish_conjunction {s} {t} {c} {r} {m} e) = closes e c (item.Truth t ∷ item.Truth s ∷ r) m
  made_so (skip {c} {r} {m} e) = opens e c r m
  made_so (assignment {c} {r} {m} e) = opens e c r m
  made_so (finish_assignment {p} {l} {a} {c} {r} {m} e q) =
      closes e c (item.Number a ∷ item.Location l ∷ r) m ∙ is_same l (put (asked m l a) p (written m l a) c r) ∙ ap (λ w. put w p (written m l a) c r) q
  made_so (sequence {c} {r} {m} e) = opens e c r m
  made_so (choice {c} {r} {m} e) = opens e c r m
  made_so (finish_true {x} {y} {c} {r} {m} e) = closes e c (item.Truth true ∷ item.Row x ∷ item.Row y ∷ r) m ∙ are_same x y (chosen true x y c r m)
  made_so (finish_false {x} {y} {c} {r} {m} e) = closes e c (item.Truth false ∷ item.Row x ∷ item.Row y ∷ r) m ∙ are_same x y (chosen false x y c r m)
  made_so (loop {c} {r} {m} e) = opens e c r m
  made_so (finish_turning {p} {b} {x} {c} {r} {m} e) = closes e c (item.Truth true ∷ item.Row b ∷ item.Row x ∷ r) m ∙ are_same b x (turned true x p c r m)
  made_so (finish_leaving {p} {b} {x} {c} {r} {m} e) = closes e c (item.Truth false ∷ item.Row b ∷ item.Row x ∷ r) m ∙ are_same b x (turned false x p c r m)

  pub refused_so : {s : Configuration} {f : Fault} → Refused rows s f → step s ≡ refused f
  refused_so (contents_refused {p} {c} {r} {m} e q) = opens e c r m ∙ ap (λ w. given w p c r m) q
  refused_so (arithmetic_refused {p} {a} {b} {c} {r} {m} e q) = closes e c (item.Number b ∷ item.Number a ∷ r) m ∙ ap (λ w. made w p c r m) q
  refused_so (assignment_refused {p} {l} {a} {c} {r} {m} e q) =
      closes e c (item.Number a ∷ item.Location l ∷ r) m ∙ is_same l (put (asked m l a) p (written m l a) c r) ∙ ap (λ w. put w p (written m l a) c r) q

  -- what the function answers, the relation has
  abbrev pub Shown : Configuration → Move → Type 0
  Shown s (goes t) = Transition rows s t
  Shown s (refused f) = Refused rows s f
  Shown s stuck = Unit {0}

  -- the results are `laid` on those that are looked at
  by_number : (c : List Control) (m : Cells) (laid : List Item → List Item) (r : List Item) (k : ℤ → List Item → Move) →
      ((a : ℤ) (r₁ : List Item) → Shown (conf c (laid (item.Number a ∷ r₁)) m) (k a r₁)) → Shown (conf c (laid r) m) (with_number r k)
  by_number c m laid [] k h = tt
  by_number c m laid (item.Number a ∷ r) k h = h a r
  by_number c m laid (item.Truth t ∷ r) k h = tt
  by_number c m laid (item.Location l ∷ r) k h = tt
  by_number c m laid (item.Row q ∷ r) k h = tt

  by_truth : (c : List Control) (m : Cells) (laid : List Item → List Item) (r : List Item) (k : Bool → List Item → Move) →
      ((t : Bool) (r₁ : List Item) → Shown (conf c (laid (item.Truth t ∷ r₁)) m) (k t r₁)) → Shown (conf c (laid r) m) (with_truth r k)
  by_truth c m laid [] k h = tt
  by_truth c m laid (item.Number a ∷ r) k h = tt
  by_truth c m laid (item.Truth t ∷ r) k h = h t r
  by_truth c m laid (item.Location l ∷ r) k h = tt
  by_truth c m laid (item.Row q ∷ r) k h = tt

  by_location : (c : List Control) (m : Cells) (laid : List Item → List Item) (r : List Item) (k : ℕ → List Item → Move) →
      ((l : ℕ) (r₁ : List Item) → Shown (conf c (laid (item.Location l ∷ r₁)) m) (k l r₁)) → Shown (conf c (laid r) m) (with_location r k)
  by_location c m laid [] k h = tt
  by_location c m laid (item.Number a ∷ r) k h = tt
  by_location c m laid (item.Truth t ∷ r) k h = tt
  by_location c m laid (item.Location l ∷ r) k h = h l r
  by_location c m laid (item.Row q ∷ r) k h = tt

  by_row : (c : List Control) (m : Cells) (laid : List Item → List Item) (r : List Item) (k : ℕ → List Item → Move) →
      ((q : ℕ) (r₁ : List Item) → Shown (conf c (laid (item.Row q ∷ r₁)) m) (k q r₁)) → Shown (conf c (laid r) m) (with_row r k)
  by_row c m laid [] k h = tt
  by_row c m laid (item.Number a ∷ r) k h = tt
  by_row c m laid (item.Truth t ∷ r) k h = tt
  by_row c m laid (item.Location l ∷ r) k h = tt
  by_row c m laid (item.Row q ∷ r) k h = h q r

  by_same : (s : Configuration) (x y : ℕ) (w : Move) → (x ≡ y → Shown s w) → Shown s (same x y w)
  by_same s x y w k = elim (eqb_tells x y) [ inl q ↦ rw q.0 (k q.1) | inr q ↦ rw q.0 tt ]

  given_shown : {p l : ℕ} (c : List Control) (r : List Item) (m : Cells) → rows p ≡ Some (row.Contents l) → (v : Result ℤ StoreFault) → read m l ≡ v →
      Shown (conf (Whole p ∷ c) r m) (given v p c r m)
  given_shown c r m e (Ok a) q = contents e q
  given_shown c r m e (Err f) q = contents_refused e q

  made_shown : {p x y : ℕ} {o : Operator} (a b : ℤ) (c : List Control) (r : List Item) (m : Cells) → rows p ≡ Some (row.Arithmetic o x y) →
      (v : Result ℤ ArithmeticFault) → computed o a b ≡ v → Shown (conf (Finish p ∷ c) (item.Number b ∷ item.Number a ∷ r) m) (made v p c r m)
  made_shown a b c r m e (Ok z) q = finish_arithmetic e q
  made_shown a b c r m e (Err f) q = arithmetic_refused e q

  put_shown : {p l x : ℕ} (a : ℤ) (c : List Control) (r : List Item) (m : Cells) → rows p ≡ Some (row.Assignment l x) →
      (v : Result (Unit {0}) StoreFault) → asked m l a ≡ v → Shown (conf (Finish p ∷ c) (item.Number a ∷ item.Location l ∷ r) m) (put v p (written m l a) c r)
  put_shown a c r m e (Ok tt) q = finish_assignment e q
  put_shown a c r m e (Err f) q = assignment_refused e q

  chosen_shown : {p b x y : ℕ} (t : Bool) (c : List Control) (r : List Item) (m : Cells) → rows p ≡ Some (row.Choice b x y) →
      Shown (conf (Finish p ∷ c) (item.Truth t ∷ item.Row x ∷ item.Row y ∷ r) m) (chosen t x y c r m)
  chosen_shown true c r m e = finish_true e
  chosen_shown false c r m e = finish_false e

  turned_shown : {p b x : ℕ} (t : Bool) (c : List Control) (r : List Item) (m : Cells) → rows p ≡ Some (row.Loop b x) →
      Shown (conf (Finish p ∷ c) (item.Truth t ∷ item.Row b ∷ item.Row x ∷ r) m) (turned t x p c r m)
  turned_shown true c r m e = finish_turning e
  turned_shown false c r m e = finish_leaving e

  shown_opened : (o : Option Row) (p : ℕ) (c : List Control) (r : List Item) (m : Cells) → rows p ≡ o → Shown (conf (Whole p ∷ c) r m) (opened o p c r m)
  shown_opened None p c r m e = tt
  shown_opened (Some (row.Number a)) p c r m e = number e
  shown_opened (Some (row.Contents l)) p c r m e = given_shown c r m e (read m l) refl
  shown_opened (Some (row.Arithmetic o x y)) p c r m e = arithmetic e
  shown_opened (Some (row.Truth t)) p c r m e = truth e
  shown_opened (Some (row.Comparison o x y)) p c r m e = comparison e
  shown_opened (Some (row.Not x)) p c r m e = negation e
  shown_opened (Some (row.And x y)) p c r m e = conjunction e
  shown_opened (Some row.Skip) p c r m e = skip e
  shown_opened (Some (row.Assignment l x)) p c r m e = assignment e
  shown_opened (Some (row.Sequence x y)) p c r m e = sequence e
  shown_opened (Some (row.Choice b x y)) p c r m e = choice e
  shown_opened (Some (row.Loop b x)) p c r m e = loop e

  shown_closed : (o : Option Row) (p : ℕ) (c : List Control) (r : List Item) (m : Cells) → rows p ≡ o → Shown (conf (Finish p ∷ c) r m) (closed o p c r m)
  shown_closed None p c r m e = tt
  shown_closed (Some (row.Number a)) p c r m e = tt
  shown_closed (Some (row.Contents l)) p c r m e = tt
  shown_closed (Some (row.Arithmetic o x y)) p c r m e =
      by_number (Finish p ∷ c) m (λ z. z) r _ (λ b r₁. by_number (Finish p ∷ c) m (λ z. item.Number b ∷ z) r₁ _
      (λ a r₂. made_shown a b c r₂ m e (computed o a b) refl))
  shown_closed (Some (row.Truth t)) p c r m e = tt
  shown_closed (Some (row.Comparison o x y)) p c r m e =
      by_number (Finish p ∷ c) m (λ z. z) r _ (λ b r₁. by_number (Finish p ∷ c) m (λ z. item.Number b ∷ z) r₁ _ (λ a r₂. finish_comparison e))
  shown_closed (Some (row.Not x)) p c r m e = by_truth (Finish p ∷ c) m (λ z. z) r _ (λ t r₁. finish_negation e)
  shown_closed (Some (row.And x y)) p c r m e =
      by_truth (Finish p ∷ c) m (λ z. z) r _ (λ t r₁. by_truth (Finish p ∷ c) m (λ z. item.Truth t ∷ z) r₁ _ (λ s r₂. finish_conjunction e))
  shown_closed (Some row.Skip) p c r m e = tt
  shown_closed (Some (row.Assignment l x)) p c r m e =
      by_number (Finish p ∷ c) m (λ z. z) r _ (λ a r₁. by_location (Finish p ∷ c) m (λ z. item.Number a ∷ z) r₁ _
      (λ l' r₂. by_same (conf (Finish p ∷ c) (item.Number a ∷ item.Location l' ∷ r₂) m) l' l (put (asked m l a) p (written m l a) c r₂)
      (λ q. subst (λ i. Shown (conf (Finish p ∷ c) (item.Number a ∷ item.Location i ∷ r₂) m) (put (asked m l a) p (written m l a) c r₂)) (sym q)
      (put_shown a c r₂ m e (asked m l a) refl))))
  shown_closed (Some (row.Sequence x y)) p c r m e = tt
  shown_closed (Some (row.Choice b x y)) p c r m e =
      by_truth (Finish p ∷ c) m (λ z. z) r _ (λ t r₁. by_row (Finish p ∷ c) m (λ z. item.Truth t ∷ z) r₁ _
      (λ x' r₂. by_row (Finish p ∷ c) m (λ z. item.Truth t ∷ item.Row x' ∷ z) r₂ _
      (λ y' r₃. let s = conf (Finish p ∷ c) (item.Truth t ∷ item.Row x' ∷ item.Row y' ∷ r₃) m in
      by_same s x' x (same y' y (chosen t x y c r₃ m)) (λ qx. by_same s y' y (chosen t x y c r₃ m)
      (λ qy. subst₂ (λ i j. Shown (conf (Finish p ∷ c) (item.Truth t ∷ item.Row i ∷ item.Row j ∷ r₃) m) (chosen t x y c r₃ m)) (sym qx) (sym qy)
      (chosen_shown t c r₃ m e))))))
  shown_closed (Some (row.Loop b x)) p c r m e =
      by_truth (Finish p ∷ c) m (λ z. z) r _ (λ t r₁. by_row (Finish p ∷ c) m (λ z. item.Truth t ∷ z) r₁ _
      (λ b' r₂. by_row (Finish p ∷ c) m (λ z. item.Truth t ∷ item.Row b' ∷ z) r₂ _
      (λ x' r₃. let s = conf (Finish p ∷ c) (item.Truth t ∷ item.Row b' ∷ item.Row x' ∷ r₃) m in
      by_same s b' b (same x' x (turned t x p c r₃ m)) (λ qb. by_same s x' x (turned t x p c r₃ m)
      (λ qx. subst₂ (λ i j. Shown (conf (Finish p ∷ c) (item.Truth t ∷ item.Row i ∷ item.Row j ∷ r₃) m) (turned t x p c r₃ m)) (sym qb) (sym qx)
      (turned_shown t c r₃ m e))))))

  pub shown : (s : Configuration) → Shown s (step s)
  shown (conf [] r m) = tt
  shown (conf (Whole p ∷ c) r m) = shown_opened (rows p) p c r m refl
  shown (conf (Finish p ∷ c) r m) = shown_closed (rows p) p c r m refl

  -- so the relation has one answer at most
  pub one_transition : {s t u : Configuration} → Transition rows s t → Transition rows s u → t ≡ u
  one_transition d d' = let q = made_so d in let q' = made_so d' in cc

  pub one_fault : {s : Configuration} {f g : Fault} → Refused rows s f → Refused rows s g → f ≡ g
  one_fault d d' = let q = refused_so d in let q' = refused_so d' in cc

  pub not_both : {s t : Configuration} {f : Fault} → Transition rows s t → ¬ Refused rows s f
  not_both d d' = let q = made_so d in let q' = refused_so d' in let z : ◌≡◌ {A = ℕ} 0 1 = cc in omega linear

  pub stuck_fits_not : (s : Configuration) → step s ≡ stuck → NoRuleFits rows s
  stuck_fits_not s q = record {
    no_transition = λ t d. let q' = made_so d in let z : ◌≡◌ {A = ℕ} 0 1 = cc in omega linear;
    no_number = λ f d. let q' = refused_so d in let z : ◌≡◌ {A = ℕ} 0 1 = cc in omega linear;
  }

  one_of_three : (s : Configuration) (w : Move) → step s ≡ w → Shown s w →
      ((t : Configuration) × Transition rows s t) ⊎ (((f : Fault) × Refused rows s f) ⊎ NoRuleFits rows s)
  one_of_three s (goes t) q d = inl (t, d)
  one_of_three s (refused f) q d = inr (inl (f, d))
  one_of_three s stuck q d = inr (inr (stuck_fits_not s q))

  one_move : OneMove rows
  one_move = record {
    one_transition = λ s t u d d'. one_transition d d';
    one_fault = λ s f g d d'. one_fault d d';
    not_both = λ s t f d d'. not_both d d';
    one_of_three = λ s. one_of_three s (step s) refl (shown s);
  }

pub machine_is_deterministic : MachineIsDeterministic
machine_is_deterministic = one_move
