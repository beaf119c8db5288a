-- Transitions keep control and results together, and where these belong together a rule fits until the end.
use Rattle.std.proofs.Common.{◌≡◌, ℕ, Bool, true, false, not, ◌&&◌, List, ◌∷◌, ℤ, Some, None, Ok, Err, Option, Result, sym, refl, subst}
use Rattle.cells.specs.declared.fault.StoreFault.{StoreFault}
use Rattle.rows.specs.declared.row.Operator.{Operator}
use Rattle.rows.specs.declared.row.Sort.{Sort}
use Rattle.rows.specs.declared.row.Row.{Row}
use Rattle.rows.specs.declared.row.Row.TheVariants as row
use Rattle.rows.specs.Rows.{sort_of}
use Rattle.rows.specs.Parts.{EachPart}
use Rattle.semantics.specs.declared.arithmetic.ArithmeticFault.{ArithmeticFault}
use Rattle.semantics.specs.declared.fault.Fault.{Fault}
use Rattle.semantics.specs.declared.item.Control.{Control}
use Rattle.semantics.specs.declared.item.Control.TheVariants.{Whole, Finish}
use Rattle.semantics.specs.declared.item.Item.{Item}
use Rattle.semantics.specs.declared.item.Item.TheVariants as item
use Rattle.semantics.specs.Arithmetic.{computed, compared}
use Rattle.semantics.specs.Cells.{Cells, read, asked}
use Rattle.semantics.specs.Machine.{Configuration, conf, Refused, contents_refused, arithmetic_refused, assignment_refused}
use Rattle.semantics.specs.Machine.{Transition, number, contents, truth, arithmetic, finish_arithmetic, comparison, finish_comparison, negation, finish_negation, conjunction, finish_conjunction}
use Rattle.semantics.specs.Machine.{skip, assignment, finish_assignment, sequence, choice, finish_true, finish_false, loop, finish_turning, finish_leaving}
use Rattle.semantics.specs.Coherence.{Leaves, BeforeWhole, BeforeFinish, Belong, Coherent}
use Rattle.semantics.proofs.Shape.{Stands, a_number, a_contents, an_arithmetic, a_truth, a_comparison, a_not, an_and, a_skip, an_assignment, a_sequence, a_choice, a_loop}

module _ (rows : ℕ → Option Row) where
  sorted : {p : ℕ} {s : Sort} → Stands rows p s → (w : Row) × (rows p ≡ Some w) × (sort_of w ≡ s)
  sorted (a_number {a} e) = (row.Number a, e, refl)
  sorted (a_contents {l} e) = (row.Contents l, e, refl)
  sorted (an_arithmetic {x} {y} {o} e gx gy) = (row.Arithmetic o x y, e, refl)
  sorted (a_truth {t} e) = (row.Truth t, e, refl)
  sorted (a_comparison {x} {y} {o} e gx gy) = (row.Comparison o x y, e, refl)
  sorted (a_not {x} e gx) = (row.Not x, e, refl)
  sorted (an_and {x} {y} e gx gy) = (row.And x y, e, refl)
  sorted (a_skip e) = (row.Skip, e, refl)
  sorted (an_assignment {l} {x} e gx) = (row.Assignment l x, e, refl)
  sorted (a_sequence {x} {y} e gx gy) = (row.Sequence x y, e, refl)
  sorted (a_choice {b} {x} {y} e gb gx gy) = (row.Choice b x y, e, refl)
  sorted (a_loop {b} {x} e gb gx) = (row.Loop b x, e, refl)

  pub before : {x : ℕ} {s : Sort} → Stands rows x s → (c : List Control) (r : List Item) → Leaves s (Belong rows c) r → Belong rows (Whole x ∷ c) r
  before g c r k =
      let z = sorted g in
      subst (λ o. BeforeWhole o (Belong rows c) r) (sym z.1) (subst (λ s. Leaves s (Belong rows c) r) (sym z.2) k)

  ahead : {p : ℕ} (w : Row) → rows p ≡ Some w → (c : List Control) (r : List Item) → BeforeFinish (Some w) (Belong rows c) r → Belong rows (Finish p ∷ c) r
  ahead w e c r k = subst (λ o. BeforeFinish o (Belong rows c) r) (sym e) k

  at_whole : {p : ℕ} (w : Row) → rows p ≡ Some w → (c : List Control) (r : List Item) → Belong rows (Whole p ∷ c) r → Leaves (sort_of w) (Belong rows c) r
  at_whole w e c r k = subst (λ o. BeforeWhole o (Belong rows c) r) e k

  at_finish : {p : ℕ} (w : Row) → rows p ≡ Some w → (c : List Control) (r : List Item) → Belong rows (Finish p ∷ c) r → BeforeFinish (Some w) (Belong rows c) r
  at_finish w e c r k = subst (λ o. BeforeFinish o (Belong rows c) r) e k

  module _ (parts : (p : ℕ) (w : Row) → rows p ≡ Some w → EachPart (λ s x. Stands rows x s) w) where
    pub kept : {s t : Configuration} → Transition rows s t → Coherent rows s → Coherent rows t
    kept (number {a} {c} {r} e) k = at_whole (row.Number a) e c r k a
    kept (contents {l} {a} {c} {r} e q) k = at_whole (row.Contents l) e c r k a
    kept (truth {t} {c} {r} e) k = at_whole (row.Truth t) e c r k t
    kept (arithmetic {p} {x} {y} {o} {c} {r} e) k =
        let g = parts p (row.Arithmetic o x y) e in let rest = at_whole (row.Arithmetic o x y) e c r k in
        before g.0 (Whole y ∷ Finish p ∷ c) r (λ a. before g.1 (Finish p ∷ c) (item.Number a ∷ r)
        (λ b. ahead (row.Arithmetic o x y) e c (item.Number b ∷ item.Number a ∷ r) (a, b, r, refl, rest)))
    kept (finish_arithmetic {x} {y} {o} {a} {b} {z = n} {c} {r} e q) k =
        let z = at_finish (row.Arithmetic o x y) e c (item.Number b ∷ item.Number a ∷ r) k in
        let h = z.3 in let u : z.2 ≡ r = cc in subst (λ r. Belong rows c (item.Number n ∷ r)) u (z.4 n)
    kept (comparison {p} {x} {y} {o} {c} {r} e) k =
        let g = parts p (row.Comparison o x y) e in let rest = at_whole (row.Comparison o x y) e c r k in
        before g.0 (Whole y ∷ Finish p ∷ c) r (λ a. before g.1 (Finish p ∷ c) (item.Number a ∷ r)
        (λ b. ahead (row.Comparison o x y) e c (item.Number b ∷ item.Number a ∷ r) (a, b, r, refl, rest)))
    kept (finish_comparison {x} {y} {o} {a} {b} {c} {r} e) k =
        let z = at_finish (row.Comparison o x y) e c (item.Number b ∷ item.Number a ∷ r) k in
        let h = z.3 in let u : z.2 ≡ r = cc in subst (λ r. Belong rows c (item.Truth (compared o a b) ∷ r)) u (z.4 (compared o a b))
    kept (negation {p} {x} {c} {r} e) k =
        let g = parts p (row.Not x) e in let rest = at_whole (row.Not x) e c r k in
        before g (Finish p ∷ c) r (λ t. ahead (row.Not x) e c (item.Truth t ∷ r) (t, r, refl, rest))
    kept (finish_negation {x} {t} {c} {r} e) k =
        let z = at_finish (row.Not x) e c (item.Truth t ∷ r) k in
        let h = z.2 in let u : z.1 ≡ r = cc in subst (λ r. Belong rows c (item.Truth (not t) ∷ r)) u (z.3 (not t))
    kept (conjunction {p} {x} {y} {c} {r} e) k =
        let g = parts p (row.And x y) e in let rest = at_whole (row.And x y) e c r k in
        before g.0 (Whole y ∷ Finish p ∷ c) r (λ s. before g.1 (Finish p ∷ c) (item.Truth s ∷ r)
        (λ t. ahead (row.And x y) e c (item.Truth t ∷ item.Truth s ∷ r) (s, t, r, refl, rest)))
    kept (finish_conjunction {x} {y} {s} {t} {c} {r} e) k =
        let z = at_finish (row.And x y) e c (item.Truth t ∷ item.Truth s ∷ r) k in
        let h = z.3 in let u : z.2 ≡ r = cc in subst (λ r. Belong rows c (item.Truth (s && t) ∷ r)) u (z.4 (s && t))
    kept (skip {c} {r} e) k = at_whole row.Skip e c r k
    kept (assignment {p} {l} {x} {c} {r} e) k =
        let g = parts p (row.Assignment l x) e in let rest = at_whole (row.Assignment l x) e c r k in
        before g (Finish p ∷ c) (item.Location l ∷ r) (λ a. ahead (row.Assignment l x) e c (item.Number a ∷ item.Location l ∷ r) (a, r, refl, rest))
    kept (finish_assignment {l} {x} {a} {c} {r} e q) k =
        let z = at_finish (row.Assignment l x) e c (item.Number a ∷ item.Location l ∷ r) k in
        let h = z.2 in let u : z.1 ≡ r = cc in subst (Belong rows c) u z.3
    kept (sequence {p} {x} {y} {c} {r} e) k =
        let g = parts p (row.Sequence x y) e in
        before g.0 (Whole y ∷ c) r (before g.1 c r (at_whole (row.Sequence x y) e c r k))
    kept (choice {p} {b} {x} {y} {c} {r} e) k =
        let g = parts p (row.Choice b x y) e in let rest = at_whole (row.Choice b x y) e c r k in
        before g.0 (Finish p ∷ c) (item.Row x ∷ item.Row y ∷ r) (λ t. ahead (row.Choice b x y) e c (item.Truth t ∷ item.Row x ∷ item.Row y ∷ r) (t, r, refl, rest))
    kept (finish_true {p} {b} {x} {y} {c} {r} e) k =
        let g = parts p (row.Choice b x y) e in let z = at_finish (row.Choice b x y) e c (item.Truth true ∷ item.Row x ∷ item.Row y ∷ r) k in
        let h = z.2 in let u : z.1 ≡ r = cc in before g.1 c r (subst (Belong rows c) u z.3)
    kept (finish_false {p} {b} {x} {y} {c} {r} e) k =
        let g = parts p (row.Choice b x y) e in let z = at_finish (row.Choice b x y) e c (item.Truth false ∷ item.Row x ∷ item.Row y ∷ r) k in
        let h = z.2 in let u : z.1 ≡ r = cc in before g.2 c r (subst (Belong rows c) u z.3)
    kept (loop {p} {b} {x} {c} {r} e) k =
        let g = parts p (row.Loop b x) e in let rest = at_whole (row.Loop b x) e c r k in
        before g.0 (Finish p ∷ c) (item.Row b ∷ item.Row x ∷ r) (λ t. ahead (row.Loop b x) e c (item.Truth t ∷ item.Row b ∷ item.Row x ∷ r) (t, r, refl, rest))
    kept (finish_turning {p} {b} {x} {c} {r} e) k =
        let g = parts p (row.Loop b x) e in let z = at_finish (row.Loop b x) e c (item.Truth true ∷ item.Row b ∷ item.Row x ∷ r) k in
        let h = z.2 in let u : z.1 ≡ r = cc in
        before g.1 (Whole p ∷ c) r (before (a_loop e g.0 g.1) c r (subst (Belong rows c) u z.3))
    kept (finish_leaving {p} {b} {x} {c} {r} e) k =
        let z = at_finish (row.Loop b x) e c (item.Truth false ∷ item.Row b ∷ item.Row x ∷ r) k in
        let h = z.2 in let u : z.1 ≡ r = cc in subst (Belong rows c) u z.3

  -- a rule fits
  pub data GoesOn (s : Configuration) : Type 0 where
    moves : {t : Configuration} → Transition rows s t → GoesOn s
    is_refused : {f : Fault} → Refused rows s f → GoesOn s

  reads : {p l : ℕ} {c : List Control} {r : List Item} {m : Cells} → rows p ≡ Some (row.Contents l) → (v : Result ℤ StoreFault) → read m l ≡ v → GoesOn (conf (Whole p ∷ c) r m)
  reads e (Ok a) q = moves (contents e q)
  reads e (Err f) q = is_refused (contents_refused e q)

  computes : {p x y : ℕ} {o : Operator} {a b : ℤ} {c : List Control} {r : List Item} {m : Cells} → rows p ≡ Some (row.Arithmetic o x y) →
      (v : Result ℤ ArithmeticFault) → computed o a b ≡ v → GoesOn (conf (Finish p ∷ c) (item.Number b ∷ item.Number a ∷ r) m)
  computes e (Ok z) q = moves (finish_arithmetic e q)
  computes e (Err f) q = is_refused (arithmetic_refused e q)

  puts : {p l x : ℕ} {a : ℤ} {c : List Control} {r : List Item} {m : Cells} → rows p ≡ Some (row.Assignment l x) →
      (v : Result (Unit {0}) StoreFault) → asked m l a ≡ v → GoesOn (conf (Finish p ∷ c) (item.Number a ∷ item.Location l ∷ r) m)
  puts e (Ok tt) q = moves (finish_assignment e q)
  puts e (Err f) q = is_refused (assignment_refused e q)

  decides : {p b x y : ℕ} {c : List Control} {r : List Item} {m : Cells} → rows p ≡ Some (row.Choice b x y) → (t : Bool) →
      GoesOn (conf (Finish p ∷ c) (item.Truth t ∷ item.Row x ∷ item.Row y ∷ r) m)
  decides e true = moves (finish_true e)
  decides e false = moves (finish_false e)

  turns : {p b x : ℕ} {c : List Control} {r : List Item} {m : Cells} → rows p ≡ Some (row.Loop b x) → (t : Bool) →
      GoesOn (conf (Finish p ∷ c) (item.Truth t ∷ item.Row b ∷ item.Row x ∷ r) m)
  turns e true = moves (finish_turning e)
  turns e false = moves (finish_leaving e)

  module _ (p : ℕ) (c : List Control) (m : Cells) where
    on_whole : (o : Option Row) (r : List Item) → rows p ≡ o → BeforeWhole o (Belong rows c) r → GoesOn (conf (Whole p ∷ c) r m)
    on_whole None r e k = absurd k
    on_whole (Some (row.Number a)) r e k = moves (number e)
    on_whole (Some (row.Contents l)) r e k = reads e (read m l) refl
    on_whole (Some (row.Arithmetic o x y)) r e k = moves (arithmetic e)
    on_whole (Some (row.Truth t)) r e k = moves (truth e)
    on_whole (Some (row.Comparison o x y)) r e k = moves (comparison e)
    on_whole (Some (row.Not x)) r e k = moves (negation e)
    on_whole (Some (row.And x y)) r e k = moves (conjunction e)
    on_whole (Some row.Skip) r e k = moves (skip e)
    on_whole (Some (row.Assignment l x)) r e k = moves (assignment e)
    on_whole (Some (row.Sequence x y)) r e k = moves (sequence e)
    on_whole (Some (row.Choice b x y)) r e k = moves (choice e)
    on_whole (Some (row.Loop b x)) r e k = moves (loop e)

    found : {r r₁ : List Item} → r ≡ r₁ → GoesOn (conf (Finish p ∷ c) r₁ m) → GoesOn (conf (Finish p ∷ c) r m)
    found q z = subst (λ r. GoesOn (conf (Finish p ∷ c) r m)) (sym q) z

    on_finish : (o : Option Row) (r : List Item) → rows p ≡ o → BeforeFinish o (Belong rows c) r → GoesOn (conf (Finish p ∷ c) r m)
    on_finish None r e k = absurd k
    on_finish (Some (row.Number a)) r e k = absurd k
    on_finish (Some (row.Contents l)) r e k = absurd k
    on_finish (Some (row.Arithmetic o x y)) r e k = found k.3 (computes e (computed o k.0 k.1) refl)
    on_finish (Some (row.Truth t)) r e k = absurd k
    on_finish (Some (row.Comparison o x y)) r e k = found k.3 (moves (finish_comparison e))
    on_finish (Some (row.Not x)) r e k = found k.2 (moves (finish_negation e))
    on_finish (Some (row.And x y)) r e k = found k.3 (moves (finish_conjunction e))
    on_finish (Some row.Skip) r e k = absurd k
    on_finish (Some (row.Assignment l x)) r e k = found k.2 (puts e (asked m l k.0) refl)
    on_finish (Some (row.Sequence x y)) r e k = absurd k
    on_finish (Some (row.Choice b x y)) r e k = found k.2 (decides e k.0)
    on_finish (Some (row.Loop b x)) r e k = found k.2 (turns e k.0)

  pub goes_on : (i : Control) (c : List Control) (r : List Item) (m : Cells) → Belong rows (i ∷ c) r → GoesOn (conf (i ∷ c) r m)
  goes_on (Whole p) c r m k = on_whole p c m (rows p) r refl k
  goes_on (Finish p) c r m k = on_finish p c m (rows p) r refl k
