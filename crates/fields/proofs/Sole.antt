-- A text has one list of fields.
use Rattle.std.proofs.Common.{◌≡◌, ℕ, ◌≤◌, List, [], ◌∷◌, ◌++◌, sym, refl, subst, ⊎_elim, arith}
use Rattle.std.proofs.lemmas.Bool.{cases_lt}
use Rattle.fields.specs.declared.span.Span.{Span}
use Rattle.fields.specs.Spans.{Next, InTurn, NoMore, FieldsOf, reached}

module _ {text : List ℕ} {from : ℕ} where
  -- a field and nothing but white space cannot both follow
  none_next : {f : Span} → Next text from f → NoMore text from → ⊥
  none_next {f} n none = n.solid f.start (omega arith) (omega (arith, n.order.1)) (none f.start n.order.0 (omega (arith, n.order.1, n.order.2)))

  -- a field that follows does not start before another that follows, nor end before it
  starts : {f g : Span} → Next text from f → Next text from g → g.start ≤ f.start
  starts {f} {g} n m =
      ⊎_elim (λ h. absurd (n.solid f.start (omega arith) n.order.1 (m.passed f.start n.order.0 h))) (λ h. h) (cases_lt f.start g.start)

  ends : {f g : Span} → Next text from f → Next text from g → g.end ≤ f.end
  ends {f} {g} n m =
      ⊎_elim
      (λ h. absurd (m.solid f.end (omega (arith, starts n m, n.order.1)) h (n.closed (omega (arith, h, m.order.2)))))
      (λ h. h)
      (cases_lt f.end g.end)

  next_only : {f g : Span} → Next text from f → Next text from g → f ≡ g
  next_only {f} {g} n m =
      let start : f.start ≡ g.start = omega (arith, starts n m, starts m n) in
      let end : f.end ≡ g.end = omega (arith, ends n m, ends m n) in
      λ i. record { start = start i; end = end i }

-- whatever the fields of the text are, they begin with those that follow each other from its start
begins_from : (text : List ℕ) (from : ℕ) (fs gs : List Span) → InTurn text from fs → InTurn text from gs → NoMore text (reached from gs) → (rest : List Span) × (gs ≡ fs ++ rest)
begins_from text from [] gs t u none = (gs, refl)
begins_from text from (f ∷ fs) [] t u none = absurd (none_next t.0 none)
begins_from text from (f ∷ fs) (g ∷ gs) t u none =
    let same : f ≡ g = next_only t.0 u.0 in
    let more = begins_from text g.end fs gs (subst (λ (h : Span). InTurn text h.end fs) same t.1) u.1 none in
    (more.0, λ i. sym same i ∷ more.1 i)

pub begins : (text : List ℕ) (fs gs : List Span) → InTurn text 0 fs → FieldsOf text gs → (rest : List Span) × (gs ≡ fs ++ rest)
begins text fs gs t h = begins_from text 0 fs gs t h.0 h.1

sole_from : (text : List ℕ) (from : ℕ) (fs gs : List Span) → InTurn text from fs × NoMore text (reached from fs) → InTurn text from gs × NoMore text (reached from gs) → gs ≡ fs
sole_from text from [] [] a b = refl
sole_from text from [] (g ∷ gs) a b = absurd (none_next b.0.0 a.1)
sole_from text from (f ∷ fs) [] a b = absurd (none_next a.0.0 b.1)
sole_from text from (f ∷ fs) (g ∷ gs) a b =
    let same : f ≡ g = next_only a.0.0 b.0.0 in
    let on = subst (λ (h : Span). InTurn text h.end fs × NoMore text (reached h.end fs)) same (a.0.1, a.1) in
    let more = sole_from text g.end fs gs on (b.0.1, b.1) in
    λ i. sym same i ∷ more i

pub sole : (text : List ℕ) (fs gs : List Span) → FieldsOf text fs → FieldsOf text gs → gs ≡ fs
sole text fs gs = sole_from text 0 fs gs
