-- The order of the questions: what has been answered before the first no, and once all are answered.
use Rattle.std.proofs.Common.{ℕ, ◌+◌, ◌*◌, ◌<◌, ◌≤◌, List, sym, subst, ⊎_elim, arith}
use Rattle.std.proofs.lemmas.Bool.{cases_order}
use Rattle.loading.specs.declared.refusal.Refusal.{Refusal}
use Rattle.loading.specs.declared.refusal.Refusal.TheVariants as no
use Rattle.loading.specs.Questions.{Yes, Asked, FirstNo, turn}
use Rattle.loading.specs.Surveys.{RowPasses, RowRefused}
use Rattle.rows.specs.Rows.{rows}

module _ (table : List ℕ) where
  -- the questions of the row p with a number below q get a yes
  record PassesTo (p q : ℕ) : Type 0 where
    kind : 2 < q → Yes table (no.Kind p)
    unused : 3 < q → Yes table (no.Unused p)
    range : 4 < q → Yes table (no.Range p)
    forward : 5 < q → Yes table (no.Forward p)
    mismatch : 6 < q → Yes table (no.Mismatch p)

  -- where the rows below p pass, and p passes up to the question q
  module _ (p q : ℕ) (small : q ≤ 7) (long : Yes table no.Length) (below : (k : ℕ) → k < p → RowPasses table k) (here : PassesTo p q) where
    -- a question of a row k that is asked earlier gets a yes, since it does in a row that passes and in p
    earlier : (P : ℕ → Type 0) (i k : ℕ) → 1 < i → k * 5 + i < p * 5 + q → (k < p → P k) → (i < q → P p) → P k
    earlier P i k one lt low same =
        ⊎_elim (λ e. subst P (sym e) (same (omega arith)))
        (⊎_elim low (λ gt. absurd (omega arith))) (cases_order k p)

    before : p < rows table → (d : Refusal) → Asked table d → turn d < p * 5 + q → Yes table d
    before within no.Length asked lt = long
    before within (no.Kind k) asked lt = earlier (λ n. Yes table (no.Kind n)) 2 k (omega arith) lt (λ h. (below k h).0) here.kind
    before within (no.Unused k) asked lt = earlier (λ n. Yes table (no.Unused n)) 3 k (omega arith) lt (λ h. (below k h).1) here.unused
    before within (no.Range k) asked lt = earlier (λ n. Yes table (no.Range n)) 4 k (omega arith) lt (λ h. (below k h).2) here.range
    before within (no.Forward k) asked lt = earlier (λ n. Yes table (no.Forward n)) 5 k (omega arith) lt (λ h. (below k h).3) here.forward
    before within (no.Mismatch k) asked lt = earlier (λ n. Yes table (no.Mismatch n)) 6 k (omega arith) lt (λ h. (below k h).4) here.mismatch
    before within (no.NotCommand k) asked lt = absurd (omega arith)

  -- a row's own first no is the table's, where the rows below pass
  module _ (p : ℕ) (within : p < rows table) (long : Yes table no.Length) (below : (k : ℕ) → k < p → RowPasses table k) where
    pub first_no : (e : Refusal) → RowRefused table p e → FirstNo table e
    first_no no.Length h = absurd h
    first_no (no.Kind q) h =
        let here : PassesTo p 2 =
        record { kind = λ c. absurd (omega arith); unused = λ c. absurd (omega arith); range = λ c. absurd (omega arith); forward = λ c. absurd (omega arith); mismatch = λ c. absurd (omega arith) } in
        subst (λ n. FirstNo table (no.Kind n)) (sym h.0)
        (record { asked = within; answer = h.1; before = before p 2 (omega arith) long below here within })
    first_no (no.Unused q) h =
        let here : PassesTo p 3 =
        record { kind = λ _. h.1; unused = λ c. absurd (omega arith); range = λ c. absurd (omega arith); forward = λ c. absurd (omega arith); mismatch = λ c. absurd (omega arith) } in
        subst (λ n. FirstNo table (no.Unused n)) (sym h.0)
        (record { asked = within; answer = h.2; before = before p 3 (omega arith) long below here within })
    first_no (no.Range q) h =
        let here : PassesTo p 4 =
        record { kind = λ _. h.1; unused = λ _. h.2; range = λ c. absurd (omega arith); forward = λ c. absurd (omega arith); mismatch = λ c. absurd (omega arith) } in
        subst (λ n. FirstNo table (no.Range n)) (sym h.0)
        (record { asked = within; answer = h.3; before = before p 4 (omega arith) long below here within })
    first_no (no.Forward q) h =
        let here : PassesTo p 5 =
        record { kind = λ _. h.1; unused = λ _. h.2; range = λ _. h.3; forward = λ c. absurd (omega arith); mismatch = λ c. absurd (omega arith) } in
        subst (λ n. FirstNo table (no.Forward n)) (sym h.0)
        (record { asked = within; answer = h.4; before = before p 5 (omega arith) long below here within })
    first_no (no.Mismatch q) h =
        let here : PassesTo p 6 =
        record { kind = λ _. h.1; unused = λ _. h.2; range = λ _. h.3; forward = λ _. h.4; mismatch = λ c. absurd (omega arith) } in
        subst (λ n. FirstNo table (no.Mismatch n)) (sym h.0)
        (record { asked = within; answer = h.5; before = before p 6 (omega arith) long below here within })
    first_no (no.NotCommand q) h = absurd h
