-- What the code looks for is what the machine's rules say, on stacks with so many places.
use Rattle.std.proofs.Common.{◌≡◌, ℕ, suc, ◌+◌, ◌≤◌, Bool, true, false, cond, not, ◌&&◌, ◌⊎◌, List, [], ◌∷◌, ◌++◌, length, drop, ℤ, Some, None, Ok, Err, Option, Result, sym, refl, ap, ◌∙◌, subst, subst₂, inl, inr, arith as linear}
use Rattle.std.proofs.lemmas.Bool.Decides.{leb_tells, eqb_tells}
use Rattle.std.proofs.lemmas.List.{length-append}
use Rattle.cells.specs.declared.fault.StoreFault.{StoreFault}
use Rattle.rows.specs.declared.row.Operator.{Operator}
use Rattle.rows.specs.declared.row.Relation.{Relation}
use Rattle.rows.specs.declared.row.Row.{Row}
use Rattle.rows.specs.declared.row.Row.TheVariants as row
use Rattle.semantics.specs.declared.arithmetic.ArithmeticFault.{ArithmeticFault}
use Rattle.semantics.specs.declared.item.Control.{Control}
use Rattle.semantics.specs.declared.item.Control.TheVariants.{Whole, Finish}
use Rattle.semantics.specs.declared.item.Item.{Item}
use Rattle.semantics.specs.declared.item.Item.TheVariants as item
use Rattle.semantics.specs.Arithmetic.{computed, compared}
use Rattle.semantics.specs.Cells.{Cells, read, asked, written}
use Rattle.semantics.specs.Machine.{Configuration, conf, contents_refused, arithmetic_refused, assignment_refused}
use Rattle.semantics.specs.Machine.{Transition, number, contents, truth, arithmetic, finish_arithmetic, comparison, finish_comparison, negation, finish_negation, conjunction, finish_conjunction}
use Rattle.semantics.specs.Machine.{skip, assignment, finish_assignment, sequence, choice, finish_true, finish_false, loop, finish_turning, finish_leaving}
use Rattle.semantics.specs.Traces.{Fits}
use Rattle.semantics.proofs.Step.{step, stuck, opened, closed, closes, stuck_fits_not}
use Rattle.runs.specs.declared.end.Stop.TheVariants as stop
use Rattle.runs.specs.Tries.{Tried, made, no_rule, no_room, no_room_to_read, refused}
use Rattle.stack.specs.Contents.{fits}
use Rattle.transition.specs.Exchanges.{Stacks, Room, Outcome, went, stopped, answer, after, exchanged, found, unless_refused, unless_impossible, arithmetic_of, comparison_of, choice_of, loop_of, finish_of, whole_of}
use Rattle.transition.specs.Steps.{lifted, assignment_of, finish_all_of, step_of}

-- room for one result
room_to_read : (h : ℕ) (r : List Item) → ((fits h r 0 1 ≡ true) × (1 + length r ≤ h)) ⊎ ((fits h r 0 1 ≡ false) × ¬ (1 + length r ≤ h))
room_to_read h r = elim (leb_tells 0 (length r)) [
  | inr q ↦ let z : ⊥ = omega (linear, q.1) in absurd z
  | inl all ↦ elim (leb_tells (1 + length r) h) [
    | inr q ↦ inr (rw (all.0, q.0), λ le. omega (linear, q.1, le))
    | inl q ↦ inl (rw (all.0, q.0), q.1)
  ]
]

module _ (rows : ℕ → Option Row) (k : Room) (m : Cells) where
  abbrev Try : Configuration → Outcome Configuration → Type 0
  Try s o = Tried rows k.control k.results s (answer o) (after o s)

  abbrev held : List Control → List Item → Stacks
  held c r = record { control = c; results = r }

  -- the one test on both stacks tells whether the configuration that it is for fits
  module _ (i : Control) (c : List Control) (r : List Item) (cs : List Control) (n : ℕ) (rs : List Item) (enough : n ≤ length r) where
    abbrev test : Bool
    test = fits k.control (i ∷ c) 1 (length cs) && fits k.results r n (length rs)

    abbrev next : Configuration
    next = conf (cs ++ c) (rs ++ drop n r) m

    test_tells : ((test ≡ true) × Fits k.control k.results next) ⊎ ((test ≡ false) × ¬ Fits k.control k.results next)
    test_tells =
        let hc : length (cs ++ c) ≡ length cs + length c = length-append cs c in
        let hr : length (rs ++ drop n r) ≡ length rs + length (drop n r) = length-append rs (drop n r) in
        elim (leb_tells 1 (suc (length c))) [
          | inr q ↦ let z : ⊥ = omega (linear, q.1) in absurd z
          | inl one ↦ elim (leb_tells n (length r)) [
            | inr q ↦ let z : ⊥ = omega (linear, q.1) in absurd z
            | inl all ↦ elim (leb_tells (length cs + length c) k.control) [
              | inr q ↦ inr (rw (one.0, q.0), λ f. omega (linear, q.1, f.0))
              | inl qc ↦ elim (leb_tells (length rs + length (drop n r)) k.results) [
                | inr q ↦ inr (rw (one.0, qc.0, all.0, q.0), λ f. omega (linear, q.1, f.1))
                | inl qr ↦ inl (rw (one.0, qc.0, all.0, qr.0), (omega (linear, qc.1), omega (linear, qr.1)))
              ]
            ]
          ]
        ]

    -- an exchange that is one of the rules' transitions
    exchanges : Transition rows (conf (i ∷ c) r m) next → Try (conf (i ∷ c) r m) (lifted m (exchanged k cs n rs (held (i ∷ c) r)))
    exchanges d = elim test_tells [
      | inl q ↦ rw q.0 (made d q.1)
      | inr q ↦ rw q.0 (no_room d q.1)
    ]

  sticks : (s : Configuration) → step rows s ≡ stuck → Try s (stopped stop.Stuck)
  sticks s q = no_rule (stuck_fits_not rows s q)

  module _ (p : ℕ) (c : List Control) where
    -- the row is opened
    abbrev by_test : List Item → Result ℤ StoreFault → Bool → Type 0
    by_test r v b =
        Try (conf (Whole p ∷ c) r m)
        (lifted m (cond b (unless_refused p v (λ n. exchanged k [] 0 (item.Number n ∷ []) (held (Whole p ∷ c) r))) (stopped stop.Stuck)))

    reads_by : {l : ℕ} (r : List Item) → rows p ≡ Some (row.Contents l) → (v : Result ℤ StoreFault) → read m l ≡ v →
        by_test r v (fits k.results r 0 1)
    reads_by {l} r e v q = elim (room_to_read k.results r) [
      | inr z ↦ subst (by_test r v) (sym z.0) (full v q z.1)
      | inl z ↦ subst (by_test r v) (sym z.0) (there v q z.1)
    ]
      where
        full : (v : Result ℤ StoreFault) → read m l ≡ v → ¬ (1 + length r ≤ k.results) → Try (conf (Whole p ∷ c) r m) (stopped stop.Stuck)
        full (Ok a) q z = no_room (contents e q) (λ f. omega (linear, z, f.1))
        full (Err f) q z = no_room_to_read (contents_refused e q) (λ f. omega (linear, z, f))

        there : (v : Result ℤ StoreFault) → read m l ≡ v → 1 + length r ≤ k.results →
            Try (conf (Whole p ∷ c) r m) (lifted m (unless_refused p v (λ n. exchanged k [] 0 (item.Number n ∷ []) (held (Whole p ∷ c) r))))
        there (Ok a) q z = exchanges (Whole p) c r [] 0 (item.Number a ∷ []) (omega linear) (contents e q)
        there (Err f) q z = refused (contents_refused e q) (omega (linear, z))

    wholes : (w : Row) (r : List Item) → rows p ≡ Some w → Try (conf (Whole p ∷ c) r m) (lifted m (whole_of k m p w (held (Whole p ∷ c) r)))
    wholes (row.Number a) r e = exchanges (Whole p) c r ([]) 0 (item.Number a ∷ []) (omega linear) (number e)
    wholes (row.Contents l) r e = reads_by r e (read m l) refl
    wholes (row.Arithmetic o x y) r e = exchanges (Whole p) c r (Whole x ∷ Whole y ∷ Finish p ∷ []) 0 ([]) (omega linear) (arithmetic e)
    wholes (row.Truth t) r e = exchanges (Whole p) c r ([]) 0 (item.Truth t ∷ []) (omega linear) (truth e)
    wholes (row.Comparison o x y) r e = exchanges (Whole p) c r (Whole x ∷ Whole y ∷ Finish p ∷ []) 0 ([]) (omega linear) (comparison e)
    wholes (row.Not x) r e = exchanges (Whole p) c r (Whole x ∷ Finish p ∷ []) 0 ([]) (omega linear) (negation e)
    wholes (row.And x y) r e = exchanges (Whole p) c r (Whole x ∷ Whole y ∷ Finish p ∷ []) 0 ([]) (omega linear) (conjunction e)
    wholes row.Skip r e = exchanges (Whole p) c r ([]) 0 ([]) (omega linear) (skip e)
    wholes (row.Assignment l x) r e = exchanges (Whole p) c r (Whole x ∷ Finish p ∷ []) 0 (item.Location l ∷ []) (omega linear) (assignment e)
    wholes (row.Sequence x y) r e = exchanges (Whole p) c r (Whole x ∷ Whole y ∷ []) 0 ([]) (omega linear) (sequence e)
    wholes (row.Choice b x y) r e = exchanges (Whole p) c r (Whole b ∷ Finish p ∷ []) 0 (item.Row x ∷ item.Row y ∷ []) (omega linear) (choice e)
    wholes (row.Loop b x) r e = exchanges (Whole p) c r (Whole b ∷ Finish p ∷ []) 0 (item.Row b ∷ item.Row x ∷ []) (omega linear) (loop e)

    -- the row's own operator finds nothing that it could take
    finds_none : {w : Row} (r : List Item) → rows p ≡ Some w → closed (Some w) p c r m ≡ stuck → Try (conf (Finish p ∷ c) r m) (stopped stop.Stuck)
    finds_none r e q = sticks (conf (Finish p ∷ c) r m) (closes rows e c r m ∙ q)

    computes : {o : Operator} {x y : ℕ} (a b : ℤ) (r : List Item) → rows p ≡ Some (row.Arithmetic o x y) → (v : Result ℤ ArithmeticFault) → computed o a b ≡ v →
        Try (conf (Finish p ∷ c) (item.Number b ∷ item.Number a ∷ r) m)
        (lifted m (unless_impossible p v (λ n. exchanged k [] 2 (item.Number n ∷ []) (held (Finish p ∷ c) (item.Number b ∷ item.Number a ∷ r)))))
    computes a b r e (Ok z) q = exchanges (Finish p) c (item.Number b ∷ item.Number a ∷ r) [] 2 (item.Number z ∷ []) (omega linear) (finish_arithmetic e q)
    computes a b r e (Err f) q = refused (arithmetic_refused e q) tt

    arithmetics : {o : Operator} {x y : ℕ} (r : List Item) → rows p ≡ Some (row.Arithmetic o x y) →
        Try (conf (Finish p ∷ c) r m) (lifted m (arithmetic_of k p o (held (Finish p ∷ c) r)))
    arithmetics [] e = finds_none [] e refl
    arithmetics (item.Truth t0 ∷ r) e = finds_none (item.Truth t0 ∷ r) e refl
    arithmetics (item.Location l'0 ∷ r) e = finds_none (item.Location l'0 ∷ r) e refl
    arithmetics (item.Row q0 ∷ r) e = finds_none (item.Row q0 ∷ r) e refl
    arithmetics (item.Number b ∷ []) e = finds_none (item.Number b ∷ []) e refl
    arithmetics (item.Number b ∷ item.Truth t1 ∷ r) e = finds_none (item.Number b ∷ item.Truth t1 ∷ r) e refl
    arithmetics (item.Number b ∷ item.Location l'1 ∷ r) e = finds_none (item.Number b ∷ item.Location l'1 ∷ r) e refl
    arithmetics (item.Number b ∷ item.Row q1 ∷ r) e = finds_none (item.Number b ∷ item.Row q1 ∷ r) e refl
    arithmetics {o} (item.Number b ∷ item.Number a ∷ r) e = computes a b r e (computed o a b) refl

    comparisons : {o : Relation} {x y : ℕ} (r : List Item) → rows p ≡ Some (row.Comparison o x y) →
        Try (conf (Finish p ∷ c) r m) (lifted m (comparison_of k o (held (Finish p ∷ c) r)))
    comparisons [] e = finds_none [] e refl
    comparisons (item.Truth t0 ∷ r) e = finds_none (item.Truth t0 ∷ r) e refl
    comparisons (item.Location l'0 ∷ r) e = finds_none (item.Location l'0 ∷ r) e refl
    comparisons (item.Row q0 ∷ r) e = finds_none (item.Row q0 ∷ r) e refl
    comparisons (item.Number b ∷ []) e = finds_none (item.Number b ∷ []) e refl
    comparisons (item.Number b ∷ item.Truth t1 ∷ r) e = finds_none (item.Number b ∷ item.Truth t1 ∷ r) e refl
    comparisons (item.Number b ∷ item.Location l'1 ∷ r) e = finds_none (item.Number b ∷ item.Location l'1 ∷ r) e refl
    comparisons (item.Number b ∷ item.Row q1 ∷ r) e = finds_none (item.Number b ∷ item.Row q1 ∷ r) e refl
    comparisons {o} (item.Number b ∷ item.Number a ∷ r) e = exchanges (Finish p) c (item.Number b ∷ item.Number a ∷ r) [] 2 (item.Truth (compared o a b) ∷ []) (omega linear) (finish_comparison e)

    negations : {x : ℕ} (r : List Item) → rows p ≡ Some (row.Not x) → Try (conf (Finish p ∷ c) r m) (lifted m (finish_of k p (row.Not x) (held (Finish p ∷ c) r)))
    negations [] e = finds_none [] e refl
    negations (item.Number a0 ∷ r) e = finds_none (item.Number a0 ∷ r) e refl
    negations (item.Location l'0 ∷ r) e = finds_none (item.Location l'0 ∷ r) e refl
    negations (item.Row q0 ∷ r) e = finds_none (item.Row q0 ∷ r) e refl
    negations (item.Truth t ∷ r) e = exchanges (Finish p) c (item.Truth t ∷ r) [] 1 (item.Truth (not t) ∷ []) (omega linear) (finish_negation e)

    conjunctions : {x y : ℕ} (r : List Item) → rows p ≡ Some (row.And x y) → Try (conf (Finish p ∷ c) r m) (lifted m (finish_of k p (row.And x y) (held (Finish p ∷ c) r)))
    conjunctions [] e = finds_none [] e refl
    conjunctions (item.Number a0 ∷ r) e = finds_none (item.Number a0 ∷ r) e refl
    conjunctions (item.Location l'0 ∷ r) e = finds_none (item.Location l'0 ∷ r) e refl
    conjunctions (item.Row q0 ∷ r) e = finds_none (item.Row q0 ∷ r) e refl
    conjunctions (item.Truth t ∷ []) e = finds_none (item.Truth t ∷ []) e refl
    conjunctions (item.Truth t ∷ item.Number a1 ∷ r) e = finds_none (item.Truth t ∷ item.Number a1 ∷ r) e refl
    conjunctions (item.Truth t ∷ item.Location l'1 ∷ r) e = finds_none (item.Truth t ∷ item.Location l'1 ∷ r) e refl
    conjunctions (item.Truth t ∷ item.Row q1 ∷ r) e = finds_none (item.Truth t ∷ item.Row q1 ∷ r) e refl
    conjunctions (item.Truth t ∷ item.Truth s ∷ r) e = exchanges (Finish p) c (item.Truth t ∷ item.Truth s ∷ r) [] 2 (item.Truth (s && t) ∷ []) (omega linear) (finish_conjunction e)

    puts : {l x : ℕ} (a : ℤ) (r : List Item) → rows p ≡ Some (row.Assignment l x) → length c ≤ k.control → 2 + length r ≤ k.results →
        (v : Result (Unit {0}) StoreFault) → asked m l a ≡ v →
        Try (conf (Finish p ∷ c) (item.Number a ∷ item.Location l ∷ r) m) (unless_refused p v (λ _. went (conf c r (written m l a))))
    puts a r e hc hr (Ok tt) q = made (finish_assignment e q) (hc, omega (linear, hr))
    puts a r e hc hr (Err f) q = refused (assignment_refused e q) tt

    assignments : {l x : ℕ} (r : List Item) → rows p ≡ Some (row.Assignment l x) → length c ≤ k.control → length r ≤ k.results →
        Try (conf (Finish p ∷ c) r m) (assignment_of p l m (held (Finish p ∷ c) r))
    assignments [] e hc hr = finds_none [] e refl
    assignments (item.Truth t0 ∷ r) e hc hr = finds_none (item.Truth t0 ∷ r) e refl
    assignments (item.Location l'0 ∷ r) e hc hr = finds_none (item.Location l'0 ∷ r) e refl
    assignments (item.Row q0 ∷ r) e hc hr = finds_none (item.Row q0 ∷ r) e refl
    assignments (item.Number a ∷ []) e hc hr = finds_none (item.Number a ∷ []) e refl
    assignments (item.Number a ∷ item.Number a1 ∷ r) e hc hr = finds_none (item.Number a ∷ item.Number a1 ∷ r) e refl
    assignments (item.Number a ∷ item.Truth t1 ∷ r) e hc hr = finds_none (item.Number a ∷ item.Truth t1 ∷ r) e refl
    assignments (item.Number a ∷ item.Row q1 ∷ r) e hc hr = finds_none (item.Number a ∷ item.Row q1 ∷ r) e refl
    assignments {l} (item.Number a ∷ item.Location l' ∷ r) e hc hr = elim (eqb_tells l' l) [
      | inr q ↦ rw q.0 (finds_none (item.Number a ∷ item.Location l' ∷ r) e (rw q.0))
      | inl q ↦ rw q.0 (subst (λ i. Try (conf (Finish p ∷ c) (item.Number a ∷ item.Location i ∷ r) m) (unless_refused p (asked m l a) (λ _. went (conf c r (written m l a))))) (sym q.1) (puts a r e hc (omega (linear, hr)) (asked m l a) refl))
    ]

    chooses : {b x y : ℕ} (t : Bool) (r : List Item) → rows p ≡ Some (row.Choice b x y) →
        Try (conf (Finish p ∷ c) (item.Truth t ∷ item.Row x ∷ item.Row y ∷ r) m)
        (lifted m (exchanged k (Whole (cond t x y) ∷ []) 3 [] (held (Finish p ∷ c) (item.Truth t ∷ item.Row x ∷ item.Row y ∷ r))))
    chooses {x} {y} true r e = exchanges (Finish p) c (item.Truth true ∷ item.Row x ∷ item.Row y ∷ r) (Whole x ∷ []) 3 [] (omega linear) (finish_true e)
    chooses {x} {y} false r e = exchanges (Finish p) c (item.Truth false ∷ item.Row x ∷ item.Row y ∷ r) (Whole y ∷ []) 3 [] (omega linear) (finish_false e)

    choices : {b x y : ℕ} (r : List Item) → rows p ≡ Some (row.Choice b x y) → Try (conf (Finish p ∷ c) r m) (lifted m (choice_of k x y (held (Finish p ∷ c) r)))
    choices [] e = finds_none [] e refl
    choices (item.Number a0 ∷ r) e = finds_none (item.Number a0 ∷ r) e refl
    choices (item.Location l'0 ∷ r) e = finds_none (item.Location l'0 ∷ r) e refl
    choices (item.Row q0 ∷ r) e = finds_none (item.Row q0 ∷ r) e refl
    choices (item.Truth t ∷ []) e = finds_none (item.Truth t ∷ []) e refl
    choices (item.Truth t ∷ item.Number a1 ∷ r) e = finds_none (item.Truth t ∷ item.Number a1 ∷ r) e refl
    choices (item.Truth t ∷ item.Truth t1 ∷ r) e = finds_none (item.Truth t ∷ item.Truth t1 ∷ r) e refl
    choices (item.Truth t ∷ item.Location l'1 ∷ r) e = finds_none (item.Truth t ∷ item.Location l'1 ∷ r) e refl
    choices (item.Truth t ∷ item.Row i ∷ []) e = finds_none (item.Truth t ∷ item.Row i ∷ []) e refl
    choices (item.Truth t ∷ item.Row i ∷ item.Number a2 ∷ r) e = finds_none (item.Truth t ∷ item.Row i ∷ item.Number a2 ∷ r) e refl
    choices (item.Truth t ∷ item.Row i ∷ item.Truth t2 ∷ r) e = finds_none (item.Truth t ∷ item.Row i ∷ item.Truth t2 ∷ r) e refl
    choices (item.Truth t ∷ item.Row i ∷ item.Location l'2 ∷ r) e = finds_none (item.Truth t ∷ item.Row i ∷ item.Location l'2 ∷ r) e refl
    choices {x} {y} (item.Truth t ∷ item.Row i ∷ item.Row j ∷ r) e = elim (eqb_tells i x) [
      | inr q ↦ rw q.0 (finds_none (item.Truth t ∷ item.Row i ∷ item.Row j ∷ r) e (rw q.0))
      | inl q ↦ elim (eqb_tells j y) [
        | inr z ↦ rw (q.0, z.0) (finds_none (item.Truth t ∷ item.Row i ∷ item.Row j ∷ r) e (rw (q.0, z.0)))
        | inl z ↦ rw (q.0, z.0)
            (subst₂ (λ i j. Try (conf (Finish p ∷ c) (item.Truth t ∷ item.Row i ∷ item.Row j ∷ r) m) (lifted m (exchanged k (Whole (cond t x y) ∷ []) 3 [] (held (Finish p ∷ c) (item.Truth t ∷ item.Row i ∷ item.Row j ∷ r))))) (sym q.1) (sym z.1) (chooses t r e))
      ]
    ]

    turns : {b x : ℕ} (t : Bool) (r : List Item) → rows p ≡ Some (row.Loop b x) →
        Try (conf (Finish p ∷ c) (item.Truth t ∷ item.Row b ∷ item.Row x ∷ r) m)
        (lifted m (cond t (exchanged k (Whole x ∷ Whole p ∷ []) 3 [] (held (Finish p ∷ c) (item.Truth t ∷ item.Row b ∷ item.Row x ∷ r)))
        (exchanged k [] 3 [] (held (Finish p ∷ c) (item.Truth t ∷ item.Row b ∷ item.Row x ∷ r)))))
    turns {b} {x} true r e = exchanges (Finish p) c (item.Truth true ∷ item.Row b ∷ item.Row x ∷ r) (Whole x ∷ Whole p ∷ []) 3 [] (omega linear) (finish_turning e)
    turns {b} {x} false r e = exchanges (Finish p) c (item.Truth false ∷ item.Row b ∷ item.Row x ∷ r) [] 3 [] (omega linear) (finish_leaving e)

    loops : {b x : ℕ} (r : List Item) → rows p ≡ Some (row.Loop b x) → Try (conf (Finish p ∷ c) r m) (lifted m (loop_of k p b x (held (Finish p ∷ c) r)))
    loops [] e = finds_none [] e refl
    loops (item.Number a0 ∷ r) e = finds_none (item.Number a0 ∷ r) e refl
    loops (item.Location l'0 ∷ r) e = finds_none (item.Location l'0 ∷ r) e refl
    loops (item.Row q0 ∷ r) e = finds_none (item.Row q0 ∷ r) e refl
    loops (item.Truth t ∷ []) e = finds_none (item.Truth t ∷ []) e refl
    loops (item.Truth t ∷ item.Number a1 ∷ r) e = finds_none (item.Truth t ∷ item.Number a1 ∷ r) e refl
    loops (item.Truth t ∷ item.Truth t1 ∷ r) e = finds_none (item.Truth t ∷ item.Truth t1 ∷ r) e refl
    loops (item.Truth t ∷ item.Location l'1 ∷ r) e = finds_none (item.Truth t ∷ item.Location l'1 ∷ r) e refl
    loops (item.Truth t ∷ item.Row i ∷ []) e = finds_none (item.Truth t ∷ item.Row i ∷ []) e refl
    loops (item.Truth t ∷ item.Row i ∷ item.Number a2 ∷ r) e = finds_none (item.Truth t ∷ item.Row i ∷ item.Number a2 ∷ r) e refl
    loops (item.Truth t ∷ item.Row i ∷ item.Truth t2 ∷ r) e = finds_none (item.Truth t ∷ item.Row i ∷ item.Truth t2 ∷ r) e refl
    loops (item.Truth t ∷ item.Row i ∷ item.Location l'2 ∷ r) e = finds_none (item.Truth t ∷ item.Row i ∷ item.Location l'2 ∷ r) e refl
    loops {b} {x} (item.Truth t ∷ item.Row i ∷ item.Row j ∷ r) e = elim (eqb_tells i b) [
      | inr q ↦ rw q.0 (finds_none (item.Truth t ∷ item.Row i ∷ item.Row j ∷ r) e (rw q.0))
      | inl q ↦ elim (eqb_tells j x) [
        | inr z ↦ rw (q.0, z.0) (finds_none (item.Truth t ∷ item.Row i ∷ item.Row j ∷ r) e (rw (q.0, z.0)))
        | inl z ↦ rw (q.0, z.0)
            (subst₂ (λ i j. Try (conf (Finish p ∷ c) (item.Truth t ∷ item.Row i ∷ item.Row j ∷ r) m) (lifted m (cond t (exchanged k (Whole x ∷ Whole p ∷ []) 3 [] (held (Finish p ∷ c) (item.Truth t ∷ item.Row i ∷ item.Row j ∷ r))) (exchanged k [] 3 [] (held (Finish p ∷ c) (item.Truth t ∷ item.Row i ∷ item.Row j ∷ r)))))) (sym q.1) (sym z.1) (turns t r e))
      ]
    ]

    finishes : (w : Row) (r : List Item) → rows p ≡ Some w → length c ≤ k.control → length r ≤ k.results →
        Try (conf (Finish p ∷ c) r m) (finish_all_of k p m w (held (Finish p ∷ c) r))
    finishes (row.Number a) r e hc hr = finds_none r e refl
    finishes (row.Contents l) r e hc hr = finds_none r e refl
    finishes (row.Arithmetic o x y) r e hc hr = arithmetics r e
    finishes (row.Truth t) r e hc hr = finds_none r e refl
    finishes (row.Comparison o x y) r e hc hr = comparisons r e
    finishes (row.Not x) r e hc hr = negations r e
    finishes (row.And x y) r e hc hr = conjunctions r e
    finishes row.Skip r e hc hr = finds_none r e refl
    finishes (row.Assignment l x) r e hc hr = assignments r e hc hr
    finishes (row.Sequence x y) r e hc hr = finds_none r e refl
    finishes (row.Choice b x y) r e hc hr = choices r e
    finishes (row.Loop b x) r e hc hr = loops r e

  whole_by : (p : ℕ) (c : List Control) (r : List Item) (o : Option Row) → rows p ≡ o →
      Try (conf (Whole p ∷ c) r m) (found o (λ w. lifted m (whole_of k m p w (held (Whole p ∷ c) r))))
  whole_by p c r None e = sticks (conf (Whole p ∷ c) r m) (ap (λ o. opened o p c r m) e)
  whole_by p c r (Some w) e = wholes p c w r e

  finish_by : (p : ℕ) (c : List Control) (r : List Item) (o : Option Row) → rows p ≡ o → length c ≤ k.control → length r ≤ k.results →
      Try (conf (Finish p ∷ c) r m) (found o (λ w. finish_all_of k p m w (held (Finish p ∷ c) r)))
  finish_by p c r None e hc hr = sticks (conf (Finish p ∷ c) r m) (ap (λ o. closed o p c r m) e)
  finish_by p c r (Some w) e hc hr = finishes p c w r e hc hr

  pub tries : (c : List Control) (r : List Item) → length c ≤ k.control → length r ≤ k.results → Try (conf c r m) (step_of k rows m (held c r))
  tries [] r hc hr = sticks (conf [] r m) refl
  tries (Whole p ∷ c) r hc hr = whole_by p c r (rows p) refl
  tries (Finish p ∷ c) r hc hr = finish_by p c r (rows p) refl (omega (linear, hc)) hr
