-- Whatever number of transitions is chosen: within it the row ends, or faults, or is still being worked out.
use Rattle.std.proofs.Common.{◌≡◌, ℕ, zero, suc, ◌+◌, ◌-◌, ◌<◌, ◌≤◌, Bool, true, false, not, ◌&&◌, List, ◌∷◌, length, ℤ, Some, Ok, Err, Option, Result, refl, arith as linear}
use native.Mathlib.Decide.{dec_lt}
use Rattle.cells.specs.declared.fault.StoreFault.{StoreFault}
use Rattle.rows.specs.declared.row.Operator.{Operator}
use Rattle.rows.specs.declared.row.Relation.{Relation}
use Rattle.rows.specs.declared.row.Sort.{Sort}
use Rattle.rows.specs.declared.row.Sort.TheVariants.{Integer, Boolean, Command}
use Rattle.rows.specs.declared.row.Row.{Row}
use Rattle.rows.specs.declared.row.Row.TheVariants as row
use Rattle.loading.specs.Stacks.{control_need}
use Rattle.semantics.specs.declared.fault.Fault.{Fault}
use Rattle.semantics.specs.declared.item.Control.{Control}
use Rattle.semantics.specs.declared.item.Control.TheVariants.{Whole, Finish}
use Rattle.semantics.specs.declared.item.Item.{Item}
use Rattle.semantics.specs.declared.item.Item.TheVariants as item
use Rattle.semantics.specs.declared.arithmetic.ArithmeticFault.{ArithmeticFault}
use Rattle.semantics.specs.Arithmetic.{computed, compared}
use Rattle.semantics.specs.Cells.{Cells, read, asked, written}
use Rattle.semantics.specs.Rules.{Evaluates, of_number, of_contents, of_arithmetic, of_truth, of_comparison, of_not, of_and}
use Rattle.semantics.specs.Rules.{Executes, by_skip, by_assignment, by_sequence, by_true, by_false, by_leaving, by_turning}
use Rattle.semantics.specs.Rules.{Faults, at_contents, at_arithmetic, at_assignment, in_left_number, in_right_number, in_left_compared, in_right_compared, in_not, in_left_truth, in_right_truth}
use Rattle.semantics.specs.Rules.{in_assigned, in_first, in_second, in_choosing, in_true, in_false, in_condition, in_body, in_turning}
use Rattle.semantics.specs.Machine.{conf}
use Rattle.semantics.specs.Machine.{Transition, arithmetic, comparison, negation, conjunction}
use Rattle.semantics.specs.Machine.{assignment, sequence, choice, finish_true, finish_false, loop, finish_turning}
use Rattle.semantics.specs.Traces.{HoldsUp, stay, move, Reaches, reaches}
use Rattle.semantics.proofs.Shape.{Meets, strong}
use Rattle.semantics.proofs.Shape.{Stands, a_number, a_contents, an_arithmetic, a_truth, a_comparison, a_not, an_and, a_skip, an_assignment, a_sequence, a_choice, a_loop}
use Rattle.semantics.proofs.Fail.{carry}
use Rattle.semantics.proofs.Sound.{counted, kn, rn, value_needs, says, does}

module _ (rows : ℕ → Option Row) where
  -- a row of that sort has come to its end at the cost i
  abbrev pub Ended : Sort → Cells → ℕ → ℕ → Type 0
  Ended Integer m p i = (a : ℤ) × Evaluates rows m p (item.Number a) i
  Ended Boolean m p i = (t : Bool) × Evaluates rows m p (item.Truth t) i
  Ended Command m p i = (m' : Cells) × Executes rows m p m' i

  module _ (K R : ℕ → ℕ) (meets : Meets rows K R) where
    -- n transitions leave p unfinished: said over whatever floor and room will do, so that it is at hand for a part of a row
    abbrev pub Pends : Cells → ℕ → ℕ → Type 0
    Pends m p n =
        (b k h : ℕ) (c : List Control) (r : List Item) → b ≤ suc (length c) → K p + length c ≤ k → R p + length r ≤ h →
        Reaches rows b k h (HoldsUp b) (conf (Whole p ∷ c) r m) n

    -- what comes of n transitions
    pub data Way (s : Sort) (m : Cells) (p n : ℕ) : Type 0 where
      ends : (i : ℕ) → Ended s m p i → i ≤ n → Way s m p n
      faults : {f : Fault} {m' : Cells} {i : ℕ} → Faults rows m p f m' i → i < n → Way s m p n
      pends : Pends m p n → Way s m p n

    positive : (w : Row) → 1 ≤ control_need K w
    positive (row.Number a) = omega linear
    positive (row.Contents l) = omega linear
    positive (row.Arithmetic o x y) = omega linear
    positive (row.Truth t) = omega linear
    positive (row.Comparison o x y) = omega linear
    positive (row.Not x) = omega linear
    positive (row.And x y) = omega linear
    positive row.Skip = omega linear
    positive (row.Assignment l x) = omega linear
    positive (row.Sequence x y) = omega linear
    positive (row.Choice b x y) = omega linear
    positive (row.Loop b x) = omega linear

    at_row : {m : Cells} {p : ℕ} {w : Row} → rows p ≡ Some w → Pends m p 0
    at_row {p} {w} e b k h c r bc kc hr =
        let kp = kn rows K R meets e in let pos = positive w in
        reaches (stay (omega linear)) (omega linear)

    at_start : {m : Cells} {p : ℕ} {s : Sort} → Stands rows p s → Pends m p 0
    at_start (a_number e) = at_row e
    at_start (a_contents e) = at_row e
    at_start (an_arithmetic e gx gy) = at_row e
    at_start (a_truth e) = at_row e
    at_start (a_comparison e gx gy) = at_row e
    at_start (a_not e gx) = at_row e
    at_start (an_and e gx gy) = at_row e
    at_start (a_skip e) = at_row e
    at_start (an_assignment e gx) = at_row e
    at_start (a_sequence e gx gy) = at_row e
    at_start (a_choice e gb gx gy) = at_row e
    at_start (a_loop e gb gx) = at_row e

    -- a row of two operands
    record Binary (p x y : ℕ) : Type 0 where
      kx : K x + 2 ≤ K p
      ky : K y + 1 ≤ K p
      rx : R x ≤ R p
      ry : R y + 1 ≤ R p
      opening : (c : List Control) (r : List Item) (m : Cells) → Transition rows (conf (Whole p ∷ c) r m) (conf (Whole x ∷ Whole y ∷ Finish p ∷ c) r m)

    binary_arithmetic : {p x y : ℕ} {o : Operator} → rows p ≡ Some (row.Arithmetic o x y) → Binary p x y
    binary_arithmetic e = let kp = kn rows K R meets e in let rp = rn rows K R meets e in
        record { kx = omega linear; ky = omega linear; rx = omega linear; ry = omega linear; opening = λ c r m. arithmetic e }

    binary_comparison : {p x y : ℕ} {o : Relation} → rows p ≡ Some (row.Comparison o x y) → Binary p x y
    binary_comparison e = let kp = kn rows K R meets e in let rp = rn rows K R meets e in
        record { kx = omega linear; ky = omega linear; rx = omega linear; ry = omega linear; opening = λ c r m. comparison e }

    binary_and : {p x y : ℕ} → rows p ≡ Some (row.And x y) → Binary p x y
    binary_and e = let kp = kn rows K R meets e in let rp = rn rows K R meets e in
        record { kx = omega linear; ky = omega linear; rx = omega linear; ry = omega linear; opening = λ c r m. conjunction e }

    in_left : {m : Cells} {p x y n : ℕ} → Binary p x y → Pends m x n → Pends m p (suc n)
    in_left {m} {p} {x} {y} {n} d w b k h c r bc kc hr =
        carry rows (w b k h (Whole y ∷ Finish p ∷ c) r (omega linear) (omega linear) (omega linear))
        (λ t g. move (omega linear) (omega linear) (d.opening c r m) g)

    in_right : {m : Cells} {p x y i n : ℕ} {v : Item} → Binary p x y → Evaluates rows m x v i → i ≤ n → Pends m y (n - i) → Pends m p (suc n)
    in_right {m} {p} {x} {y} {i} {n} {v} d dx le w b k h c r bc kc hr =
        carry rows (w b k h (Finish p ∷ c) (v ∷ r) (omega linear) (omega linear) (omega linear))
        (λ t g. counted rows (omega linear) (move (omega linear) (omega linear) (d.opening c r m)
        (says rows K R meets dx b k h (Whole y ∷ Finish p ∷ c) r (omega linear) (omega linear) (omega linear) g)))

    at_finish : {m : Cells} {p x y i j n : ℕ} {u v : Item} → Binary p x y → Evaluates rows m x u i → Evaluates rows m y v j → n ≡ i + j → Pends m p (suc n)
    at_finish {m} {p} {x} {y} {i} {j} {n} {u} {v} d dx dy q b k h c r bc kc hr =
        let ny = value_needs rows K R meets dy in
        reaches (counted rows (omega linear) (move (omega linear) (omega linear) (d.opening c r m)
        (says rows K R meets dx b k h (Whole y ∷ Finish p ∷ c) r (omega linear) (omega linear) (omega linear)
        (says rows K R meets dy b k h (Finish p ∷ c) (u ∷ r) (omega linear) (omega linear) (omega linear)
        (stay (omega linear)))))) (omega linear)

    -- a row of one part x, beneath which it has laid the items `laid` on the results
    record Unary (p x : ℕ) (laid : List Item → List Item) (g : ℕ) : Type 0 where
      kx : K x + 1 ≤ K p
      rx : R x + g ≤ R p
      high : (r : List Item) → length (laid r) ≡ g + length r
      opening : (c : List Control) (r : List Item) (m : Cells) → Transition rows (conf (Whole p ∷ c) r m) (conf (Whole x ∷ Finish p ∷ c) (laid r) m)

    unary_not : {p x : ℕ} → rows p ≡ Some (row.Not x) → Unary p x (λ r. r) 0
    unary_not e = let kp = kn rows K R meets e in let rp = rn rows K R meets e in
        record { kx = omega linear; rx = omega linear; high = λ r. omega linear; opening = λ c r m. negation e }

    unary_assignment : {p l x : ℕ} → rows p ≡ Some (row.Assignment l x) → Unary p x (λ r. item.Location l ∷ r) 1
    unary_assignment e = let kp = kn rows K R meets e in let rp = rn rows K R meets e in
        record { kx = omega linear; rx = omega linear; high = λ r. omega linear; opening = λ c r m. assignment e }

    unary_choice : {p b x y : ℕ} → rows p ≡ Some (row.Choice b x y) → Unary p b (λ r. item.Row x ∷ item.Row y ∷ r) 2
    unary_choice e = let kp = kn rows K R meets e in let rp = rn rows K R meets e in
        record { kx = omega linear; rx = omega linear; high = λ r. omega linear; opening = λ c r m. choice e }

    unary_loop : {p b x : ℕ} → rows p ≡ Some (row.Loop b x) → Unary p b (λ r. item.Row b ∷ item.Row x ∷ r) 2
    unary_loop e = let kp = kn rows K R meets e in let rp = rn rows K R meets e in
        record { kx = omega linear; rx = omega linear; high = λ r. omega linear; opening = λ c r m. loop e }

    in_part : {m : Cells} {p x n : ℕ} (laid : List Item → List Item) (g : ℕ) → Unary p x laid g → Pends m x n → Pends m p (suc n)
    in_part {m} {p} {x} {n} laid g d w b k h c r bc kc hr =
        let hi = d.high r in
        carry rows (w b k h (Finish p ∷ c) (laid r) (omega linear) (omega linear) (omega linear))
        (λ t g. move (omega linear) (omega linear) (d.opening c r m) g)

    at_part : {m : Cells} {p x i n : ℕ} {v : Item} (laid : List Item → List Item) (g : ℕ) → Unary p x laid g → Evaluates rows m x v i → n ≡ i → Pends m p (suc n)
    at_part {m} {p} {x} {i} {n} {v} laid g d dx q b k h c r bc kc hr =
        let nx = value_needs rows K R meets dx in let hi = d.high r in
        reaches (counted rows (omega linear) (move (omega linear) (omega linear) (d.opening c r m)
        (says rows K R meets dx b k h (Finish p ∷ c) (laid r) (omega linear) (omega linear) (omega linear) (stay (omega linear))))) (omega linear)

    in_first_command : {m : Cells} {p x y n : ℕ} → rows p ≡ Some (row.Sequence x y) → Pends m x n → Pends m p (suc n)
    in_first_command {m} {p} {x} {y} {n} e w b k h c r bc kc hr =
        let kp = kn rows K R meets e in let rp = rn rows K R meets e in
        carry rows (w b k h (Whole y ∷ c) r (omega linear) (omega linear) (omega linear))
        (λ t g. move (omega linear) (omega linear) (sequence e) g)

    in_second_command : {m m' : Cells} {p x y i n : ℕ} → rows p ≡ Some (row.Sequence x y) → Executes rows m x m' i → i ≤ n → Pends m' y (n - i) → Pends m p (suc n)
    in_second_command {m} {m'} {p} {x} {y} {i} {n} e dx le w b k h c r bc kc hr =
        let kp = kn rows K R meets e in let rp = rn rows K R meets e in
        carry rows (w b k h c r bc (omega linear) (omega linear))
        (λ t g. counted rows (omega linear) (move (omega linear) (omega linear) (sequence e)
        (does rows K R meets dx b k h (Whole y ∷ c) r (omega linear) (omega linear) (omega linear) g)))

    after_true : {m : Cells} {p b x y i n : ℕ} → rows p ≡ Some (row.Choice b x y) → Evaluates rows m b (item.Truth true) i → i < n → Pends m x (n - (i + 1)) → Pends m p (suc n)
    after_true {m} {p} {b = b'} {x} {y} {i} {n} e db lt w b k h c r bc kc hr =
        let kp = kn rows K R meets e in let rp = rn rows K R meets e in let nb = value_needs rows K R meets db in
        carry rows (w b k h (c) r (omega linear) (omega linear) (omega linear))
        (λ t g. counted rows (omega linear) (move (omega linear) (omega linear) (choice e)
        (says rows K R meets db b k h (Finish p ∷ c) (item.Row x ∷ item.Row y ∷ r) (omega linear) (omega linear) (omega linear)
        (move (omega linear) (omega linear) (finish_true e) g))))

    after_false : {m : Cells} {p b x y i n : ℕ} → rows p ≡ Some (row.Choice b x y) → Evaluates rows m b (item.Truth false) i → i < n → Pends m y (n - (i + 1)) → Pends m p (suc n)
    after_false {m} {p} {b = b'} {x} {y} {i} {n} e db lt w b k h c r bc kc hr =
        let kp = kn rows K R meets e in let rp = rn rows K R meets e in let nb = value_needs rows K R meets db in
        carry rows (w b k h (c) r (omega linear) (omega linear) (omega linear))
        (λ t g. counted rows (omega linear) (move (omega linear) (omega linear) (choice e)
        (says rows K R meets db b k h (Finish p ∷ c) (item.Row x ∷ item.Row y ∷ r) (omega linear) (omega linear) (omega linear)
        (move (omega linear) (omega linear) (finish_false e) g))))

    in_loop_body : {m : Cells} {p b x i n : ℕ} → rows p ≡ Some (row.Loop b x) → Evaluates rows m b (item.Truth true) i → i < n → Pends m x (n - (i + 1)) → Pends m p (suc n)
    in_loop_body {m} {p} {b = b'} {x} {i} {n} e db lt w b k h c r bc kc hr =
        let kp = kn rows K R meets e in let rp = rn rows K R meets e in let nb = value_needs rows K R meets db in
        carry rows (w b k h (Whole p ∷ c) r (omega linear) (omega linear) (omega linear))
        (λ t g. counted rows (omega linear) (move (omega linear) (omega linear) (loop e)
        (says rows K R meets db b k h (Finish p ∷ c) (item.Row b' ∷ item.Row x ∷ r) (omega linear) (omega linear) (omega linear)
        (move (omega linear) (omega linear) (finish_turning e) g))))

    in_next_turn : {m m' : Cells} {p b x i j n : ℕ} → rows p ≡ Some (row.Loop b x) → Evaluates rows m b (item.Truth true) i → i < n → Executes rows m x m' j → j ≤ n - (i + 1) →
        Pends m' p (n - (i + 1) - j) → Pends m p (suc n)
    in_next_turn {m} {m'} {p} {b = b'} {x} {i} {j} {n} e db lt dx le w b k h c r bc kc hr =
        let kp = kn rows K R meets e in let rp = rn rows K R meets e in let nb = value_needs rows K R meets db in
        carry rows (w b k h c r bc (omega linear) (omega linear))
        (λ t g. counted rows (omega linear) (move (omega linear) (omega linear) (loop e)
        (says rows K R meets db b k h (Finish p ∷ c) (item.Row b' ∷ item.Row x ∷ r) (omega linear) (omega linear) (omega linear)
        (move (omega linear) (omega linear) (finish_turning e)
        (does rows K R meets dx b k h (Whole p ∷ c) r (omega linear) (omega linear) (omega linear) g)))))

    reading_way : {m : Cells} {p l n : ℕ} → rows p ≡ Some (row.Contents l) → (v : Result ℤ StoreFault) → read m l ≡ v → Way Integer m p (suc n)
    reading_way e (Ok a) q = ends 1 (a, of_contents e q) (omega linear)
    reading_way e (Err f) q = faults (at_contents e q) (omega linear)

    computing_way : {m : Cells} {p x y i j n : ℕ} {o : Operator} {a b : ℤ} → rows p ≡ Some (row.Arithmetic o x y) → Evaluates rows m x (item.Number a) i → Evaluates rows m y (item.Number b) j →
        2 + i + j ≤ n → (v : Result ℤ ArithmeticFault) → computed o a b ≡ v → Way Integer m p n
    computing_way {i} {j} e dx dy le (Ok z) q = ends (2 + i + j) (z, of_arithmetic e dx dy q) le
    computing_way e dx dy le (Err f) q = faults (at_arithmetic e dx dy q) (omega linear)

    putting_way : {m : Cells} {p l x i n : ℕ} {a : ℤ} → rows p ≡ Some (row.Assignment l x) → Evaluates rows m x (item.Number a) i →
        2 + i ≤ n → (v : Result (Unit {0}) StoreFault) → asked m l a ≡ v → Way Command m p n
    putting_way {m} {l} {i} {a} e dx le (Ok tt) q = ends (2 + i) (written m l a, by_assignment e dx q) le
    putting_way e dx le (Err f) q = faults (at_assignment e dx q) (omega linear)

    abbrev Below : ℕ → Type 0
    Below n = (n' : ℕ) → n' < n → (p : ℕ) (s : Sort) → Stands rows p s → (m : Cells) → Way s m p n'

    choice_way : {m : Cells} {p b x y i n : ℕ} → Below (suc n) → rows p ≡ Some (row.Choice b x y) → Stands rows x Command → Stands rows y Command →
        (t : Bool) → Evaluates rows m b (item.Truth t) i → i < n → Way Command m p (suc n)
    choice_way {m} {p} {b} {x} {y} {i} {n} ih e gx gy true db lt =
        elim (ih (n - (i + 1)) (omega linear) x Command gx m) [
          | pends w ↦ pends (after_true e db lt w)
          | faults d lt' ↦ faults (in_true e db d) (omega linear)
          | ends j d le ↦ ends (2 + i + j) (d.0, by_true e db d.1) (omega linear)
        ]
    choice_way {m} {p} {b} {x} {y} {i} {n} ih e gx gy false db lt =
        elim (ih (n - (i + 1)) (omega linear) y Command gy m) [
          | pends w ↦ pends (after_false e db lt w)
          | faults d lt' ↦ faults (in_false e db d) (omega linear)
          | ends j d le ↦ ends (2 + i + j) (d.0, by_false e db d.1) (omega linear)
        ]

    loop_way : {m : Cells} {p b x i n : ℕ} → Below (suc n) → rows p ≡ Some (row.Loop b x) → Stands rows p Command → Stands rows x Command →
        (t : Bool) → Evaluates rows m b (item.Truth t) i → i < n → Way Command m p (suc n)
    loop_way {m} {p} {b} {x} {i} {n} ih e gp gx false db lt = ends (2 + i) (m, by_leaving e db) (omega linear)
    loop_way {m} {p} {b} {x} {i} {n} ih e gp gx true db lt =
        elim (ih (n - (i + 1)) (omega linear) x Command gx m) [
          | pends w ↦ pends (in_loop_body e db lt w)
          | faults d lt' ↦ faults (in_body e db d) (omega linear)
          | ends j dx le ↦ elim (ih (n - (i + 1) - j) (omega linear) p Command gp dx.0) [
            | pends w ↦ pends (in_next_turn e db lt dx.1 le w)
            | faults d lt' ↦ faults (in_turning e db dx.1 d) (omega linear)
            | ends j' d le' ↦ ends (2 + i + j + j') (d.0, by_turning e db dx.1 d.1) (omega linear)
          ]
        ]

    step : (n : ℕ) → Below n → (p : ℕ) (s : Sort) → Stands rows p s → (m : Cells) → Way s m p n
    step zero ih p s gd m = pends (at_start gd)
    step (suc n) ih p s (a_number {a} e) m = ends 1 (a, of_number e) (omega linear)
    step (suc n) ih p s (a_contents {l} e) m = reading_way e (read m l) refl
    step (suc n) ih p s (an_arithmetic {x} {y} {o} e gx gy) m =
        elim (ih n (omega linear) x Integer gx m) [
          | pends w ↦ pends (in_left (binary_arithmetic e) w)
          | faults d lt ↦ faults (in_left_number e d) (omega linear)
          | ends i dx le ↦ elim (ih (n - i) (omega linear) y Integer gy m) [
            | pends w ↦ pends (in_right (binary_arithmetic e) dx.1 le w)
            | faults d lt ↦ faults (in_right_number e dx.1 d) (omega linear)
            | ends j dy le' ↦ elim (dec_lt (i + j) n) [
              | yes lt ↦ computing_way e dx.1 dy.1 (omega linear) (computed o dx.0 dy.0) refl
              | no no_lt ↦ pends (at_finish (binary_arithmetic e) dx.1 dy.1 (omega linear))
            ]
          ]
        ]
    step (suc n) ih p s (a_truth {t} e) m = ends 1 (t, of_truth e) (omega linear)
    step (suc n) ih p s (a_comparison {x} {y} {o} e gx gy) m =
        elim (ih n (omega linear) x Integer gx m) [
          | pends w ↦ pends (in_left (binary_comparison e) w)
          | faults d lt ↦ faults (in_left_compared e d) (omega linear)
          | ends i dx le ↦ elim (ih (n - i) (omega linear) y Integer gy m) [
            | pends w ↦ pends (in_right (binary_comparison e) dx.1 le w)
            | faults d lt ↦ faults (in_right_compared e dx.1 d) (omega linear)
            | ends j dy le' ↦ elim (dec_lt (i + j) n) [
              | yes lt ↦ ends (2 + i + j) (compared o dx.0 dy.0, of_comparison e dx.1 dy.1) (omega linear)
              | no no_lt ↦ pends (at_finish (binary_comparison e) dx.1 dy.1 (omega linear))
            ]
          ]
        ]
    step (suc n) ih p s (a_not {x} e gx) m =
        elim (ih n (omega linear) x Boolean gx m) [
          | pends w ↦ pends (in_part (λ r. r) 0 (unary_not e) w)
          | faults d lt ↦ faults (in_not e d) (omega linear)
          | ends i dx le ↦ elim (dec_lt i n) [
            | yes lt ↦ ends (2 + i) (not dx.0, of_not e dx.1) (omega linear)
            | no no_lt ↦ pends (at_part (λ r. r) 0 (unary_not e) dx.1 (omega linear))
          ]
        ]
    step (suc n) ih p s (an_and {x} {y} e gx gy) m =
        elim (ih n (omega linear) x Boolean gx m) [
          | pends w ↦ pends (in_left (binary_and e) w)
          | faults d lt ↦ faults (in_left_truth e d) (omega linear)
          | ends i dx le ↦ elim (ih (n - i) (omega linear) y Boolean gy m) [
            | pends w ↦ pends (in_right (binary_and e) dx.1 le w)
            | faults d lt ↦ faults (in_right_truth e dx.1 d) (omega linear)
            | ends j dy le' ↦ elim (dec_lt (i + j) n) [
              | yes lt ↦ ends (2 + i + j) (dx.0 && dy.0, of_and e dx.1 dy.1) (omega linear)
              | no no_lt ↦ pends (at_finish (binary_and e) dx.1 dy.1 (omega linear))
            ]
          ]
        ]
    step (suc n) ih p s (a_skip e) m = ends 1 (m, by_skip e) (omega linear)
    step (suc n) ih p s (an_assignment {l} {x} e gx) m =
        elim (ih n (omega linear) x Integer gx m) [
          | pends w ↦ pends (in_part (λ r. item.Location l ∷ r) 1 (unary_assignment e) w)
          | faults d lt ↦ faults (in_assigned e d) (omega linear)
          | ends i dx le ↦ elim (dec_lt i n) [
            | yes lt ↦ putting_way e dx.1 (omega linear) (asked m l dx.0) refl
            | no no_lt ↦ pends (at_part (λ r. item.Location l ∷ r) 1 (unary_assignment e) dx.1 (omega linear))
          ]
        ]
    step (suc n) ih p s (a_sequence {x} {y} e gx gy) m =
        elim (ih n (omega linear) x Command gx m) [
          | pends w ↦ pends (in_first_command e w)
          | faults d lt ↦ faults (in_first e d) (omega linear)
          | ends i dx le ↦ elim (ih (n - i) (omega linear) y Command gy dx.0) [
            | pends w ↦ pends (in_second_command e dx.1 le w)
            | faults d lt ↦ faults (in_second e dx.1 d) (omega linear)
            | ends j dy le' ↦ ends (1 + i + j) (dy.0, by_sequence e dx.1 dy.1) (omega linear)
          ]
        ]
    step (suc n) ih p s (a_choice {b} {x} {y} e gb gx gy) m =
        elim (ih n (omega linear) b Boolean gb m) [
          | pends w ↦ pends (in_part (λ r. item.Row x ∷ item.Row y ∷ r) 2 (unary_choice e) w)
          | faults d lt ↦ faults (in_choosing e d) (omega linear)
          | ends i db le ↦ elim (dec_lt i n) [
            | yes lt ↦ choice_way ih e gx gy db.0 db.1 lt
            | no no_lt ↦ pends (at_part (λ r. item.Row x ∷ item.Row y ∷ r) 2 (unary_choice e) db.1 (omega linear))
          ]
        ]
    step (suc n) ih p s (a_loop {b} {x} e gb gx) m =
        elim (ih n (omega linear) b Boolean gb m) [
          | pends w ↦ pends (in_part (λ r. item.Row b ∷ item.Row x ∷ r) 2 (unary_loop e) w)
          | faults d lt ↦ faults (in_condition e d) (omega linear)
          | ends i db le ↦ elim (dec_lt i n) [
            | yes lt ↦ loop_way ih e (a_loop e gb gx) gx db.0 db.1 lt
            | no no_lt ↦ pends (at_part (λ r. item.Row b ∷ item.Row x ∷ r) 2 (unary_loop e) db.1 (omega linear))
          ]
        ]

    pub ways : (n p : ℕ) (s : Sort) → Stands rows p s → (m : Cells) → Way s m p n
    ways n p s gd m = strong (λ n. (p : ℕ) (s : Sort) → Stands rows p s → (m : Cells) → Way s m p n) step n p s gd m
