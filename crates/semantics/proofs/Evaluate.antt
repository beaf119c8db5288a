-- Derivations found by computing: what comes out is the derivation itself, so nothing is left to prove of the search.
use Rattle.std.proofs.Common.{◌≡◌, ℕ, zero, suc, ◌+◌, Bool, true, false, not, ◌&&◌, ℤ, Some, None, Ok, Err, Option, Result, refl}
use Rattle.cells.specs.declared.fault.StoreFault.{StoreFault}
use Rattle.rows.specs.declared.row.Operator.{Operator}
use Rattle.rows.specs.declared.row.Relation.{Relation}
use Rattle.rows.specs.declared.row.Row.{Row}
use Rattle.rows.specs.declared.row.Row.TheVariants as row
use Rattle.semantics.specs.declared.arithmetic.ArithmeticFault.{ArithmeticFault}
use Rattle.semantics.specs.declared.fault.Cause.TheVariants.{Store, Arithmetic}
use Rattle.semantics.specs.declared.fault.Fault.{Fault}
use Rattle.semantics.specs.declared.item.Item.TheVariants as item
use Rattle.semantics.specs.Arithmetic.{computed, compared}
use Rattle.semantics.specs.Faults.{fault_at}
use Rattle.semantics.specs.Cells.{Cells, read, asked, written}
use Rattle.semantics.specs.Rules.{Evaluates, of_number, of_contents, of_arithmetic, of_truth, of_comparison, of_not, of_and}
use Rattle.semantics.specs.Rules.{Executes, by_skip, by_assignment, by_sequence, by_true, by_false, by_leaving, by_turning}
use Rattle.semantics.specs.Rules.{Faults, at_contents, at_arithmetic, at_assignment, in_left_number, in_right_number, in_left_compared, in_right_compared, in_not, in_left_truth, in_right_truth}
use Rattle.semantics.specs.Rules.{in_assigned, in_first, in_second, in_choosing, in_true, in_false, in_condition, in_body, in_turning}

module _ (rows : ℕ → Option Row) where
  pub data Found (m : Cells) (p : ℕ) : Type 0 where
    a_number : (a : ℤ) (n : ℕ) → Evaluates rows m p (item.Number a) n → Found m p
    a_truth : (t : Bool) (n : ℕ) → Evaluates rows m p (item.Truth t) n → Found m p
    cells : (m' : Cells) (n : ℕ) → Executes rows m p m' n → Found m p
    a_fault : (f : Fault) (m' : Cells) (n : ℕ) → Faults rows m p f m' n → Found m p
    nothing : Found m p

  abbrev pub reading : {m : Cells} {p l : ℕ} → rows p ≡ Some (row.Contents l) → (v : Result ℤ StoreFault) → read m l ≡ v → Found m p
  reading e (Ok a) q = a_number a 1 (of_contents e q)
  reading {m} {p} e (Err f) q = a_fault (fault_at p (Store f)) m 0 (at_contents e q)

  abbrev pub computing : {m : Cells} {p x y i j : ℕ} {o : Operator} {a b : ℤ} → rows p ≡ Some (row.Arithmetic o x y) →
      Evaluates rows m x (item.Number a) i → Evaluates rows m y (item.Number b) j → (v : Result ℤ ArithmeticFault) → computed o a b ≡ v → Found m p
  computing {i} {j} e dx dy (Ok z) q = a_number z (2 + i + j) (of_arithmetic e dx dy q)
  computing {m} {p} {i} {j} e dx dy (Err f) q = a_fault (fault_at p (Arithmetic f)) m (1 + i + j) (at_arithmetic e dx dy q)

  abbrev pub right_number : {m : Cells} {p x y i : ℕ} {o : Operator} {a : ℤ} → rows p ≡ Some (row.Arithmetic o x y) →
      Evaluates rows m x (item.Number a) i → Found m y → Found m p
  right_number {o} {a} e dx (a_number b j dy) = computing e dx dy (computed o a b) refl
  right_number e dx (a_truth t j dy) = nothing
  right_number e dx (cells m' j dy) = nothing
  right_number {i} e dx (a_fault f m' j d) = a_fault f m' (1 + i + j) (in_right_number e dx d)
  right_number e dx nothing = nothing

  abbrev pub left_number : {m : Cells} {p x y : ℕ} {o : Operator} → rows p ≡ Some (row.Arithmetic o x y) → Found m x → Found m y → Found m p
  left_number e (a_number a i dx) y = right_number e dx y
  left_number e (a_truth t i dx) y = nothing
  left_number e (cells m' i dx) y = nothing
  left_number e (a_fault f m' i d) y = a_fault f m' (1 + i) (in_left_number e d)
  left_number e nothing y = nothing

  abbrev pub right_compared : {m : Cells} {p x y i : ℕ} {o : Relation} {a : ℤ} → rows p ≡ Some (row.Comparison o x y) →
      Evaluates rows m x (item.Number a) i → Found m y → Found m p
  right_compared {i} {o} {a} e dx (a_number b j dy) = a_truth (compared o a b) (2 + i + j) (of_comparison e dx dy)
  right_compared e dx (a_truth t j dy) = nothing
  right_compared e dx (cells m' j dy) = nothing
  right_compared {i} e dx (a_fault f m' j d) = a_fault f m' (1 + i + j) (in_right_compared e dx d)
  right_compared e dx nothing = nothing

  abbrev pub left_compared : {m : Cells} {p x y : ℕ} {o : Relation} → rows p ≡ Some (row.Comparison o x y) → Found m x → Found m y → Found m p
  left_compared e (a_number a i dx) y = right_compared e dx y
  left_compared e (a_truth t i dx) y = nothing
  left_compared e (cells m' i dx) y = nothing
  left_compared e (a_fault f m' i d) y = a_fault f m' (1 + i) (in_left_compared e d)
  left_compared e nothing y = nothing

  abbrev pub turned_round : {m : Cells} {p x : ℕ} → rows p ≡ Some (row.Not x) → Found m x → Found m p
  turned_round e (a_number a i dx) = nothing
  turned_round e (a_truth t i dx) = a_truth (not t) (2 + i) (of_not e dx)
  turned_round e (cells m' i dx) = nothing
  turned_round e (a_fault f m' i d) = a_fault f m' (1 + i) (in_not e d)
  turned_round e nothing = nothing

  abbrev pub right_truth : {m : Cells} {p x y i : ℕ} {s : Bool} → rows p ≡ Some (row.And x y) → Evaluates rows m x (item.Truth s) i → Found m y → Found m p
  right_truth e dx (a_number b j dy) = nothing
  right_truth {i} {s} e dx (a_truth t j dy) = a_truth (s && t) (2 + i + j) (of_and e dx dy)
  right_truth e dx (cells m' j dy) = nothing
  right_truth {i} e dx (a_fault f m' j d) = a_fault f m' (1 + i + j) (in_right_truth e dx d)
  right_truth e dx nothing = nothing

  abbrev pub left_truth : {m : Cells} {p x y : ℕ} → rows p ≡ Some (row.And x y) → Found m x → Found m y → Found m p
  left_truth e (a_number a i dx) y = nothing
  left_truth e (a_truth t i dx) y = right_truth e dx y
  left_truth e (cells m' i dx) y = nothing
  left_truth e (a_fault f m' i d) y = a_fault f m' (1 + i) (in_left_truth e d)
  left_truth e nothing y = nothing

  abbrev pub putting : {m : Cells} {p l x i : ℕ} {a : ℤ} → rows p ≡ Some (row.Assignment l x) → Evaluates rows m x (item.Number a) i →
      (v : Result (Unit {0}) StoreFault) → asked m l a ≡ v → Found m p
  putting {m} {l} {i} {a} e dx (Ok tt) q = cells (written m l a) (2 + i) (by_assignment e dx q)
  putting {m} {p} {i} e dx (Err f) q = a_fault (fault_at p (Store f)) m (1 + i) (at_assignment e dx q)

  abbrev pub assigned : {m : Cells} {p l x : ℕ} → rows p ≡ Some (row.Assignment l x) → Found m x → Found m p
  assigned {m} {l} e (a_number a i dx) = putting e dx (asked m l a) refl
  assigned e (a_truth t i dx) = nothing
  assigned e (cells m' i dx) = nothing
  assigned e (a_fault f m' i d) = a_fault f m' (1 + i) (in_assigned e d)
  assigned e nothing = nothing

  abbrev pub second : {m m' : Cells} {p x y i : ℕ} → rows p ≡ Some (row.Sequence x y) → Executes rows m x m' i → Found m' y → Found m p
  second e dx (a_number a j dy) = nothing
  second e dx (a_truth t j dy) = nothing
  second {i} e dx (cells m'' j dy) = cells m'' (1 + i + j) (by_sequence e dx dy)
  second {i} e dx (a_fault f m'' j d) = a_fault f m'' (1 + i + j) (in_second e dx d)
  second e dx nothing = nothing

  -- how further rows are looked for
  abbrev pub Finds : Type 0
  Finds = (p : ℕ) (m : Cells) → Found m p

  abbrev pub first : {m : Cells} {p x y : ℕ} → Finds → rows p ≡ Some (row.Sequence x y) → Found m x → Found m p
  first finds e (a_number a i dx) = nothing
  first finds e (a_truth t i dx) = nothing
  first {y} finds e (cells m' i dx) = second e dx (finds y m')
  first finds e (a_fault f m' i d) = a_fault f m' (1 + i) (in_first e d)
  first finds e nothing = nothing

  abbrev pub on_true : {m : Cells} {p b x y i : ℕ} → rows p ≡ Some (row.Choice b x y) → Evaluates rows m b (item.Truth true) i → Found m x → Found m p
  on_true e db (a_number a j dx) = nothing
  on_true e db (a_truth t j dx) = nothing
  on_true {i} e db (cells m' j dx) = cells m' (2 + i + j) (by_true e db dx)
  on_true {i} e db (a_fault f m' j d) = a_fault f m' (2 + i + j) (in_true e db d)
  on_true e db nothing = nothing

  abbrev pub on_false : {m : Cells} {p b x y i : ℕ} → rows p ≡ Some (row.Choice b x y) → Evaluates rows m b (item.Truth false) i → Found m y → Found m p
  on_false e db (a_number a j dx) = nothing
  on_false e db (a_truth t j dx) = nothing
  on_false {i} e db (cells m' j dx) = cells m' (2 + i + j) (by_false e db dx)
  on_false {i} e db (a_fault f m' j d) = a_fault f m' (2 + i + j) (in_false e db d)
  on_false e db nothing = nothing

  abbrev pub chosen : {m : Cells} {p b x y : ℕ} → Finds → rows p ≡ Some (row.Choice b x y) → Found m b → Found m p
  chosen finds e (a_number a i db) = nothing
  chosen {m} {x} finds e (a_truth true i db) = on_true e db (finds x m)
  chosen {m} {y} finds e (a_truth false i db) = on_false e db (finds y m)
  chosen finds e (cells m' i db) = nothing
  chosen finds e (a_fault f m' i d) = a_fault f m' (1 + i) (in_choosing e d)
  chosen finds e nothing = nothing

  abbrev pub again : {m m' : Cells} {p b x i j : ℕ} → rows p ≡ Some (row.Loop b x) → Evaluates rows m b (item.Truth true) i → Executes rows m x m' j → Found m' p → Found m p
  again e db dx (a_number a n d) = nothing
  again e db dx (a_truth t n d) = nothing
  again {i} {j} e db dx (cells m'' n d) = cells m'' (2 + i + j + n) (by_turning e db dx d)
  again {i} {j} e db dx (a_fault f m'' n d) = a_fault f m'' (2 + i + j + n) (in_turning e db dx d)
  again e db dx nothing = nothing

  abbrev pub body : {m : Cells} {p b x i : ℕ} → Finds → rows p ≡ Some (row.Loop b x) → Evaluates rows m b (item.Truth true) i → Found m x → Found m p
  body finds e db (a_number a j dx) = nothing
  body finds e db (a_truth t j dx) = nothing
  body {p} finds e db (cells m' j dx) = again e db dx (finds p m')
  body {i} finds e db (a_fault f m' j d) = a_fault f m' (2 + i + j) (in_body e db d)
  body finds e db nothing = nothing

  abbrev pub looped : {m : Cells} {p b x : ℕ} → Finds → rows p ≡ Some (row.Loop b x) → Found m b → Found m p
  looped finds e (a_number a i db) = nothing
  looped {m} {x} finds e (a_truth true i db) = body finds e db (finds x m)
  looped {m} finds e (a_truth false i db) = cells m (2 + i) (by_leaving e db)
  looped finds e (cells m' i db) = nothing
  looped finds e (a_fault f m' i d) = a_fault f m' (1 + i) (in_condition e d)
  looped finds e nothing = nothing

  abbrev pub found : (p : ℕ) (m : Cells) (o : Option Row) → rows p ≡ o → Finds → Found m p
  found p m None e finds = nothing
  found p m (Some (row.Number a)) e finds = a_number a 1 (of_number e)
  found p m (Some (row.Contents l)) e finds = reading e (read m l) refl
  found p m (Some (row.Arithmetic o x y)) e finds = left_number e (finds x m) (finds y m)
  found p m (Some (row.Truth t)) e finds = a_truth t 1 (of_truth e)
  found p m (Some (row.Comparison o x y)) e finds = left_compared e (finds x m) (finds y m)
  found p m (Some (row.Not x)) e finds = turned_round e (finds x m)
  found p m (Some (row.And x y)) e finds = left_truth e (finds x m) (finds y m)
  found p m (Some row.Skip) e finds = cells m 1 (by_skip e)
  found p m (Some (row.Assignment l x)) e finds = assigned e (finds x m)
  found p m (Some (row.Sequence x y)) e finds = first finds e (finds x m)
  found p m (Some (row.Choice b x y)) e finds = chosen finds e (finds b m)
  found p m (Some (row.Loop b x)) e finds = looped finds e (finds b m)

  -- as deep as the fuel lasts
  abbrev pub derive : ℕ → (p : ℕ) (m : Cells) → Found m p
  derive zero p m = nothing
  derive (suc fuel) p m = found p m (rows p) refl (derive fuel)
