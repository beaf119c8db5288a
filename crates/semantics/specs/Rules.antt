-- The natural semantics of rows: a row evaluates to a value, a command executes to new cells, or a row faults; each at a cost.
-- Parts are derived from left to right, and no operand is ever left out. `rows` says which row stands at a number, and that
-- is all that the rules know of a table.
use Rattle.std.specs.Prelude.{◌≡◌, ℕ, ◌+◌, ◌<◌, ◌≤◌, Bool, true, false, not, ◌&&◌, ℤ, Some, Ok, Err, Option}
use Rattle.cells.specs.declared.fault.StoreFault.{StoreFault}
use Rattle.rows.specs.declared.row.Operator.{Operator}
use Rattle.rows.specs.declared.row.Relation.{Relation}
use Rattle.rows.specs.declared.row.Row.{Row}
use Rattle.rows.specs.declared.row.Row.TheVariants as row
use Rattle.semantics.specs.declared.arithmetic.ArithmeticFault.{ArithmeticFault}
use Rattle.semantics.specs.declared.fault.Cause.TheVariants.{Store, Arithmetic}
use Rattle.semantics.specs.declared.fault.Fault.{Fault}
use Rattle.semantics.specs.declared.item.Item.{Item}
use Rattle.semantics.specs.declared.item.Item.TheVariants.{Number, Truth}
use Rattle.semantics.specs.Arithmetic.{computed, compared}
use Rattle.semantics.specs.Faults.{fault_at}
use Rattle.semantics.specs.Cells.{Cells, read, asked, written}

module _ (rows : ℕ → Option Row) where
  -- over the cells m, the row p evaluates to v at the cost n
  pub data Evaluates : Cells → ℕ → Item → ℕ → Type 0 where
    of_number : {m : Cells} {p : ℕ} {a : ℤ} → rows p ≡ Some (row.Number a) → Evaluates m p (Number a) 1
    of_contents : {m : Cells} {p l : ℕ} {a : ℤ} → rows p ≡ Some (row.Contents l) →
        read m l ≡ Ok a → Evaluates m p (Number a) 1
    of_arithmetic : {m : Cells} {p x y i j : ℕ} {o : Operator} {a b z : ℤ} → rows p ≡ Some (row.Arithmetic o x y) →
        Evaluates m x (Number a) i → Evaluates m y (Number b) j → computed o a b ≡ Ok z → Evaluates m p (Number z) (2 + i + j)
    of_truth : {m : Cells} {p : ℕ} {t : Bool} → rows p ≡ Some (row.Truth t) → Evaluates m p (Truth t) 1
    of_comparison : {m : Cells} {p x y i j : ℕ} {o : Relation} {a b : ℤ} → rows p ≡ Some (row.Comparison o x y) →
        Evaluates m x (Number a) i → Evaluates m y (Number b) j → Evaluates m p (Truth (compared o a b)) (2 + i + j)
    of_not : {m : Cells} {p x i : ℕ} {t : Bool} → rows p ≡ Some (row.Not x) →
        Evaluates m x (Truth t) i → Evaluates m p (Truth (not t)) (2 + i)
    of_and : {m : Cells} {p x y i j : ℕ} {s t : Bool} → rows p ≡ Some (row.And x y) →
        Evaluates m x (Truth s) i → Evaluates m y (Truth t) j → Evaluates m p (Truth (s && t)) (2 + i + j)

  -- over the cells m, the command p executes to the cells m' at the cost n
  pub data Executes : Cells → ℕ → Cells → ℕ → Type 0 where
    by_skip : {m : Cells} {p : ℕ} → rows p ≡ Some row.Skip → Executes m p m 1
    by_assignment : {m : Cells} {p l x i : ℕ} {a : ℤ} → rows p ≡ Some (row.Assignment l x) →
        Evaluates m x (Number a) i → asked m l a ≡ Ok tt → Executes m p (written m l a) (2 + i)
    by_sequence : {m m' m'' : Cells} {p x y i j : ℕ} → rows p ≡ Some (row.Sequence x y) →
        Executes m x m' i → Executes m' y m'' j → Executes m p m'' (1 + i + j)
    by_true : {m m' : Cells} {p b x y i j : ℕ} → rows p ≡ Some (row.Choice b x y) →
        Evaluates m b (Truth true) i → Executes m x m' j → Executes m p m' (2 + i + j)
    by_false : {m m' : Cells} {p b x y i j : ℕ} → rows p ≡ Some (row.Choice b x y) →
        Evaluates m b (Truth false) i → Executes m y m' j → Executes m p m' (2 + i + j)
    by_leaving : {m : Cells} {p b x i : ℕ} → rows p ≡ Some (row.Loop b x) →
        Evaluates m b (Truth false) i → Executes m p m (2 + i)
    by_turning : {m m' m'' : Cells} {p b x i j n : ℕ} → rows p ≡ Some (row.Loop b x) →
        Evaluates m b (Truth true) i → Executes m x m' j → Executes m' p m'' n → Executes m p m'' (2 + i + j + n)

  -- over the cells m, the row p faults: with the fault f, when the assignments before it have left the cells m', at the cost n
  pub data Faults : Cells → ℕ → Fault → Cells → ℕ → Type 0 where
    -- the row's own fault: a contents row is not even opened, the other two are
    at_contents : {m : Cells} {p l : ℕ} {f : StoreFault} → rows p ≡ Some (row.Contents l) →
        read m l ≡ Err f → Faults m p (fault_at p (Store f)) m 0
    at_arithmetic : {m : Cells} {p x y i j : ℕ} {o : Operator} {a b : ℤ} {f : ArithmeticFault} → rows p ≡ Some (row.Arithmetic o x y) →
        Evaluates m x (Number a) i → Evaluates m y (Number b) j → computed o a b ≡ Err f → Faults m p (fault_at p (Arithmetic f)) m (1 + i + j)
    at_assignment : {m : Cells} {p l x i : ℕ} {a : ℤ} {f : StoreFault} → rows p ≡ Some (row.Assignment l x) →
        Evaluates m x (Number a) i → asked m l a ≡ Err f → Faults m p (fault_at p (Store f)) m (1 + i)
    -- the fault of a part is the fault of the whole
    in_left_number : {m m' : Cells} {p x y i : ℕ} {o : Operator} {f : Fault} → rows p ≡ Some (row.Arithmetic o x y) →
        Faults m x f m' i → Faults m p f m' (1 + i)
    in_right_number : {m m' : Cells} {p x y i j : ℕ} {o : Operator} {a : ℤ} {f : Fault} → rows p ≡ Some (row.Arithmetic o x y) →
        Evaluates m x (Number a) i → Faults m y f m' j → Faults m p f m' (1 + i + j)
    in_left_compared : {m m' : Cells} {p x y i : ℕ} {o : Relation} {f : Fault} → rows p ≡ Some (row.Comparison o x y) →
        Faults m x f m' i → Faults m p f m' (1 + i)
    in_right_compared : {m m' : Cells} {p x y i j : ℕ} {o : Relation} {a : ℤ} {f : Fault} → rows p ≡ Some (row.Comparison o x y) →
        Evaluates m x (Number a) i → Faults m y f m' j → Faults m p f m' (1 + i + j)
    in_not : {m m' : Cells} {p x i : ℕ} {f : Fault} → rows p ≡ Some (row.Not x) →
        Faults m x f m' i → Faults m p f m' (1 + i)
    in_left_truth : {m m' : Cells} {p x y i : ℕ} {f : Fault} → rows p ≡ Some (row.And x y) →
        Faults m x f m' i → Faults m p f m' (1 + i)
    in_right_truth : {m m' : Cells} {p x y i j : ℕ} {s : Bool} {f : Fault} → rows p ≡ Some (row.And x y) →
        Evaluates m x (Truth s) i → Faults m y f m' j → Faults m p f m' (1 + i + j)
    in_assigned : {m m' : Cells} {p l x i : ℕ} {f : Fault} → rows p ≡ Some (row.Assignment l x) →
        Faults m x f m' i → Faults m p f m' (1 + i)
    in_first : {m m' : Cells} {p x y i : ℕ} {f : Fault} → rows p ≡ Some (row.Sequence x y) →
        Faults m x f m' i → Faults m p f m' (1 + i)
    in_second : {m m' m'' : Cells} {p x y i j : ℕ} {f : Fault} → rows p ≡ Some (row.Sequence x y) →
        Executes m x m' i → Faults m' y f m'' j → Faults m p f m'' (1 + i + j)
    in_choosing : {m m' : Cells} {p b x y i : ℕ} {f : Fault} → rows p ≡ Some (row.Choice b x y) →
        Faults m b f m' i → Faults m p f m' (1 + i)
    in_true : {m m' : Cells} {p b x y i j : ℕ} {f : Fault} → rows p ≡ Some (row.Choice b x y) →
        Evaluates m b (Truth true) i → Faults m x f m' j → Faults m p f m' (2 + i + j)
    in_false : {m m' : Cells} {p b x y i j : ℕ} {f : Fault} → rows p ≡ Some (row.Choice b x y) →
        Evaluates m b (Truth false) i → Faults m y f m' j → Faults m p f m' (2 + i + j)
    in_condition : {m m' : Cells} {p b x i : ℕ} {f : Fault} → rows p ≡ Some (row.Loop b x) →
        Faults m b f m' i → Faults m p f m' (1 + i)
    in_body : {m m' : Cells} {p b x i j : ℕ} {f : Fault} → rows p ≡ Some (row.Loop b x) →
        Evaluates m b (Truth true) i → Faults m x f m' j → Faults m p f m' (2 + i + j)
    in_turning : {m m' m'' : Cells} {p b x i j n : ℕ} {f : Fault} → rows p ≡ Some (row.Loop b x) →
        Evaluates m b (Truth true) i → Executes m x m' j → Faults m' p f m'' n → Faults m p f m'' (2 + i + j + n)

-- what a row comes to
pub data Outcome : Type 0 where
  a_value : Item → Outcome
  new_cells : Cells → Outcome
  a_fault : Fault → Cells → Outcome

-- over the cells m, the row p has that outcome at the cost n
abbrev pub Derives : (ℕ → Option Row) → Cells → ℕ → Outcome → ℕ → Type 0
Derives rows m p (a_value v) n = Evaluates rows m p v n
Derives rows m p (new_cells m') n = Executes rows m p m' n
Derives rows m p (a_fault f m') n = Faults rows m p f m' n

-- an outcome at the cost n shows within N transitions: a fault shows only at the transition after those that it cost
abbrev pub ShowsWithin : Outcome → ℕ → ℕ → Type 0
ShowsWithin (a_value v) n N = n ≤ N
ShowsWithin (new_cells m') n N = n ≤ N
ShowsWithin (a_fault f m') n N = n < N
