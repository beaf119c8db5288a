-- The row machine: what one transition takes and lays, topmost item first.
use Rattle.std.specs.Prelude.{◌≡◌, ℕ, Bool, true, false, not, ◌&&◌, List, ◌∷◌, ℤ, Some, Ok, Err, Option}
use Rattle.cells.specs.declared.fault.StoreFault.{StoreFault}
use Rattle.rows.specs.declared.row.Operator.{Operator}
use Rattle.rows.specs.declared.row.Relation.{Relation}
use Rattle.rows.specs.declared.row.Row.{Row}
use Rattle.rows.specs.declared.row.Row.TheVariants as row
use Rattle.semantics.specs.declared.arithmetic.ArithmeticFault.{ArithmeticFault}
use Rattle.semantics.specs.declared.fault.Cause.TheVariants.{Store, Arithmetic}
use Rattle.semantics.specs.declared.fault.Fault.{Fault}
use Rattle.semantics.specs.declared.item.Control.{Control}
use Rattle.semantics.specs.declared.item.Control.TheVariants.{Whole, Finish}
use Rattle.semantics.specs.declared.item.Item.{Item}
use Rattle.semantics.specs.declared.item.Item.TheVariants as item
use Rattle.semantics.specs.Arithmetic.{computed, compared}
use Rattle.semantics.specs.Faults.{fault_at}
use Rattle.semantics.specs.Cells.{Cells, read, asked, written}

-- the control stack, the results stack and the cells; the head of a list is the top of its stack
pub data Configuration : Type 0 where
  conf : List Control → List Item → Cells → Configuration

abbrev pub control_of : Configuration → List Control
control_of (conf c r m) = c

abbrev pub results_of : Configuration → List Item
results_of (conf c r m) = r

abbrev pub cells_of : Configuration → Cells
cells_of (conf c r m) = m

-- what the choice or the loop of row p lays on the results r while its condition is worked out: the two rows that wait
abbrev pub waiting : ℕ → ℕ → ℕ → List Item → List Item
waiting p x y r = item.Row x ∷ item.Row y ∷ r

module _ (rows : ℕ → Option Row) where
  pub data Transition : Configuration → Configuration → Type 0 where
    -- a leaf's value goes to the results
    number : {p : ℕ} {a : ℤ} {c : List Control} {r : List Item} {m : Cells} → rows p ≡ Some (row.Number a) →
        Transition (conf (Whole p ∷ c) r m) (conf c (item.Number a ∷ r) m)
    contents : {p l : ℕ} {a : ℤ} {c : List Control} {r : List Item} {m : Cells} → rows p ≡ Some (row.Contents l) → read m l ≡ Ok a →
        Transition (conf (Whole p ∷ c) r m) (conf c (item.Number a ∷ r) m)
    truth : {p : ℕ} {t : Bool} {c : List Control} {r : List Item} {m : Cells} → rows p ≡ Some (row.Truth t) →
        Transition (conf (Whole p ∷ c) r m) (conf c (item.Truth t ∷ r) m)
    -- operators: the left operand, the right one, then the row's own operator, which finds the right value on top
    arithmetic : {p x y : ℕ} {o : Operator} {c : List Control} {r : List Item} {m : Cells} → rows p ≡ Some (row.Arithmetic o x y) →
        Transition (conf (Whole p ∷ c) r m) (conf (Whole x ∷ Whole y ∷ Finish p ∷ c) r m)
    finish_arithmetic : {p x y : ℕ} {o : Operator} {a b z : ℤ} {c : List Control} {r : List Item} {m : Cells} →
        rows p ≡ Some (row.Arithmetic o x y) → computed o a b ≡ Ok z →
        Transition (conf (Finish p ∷ c) (item.Number b ∷ item.Number a ∷ r) m) (conf c (item.Number z ∷ r) m)
    comparison : {p x y : ℕ} {o : Relation} {c : List Control} {r : List Item} {m : Cells} → rows p ≡ Some (row.Comparison o x y) →
        Transition (conf (Whole p ∷ c) r m) (conf (Whole x ∷ Whole y ∷ Finish p ∷ c) r m)
    finish_comparison : {p x y : ℕ} {o : Relation} {a b : ℤ} {c : List Control} {r : List Item} {m : Cells} →
        rows p ≡ Some (row.Comparison o x y) →
        Transition (conf (Finish p ∷ c) (item.Number b ∷ item.Number a ∷ r) m) (conf c (item.Truth (compared o a b) ∷ r) m)
    negation : {p x : ℕ} {c : List Control} {r : List Item} {m : Cells} → rows p ≡ Some (row.Not x) →
        Transition (conf (Whole p ∷ c) r m) (conf (Whole x ∷ Finish p ∷ c) r m)
    finish_negation : {p x : ℕ} {t : Bool} {c : List Control} {r : List Item} {m : Cells} → rows p ≡ Some (row.Not x) →
        Transition (conf (Finish p ∷ c) (item.Truth t ∷ r) m) (conf c (item.Truth (not t) ∷ r) m)
    conjunction : {p x y : ℕ} {c : List Control} {r : List Item} {m : Cells} → rows p ≡ Some (row.And x y) →
        Transition (conf (Whole p ∷ c) r m) (conf (Whole x ∷ Whole y ∷ Finish p ∷ c) r m)
    finish_conjunction : {p x y : ℕ} {s t : Bool} {c : List Control} {r : List Item} {m : Cells} → rows p ≡ Some (row.And x y) →
        Transition (conf (Finish p ∷ c) (item.Truth t ∷ item.Truth s ∷ r) m) (conf c (item.Truth (s && t) ∷ r) m)
    -- commands
    skip : {p : ℕ} {c : List Control} {r : List Item} {m : Cells} → rows p ≡ Some row.Skip →
        Transition (conf (Whole p ∷ c) r m) (conf c r m)
    assignment : {p l x : ℕ} {c : List Control} {r : List Item} {m : Cells} → rows p ≡ Some (row.Assignment l x) →
        Transition (conf (Whole p ∷ c) r m) (conf (Whole x ∷ Finish p ∷ c) (item.Location l ∷ r) m)
    finish_assignment : {p l x : ℕ} {a : ℤ} {c : List Control} {r : List Item} {m : Cells} →
        rows p ≡ Some (row.Assignment l x) → asked m l a ≡ Ok tt →
        Transition (conf (Finish p ∷ c) (item.Number a ∷ item.Location l ∷ r) m) (conf c r (written m l a))
    sequence : {p x y : ℕ} {c : List Control} {r : List Item} {m : Cells} → rows p ≡ Some (row.Sequence x y) →
        Transition (conf (Whole p ∷ c) r m) (conf (Whole x ∷ Whole y ∷ c) r m)
    -- the rows on the results stack have to be those that the row at hand names
    choice : {p b x y : ℕ} {c : List Control} {r : List Item} {m : Cells} → rows p ≡ Some (row.Choice b x y) →
        Transition (conf (Whole p ∷ c) r m) (conf (Whole b ∷ Finish p ∷ c) (item.Row x ∷ item.Row y ∷ r) m)
    finish_true : {p b x y : ℕ} {c : List Control} {r : List Item} {m : Cells} → rows p ≡ Some (row.Choice b x y) →
        Transition (conf (Finish p ∷ c) (item.Truth true ∷ item.Row x ∷ item.Row y ∷ r) m) (conf (Whole x ∷ c) r m)
    finish_false : {p b x y : ℕ} {c : List Control} {r : List Item} {m : Cells} → rows p ≡ Some (row.Choice b x y) →
        Transition (conf (Finish p ∷ c) (item.Truth false ∷ item.Row x ∷ item.Row y ∷ r) m) (conf (Whole y ∷ c) r m)
    loop : {p b x : ℕ} {c : List Control} {r : List Item} {m : Cells} → rows p ≡ Some (row.Loop b x) →
        Transition (conf (Whole p ∷ c) r m) (conf (Whole b ∷ Finish p ∷ c) (item.Row b ∷ item.Row x ∷ r) m)
    finish_turning : {p b x : ℕ} {c : List Control} {r : List Item} {m : Cells} → rows p ≡ Some (row.Loop b x) →
        Transition (conf (Finish p ∷ c) (item.Truth true ∷ item.Row b ∷ item.Row x ∷ r) m) (conf (Whole x ∷ Whole p ∷ c) r m)
    finish_leaving : {p b x : ℕ} {c : List Control} {r : List Item} {m : Cells} → rows p ≡ Some (row.Loop b x) →
        Transition (conf (Finish p ∷ c) (item.Truth false ∷ item.Row b ∷ item.Row x ∷ r) m) (conf c r m)

  -- a rule fits, but a number stands against its transition
  pub data Refused : Configuration → Fault → Type 0 where
    contents_refused : {p l : ℕ} {f : StoreFault} {c : List Control} {r : List Item} {m : Cells} → rows p ≡ Some (row.Contents l) → read m l ≡ Err f →
        Refused (conf (Whole p ∷ c) r m) (fault_at p (Store f))
    arithmetic_refused : {p x y : ℕ} {o : Operator} {a b : ℤ} {f : ArithmeticFault} {c : List Control} {r : List Item} {m : Cells} →
        rows p ≡ Some (row.Arithmetic o x y) → computed o a b ≡ Err f →
        Refused (conf (Finish p ∷ c) (item.Number b ∷ item.Number a ∷ r) m) (fault_at p (Arithmetic f))
    assignment_refused : {p l x : ℕ} {a : ℤ} {f : StoreFault} {c : List Control} {r : List Item} {m : Cells} →
        rows p ≡ Some (row.Assignment l x) → asked m l a ≡ Err f →
        Refused (conf (Finish p ∷ c) (item.Number a ∷ item.Location l ∷ r) m) (fault_at p (Store f))

  -- no rule fits: neither is a transition made nor does a number stand against one
  pub record NoRuleFits (s : Configuration) : Type 0 where
    pub no_transition : (t : Configuration) → ¬ Transition s t
    pub no_number : (f : Fault) → ¬ Refused s f
