-- What rows, items and cells are in SIMP.
use Rattle.std.specs.Prelude.{◌≡◌, ℕ, Bool, List, [], ◌∷◌, ℤ, Some, None, Ok, Err, Option}
use Rattle.std.specs.declared.result.Result as answer
use Rattle.cells.specs.declared.fault.StoreFault.{StoreFault}
use Rattle.rows.specs.declared.row.Operator.{Operator}
use Rattle.rows.specs.declared.row.Relation.{Relation}
use Rattle.rows.specs.declared.row.Row.{Row}
use Rattle.rows.specs.declared.row.Row.TheVariants as row
use Rattle.semantics.specs.declared.item.Control.{Control}
use Rattle.semantics.specs.declared.item.Control.TheVariants.{Whole, Finish}
use Rattle.semantics.specs.declared.item.Item.{Item}
use Rattle.semantics.specs.declared.item.Item.TheVariants as item
use Rattle.semantics.specs.Cells.{Cells, read}
use Rattle.semantics.specs.Machine.{Configuration, conf}
use Rattle.semantics.specs.Simp.{Expression, bang, literal, operation, Condition, constant, comparison, negation, conjunction}
use Rattle.semantics.specs.Simp.{Command, skip, set, sequence, if_else, while_do, Program, C, E, B}
use Rattle.semantics.specs.Simp.{Instruction, prog, op, not_sign, and_sign, bop, assign_sign, if_sign, while_sign, Result, val, loc, Memory, Simp, simp⟨⟩}

-- a number that is read is in the memory; where reading is refused, the memory is undefined
abbrev pub in_memory : answer.Result ℤ StoreFault → Option ℤ
in_memory (Ok n) = Some n
in_memory (Err f) = None

abbrev pub memory_of : Cells → Memory
memory_of m = λ l. in_memory (read m l)

module _ (rows : ℕ → Option Row) where
  -- the row p, with all its parts, is the tree
  pub data Reads : ℕ → Program → Type 0 where
    as_literal : {p : ℕ} {a : ℤ} → rows p ≡ Some (row.Number a) → Reads p (E (literal a))
    as_bang : {p l : ℕ} → rows p ≡ Some (row.Contents l) → Reads p (E (bang l))
    as_operation : {p x y : ℕ} {o : Operator} {X Y : Expression} → rows p ≡ Some (row.Arithmetic o x y) → Reads x (E X) → Reads y (E Y) → Reads p (E (operation o X Y))
    as_constant : {p : ℕ} {t : Bool} → rows p ≡ Some (row.Truth t) → Reads p (B (constant t))
    as_comparison : {p x y : ℕ} {o : Relation} {X Y : Expression} → rows p ≡ Some (row.Comparison o x y) → Reads x (E X) → Reads y (E Y) → Reads p (B (comparison o X Y))
    as_negation : {p x : ℕ} {X : Condition} → rows p ≡ Some (row.Not x) → Reads x (B X) → Reads p (B (negation X))
    as_conjunction : {p x y : ℕ} {X Y : Condition} → rows p ≡ Some (row.And x y) → Reads x (B X) → Reads y (B Y) → Reads p (B (conjunction X Y))
    as_skip : {p : ℕ} → rows p ≡ Some row.Skip → Reads p (C skip)
    as_set : {p l x : ℕ} {X : Expression} → rows p ≡ Some (row.Assignment l x) → Reads x (E X) → Reads p (C (set l X))
    as_sequence : {p x y : ℕ} {X Y : Command} → rows p ≡ Some (row.Sequence x y) → Reads x (C X) → Reads y (C Y) → Reads p (C (sequence X Y))
    as_if : {p b x y : ℕ} {X : Condition} {Y Z : Command} → rows p ≡ Some (row.Choice b x y) → Reads b (B X) → Reads x (C Y) → Reads y (C Z) → Reads p (C (if_else X Y Z))
    as_while : {p b x : ℕ} {X : Condition} {Y : Command} → rows p ≡ Some (row.Loop b x) → Reads b (B X) → Reads x (C Y) → Reads p (C (while_do X Y))

  -- `Whole p` is the tree of p, `Finish p` its operator or sign
  pub data ReadsControl : Control → Instruction → Type 0 where
    whole : {p : ℕ} {P : Program} → Reads p P → ReadsControl (Whole p) (prog P)
    finish_op : {p x y : ℕ} {o : Operator} → rows p ≡ Some (row.Arithmetic o x y) → ReadsControl (Finish p) (op o)
    finish_bop : {p x y : ℕ} {o : Relation} → rows p ≡ Some (row.Comparison o x y) → ReadsControl (Finish p) (bop o)
    finish_not : {p x : ℕ} → rows p ≡ Some (row.Not x) → ReadsControl (Finish p) not_sign
    finish_and : {p x y : ℕ} → rows p ≡ Some (row.And x y) → ReadsControl (Finish p) and_sign
    finish_assign : {p l x : ℕ} → rows p ≡ Some (row.Assignment l x) → ReadsControl (Finish p) assign_sign
    finish_if : {p b x y : ℕ} → rows p ≡ Some (row.Choice b x y) → ReadsControl (Finish p) if_sign
    finish_while : {p b x : ℕ} → rows p ≡ Some (row.Loop b x) → ReadsControl (Finish p) while_sign

  -- a row among the results is the program that it names
  pub data ReadsItem : Item → Result → Type 0 where
    number : {a : ℤ} → ReadsItem (item.Number a) (val (E (literal a)))
    truth : {t : Bool} → ReadsItem (item.Truth t) (val (B (constant t)))
    location : {l : ℕ} → ReadsItem (item.Location l) (loc l)
    a_row : {q : ℕ} {P : Program} → Reads q P → ReadsItem (item.Row q) (val P)

  pub data ReadsStack : List Control → List Instruction → Type 0 where
    no_control : ReadsStack [] []
    then_control : {i : Control} {I : Instruction} {c : List Control} {c' : List Instruction} → ReadsControl i I → ReadsStack c c' → ReadsStack (i ∷ c) (I ∷ c')

  pub data ReadsResults : List Item → List Result → Type 0 where
    no_items : ReadsResults [] []
    then_item : {v : Item} {V : Result} {r : List Item} {r' : List Result} → ReadsItem v V → ReadsResults r r' → ReadsResults (v ∷ r) (V ∷ r')

  abbrev pub ReadsAs : Configuration → Simp → Type 0
  ReadsAs (conf c r m) (simp⟨⟩ c' r' M) = ReadsStack c c' × ReadsResults r r' × (M ≡ memory_of m)
