-- SIMP and its abstract machine: syntax trees, stacks of trees and operators, memory as a partial function, and one
-- constructor for each transition rule.
use Rattle.std.specs.Prelude.{◌≡◌, ℕ, suc, Bool, true, false, cond, not, ◌&&◌, List, ◌∷◌, ℤ, Some, Option, ◌==◌}
use Rattle.rows.specs.declared.row.Operator.{Operator}
use Rattle.rows.specs.declared.row.Relation.{Relation}
use Rattle.semantics.specs.Arithmetic.{outcome, compared}

-- E ::= !l | n | E op E
pub data Expression : Type 0 where
  bang : ℕ → Expression
  literal : ℤ → Expression
  operation : Operator → Expression → Expression → Expression

-- B ::= True | False | E bop E | ¬B | B ∧ B
pub data Condition : Type 0 where
  constant : Bool → Condition
  comparison : Relation → Expression → Expression → Condition
  negation : Condition → Condition
  conjunction : Condition → Condition → Condition

-- C ::= skip | l := E | C; C | if B then C else C | while B do C
pub data Command : Type 0 where
  skip : Command
  set : ℕ → Expression → Command
  sequence : Command → Command → Command
  if_else : Condition → Command → Command → Command
  while_do : Condition → Command → Command

-- P ::= C | E | B
pub data Program : Type 0 where
  C : Command → Program
  E : Expression → Program
  B : Condition → Program

-- an item of the control stack: P | op | ¬ | ∧ | bop | := | if | while
pub data Instruction : Type 0 where
  prog : Program → Instruction
  op : Operator → Instruction
  not_sign : Instruction
  and_sign : Instruction
  bop : Relation → Instruction
  assign_sign : Instruction
  if_sign : Instruction
  while_sign : Instruction

-- an item of the results stack: P | l
pub data Result : Type 0 where
  val : Program → Result
  loc : ℕ → Result

abbrev pub Memory : Type 0
Memory = ℕ → Option ℤ

-- m[l ↦ n]
abbrev pub update : Memory → ℕ → ℤ → Memory
update m l n = λ k. cond (k == l) (Some n) (m k)

-- ⟨ control stack, results stack, memory ⟩
pub data Simp : Type 0 where
  simp⟨⟩ : List Instruction → List Result → Memory → Simp

-- n₁ op n₂ = n is `outcome o n₁ n₂ ≡ Some n`, among all whole numbers; n₁ bop n₂ = b is `compared o n₁ n₂ ≡ b`
pub data SimpTransition : Simp → Simp → Type 0 where
  -- expressions
  simp_n : {n : ℤ} {c : List Instruction} {r : List Result} {m : Memory} →
      SimpTransition (simp⟨⟩ (prog (E (literal n)) ∷ c) r m) (simp⟨⟩ c (val (E (literal n)) ∷ r) m)
  simp_b : {b : Bool} {c : List Instruction} {r : List Result} {m : Memory} →
      SimpTransition (simp⟨⟩ (prog (B (constant b)) ∷ c) r m) (simp⟨⟩ c (val (B (constant b)) ∷ r) m)
  simp_negation : {x : Condition} {c : List Instruction} {r : List Result} {m : Memory} →
      SimpTransition (simp⟨⟩ (prog (B (negation x)) ∷ c) r m) (simp⟨⟩ (prog (B x) ∷ not_sign ∷ c) r m)
  simp_conjunction : {x y : Condition} {c : List Instruction} {r : List Result} {m : Memory} →
      SimpTransition (simp⟨⟩ (prog (B (conjunction x y)) ∷ c) r m) (simp⟨⟩ (prog (B x) ∷ prog (B y) ∷ and_sign ∷ c) r m)
  simp_not : {b : Bool} {c : List Instruction} {r : List Result} {m : Memory} →
      SimpTransition (simp⟨⟩ (not_sign ∷ c) (val (B (constant b)) ∷ r) m) (simp⟨⟩ c (val (B (constant (not b))) ∷ r) m)
  simp_and : {b₁ b₂ : Bool} {c : List Instruction} {r : List Result} {m : Memory} →
      SimpTransition (simp⟨⟩ (and_sign ∷ c) (val (B (constant b₂)) ∷ val (B (constant b₁)) ∷ r) m) (simp⟨⟩ c (val (B (constant (b₁ && b₂))) ∷ r) m)
  simp_operation : {o : Operator} {x y : Expression} {c : List Instruction} {r : List Result} {m : Memory} →
      SimpTransition (simp⟨⟩ (prog (E (operation o x y)) ∷ c) r m) (simp⟨⟩ (prog (E x) ∷ prog (E y) ∷ op o ∷ c) r m)
  simp_comparison : {o : Relation} {x y : Expression} {c : List Instruction} {r : List Result} {m : Memory} →
      SimpTransition (simp⟨⟩ (prog (B (comparison o x y)) ∷ c) r m) (simp⟨⟩ (prog (E x) ∷ prog (E y) ∷ bop o ∷ c) r m)
  simp_op : {o : Operator} {n₁ n₂ n : ℤ} {c : List Instruction} {r : List Result} {m : Memory} → outcome o n₁ n₂ ≡ Some n →
      SimpTransition (simp⟨⟩ (op o ∷ c) (val (E (literal n₂)) ∷ val (E (literal n₁)) ∷ r) m) (simp⟨⟩ c (val (E (literal n)) ∷ r) m)
  simp_bop : {o : Relation} {n₁ n₂ : ℤ} {c : List Instruction} {r : List Result} {m : Memory} →
      SimpTransition (simp⟨⟩ (bop o ∷ c) (val (E (literal n₂)) ∷ val (E (literal n₁)) ∷ r) m) (simp⟨⟩ c (val (B (constant (compared o n₁ n₂))) ∷ r) m)
  simp_bang : {l : ℕ} {n : ℤ} {c : List Instruction} {r : List Result} {m : Memory} → m l ≡ Some n →
      SimpTransition (simp⟨⟩ (prog (E (bang l)) ∷ c) r m) (simp⟨⟩ c (val (E (literal n)) ∷ r) m)
  -- commands
  simp_skip : {c : List Instruction} {r : List Result} {m : Memory} →
      SimpTransition (simp⟨⟩ (prog (C skip) ∷ c) r m) (simp⟨⟩ c r m)
  simp_set : {l : ℕ} {x : Expression} {c : List Instruction} {r : List Result} {m : Memory} →
      SimpTransition (simp⟨⟩ (prog (C (set l x)) ∷ c) r m) (simp⟨⟩ (prog (E x) ∷ assign_sign ∷ c) (loc l ∷ r) m)
  simp_assign : {l : ℕ} {n : ℤ} {c : List Instruction} {r : List Result} {m : Memory} →
      SimpTransition (simp⟨⟩ (assign_sign ∷ c) (val (E (literal n)) ∷ loc l ∷ r) m) (simp⟨⟩ c r (update m l n))
  simp_sequence : {x y : Command} {c : List Instruction} {r : List Result} {m : Memory} →
      SimpTransition (simp⟨⟩ (prog (C (sequence x y)) ∷ c) r m) (simp⟨⟩ (prog (C x) ∷ prog (C y) ∷ c) r m)
  simp_if : {b : Condition} {x y : Command} {c : List Instruction} {r : List Result} {m : Memory} →
      SimpTransition (simp⟨⟩ (prog (C (if_else b x y)) ∷ c) r m) (simp⟨⟩ (prog (B b) ∷ if_sign ∷ c) (val (C x) ∷ val (C y) ∷ r) m)
  simp_if_true : {x y : Command} {c : List Instruction} {r : List Result} {m : Memory} →
      SimpTransition (simp⟨⟩ (if_sign ∷ c) (val (B (constant true)) ∷ val (C x) ∷ val (C y) ∷ r) m) (simp⟨⟩ (prog (C x) ∷ c) r m)
  simp_if_false : {x y : Command} {c : List Instruction} {r : List Result} {m : Memory} →
      SimpTransition (simp⟨⟩ (if_sign ∷ c) (val (B (constant false)) ∷ val (C x) ∷ val (C y) ∷ r) m) (simp⟨⟩ (prog (C y) ∷ c) r m)
  simp_while : {b : Condition} {x : Command} {c : List Instruction} {r : List Result} {m : Memory} →
      SimpTransition (simp⟨⟩ (prog (C (while_do b x)) ∷ c) r m) (simp⟨⟩ (prog (B b) ∷ while_sign ∷ c) (val (B b) ∷ val (C x) ∷ r) m)
  simp_while_true : {b : Condition} {x : Command} {c : List Instruction} {r : List Result} {m : Memory} →
      SimpTransition (simp⟨⟩ (while_sign ∷ c) (val (B (constant true)) ∷ val (B b) ∷ val (C x) ∷ r) m) (simp⟨⟩ (prog (C x) ∷ prog (C (while_do b x)) ∷ c) r m)
  simp_while_false : {b : Condition} {x : Command} {c : List Instruction} {r : List Result} {m : Memory} →
      SimpTransition (simp⟨⟩ (while_sign ∷ c) (val (B (constant false)) ∷ val (B b) ∷ val (C x) ∷ r) m) (simp⟨⟩ c r m)

-- n of them
pub data SimpTakes : Simp → ℕ → Simp → Type 0 where
  simp_none : {s : Simp} → SimpTakes s 0 s
  simp_more : {s s' t : Simp} {n : ℕ} → SimpTransition s s' → SimpTakes s' n t → SimpTakes s (suc n) t
