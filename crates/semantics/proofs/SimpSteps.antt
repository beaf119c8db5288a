-- SIMP goes one way only.
use Rattle.std.proofs.Common.{◌≡◌, ℕ, List, [], ◌∷◌, ℤ, None, refl, ap, arith as linear}
use Rattle.rows.specs.declared.row.Operator.{Operator}
use Rattle.semantics.specs.Arithmetic.{outcome}
use Rattle.semantics.specs.Simp.{bang, literal, E, Instruction, prog, op, Result, val, Memory, Simp, simp⟨⟩}
use Rattle.semantics.specs.Simp.{SimpTransition, simp_n, simp_b, simp_negation, simp_conjunction, simp_not, simp_and, simp_operation, simp_comparison, simp_op, simp_bop, simp_bang}
use Rattle.semantics.specs.Simp.{simp_skip, simp_set, simp_assign, simp_sequence, simp_if, simp_if_true, simp_if_false, simp_while, simp_while_true, simp_while_false}
use Rattle.semantics.specs.Simulation.{SimpIsDeterministic}

pub one_way : {S T U : Simp} → SimpTransition S T → SimpTransition S U → T ≡ U
one_way simp_n simp_n = refl
one_way simp_b simp_b = refl
one_way simp_negation simp_negation = refl
one_way simp_conjunction simp_conjunction = refl
one_way simp_not simp_not = refl
one_way simp_and simp_and = refl
one_way simp_operation simp_operation = refl
one_way simp_comparison simp_comparison = refl
one_way (simp_op {n = z} {c} {r} {m} q) (simp_op {n = z'} q') = let e : z ≡ z' = cc in ap (λ n. simp⟨⟩ c (val (E (literal n)) ∷ r) m) e
one_way simp_bop simp_bop = refl
one_way (simp_bang {n = z} {c} {r} {m} q) (simp_bang {n = z'} q') = let e : z ≡ z' = cc in ap (λ n. simp⟨⟩ c (val (E (literal n)) ∷ r) m) e
one_way simp_skip simp_skip = refl
one_way simp_set simp_set = refl
one_way simp_assign simp_assign = refl
one_way simp_sequence simp_sequence = refl
one_way simp_if simp_if = refl
one_way simp_if_true simp_if_true = refl
one_way simp_if_false simp_if_false = refl
one_way simp_while simp_while = refl
one_way simp_while_true simp_while_true = refl
one_way simp_while_false simp_while_false = refl

-- where it goes no way
pub none_at_end : {r : List Result} {m : Memory} {S : Simp} → ¬ SimpTransition (simp⟨⟩ [] r m) S
none_at_end d = elim d [ ]

pub none_undefined : (c : List Instruction) (r : List Result) (m : Memory) (l : ℕ) (S : Simp) → m l ≡ None → ¬ SimpTransition (simp⟨⟩ (prog (E (bang l)) ∷ c) r m) S
none_undefined c r m l S q (simp_bang q') = let z : ◌≡◌ {A = ℕ} 0 1 = cc in omega linear

pub none_without_outcome : (c : List Instruction) (r : List Result) (m : Memory) (o : Operator) (a b : ℤ) (S : Simp) → outcome o a b ≡ None →
    ¬ SimpTransition (simp⟨⟩ (op o ∷ c) (val (E (literal b)) ∷ val (E (literal a)) ∷ r) m) S
none_without_outcome c r m o a b S q (simp_op q') = let z : ◌≡◌ {A = ℕ} 0 1 = cc in omega linear

pub simp_is_deterministic : SimpIsDeterministic
simp_is_deterministic S T U d d' = one_way d d'
