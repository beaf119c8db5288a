-- What a transition makes of the two stacks: every one is an exchange of topmost items, or two of different stacks.
use Rattle.std.specs.Prelude.{◌≡◌, ℕ, cond, not, ◌&&◌, List, [], ◌∷◌, ◌++◌, length, drop, Some, None, Ok, Err, Option, Result}
use Rattle.cells.specs.declared.fault.StoreFault.{StoreFault}
use Rattle.rows.specs.declared.row.Operator.{Operator}
use Rattle.rows.specs.declared.row.Relation.{Relation}
use Rattle.rows.specs.declared.row.Row.{Row}
use Rattle.rows.specs.declared.row.Row.TheVariants as row
use Rattle.stack.specs.Contents.{contents, places, fits}
use Rattle.semantics.specs.declared.arithmetic.ArithmeticFault.{ArithmeticFault}
use Rattle.semantics.specs.declared.fault.Cause.TheVariants.{Store, Arithmetic}
use Rattle.semantics.specs.declared.item.Control.{Control}
use Rattle.semantics.specs.declared.item.Control.TheVariants.{Whole, Finish}
use Rattle.semantics.specs.declared.item.Item.{Item}
use Rattle.semantics.specs.declared.item.Item.TheVariants as item
use Rattle.semantics.specs.Arithmetic.{computed, compared}
use Rattle.semantics.specs.Cells.{Cells, read}
use Rattle.semantics.specs.Faults.{fault_at}
use Rattle.semantics.specs.Machine.{waiting}
use Rattle.runs.specs.declared.end.Stop.{Stop}
use Rattle.runs.specs.declared.end.Stop.TheVariants as stop
use Rattle.transition.specs.declared.pair.StackPair.{StackPair}
use Rattle.transition.specs.Found.{as_number, as_truth, topmost, topmost_two, decided}

-- what the two stacks hold, topmost first
pub record Stacks : Type 0 where
  pub control : List Control
  pub results : List Item

-- how many places they have
pub record Room : Type 0 where
  pub control : ℕ
  pub results : ℕ

-- a transition comes to something, or is not made
pub data Outcome (A : Type 0) : Type 0 where
  went : A → Outcome A
  stopped : Stop → Outcome A

abbrev pub stacks : StackPair → Stacks
stacks s = record { control = contents s.control; results = contents s.results }

abbrev pub room : StackPair → Room
room s = record { control = places s.control; results = places s.results }

module _ {A : Type 0} where
  abbrev pub answer : Outcome A → Result (Unit {0}) Stop
  answer (went x) = Ok tt
  answer (stopped e) = Err e

  abbrev pub after : Outcome A → A → A
  after (went x) y = x
  after (stopped e) y = y

-- the answer r is given, s becomes s' as the outcome says, and k stays as it is
pub record Did {K A : Type 0} (o : Outcome A) (k k' : K) (s s' : A) (r : Result (Unit {0}) Stop) : Type 0 where
  pub answers : r ≡ answer o
  pub leaves : s' ≡ after o s
  pub keeps : k' ≡ k

abbrev pub Moved : (Room → Stacks → Outcome Stacks) → StackPair → StackPair → Result (Unit {0}) Stop → Type 0
Moved f s s' a = Did (f (room s) (stacks s)) (room s) (room s') (stacks s) (stacks s') a

-- the topmost control item makes way for cs, and n results for rs, where there are so many and where these fit
abbrev pub exchanged : Room → List Control → ℕ → List Item → Stacks → Outcome Stacks
exchanged k cs n rs s =
    cond (fits k.control s.control 1 (length cs) && fits k.results s.results n (length rs))
    (went (record { control = cs ++ drop 1 s.control; results = rs ++ drop n s.results }))
    (stopped stop.Stuck)

abbrev pub found : {A B : Type 0} → Option A → (A → Outcome B) → Outcome B
found None go = stopped stop.Stuck
found (Some x) go = go x

abbrev pub unless_refused : {A B : Type 0} → ℕ → Result A StoreFault → (A → Outcome B) → Outcome B
unless_refused p (Ok x) go = go x
unless_refused p (Err f) go = stopped (stop.Fault (fault_at p (Store f)))

abbrev pub unless_impossible : {A B : Type 0} → ℕ → Result A ArithmeticFault → (A → Outcome B) → Outcome B
unless_impossible p (Ok x) go = go x
unless_impossible p (Err f) go = stopped (stop.Fault (fault_at p (Arithmetic f)))

-- room for the value is asked for before the store is
abbrev pub read_of : Room → Cells → ℕ → ℕ → Stacks → Outcome Stacks
read_of k m p l s =
    cond (fits k.results s.results 0 1)
    (unless_refused p (read m l) (λ n. exchanged k [] 0 (item.Number n ∷ []) s))
    (stopped stop.Stuck)

-- the condition b of row p is opened, while x and y wait among the results
abbrev pub wait_of : Room → ℕ → ℕ → ℕ → ℕ → Stacks → Outcome Stacks
wait_of k p b x y s = exchanged k (Whole b ∷ Finish p ∷ []) 0 (waiting p x y []) s

abbrev pub whole_of : Room → Cells → ℕ → Row → Stacks → Outcome Stacks
whole_of k m p (row.Number n) s = exchanged k [] 0 (item.Number n ∷ []) s
whole_of k m p (row.Contents l) s = read_of k m p l s
whole_of k m p (row.Arithmetic o x y) s = exchanged k (Whole x ∷ Whole y ∷ Finish p ∷ []) 0 [] s
whole_of k m p (row.Truth t) s = exchanged k [] 0 (item.Truth t ∷ []) s
whole_of k m p (row.Comparison o x y) s = exchanged k (Whole x ∷ Whole y ∷ Finish p ∷ []) 0 [] s
whole_of k m p (row.Not x) s = exchanged k (Whole x ∷ Finish p ∷ []) 0 [] s
whole_of k m p (row.And x y) s = exchanged k (Whole x ∷ Whole y ∷ Finish p ∷ []) 0 [] s
whole_of k m p row.Skip s = exchanged k [] 0 [] s
whole_of k m p (row.Assignment l x) s = exchanged k (Whole x ∷ Finish p ∷ []) 0 (item.Location l ∷ []) s
whole_of k m p (row.Sequence x y) s = exchanged k (Whole x ∷ Whole y ∷ []) 0 [] s
whole_of k m p (row.Choice b x y) s = wait_of k p b x y s
whole_of k m p (row.Loop b x) s = wait_of k p b b x s

abbrev pub arithmetic_of : Room → ℕ → Operator → Stacks → Outcome Stacks
arithmetic_of k p o s =
    found (topmost_two as_number s.results) (λ yx. unless_impossible p (computed o yx.1 yx.0) (λ n. exchanged k [] 2 (item.Number n ∷ []) s))

abbrev pub comparison_of : Room → Relation → Stacks → Outcome Stacks
comparison_of k o s =
    found (topmost_two as_number s.results) (λ yx. exchanged k [] 2 (item.Truth (compared o yx.1 yx.0) ∷ []) s)

abbrev pub choice_of : Room → ℕ → ℕ → Stacks → Outcome Stacks
choice_of k x y s =
    found (decided x y s.results) (λ t. exchanged k (Whole (cond t x y) ∷ []) 3 [] s)

abbrev pub loop_of : Room → ℕ → ℕ → ℕ → Stacks → Outcome Stacks
loop_of k p b x s =
    found (decided b x s.results) (λ t. cond t (exchanged k (Whole x ∷ Whole p ∷ []) 3 [] s) (exchanged k [] 3 [] s))

-- an assignment is not here: it changes the store
abbrev pub finish_of : Room → ℕ → Row → Stacks → Outcome Stacks
finish_of k p (row.Number n) s = stopped stop.Stuck
finish_of k p (row.Contents l) s = stopped stop.Stuck
finish_of k p (row.Arithmetic o x y) s = arithmetic_of k p o s
finish_of k p (row.Truth t) s = stopped stop.Stuck
finish_of k p (row.Comparison o x y) s = comparison_of k o s
finish_of k p (row.Not x) s = found (topmost as_truth s.results) (λ t. exchanged k [] 1 (item.Truth (not t) ∷ []) s)
finish_of k p (row.And x y) s = found (topmost_two as_truth s.results) (λ yx. exchanged k [] 2 (item.Truth (yx.1 && yx.0) ∷ []) s)
finish_of k p row.Skip s = stopped stop.Stuck
finish_of k p (row.Assignment l x) s = stopped stop.Stuck
finish_of k p (row.Sequence x y) s = stopped stop.Stuck
finish_of k p (row.Choice b x y) s = choice_of k x y s
finish_of k p (row.Loop b x) s = loop_of k p b x s
