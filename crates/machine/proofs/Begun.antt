-- Beginning: the questions that got a yes, and the program alone on the stacks.
use Rattle.std.proofs.Common.{◌≡◌, ℕ, ◌+◌, ◌≤◌, true, cond, ltb, List, [], ◌∷◌, length, Some, None, Ok, Option, Result, sym, refl, ap, ◌∙◌, subst, ap₂, inl, inr, arith as linear}
use borrow.Author.Tests.{lt-true}
use Rattle.std.proofs.lemmas.Bool.Decides.{leb_tells}
use Rattle.cells.specs.declared.cell.Cell.TheVariants.{Unknown}
use Rattle.rows.specs.Rows.{rows, last_row}
use Rattle.loading.specs.Questions.{Loaded}
use Rattle.loading.specs.Stacks.{needs_at}
use Rattle.semantics.specs.declared.item.Control.{Control}
use Rattle.semantics.specs.declared.item.Control.TheVariants.{Whole}
use Rattle.semantics.specs.declared.item.Item.{Item}
use Rattle.semantics.specs.Cells.{Cells}
use Rattle.semantics.specs.Machine.{conf}
use Rattle.semantics.specs.WholeRuns.{program_over}
use Rattle.semantics.specs.Traces.{none}
use Rattle.semantics.specs.Agreement.{control_need_at}
use Rattle.semantics.proofs.Agree.{programs_run_well}
use Rattle.runs.specs.Histories.{largest_limit, Admits}
use Rattle.stack.specs.declared.stack.NoRoom.{NoRoom}
use Rattle.stack.specs.Contents.{where_room}
use Rattle.std.specs.Result.{IsOk}
use Rattle.machine.specs.declared.run.BeginRefusal.{BeginRefusal}
use Rattle.machine.specs.declared.run.BeginRefusal.TheVariants as no
use Rattle.machine.specs.Begins.{first_no, Begins, begins}

-- an emptied stack with a place takes an item, which stands alone on it
module _ {A : Type 0} (c : List A) (k k' : ℕ) (le : 1 ≤ k) (none : c ≡ []) (same : k' ≡ k) where
  room_for_one : ltb (length c) k' ≡ true
  room_for_one = ap₂ (λ (c : List _) k. ltb (length c) k) none same ∙ sym (lt-true 0 k (omega (linear, le)))

  pub takes : (a : Result (Unit {0}) NoRoom) → a ≡ where_room (ltb (length c) k') → IsOk a
  takes a q = subst IsOk (sym (q ∙ ap where_room room_for_one)) refl

  pub alone : (c' : List A) (x : A) → c' ≡ cond (ltb (length c) k') (x ∷ c) c → c' ≡ x ∷ []
  alone c' x w = w ∙ ap₂ (λ b c. cond b (x ∷ c) c) room_for_one none

pub last : (table : List ℕ) (p : ℕ) → p + 1 ≡ rows table → p ≡ last_row table
last table p e = omega (linear, e)

-- a program needs a place for itself
place_for_one : (table : List ℕ) → Loaded table → 1 ≤ control_need_at table (last_row table)
place_for_one table loaded = (programs_run_well table loaded (λ l. Unknown) 0 _ none).fits.0

some≢ : (e : BeginRefusal) → ◌≡◌ {A = Option BeginRefusal} None (Some e) → ⊥
some≢ e q = let z : ◌≡◌ {A = ℕ} 0 1 = cc in omega linear

admitted : (table : List ℕ) (k h limit : ℕ) → None ≡ first_no table k h limit → Admits table k h limit
admitted table k h limit e = elim (leb_tells 1 limit) [
  | inr q ↦ absurd (some≢ no.Limit (e ∙ rw q.0))
  | inl q₁ ↦ elim (leb_tells limit largest_limit) [
    | inr q ↦ absurd (some≢ no.Limit (e ∙ rw (q₁.0, q.0)))
    | inl q₂ ↦ elim (leb_tells (needs_at table (last_row table)).control k) [
      | inr q ↦ absurd (some≢ no.ControlPlaces (e ∙ rw (q₁.0, q₂.0, q.0)))
      | inl q₃ ↦ elim (leb_tells (needs_at table (last_row table)).results h) [
        | inr q ↦ absurd (some≢ no.ResultsPlaces (e ∙ rw (q₁.0, q₂.0, q₃.0, q.0)))
        | inl q₄ ↦ record { from = q₁.1; to = q₂.1; control = q₃.1; results = q₄.1 }
      ]
    ]
  ]
]

-- so a control stack that begin admits takes it
pub takes_one : (table : List ℕ) → Loaded table → (k h limit : ℕ) → None ≡ first_no table k h limit → 1 ≤ k
takes_one table loaded k h limit e = omega (linear, place_for_one table loaded, (admitted table k h limit e).control)

module _ (table : List ℕ) (k h limit : ℕ) (c c' : List Control) (r r' : List Item) (m : Cells) where
  pub starts : None ≡ first_no table k h limit → c' ≡ Whole (last_row table) ∷ [] → r' ≡ [] →
      Begins table k h limit (conf c r m) (Ok (record { count = 0; limit = limit })) (conf c' r' m)
  starts e ec er =
      let q : conf c' r' m ≡ program_over table m = ap₂ (λ c r. conf c r m) ec er in
      subst (Begins table k h limit (conf c r m) (Ok (record { count = 0; limit = limit }))) (sym q) (begins (sym e) (admitted table k h limit e))
