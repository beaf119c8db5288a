-- A go-on of a board that has a history, or of any board.
use Rattle.std.proofs.Common.{◌≡◌, ℕ, suc, ◌+◌, List, Option, sym, refl, subst, arith as linear}
use Rattle.rows.specs.declared.row.Row.{Row}
use Rattle.rows.specs.Rows.{row_at}
use Rattle.loading.specs.Questions.{Loaded}
use Rattle.semantics.specs.Machine.{Configuration}
use Rattle.semantics.specs.Traces.{Takes, none, more}
use Rattle.semantics.proofs.IsSimp.{row_machine_is_simp}
use Rattle.runs.specs.Tries.{made}
use Rattle.runs.specs.Slices.{Board, Serves, finishes, runs_out, pauses, stops, steps, GoesOn, turned_down, served}
use Rattle.runs.specs.Promise.{count_of, left_of, AgreesOnward}
use Rattle.runs.specs.Simp.{SimpOnward}
use Rattle.runs.proofs.Histories.{append_history}
use Rattle.runs.proofs.Promise.{agree}

-- the transitions that a slice makes
module _ (rows : ℕ → Option Row) (k h limit : ℕ) where
  abbrev TakesTo : ℕ → Configuration → Board → Type 0
  TakesTo n s b = (i : ℕ) × (count_of b ≡ n + i) × Takes rows s i (left_of b)

  still : (n : ℕ) (s : Configuration) (b : Board) → count_of b ≡ n → left_of b ≡ s → TakesTo n s b
  still n s b e q = (0, omega (linear, e), subst (Takes rows s 0) (sym q) none)

  pub taking : {a n : ℕ} {s : Configuration} {b : Board} → Serves rows k h limit a n s b → TakesTo n s b
  taking {n} {s} {b} (finishes e) = still n s b refl refl
  taking {n} {s} {b} (runs_out e le) = still n s b refl refl
  taking {n} {s} {b} (pauses e lt) = still n s b refl refl
  taking {n} {s} {b} (stops e lt d) = still n s b refl refl
  taking {n} (steps e lt (made d f) g) = let z = taking g in (suc z.0, omega (linear, z.1), more d z.2)

  pub going : {a n : ℕ} {s : Configuration} {b : Board} → GoesOn rows k h limit a n s b → TakesTo n s b
  going {n} {s} {b} (turned_down lt) = still n s b refl refl
  going (served le g) = taking g

module _ (table : List ℕ) (loaded : Loaded table) (k h limit a n : ℕ) (s : Configuration) (b : Board) (g : GoesOn (row_at table) k h limit a n s b) where
  pub agrees_onward : AgreesOnward table k h limit a n s b
  agrees_onward m₁ m₂ same k₂ h₂ l₁ l₂ b₂ h₁ hist₂ = agree table loaded limit m₁ m₂ same k h k₂ h₂ _ l₂ b b₂ (append_history table k h limit h₁ g) hist₂

  pub simp_onward : SimpOnward table n s b
  simp_onward =
      let z = going (row_at table) k h limit g in
      (z.0, z.1, λ S reads. (row_machine_is_simp table loaded).simulated_all s (left_of b) S z.0 z.2 reads)
