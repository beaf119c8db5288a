-- A transition that is made is SIMP's.
use Rattle.std.proofs.Common.{◌≡◌, ℕ, List, Ok, Err, Result, arith as linear}
use Rattle.rows.specs.Rows.{row_at}
use Rattle.loading.specs.Questions.{Loaded}
use Rattle.semantics.specs.Machine.{Configuration}
use Rattle.semantics.specs.Traces.{none, more}
use Rattle.semantics.proofs.IsSimp.{row_machine_is_simp}
use Rattle.runs.specs.declared.end.Stop.{Stop}
use Rattle.runs.specs.Tries.{Tried, made, no_rule, no_room, no_room_to_read, refused}
use Rattle.runs.specs.Simp.{AsSimp}

not_ok : {e : Stop} → ◌≡◌ {A = Result (Unit {0}) Stop} (Err e) (Ok tt) → ⊥
not_ok q = let z : ◌≡◌ {A = ℕ} 0 1 = cc in omega linear

pub simulated : (table : List ℕ) → Loaded table → (k h : ℕ) (s t : Configuration) (a : Result (Unit {0}) Stop) →
    Tried (row_at table) k h s a t → a ≡ Ok tt → AsSimp table s 1 t
simulated table loaded k h s t a (made d f) q S reads = (row_machine_is_simp table loaded).simulated_all s t S 1 (more d none) reads
simulated table loaded k h s t a (no_rule d) q S reads = absurd (not_ok q)
simulated table loaded k h s t a (no_room d f) q S reads = absurd (not_ok q)
simulated table loaded k h s t a (no_room_to_read d f) q S reads = absurd (not_ok q)
simulated table loaded k h s t a (refused d f) q S reads = absurd (not_ok q)
