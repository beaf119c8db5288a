-- A transition that is tried has one answer, since a rule that fits leads one way.
use Rattle.std.proofs.Common.{◌≡◌, ℕ, Option, Result, refl, subst}
use Rattle.rows.specs.declared.row.Row.{Row}
use Rattle.semantics.specs.Machine.{Configuration}
use Rattle.semantics.specs.Traces.{Fits}
use Rattle.semantics.proofs.Step.{one_transition, one_fault, not_both}
use Rattle.runs.specs.declared.end.Stop.{Stop}
use Rattle.runs.specs.Tries.{Tried, made, no_rule, no_room, no_room_to_read, refused}

module _ (rows : ℕ → Option Row) (k h : ℕ) where
  pub one_try : {s t u : Configuration} {x y : Result (Unit {0}) Stop} → Tried rows k h s x t → Tried rows k h s y u → (x ≡ y) × (t ≡ u)
  one_try (made d f) (made d' f') = (refl, one_transition rows d d')
  one_try (made {t} d f) (no_rule z) = absurd (z.no_transition t d)
  one_try (made d f) (no_room d' z) = absurd (z (subst (Fits k h) (one_transition rows d d') f))
  one_try (made d f) (no_room_to_read r z) = absurd (not_both rows d r)
  one_try (made d f) (refused r z) = absurd (not_both rows d r)
  one_try (no_rule z) (made {t} d f) = absurd (z.no_transition t d)
  one_try (no_rule z) (no_rule z') = (refl, refl)
  one_try (no_rule z) (no_room d z') = (refl, refl)
  one_try (no_rule z) (no_room_to_read r z') = (refl, refl)
  one_try (no_rule z) (refused {f} r z') = absurd (z.no_number f r)
  one_try (no_room d z) (made d' f) = absurd (z (subst (Fits k h) (one_transition rows d' d) f))
  one_try (no_room d z) (no_rule z') = (refl, refl)
  one_try (no_room d z) (no_room d' z') = (refl, refl)
  one_try (no_room d z) (no_room_to_read r z') = (refl, refl)
  one_try (no_room d z) (refused r z') = absurd (not_both rows d r)
  one_try (no_room_to_read r z) (made d f) = absurd (not_both rows d r)
  one_try (no_room_to_read r z) (no_rule z') = (refl, refl)
  one_try (no_room_to_read r z) (no_room d z') = (refl, refl)
  one_try (no_room_to_read r z) (no_room_to_read r' z') = (refl, refl)
  one_try (no_room_to_read r z) (refused r' z') = absurd (z z')
  one_try (refused r z) (made d f) = absurd (not_both rows d r)
  one_try (refused {f} r z) (no_rule z') = absurd (z'.no_number f r)
  one_try (refused r z) (no_room d z') = absurd (not_both rows d r)
  one_try (refused r z) (no_room_to_read r' z') = absurd (z' z)
  one_try (refused {f} r z) (refused {f = g} r' z') = let q : f ≡ g = one_fault rows r r' in (cc, refl)
