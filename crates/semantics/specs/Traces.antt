-- Many transitions, and how high the stacks stand on the way.
use Rattle.std.specs.Prelude.{◌≡◌, ℕ, suc, ◌<◌, ◌≤◌, [], ◌∷◌, length, Option}
use Rattle.rows.specs.declared.row.Row.{Row}
use Rattle.semantics.specs.declared.fault.Fault.{Fault}
use Rattle.semantics.specs.declared.item.Control.TheVariants.{Whole, Finish}
use Rattle.semantics.specs.Cells.{Cells}
use Rattle.semantics.specs.Machine.{Configuration, conf, cells_of, Transition, Refused}

-- at most k items on the control stack, and at most h on the results stack
abbrev pub Fits : ℕ → ℕ → Configuration → Type 0
Fits k h (conf c r m) = (length c ≤ k) × (length r ≤ h)

-- a row that is about to be opened would find a place for one result among h
abbrev pub ReadsWithin : ℕ → Configuration → Type 0
ReadsWithin h (conf [] r m) = Unit {0}
ReadsWithin h (conf (Whole p ∷ c) r m) = length r < h
ReadsWithin h (conf (Finish p ∷ c) r m) = Unit {0}

-- at least f items on the control stack
abbrev pub HoldsUp : ℕ → Configuration → Type 0
HoldsUp f (conf c r m) = f ≤ length c

module _ (rows : ℕ → Option Row) where
  -- n transitions lead from s to t. Before each of them the control stack has at least f items, and nowhere
  -- have the stacks more than k and h
  pub data Goes (f k h : ℕ) : Configuration → ℕ → Configuration → Type 0 where
    stay : {s : Configuration} → Fits k h s → Goes f k h s 0 s
    move : {s s' t : Configuration} {n : ℕ} → HoldsUp f s → Fits k h s → Transition rows s s' → Goes f k h s' n t → Goes f k h s (suc n) t

  -- n transitions lead from s to t, wherever the stacks stand
  pub data Takes : Configuration → ℕ → Configuration → Type 0 where
    none : {s : Configuration} → Takes s 0 s
    more : {s s' t : Configuration} {n : ℕ} → Transition rows s s' → Takes s' n t → Takes s (suc n) t

  -- n transitions lead from s to a configuration of which P holds
  pub data Reaches (f k h : ℕ) (P : Configuration → Type 0) (s : Configuration) (n : ℕ) : Type 0 where
    reaches : {t : Configuration} → Goes f k h s n t → P t → Reaches f k h P s n

  -- the next transition is refused with that fault, the control stack still having at least b items and the cells being m
  abbrev pub Refuses : ℕ → Fault → Cells → Configuration → Type 0
  Refuses b f m t = Refused rows t f × (cells_of t ≡ m) × HoldsUp b t

  -- the same, and the refusal is not for want of a place among h results
  abbrev pub RefusesWithin : ℕ → ℕ → Fault → Cells → Configuration → Type 0
  RefusesWithin b h f m t = Refused rows t f × (cells_of t ≡ m) × HoldsUp b t × ReadsWithin h t
