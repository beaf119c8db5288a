-- A run that is cut into slices.
use Rattle.std.specs.Prelude.{◌≡◌, ℕ, suc, ◌+◌, ◌<◌, ◌≤◌, cond, List, [], ◌∷◌, Option, nat_le}
use Rattle.rows.specs.declared.row.Row.{Row}
use Rattle.semantics.specs.Machine.{Configuration, Transition}
use Rattle.semantics.specs.Traces.{Takes}

abbrev pub largest_slice : ℕ
largest_slice = 1000000

-- how many transitions the slices ask for: one past the largest is turned down
abbrev pub total : List ℕ → ℕ
total [] = 0
total (a ∷ l) = cond (nat_le a largest_slice) a 0 + total l

module _ (rows : ℕ → Option Row) where
  -- there is no transition from s
  abbrev pub Halted : Configuration → Type 0
  Halted s = (t : Configuration) → ¬ Transition rows s t

  -- a slice of n leads from s to t: by n transitions, or by fewer where there are no more
  pub data Serves : Configuration → ℕ → Configuration → Type 0 where
    used_up : {s : Configuration} → Serves s 0 s
    halts : {s : Configuration} {n : ℕ} → Halted s → Serves s n s
    serves_on : {s s' t : Configuration} {n : ℕ} → Transition rows s s' → Serves s' n t → Serves s (suc n) t

  -- a list of slices, the first one first
  pub data Slices : Configuration → List ℕ → Configuration → Type 0 where
    no_slice : {s : Configuration} → Slices s [] s
    served : {s t u : Configuration} {a : ℕ} {l : List ℕ} → a ≤ largest_slice → Serves s a t → Slices t l u → Slices s (a ∷ l) u
    turned_down : {s u : Configuration} {a : ℕ} {l : List ℕ} → largest_slice < a → Slices s l u → Slices s (a ∷ l) u

  pub record CutAnywhere (s : Configuration) : Type 0 where
    -- every list of slices leads somewhere
    pub leads : (l : List ℕ) → (t : Configuration) × Slices s l t
    -- equal sums lead to equal configurations
    pub by_sums : (l l' : List ℕ) (t u : Configuration) → Slices s l t → Slices s l' u → total l ≡ total l' → t ≡ u
    -- and a run that has come to its end has come to the one end, whatever the sums
    pub by_ends : (l l' : List ℕ) (t u : Configuration) → Slices s l t → Slices s l' u → Halted t → Halted u → t ≡ u
    -- while there is more to do, the transitions made are the sum
    pub counts : (l : List ℕ) (t u : Configuration) → Slices s l t → Transition rows t u → Takes rows s (total l) t

abbrev pub CutsDoNotMatter : Type 0
CutsDoNotMatter = (rows : ℕ → Option Row) (s : Configuration) → CutAnywhere rows s
