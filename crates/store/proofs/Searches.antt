-- What a search through numbers that count up tells of them: of all, or of the first that it finds.
use Rattle.std.proofs.Common.{◌≡◌, ℕ, ◌+◌, ◌-◌, ◌<◌, ◌≤◌, Bool, true, false, Some, None, Option, Decides, MatchOption, IsTrue, IsSomeAnd, IfSome, refl, ap, subst, ◌∙◌, arith}
use Rattle.std.specs.Bool.{MatchBool}
use Rattle.std.specs.Option.{option_map}
use Rattle.std.specs.Fn.{Called}
use Rattle.std.specs.Iterator.Runs.{Run, AllItemsGive, AnyItemGives, IsFirstToGive, CallKeepsClosure, ItemsCountUp}
use Rattle.std.specs.Range.{range_inclusive_start, range_inclusive_end, range_inclusive_exhausted}
use Rattle.std.specs.declared.ops.RangeInclusive.{RangeInclusive}
use Rattle.std.proofs.iter.runs.Sources.{nat_range_inclusive_steps, inclusive_listed}
use denote.Param.Members.{Mut}

-- the numbers of a range that has just been made
pub inclusive_counts : {s : RangeInclusive ℕ} (p : Run nat_range_inclusive_steps) (a b : ℕ) → p.from ≡ s → (range_inclusive_exhausted s ≡ false)
    → range_inclusive_start s ≡ a → range_inclusive_end s + 1 ≡ b → ItemsCountUp p a b
inclusive_counts {s} p a b from fresh low high =
    let listed = inclusive_listed p p.seen in
    let first : listed.0 ≡ a = listed.2 ∙ ap range_inclusive_start from ∙ low in
    let past : listed.1 ≡ b = listed.3 ∙ ap (λ (x : RangeInclusive ℕ). range_inclusive_end x + 1) from ∙ high in
    subst (λ (e : ℕ × ℕ). ItemsCountUp p e.0 e.1) (λ i. (first i, past i)) (listed.4 (ap range_inclusive_exhausted from ∙ fresh)).0

held : (o : Option ℕ) (k : ℕ) (P : ℕ → Type 0) → option_map (λ y. y) o ≡ Some k → IfSome o P → P k
held None k P e h = cc
held (Some x) k P e h = let same : x ≡ k = cc in subst P same h

if_some : (o : Option ℕ) (P : ℕ → Type 0) → IsSomeAnd o P → IfSome o P
if_some None P h = tt
if_some (Some x) P h = h

some_held : (o : Option ℕ) (P Q : ℕ → Type 0) → IfSome o P → IsSomeAnd o Q → (k : ℕ) × P k × Q k
some_held None P Q h q = absurd q
some_held (Some x) P Q h q = (x, h, q)

module _ {S : Type 0} {steps : S → Option ℕ → S → Type 0} (p : Run steps) (a b : ℕ) (counts : ItemsCountUp p a b) {F : Type 0} (f : F) where
  -- what holds at the first n places holds of the first n numbers
  each : (n : ℕ) → n ≤ p.len → (P : ℕ → Type 0) → ((i : ℕ) → i < n → IfSome (p.at i) P) → (k : ℕ) → a ≤ k → k < a + n → P k
  each n within P all k low high =
      let place : a + (k - a) ≡ k = omega arith in
      held (p.at (k - a)) k P (counts.3 (k - a) (omega arith) ∙ ap Some place) (all (k - a) (omega arith))

  -- `all`, of a closure that decides whether P holds
  pub all_decides : (g : Mut F (ℕ × Unit {0}) Bool) → CallKeepsClosure g f → (P : ℕ → Type 0) → ((k : ℕ) (r : Bool) → Called g f (k, tt) r f → Decides r (P k))
      → (r : Bool) → MatchBool r (IsTrue p.whole × AllItemsGive p g f true) (AnyItemGives p g f false)
      → Decides r ((k : ℕ) → a ≤ k → k < b → P k)
  all_decides g keeps P tells true h =
      let all = each p.len (omega arith) (λ k. Called g f (k, tt) true f) (λ i _. h.1 keeps i) in
      let len = counts.1 h.0 in
      (λ _ k low high. (tells k true (all k low (omega arith))).0 refl, λ _. refl)
  all_decides g keeps P tells false h =
      let at = h keeps in
      let found = some_held (p.at at.0) _ (λ k. Called g f (k, tt) false f) (counts.2 at.0) at.2 in
      (λ e. cc, λ all. (tells found.0 false found.2).1 (all found.0 (omega arith) found.1.1))

  module _ {B : Type 0} (g : Mut F (ℕ × Unit {0}) (Option B)) (keeps : CallKeepsClosure g f) (P : ℕ → Option B → Type 0)
      (tells : (k : ℕ) (r : Option B) → Called g f (k, tt) r f → P k r) where
    -- `find_map`, of a closure whose answer P tells: it is the first that is not `None`
    pub first_found : (r : Option B) → MatchOption r (IsTrue p.whole × AllItemsGive p g f None) (λ y. (i : ℕ) × (i < p.len) × (p.len ≡ i + 1) × IsFirstToGive p g f (Some y) None i)
        → MatchOption r ((k : ℕ) → a ≤ k → k < b → P k None) (λ y. (l : ℕ) × (a ≤ l) × (l < b) × P l (Some y) × ((k : ℕ) → a ≤ k → k < l → P k None))
    first_found None h =
        let all = each p.len (omega arith) (λ k. Called g f (k, tt) None f) (λ i _. h.1 keeps i) in
        let len = counts.1 h.0 in
        λ k low high. tells k None (all k low (omega arith))
    first_found (Some y) h =
        let i = h.0 in
        let hit = h.3 keeps in
        let found = some_held (p.at i) _ (λ k. Called g f (k, tt) (Some y) f) (counts.2 i) hit.0 in
        let all = each i (omega arith) (λ k. Called g f (k, tt) None f) (λ j below. if_some (p.at j) _ (hit.1 j below)) in
        (found.0, omega arith, found.1.1, tells found.0 (Some y) found.2, λ k low high. tells k None (all k low (omega arith)))
