-- What is known of a board that has followed a plan.
use Rattle.std.proofs.Common.{◌≡◌, ℕ, List, Some, None, Ok, Err, Result, sym, refl, ap, ◌∙◌, subst, subst₂, arith as linear}
use Rattle.loading.specs.Questions.{Loaded}
use Rattle.semantics.specs.Cells.{Cells}
use Rattle.semantics.specs.Machine.{Configuration, cells_of}
use Rattle.semantics.specs.WholeRuns.{program_over}
use Rattle.transition.specs.Exchanges.{Room}
use Rattle.runs.specs.Slices.{Board, running, ended}
use Rattle.runs.specs.Histories.{Admits, History}
use Rattle.runs.specs.Promise.{left_of, Kept, SameCells, Agree}
use Rattle.runs.proofs.Keeping.{kept}
use Rattle.runs.proofs.Promise.{agree}
use Rattle.machine.specs.declared.run.Running.{Running}
use Rattle.machine.specs.declared.run.BeginRefusal.{BeginRefusal}
use Rattle.machine.specs.declared.run.Progress.TheVariants as progress
use Rattle.machine.specs.Begins.{first_no, Begins, begins, refuses}
use Rattle.history.specs.declared.turn.Turn.{Turn}
use Rattle.history.specs.Turns.{used, TakesTurns}
use Rattle.history.specs.Plans.{Fate, fate_of, Calls, Follows, refused, followed, IfBegun}
use Rattle.history.proofs.Turns.{goes_through}

-- what holds of the board that a begun run has come to, its fate and its configuration say
was_begun : (P : Board → Type 0) (limit : ℕ) (b : Board) → P b → IfBegun (fate_of limit b) (left_of b) P
was_begun P limit (running n s) p = p
was_begun P limit (ended e n s) p = p

also : (P Q : Board → Type 0) → ((b : Board) → P b → Q b) → (r : Fate) (s : Configuration) → IfBegun r s P → IfBegun r s Q
also P Q f (Err e) s p = tt
also P Q f (Ok (progress.Running r)) s p = f _ p
also P Q f (Ok (progress.Ended e)) s p = f _ p

module _ (table : List ℕ) (k h limit : ℕ) where
  -- begin's answer, taken apart
  refusal : {s s' : Configuration} {a : Result Running BeginRefusal} {e : BeginRefusal} → a ≡ Err e → Begins table k h limit s a s' →
      (first_no table k h limit ≡ Some e) × (s' ≡ s)
  refusal q (begins asked admits) = absurd (let z : ◌≡◌ {A = ℕ} 0 1 = cc in omega linear)
  refusal {e = e} q (refuses {e = e'} asked) = let z : e' ≡ e = cc in (asked ∙ ap (λ e. Some e) z, refl)

  -- the run that begin answered, and where it stands
  record Start (s s' : Configuration) (r : Running) : Type 0 where
    asked : first_no table k h limit ≡ None
    admits : Admits table k h limit
    count : r.count ≡ 0
    at : r.limit ≡ limit
    over : s' ≡ program_over table (cells_of s)

  start : {s s' : Configuration} {a : Result Running BeginRefusal} {r : Running} → a ≡ Ok r → Begins table k h limit s a s' → Start s s' r
  start {r = r} q (begins asked admits) =
      let z : record { count = 0; limit = limit } ≡ r = cc in
      record { asked = asked; admits = admits; count = sym (ap (λ (r : Running). r.count) z); at = sym (ap (λ (r : Running). r.limit) z); over = refl }
  start q (refuses asked) = absurd (let z : ◌≡◌ {A = ℕ} 0 1 = cc in omega linear)

  module _ {s : Configuration} {ts : List Turn} where
    -- the board that the turns have come to, from where begin left it
    board_followed : {us : List Turn} {s₀ : Configuration} {b : Board} (r : Running) (k' : Room) → Begins table k h limit s (Ok r) s₀ → k' ≡ record { control = k; results = h } →
        TakesTurns table k'.control k'.results r.limit (running r.count s₀) ts us b → Follows table k h limit s ts (fate_of limit b) us (left_of b)
    board_followed {us} {s₀} {b} r k' begun same turns =
        let z = start refl begun in
        let here = subst (λ (k : Room). TakesTurns table k.control k.results r.limit (running r.count s₀) ts us b) same turns in
        let within = subst (λ limit. TakesTurns table k h limit (running r.count s₀) ts us b) z.at here in
        followed z.asked z.admits (subst₂ (λ n s. TakesTurns table k h limit (running n s) ts us b) z.count z.over within)

    pub following : {us : List Turn} {s' : Configuration} (r : Fate) → Calls table k h limit s ts r us s' → Follows table k h limit s ts r us s'
    following {us} {s'} (Err e) calls =
        let z = refusal refl calls.0 in
        subst₂ (λ us s'. Follows table k h limit s ts (Err e) us s') (sym calls.1) (sym z.1) (refused z.0)
    following {us} {s'} (Ok (progress.Running q)) calls =
        let at : q.limit ≡ limit = calls.6 ∙ (start refl calls.3).at in
        subst (λ l. Follows table k h limit s ts (Ok (progress.Running (record { count = q.count; limit = l }))) us s') (sym at)
        (board_followed calls.0 calls.2 calls.3 calls.4 calls.5)
    following (Ok (progress.Ended e)) calls = board_followed calls.0 calls.2 calls.3 calls.4 calls.5

  pub history : {s s' : Configuration} {ts us : List Turn} {r : Fate} → Follows table k h limit s ts r us s' →
      IfBegun r s' (History table k h limit (cells_of s) (used us))
  history (refused e) = tt
  history {s = s} (followed {us = us} {b = b} e admits turns) =
      was_begun (History table k h limit (cells_of s) (used us)) limit b (record { admitted = admits; went = goes_through table k h limit turns })

  pub keeping : Loaded table → (m : Cells) (l : List ℕ) (r : Fate) (s : Configuration) → IfBegun r s (History table k h limit m l) → IfBegun r s (Kept table m limit l)
  keeping loaded m l = also _ _ (kept table loaded m limit k h l)

-- two boards that were begun over the same cells
module _ (table : List ℕ) (loaded : Loaded table) (limit : ℕ) (m₁ m₂ : Cells) (same : SameCells m₁ m₂) (k₁ h₁ k₂ h₂ : ℕ) (l₁ l₂ : List ℕ) where
  pub agreeing : (r₁ r₂ : Fate) (s₁ s₂ : Configuration) → IfBegun r₁ s₁ (History table k₁ h₁ limit m₁ l₁) → IfBegun r₂ s₂ (History table k₂ h₂ limit m₂ l₂) →
      IfBegun r₁ s₁ (λ b. IfBegun r₂ s₂ (Agree table limit m₁ m₂ l₁ l₂ b))
  agreeing r₁ r₂ s₁ s₂ d₁ d₂ = also _ _ (λ b₁ d₁. also _ _ (λ b₂ d₂. agree table loaded limit m₁ m₂ same k₁ h₁ k₂ h₂ l₁ l₂ b₁ b₂ d₁ d₂) r₂ s₂ d₂) r₁ s₁ d₁
