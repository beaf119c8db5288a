-- What comes of the first frame: the run has ended, or the second frame goes on from there.
use mathlib.Core.Path.{◌≡◌, ap, subst, subst₂, ◌∙◌, sym}
use mathlib.Core.List.{List}
use mathlib.Core.Logic.{inl, inr}
use Rattle.rows.specs.Rows.{row_at}
use Rattle.semantics.specs.Machine.{Configuration}
use Rattle.transition.specs.Exchanges.{Room}
use Rattle.runs.specs.Slices.{Board, ended, GoesOn}
use Rattle.runs.specs.Histories.{rests, goes_on}
use Rattle.machine.specs.declared.run.Ended.{Ended}
use Rattle.machine.specs.declared.run.Running.{Running}
use Rattle.machine.specs.declared.run.Progress.{Progress}
use Rattle.machine.specs.declared.run.Progress.TheVariants as progress
use Rattle.machine.specs.States.{board_of, limit_of}
use Rattle.caller.specs.Frames.{Frames}
use Prim.Native.Nat.{ℕ}

module _ (table : List ℕ) (k : Room) (limit a n : ℕ) (s s' : Configuration) (p : Progress) (g : GoesOn (row_at table) k.control k.results limit a n s (board_of p s')) where
  pub ends_first : (e : Ended) → p ≡ progress.Ended e → Frames table k.control k.results limit a n s (ended e.end e.count s')
  ends_first e q = inl (goes_on (subst (λ p. GoesOn (row_at table) k.control k.results limit a n s (board_of p s')) q g) rests, inl tt)

  pub goes_second : (r : Running) (k' : Room) (b : Board) → p ≡ progress.Running r → k' ≡ k → limit_of limit p ≡ limit →
      GoesOn (row_at table) k'.control k'.results r.limit a r.count s' b → Frames table k.control k.results limit a n s b
  goes_second r k' b q same kept g' =
      let l : r.limit ≡ limit = sym (ap (limit_of limit) q) ∙ kept in
      inr
      (goes_on (subst (λ p. GoesOn (row_at table) k.control k.results limit a n s (board_of p s')) q g)
      (goes_on (subst₂ (λ (k : Room) limit. GoesOn (row_at table) k.control k.results limit a r.count s' b) same l g') rests))
