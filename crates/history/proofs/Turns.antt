-- Turns as the code takes them.
use Rattle.std.proofs.Common.{◌≡◌, ℕ, ◌+◌, ◌<◌, ◌≤◌, true, cond, List, [], ◌∷◌, ◌++◌, length, get_or, take, drop, set, sym, refl, subst, subst₂, inl, inr, arith as linear, drop_of_length-le}
use Rattle.std.proofs.lemmas.Bool.Decides.{leb_tells}
use Rattle.semantics.specs.Machine.{Configuration}
use Rattle.semantics.specs.Cuts.{largest_slice}
use Rattle.transition.specs.Exchanges.{Room}
use Rattle.runs.specs.Slices.{Board, running, ended}
use Rattle.runs.specs.Histories.{GoesThrough, rests, goes_on}
use Rattle.machine.specs.declared.run.Progress.{Progress}
use Rattle.machine.specs.declared.run.Progress.TheVariants as progress
use Rattle.machine.specs.States.{board_of, limit_of}
use Rattle.history.specs.declared.turn.Turn.{Turn}
use Rattle.history.specs.Turns.{served_as, seen_of, is_used, used, TakesTurn, TakesTurns, no_more, one_more}
use Rattle.history.proofs.Lists.{all_done, one_done, one_left}

-- a turn that is taken is used
serving_uses : (b : Board) → is_used (served_as b) ≡ true
serving_uses (running n s) = refl
serving_uses (ended e n s) = refl

going_uses : (a : ℕ) (b : Board) → is_used (seen_of a b) ≡ true
going_uses a b = elim (leb_tells a largest_slice) [ inl q ↦ rw q.0 (serving_uses b) | inr q ↦ rw q.0 ]

module _ (table : List ℕ) (k h : ℕ) where
  -- a board's own limit
  at_limit : (limit : ℕ) (p : Progress) → limit_of limit p ≡ limit → (s : Configuration) (t u : Turn) (b : Board) →
      TakesTurn table k h (limit_of 0 p) (board_of p s) t u b → TakesTurn table k h limit (board_of p s) t u b
  at_limit limit (progress.Running r) at s t u b took = subst (λ limit. TakesTurn table k h limit (running r.count s) t u b) at took
  at_limit limit (progress.Ended e) at s t u b took = took

  -- and a run keeps its limit, where it goes on
  pub limit_kept : (limit : ℕ) (p q : Progress) (s s' : Configuration) (t u : Turn) → limit_of limit p ≡ limit →
      TakesTurn table k h (limit_of 0 p) (board_of p s) t u (board_of q s') → limit_of (limit_of 0 p) q ≡ limit_of 0 p → limit_of limit q ≡ limit
  limit_kept limit (progress.Running r) q s s' t u at took same = subst (λ l. limit_of l q ≡ l) at same
  limit_kept limit (progress.Ended e) (progress.Running r) s s' t u at took same =
      let over = took.1 in
      let z : ◌≡◌ {A = ℕ} 0 1 = cc in absurd (omega linear)
  limit_kept limit (progress.Ended e) (progress.Ended f) s s' t u at took same = refl

  -- in a loop over the turns: what is left comes to one thing, so all of them come to that
  module _ (limit : ℕ) (turns₀ : List Turn) (b₀ : Board) (turns : List Turn) (i : ℕ) where
    abbrev WholeOfRest : Board → Type 0
    WholeOfRest b = (us : List Turn) (c : Board) → TakesTurns table k h limit b (drop i turns) us c → TakesTurns table k h limit b₀ turns₀ (take i turns ++ us) c

    pub taking_none : length turns ≤ i → {b : Board} → WholeOfRest b → TakesTurns table k h limit b₀ turns₀ turns b
    taking_none le {b} whole =
        let rest : TakesTurns table k h limit b (drop i turns) [] b = subst (λ ts. TakesTurns table k h limit b ts [] b) (sym (drop_of_length-le turns le)) no_more in
        subst (λ us. TakesTurns table k h limit b₀ turns₀ us b) (all_done i turns le) (whole [] b rest)

    pub taking_one : (k' : Room) → k' ≡ record { control = k; results = h } → i < length turns →
        (p : Progress) → limit_of limit p ≡ limit → (s : Configuration) (d u : Turn) (c : Board) →
        TakesTurn table k'.control k'.results (limit_of 0 p) (board_of p s) (get_or turns i d) u c → WholeOfRest (board_of p s) →
        (us : List Turn) (e : Board) → TakesTurns table k h limit c (drop (i + 1) (set turns i u)) us e →
        TakesTurns table k h limit b₀ turns₀ (take (i + 1) (set turns i u) ++ us) e
    taking_one k' same lt p at s d u c took whole us e rest =
        let b = board_of p s in
        let here = subst (λ (k : Room). TakesTurn table k.control k.results (limit_of 0 p) b (get_or turns i d) u c) same took in
        let more : TakesTurns table k h limit b (get_or turns i d ∷ drop (i + 1) (set turns i u)) (u ∷ us) e = one_more (at_limit limit p at s (get_or turns i d) u c here) rest in
        let left : TakesTurns table k h limit b (drop i turns) (u ∷ us) e = subst (λ ts. TakesTurns table k h limit b ts (u ∷ us) e) (sym (one_left turns i u lt d)) more in
        subst (λ us. TakesTurns table k h limit b₀ turns₀ us e) (sym (one_done turns i u lt us)) (whole (u ∷ us) e left)

  -- the go-ons of a plan are those by the slices that were used
  went_on : (limit : ℕ) (b : Board) (t u : Turn) {c d : Board} {l : List ℕ} → TakesTurn table k h limit b t u c →
      GoesThrough table k h limit c l d → GoesThrough table k h limit b (cond (is_used u.seen) (u.slice ∷ l) l) d
  went_on limit (running n s) t u {c} {d} {l} took rest =
      let this : Turn → Type 0 = λ u. GoesThrough table k h limit (running n s) (cond (is_used u.seen) (u.slice ∷ l) l) d in
      subst this (sym took.1) (rw (going_uses t.slice c) (goes_on took.0 rest))
  went_on limit (ended e n s) t u {c} {d} {l} took rest =
      let this : Turn → Board → Type 0 = λ u b. GoesThrough table k h limit b (cond (is_used u.seen) (u.slice ∷ l) l) d in
      subst₂ this (sym took.0) took.1 rest

  pub goes_through : (limit : ℕ) {b c : Board} {ts us : List Turn} → TakesTurns table k h limit b ts us c → GoesThrough table k h limit b (used us) c
  goes_through limit no_more = rests
  goes_through limit (one_more {b = b} {t = t} {u = u} took rest) = went_on limit b t u took (goes_through limit rest)
