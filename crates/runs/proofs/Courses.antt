-- The course of a board: it keeps to the trace of its run, whatever the slices, and ends where the run ends.
use Rattle.std.proofs.Common.{◌≡◌, ℕ, suc, ◌+◌, ◌<◌, ◌≤◌, cond, leb, List, [], ◌∷◌, Option, subst, arith as linear, le-leb}
use borrow.Author.Tests.{lt-leb}
use Rattle.rows.specs.declared.row.Row.{Row}
use Rattle.rows.specs.Rows.{row_at}
use Rattle.semantics.specs.declared.fault.Fault.{Fault}
use Rattle.semantics.specs.declared.item.Control.TheVariants.{Whole, Finish}
use Rattle.semantics.specs.Machine.{Configuration, conf, Transition, Refused}
use Rattle.semantics.specs.Traces.{Fits, ReadsWithin, HoldsUp, Goes, stay, move, Takes, none, more}
use Rattle.semantics.specs.Cuts.{largest_slice, total}
use Rattle.runs.specs.declared.end.Stop.TheVariants as stop
use Rattle.runs.specs.declared.end.End.{End}
use Rattle.runs.specs.declared.end.End.TheVariants.{Finished, Stopped, Limit}
use Rattle.runs.specs.Tries.{made, refused}
use Rattle.runs.specs.Slices.{Board, running, ended, Empty, Serves, finishes, runs_out, pauses, stops, steps, GoesOn, turned_down, served}
use Rattle.runs.specs.Histories.{GoesThrough, rests, goes_on}
use Rattle.runs.proofs.Tries.{one_try}

pub busy : (s : Configuration) → HoldsUp 1 s → ¬ Empty s
busy (conf [] r m) up z = omega linear
busy (conf (i ∷ c) r m) up z = let q = z.0 in let x : ◌≡◌ {A = ℕ} 0 1 = cc in omega linear

module _ (rows : ℕ → Option Row) where
  further : {n : ℕ} {s t u : Configuration} → Takes rows s n t → Transition rows t u → Takes rows s (suc n) u
  further none w = more w none
  further (more v g) w = more v (further g w)

  first_fits : {b k h n : ℕ} {s t : Configuration} → Goes rows b k h s n t → Fits k h s
  first_fits (stay z) = z
  first_fits (move up z w g) = z

  roomier : {k h k' h' : ℕ} (s : Configuration) → k ≤ k' → h ≤ h' → Fits k h s → Fits k' h' s
  roomier (conf c r m) kk hh z = omega linear

  reads_roomier : {h h' : ℕ} (s : Configuration) → h ≤ h' → ReadsWithin h s → ReadsWithin h' s
  reads_roomier (conf [] r m) hh z = tt
  reads_roomier (conf (Whole p ∷ c) r m) hh z = omega linear
  reads_roomier (conf (Finish p ∷ c) r m) hh z = tt

  -- where both stacks are empty, no rule fits
  moving : {s t : Configuration} → Transition rows s t → ¬ Empty s
  moving {s = conf [] r m} w z = elim w [ ]
  moving {s = conf (i ∷ c) r m} w z = busy (conf (i ∷ c) r m) (omega linear) z

  refusing : {s : Configuration} {f : Fault} → Refused rows s f → ¬ Empty s
  refusing {s = conf [] r m} w z = elim w [ ]
  refusing {s = conf (i ∷ c) r m} w z = busy (conf (i ∷ c) r m) (omega linear) z

  module _ (limit : ℕ) where
    -- how a run ends that has come to t by n transitions; the fault needs no more than H places for results
    pub data Final (H : ℕ) : End → ℕ → Configuration → Type 0 where
      finished : {n : ℕ} {t : Configuration} → Empty t → Final H Finished n t
      exhausted : {n : ℕ} {t : Configuration} → ¬ Empty t → n ≡ limit → Final H Limit n t
      faulted : {n : ℕ} {t : Configuration} {f : Fault} → Refused rows t f → ReadsWithin H t → n < limit → Final H (Stopped (stop.Fault f)) n t

    -- a board, begun at s₀, whose run N transitions take to its end e at t: it has ended so, or a transitions have taken it part of the way
    pub data Comes (K H : ℕ) (e : End) (N : ℕ) (s₀ t : Configuration) (a : ℕ) : Board → Type 0 where
      there : {n : ℕ} → n ≡ N → Comes K H e N s₀ t a (ended e n t)
      under_way : {n j : ℕ} {s : Configuration} → n ≡ a → Takes rows s₀ n s → Goes rows 1 K H s j t → n + j ≡ N → n < limit →
          Comes K H e N s₀ t a (running n s)

    recounted : {K H N a a' : ℕ} {e : End} {s₀ t : Configuration} {b : Board} → a ≡ a' → Comes K H e N s₀ t a b → Comes K H e N s₀ t a' b
    recounted {K} {H} {N} {e} {s₀} {t} {b} q w = subst (λ a. Comes K H e N s₀ t a b) q w

    module _ (k h K H : ℕ) (kk : K ≤ k) (hh : H ≤ h) where
      -- a slice at the end of the trace
      at_end : {e : End} {N a n : ℕ} {s₀ s : Configuration} {b : Board} → Serves rows k h limit a n s b →
          Takes rows s₀ n s → Fits K H s → n ≡ N → Final H e N s → Comes K H e N s₀ s (n + a) b
      at_end (finishes z) g y q (finished z') = there q
      at_end (finishes z) g y q (exhausted x q') = absurd (x z)
      at_end (finishes z) g y q (faulted r v lt) = absurd (refusing r z)
      at_end (runs_out x le) g y q (finished z) = absurd (x z)
      at_end (runs_out x le) g y q (exhausted x' q') = there q
      at_end (runs_out x le) g y q (faulted r v lt) = absurd (omega linear)
      at_end (pauses x lt) g y q (finished z) = absurd (x z)
      at_end (pauses x lt) g y q (exhausted x' q') = absurd (omega linear)
      at_end (pauses x lt) g y q (faulted r v lt') = under_way (omega linear) g (stay y) (omega linear) lt
      at_end (stops x lt w) g y q (finished z) = absurd (x z)
      at_end (stops x lt w) g y q (exhausted x' q') = absurd (omega linear)
      at_end {N} {s₀} (stops {a} {n} {s} {e} x lt w) g y q (faulted {f} r v lt') =
          let p = (one_try rows k h (refused r (reads_roomier s hh v)) w).0 in let p' : stop.Fault f ≡ e = cc in
          subst (λ e. Comes K H (Stopped (stop.Fault f)) N s₀ s (n + suc a) (ended (Stopped e) n s)) p' (there q)
      at_end (steps x lt w d) g y q (finished z) = absurd (x z)
      at_end (steps x lt w d) g y q (exhausted x' q') = absurd (omega linear)
      at_end (steps {s} x lt w d) g y q (faulted r v lt') =
          let p = (one_try rows k h (refused r (reads_roomier s hh v)) w).0 in let z : ◌≡◌ {A = ℕ} 0 1 = cc in absurd (omega linear)

      -- a slice anywhere on the trace
      onward : {e : End} {N a n i : ℕ} {s₀ s t : Configuration} {b : Board} → Serves rows k h limit a n s b →
          Takes rows s₀ n s → Goes rows 1 K H s i t → n + i ≡ N → N ≤ limit → Final H e N t → Comes K H e N s₀ t (n + a) b
      onward d g (stay y) q le fin = at_end d g y (omega linear) fin
      onward (finishes z) g (move up y w f) q le fin = absurd (moving w z)
      onward (runs_out x le') g (move up y w f) q le fin = absurd (omega linear)
      onward (pauses x lt) g (move up y w f) q le fin = under_way (omega linear) g (move up y w f) q lt
      onward (stops x lt v) g (move {s'} up y w f) q le fin =
          let p = (one_try rows k h (made w (roomier s' kk hh (first_fits f))) v).0 in let z : ◌≡◌ {A = ℕ} 0 1 = cc in absurd (omega linear)
      onward {b} (steps {a} {n} {t = u} x lt v d) g (move {s'} up y w f) q le fin =
          let p : u ≡ s' = (one_try rows k h v (made w (roomier s' kk hh (first_fits f)))).1 in
          let d' : Serves rows k h limit a (suc n) s' b = subst (λ s. Serves rows k h limit a (suc n) s b) p d in
          recounted (omega linear) (onward d' (further g w) f (omega linear) le fin)

      one_more : {e : End} {N a₀ a n : ℕ} {s₀ s t : Configuration} {b : Board} → N ≤ limit → Final H e N t →
          Comes K H e N s₀ t a₀ (running n s) → GoesOn rows k h limit a n s b → Comes K H e N s₀ t (a₀ + cond (leb a largest_slice) a 0) b
      one_more {a} le fin (under_way q g f p lt) (turned_down gt) =
          rw (lt-leb a largest_slice gt) (recounted (omega linear) (under_way q g f p lt))
      one_more {a} le fin (under_way q g f p lt) (served le' d) =
          rw (le-leb a largest_slice le') (recounted (omega linear) (onward d g f p le fin))

-- go-ons, one after another
module _ (table : List ℕ) (k h limit K H : ℕ) (kk : K ≤ k) (hh : H ≤ h) where
  abbrev ComesSo : End → ℕ → Configuration → Configuration → ℕ → Board → Type 0
  ComesSo = Comes (row_at table) limit K H

  through : {e : End} {N : ℕ} {s₀ t : Configuration} {l : List ℕ} {b₀ b : Board} → N ≤ limit → Final (row_at table) limit H e N t →
      GoesThrough table k h limit b₀ l b → {a₀ : ℕ} → ComesSo e N s₀ t a₀ b₀ → ComesSo e N s₀ t (a₀ + total l) b
  through le fin rests w = recounted (row_at table) limit (omega linear) w
  through le fin (goes_on d ds) w =
      recounted (row_at table) limit (omega linear) (through le fin ds (one_more (row_at table) limit k h K H kk hh le fin w d))

  -- from the beginning of the trace
  pub keeps : {e : End} {N : ℕ} {s t : Configuration} {l : List ℕ} {b : Board} → 1 ≤ limit → Goes (row_at table) 1 K H s N t → N ≤ limit →
      Final (row_at table) limit H e N t → GoesThrough table k h limit (running 0 s) l b → ComesSo e N s t (total l) b
  keeps pos g le fin d = recounted (row_at table) limit (omega linear) (through le fin d {a₀ = 0} (under_way (omega linear) none g (omega linear) pos))
