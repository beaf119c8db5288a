-- A slice of transitions: the looks before each and after the last, and what comes of them.
use Rattle.std.specs.Prelude.{◌≡◌, ℕ, suc, ◌<◌, ◌≤◌, [], Ok, Err, Option, Result}
use Rattle.rows.specs.declared.row.Row.{Row}
use Rattle.semantics.specs.Machine.{Configuration, conf}
use Rattle.semantics.specs.Cuts.{largest_slice}
use Rattle.runs.specs.declared.end.Stop.{Stop}
use Rattle.runs.specs.declared.end.End.{End}
use Rattle.runs.specs.declared.end.End.TheVariants.{Finished, Stopped, Limit}
use Rattle.runs.specs.Tries.{Tried}

-- A board between two calls: its run goes on, or has ended. Either has a count and a configuration.
pub data Board : Type 0 where
  running : ℕ → Configuration → Board
  ended : End → ℕ → Configuration → Board

-- both stacks are empty
abbrev pub Empty : Configuration → Type 0
Empty (conf c r m) = (c ≡ []) × (r ≡ [])

module _ (rows : ℕ → Option Row) (k h limit : ℕ) where
  -- what is left of the slice, the count, the configuration; then the board that comes of it
  pub data Serves : ℕ → ℕ → Configuration → Board → Type 0 where
    finishes : {a n : ℕ} {s : Configuration} → Empty s → Serves a n s (ended Finished n s)
    runs_out : {a n : ℕ} {s : Configuration} → ¬ Empty s → limit ≤ n → Serves a n s (ended Limit n s)
    pauses : {n : ℕ} {s : Configuration} → ¬ Empty s → n < limit → Serves 0 n s (running n s)
    stops : {a n : ℕ} {s : Configuration} {e : Stop} → ¬ Empty s → n < limit → Tried rows k h s (Err e) s →
        Serves (suc a) n s (ended (Stopped e) n s)
    steps : {a n : ℕ} {s t : Configuration} {b : Board} → ¬ Empty s → n < limit → Tried rows k h s (Ok tt) t →
        Serves a (suc n) t b → Serves (suc a) n s b

  -- one go-on, with that slice, of a run that has that count and configuration
  pub data GoesOn (a n : ℕ) (s : Configuration) : Board → Type 0 where
    turned_down : largest_slice < a → GoesOn a n s (running n s)
    served : {b : Board} → a ≤ largest_slice → Serves a n s b → GoesOn a n s b

pub record OneAnswerOn (rows : ℕ → Option Row) (k h limit : ℕ) : Type 0 where
  pub one_try : (s t u : Configuration) (x y : Result (Unit {0}) Stop) → Tried rows k h s x t → Tried rows k h s y u → (x ≡ y) × (t ≡ u)
  pub one_serving : (a n : ℕ) (s : Configuration) (b c : Board) → Serves rows k h limit a n s b → Serves rows k h limit a n s c → b ≡ c
  pub one_going_on : (a n : ℕ) (s : Configuration) (b c : Board) → GoesOn rows k h limit a n s b → GoesOn rows k h limit a n s c → b ≡ c

abbrev pub OneAnswer : Type 0
OneAnswer = (rows : ℕ → Option Row) (k h limit : ℕ) → OneAnswerOn rows k h limit
