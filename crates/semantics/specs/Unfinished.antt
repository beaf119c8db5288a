-- A row that is still being worked out.
use Rattle.std.specs.Prelude.{ℕ, suc, ◌+◌, List, ◌∷◌, length, Option}
use Rattle.rows.specs.declared.row.Row.{Row}
use Rattle.semantics.specs.declared.item.Control.{Control}
use Rattle.semantics.specs.declared.item.Control.TheVariants.{Whole}
use Rattle.semantics.specs.declared.item.Item.{Item}
use Rattle.semantics.specs.Cells.{Cells}
use Rattle.semantics.specs.Machine.{conf}
use Rattle.semantics.specs.Traces.{HoldsUp, Reaches}

-- over whatever stacks: N transitions are made, before and after each of which control stands above where it began;
-- the stacks rise above that by no more than K p and R p
abbrev pub Unfinished : (ℕ → Option Row) → (ℕ → ℕ) → (ℕ → ℕ) → Cells → ℕ → ℕ → Type 0
Unfinished rows K R m p N =
    (c : List Control) (r : List Item) →
    Reaches rows (suc (length c)) (K p + length c) (R p + length r) (HoldsUp (suc (length c))) (conf (Whole p ∷ c) r m) N
