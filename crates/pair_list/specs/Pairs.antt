-- The pair list: the cells that a list of words stands for, a location and then its number, and what a put does to the words.
use Rattle.std.specs.Prelude.{◌≡◌, ℕ, suc, Bool, true, false, cond, List, [], ◌∷◌, get_or, ℤ, pos, negsuc, Some, None, Option, ◌==◌, slice_index_or, slice_set, refl}
use Rattle.std.specs.Option.{option_map}
use Rattle.cells.specs.declared.cell.KnownCell.{KnownCell}
use Rattle.cells.specs.declared.cell.Cell.{Cell}
use Rattle.cells.specs.declared.cell.Cell.TheVariants.{Unknown, Known}
use Rattle.cells.specs.Cells.{within, widest, Lawful, Bounded, known_if, at_locations}
use Rattle.cells.specs.Meets.{located_lawful, located_bounded}
use Rattle.cells.specs.Putting.{accepts}

-- the word is the location k
abbrev pub names : ℤ → ℕ → Bool
names (pos m) k = m == k
names (negsuc m) k = false

-- where the number of the location k stands: in the first pair that names k, if one does.
-- A lone last word makes no pair
abbrev pub place : List ℤ → ℕ → Option ℕ
place [] k = None
place (a ∷ []) k = None
place (a ∷ n ∷ ws) k = cond (names a k) (Some 1) (option_map (λ i. suc (suc i)) (place ws k))

-- the cell of a number that is listed: free, set, and of the widest limits, within which every word lies
abbrev pub listed : ℤ → Cell
listed n = known_if (within (widest (Some n)) n) (Known (widest (Some n)))

abbrev pub cell_at : List ℤ → Option ℕ → Cell
cell_at ws None = Unknown
cell_at ws (Some i) = listed (slice_index_or ws i (pos 0))

abbrev pub pair_cells : List ℤ → ℕ → Cell
pair_cells ws = at_locations (λ k. cell_at ws (place ws k))

abbrev pub with_word : List ℤ → Option ℕ → ℤ → List ℤ
with_word ws None n = ws
with_word ws (Some i) n = slice_set ws i n

-- the words after a put of n at l: an accepted number takes the place of the former, and no other word changes
abbrev pub words_after : List ℤ → ℕ → ℤ → List ℤ
words_after ws l n = cond (accepts (pair_cells ws l) n) (with_word ws (place ws l) n) ws

-- ---- the laws of a store

if_within : (b : Bool) (h : KnownCell) → (b ≡ true → Lawful (Known h)) → Lawful (known_if b (Known h))
if_within true h p = p refl
if_within false h p = tt

at_lawful : (ws : List ℤ) (o : Option ℕ) → Lawful (cell_at ws o)
at_lawful ws None = tt
at_lawful ws (Some i) =
    let n = get_or ws i (pos 0) in
    if_within (within (widest (Some n)) n) (widest (Some n)) (λ e. e)

pub pair_lawful : (ws : List ℤ) (k : ℕ) → Lawful (pair_cells ws k)
pair_lawful ws k = located_lawful (λ i. cell_at ws (place ws i)) k (at_lawful ws (place ws k))

pub pair_bounded : (ws : List ℤ) → Bounded (pair_cells ws)
pair_bounded ws = located_bounded (λ i. cell_at ws (place ws i))
