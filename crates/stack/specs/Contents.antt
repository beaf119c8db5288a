-- What a stack holds, topmost first, and how many places it has.
use Rattle.std.specs.Prelude.{ℕ, ◌+◌, Bool, true, false, ◌&&◌, List, [], ◌∷◌, length, drop, Some, None, Option, Ok, Err, Result, nat_le}
use Rattle.stack.specs.declared.stack.Stack.{Stack}
use Rattle.stack.specs.declared.stack.NoRoom.{NoRoom}

-- the answer of what is done only where there is room
abbrev pub where_room : Bool → Result (Unit {0}) NoRoom
where_room true = Ok tt
where_room false = Err (record {})

module _ {T : Type 0} where
  abbrev pub contents : Stack T → List T
  contents s = drop s.top s.items.now

  abbrev pub places : Stack T → ℕ
  places s = length s.items.now

  abbrev pub first : List T → Option T
  first [] = None
  first (x ∷ xs) = Some x

  abbrev pub rest : List T → List T
  rest [] = []
  rest (x ∷ xs) = xs

  -- of the items xs on so many places, there are n in the place of which m fit
  abbrev pub fits : ℕ → List T → ℕ → ℕ → Bool
  fits p xs n m = nat_le n (length xs) && nat_le (m + length (drop n xs)) p
