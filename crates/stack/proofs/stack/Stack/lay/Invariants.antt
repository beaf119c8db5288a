-- The items that have been taken from the end stand on those of before.
use Rattle.std.proofs.Common.{◌≡◌, List, ◌++◌}
use Rattle.stack.specs.Contents.{contents, places}
use Rattle.stack.proofs.stack.Stack.lay.Given as goal

abbrev pub invariant-loop-item : goal.invariant-loop-item
invariant-loop-item g l =
    (places l.self ≡ places l.fn.self)
    × ((done : List _) × (l.laid ≡ l.item-iterator.iter.rest.now ++ done) × (contents l.self ≡ done ++ contents l.fn.self))
