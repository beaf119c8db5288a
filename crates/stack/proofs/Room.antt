-- A stack never holds more than it has places.
use Rattle.std.proofs.Common.{◌≤◌, length, arith}
use Rattle.std.proofs.lemmas.List.{length-drop}
use Rattle.stack.specs.declared.stack.Stack.{Stack}
use Rattle.stack.specs.Contents.{contents, places}

pub bounded : {T : Type 0} (s : Stack T) → length (contents s) ≤ places s
bounded s = omega (arith, length-drop s.top s.items.now)
