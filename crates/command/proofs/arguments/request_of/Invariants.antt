-- What the arguments so far ask for.
use Rattle.std.proofs.Common.{◌≡◌, ◌++◌, map, string_bytes}
use Rattle.std.specs.Vec.Iter.{into_iter_items}
use Rattle.command.specs.Requests.{Asks}
use Rattle.command.proofs.arguments.request_of.Given as goal

abbrev pub invariant-loop-arg : goal.invariant-loop-arg
invariant-loop-arg l =
    record {
      rest : into_iter_items l.initial.arg-iterator ≡ l.yielded ++ into_iter_items l.arg-iterator;
      asks : Asks (map string_bytes l.yielded) l.request;
    }
