-- The message for what goes wrong.
use Rattle.std.specs.Prelude.{ℕ, List, codes, string_bytes, Some, None, Option}
use Rattle.std.specs.Fmt.{◌++?◌, debug_str}
use Rattle.command.specs.Requests.{AsksHelp}
use Rattle.command.specs.declared.trouble.Trouble.{Trouble}
use Rattle.command.specs.declared.trouble.Trouble.TheVariants.{Argument, Input, Memory, Io}

-- It says nothing of what the system tells, nor of an argument that is no ASCII text.
abbrev pub message_of : {W : Type 0} → (W → Option (List ℕ)) → Trouble W → Option (List ℕ)
message_of told (Argument arg) = debug_str (string_bytes arg) ++? Some (codes " is no argument of mine: --help tells more")
message_of told (Input wrong) = told wrong
message_of told Memory = Some (codes "out of memory")
message_of told (Io e) = None

-- what the reading of arguments can come to: one that does not ask for help is told, and nothing is said of the input
abbrev pub OfArguments : {W : Type 0} → Trouble W → Type 0
OfArguments (Argument arg) = AsksHelp (string_bytes arg) → ⊥
OfArguments (Input wrong) = ⊥
OfArguments Memory = Unit {0}
OfArguments (Io e) = Unit {0}
