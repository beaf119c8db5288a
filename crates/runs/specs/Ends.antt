-- What an end tells: its number, row and location, case by case.
use Rattle.semantics.specs.Faults.{number_of, row_of, location_of}
use Rattle.semantics.specs.declared.fault.Fault as fault
use Rattle.runs.specs.declared.end.Stop.{Stop}
use Rattle.runs.specs.declared.end.Stop.TheVariants.{Stuck, Fault}
use Rattle.runs.specs.declared.end.End.{End}
use Rattle.runs.specs.declared.end.End.TheVariants.{Finished, Stopped, Limit}
use Rattle.std.specs.Prelude.{ℕ, Some, None, Option}

-- what a stop and an end hold
abbrev pub stop_fault : Stop → Option fault.Fault
stop_fault Stuck = None
stop_fault (Fault f) = Some f

abbrev pub end_stop : End → Option Stop
end_stop Finished = None
end_stop (Stopped e) = Some e
end_stop Limit = None

abbrev pub stop_number : Stop → ℕ
stop_number Stuck = 12
stop_number (Fault f) = number_of f

abbrev pub stop_row : Stop → ℕ
stop_row Stuck = 0
stop_row (Fault f) = row_of f

abbrev pub stop_location : Stop → ℕ
stop_location Stuck = 0
stop_location (Fault f) = location_of f

abbrev pub end_number : End → ℕ
end_number Finished = 0
end_number (Stopped e) = stop_number e
end_number Limit = 19

abbrev pub end_row : End → ℕ
end_row Finished = 0
end_row (Stopped e) = stop_row e
end_row Limit = 0

abbrev pub end_location : End → ℕ
end_location Finished = 0
end_location (Stopped e) = stop_location e
end_location Limit = 0
