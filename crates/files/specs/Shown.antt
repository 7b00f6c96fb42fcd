-- What is said of a fault in a file of events.
-- Assumes nothing: these are definitions.
use Rattle.std.specs.Prelude.{ℕ, List, ◌++◌, codes, decimal}
use Rattle.files.specs.declared.faults.Part.{Part}
use Rattle.files.specs.declared.faults.Part.TheVariants.{Time, Kind, Who, Value}
use Rattle.files.specs.declared.faults.Fault.{Fault}
use Rattle.files.specs.declared.faults.Fault.TheVariants.{TooLarge, CutOff}

abbrev pub part_shown : Part → List ℕ
part_shown Time = codes "its time is not below 2^62"
part_shown Kind = codes "its kind is not below 2^16"
part_shown Who = codes "its who is not below 2^62"
part_shown Value = codes "its value is not below 2^62"

abbrev pub fault_shown : Fault → List ℕ
fault_shown (TooLarge event part) = codes "event " ++ (decimal event ++ (codes ": " ++ part_shown part))
fault_shown (CutOff event bytes) =
    codes "event " ++ (decimal event ++ (codes " is cut off: " ++ (decimal bytes ++ codes " of its 32 bytes are there")))
