-- A fault as text, in decimal. Assumes nothing.
use Rattle.std.specs.Prelude.{ℕ, List, ◌++◌, codes, decimal}
use Rattle.dayfile.specs.declared.fault.Fault.{Fault}

abbrev pub fault_text : Fault → List ℕ
fault_text x = codes "fault " ++ (decimal x.number ++ (codes " section " ++ (decimal x.section ++ (codes " record " ++ (decimal x.ordinal ++ (codes " place " ++ decimal x.place))))))
