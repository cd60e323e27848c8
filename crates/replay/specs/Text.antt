-- The lines of a report as text, numbers in decimal. Assumes nothing.
use Rattle.std.specs.Prelude.{ℕ, List, [], ◌∷◌, ◌++◌, vec_items, codes, decimal, Ok, Err, Result}
use Rattle.std.specs.List.{flat_map}
use Rattle.ledger.specs.Calls.{call_name}
use Rattle.ledger.specs.Refusals.{number_of}
use Rattle.ledger.specs.declared.refusal.Refusal.{Refusal}
use Rattle.replay.specs.declared.report.OpeningLine.{OpeningLine}
use Rattle.replay.specs.declared.report.CallLine.{CallLine}
use Rattle.replay.specs.declared.report.EndLine.{EndLine}
use Rattle.replay.specs.declared.report.Report.{Report}

-- day DAY contracts COUNT balance BALANCE
abbrev pub opening_text : OpeningLine → List ℕ
opening_text x = codes "day " ++ (decimal x.day ++ (codes " contracts " ++ (decimal x.contracts ++ (codes " balance " ++ decimal x.balance))))

-- taken with the number given, or refused with the refusal's number
abbrev pub outcome_text : Result ℕ Refusal → List ℕ
outcome_text (Ok number) = codes " taken " ++ decimal number
outcome_text (Err refusal) = codes " refused " ++ decimal (number_of refusal)

-- PLACE NAME OUTCOME BALANCE
abbrev pub call_text : CallLine → List ℕ
call_text x = decimal x.place ++ (codes " " ++ (call_name x.call ++ (outcome_text x.outcome ++ (codes " " ++ decimal x.balance))))

-- end BALANCE HELD RESERVES CASH
abbrev pub end_text : EndLine → List ℕ
end_text x = codes "end " ++ (decimal x.balance ++ (codes " " ++ (decimal x.held ++ (codes " " ++ (decimal x.reserves ++ (codes " " ++ decimal x.cash))))))

-- a line ends with a line feed
abbrev pub line : List ℕ → List ℕ
line text = text ++ 10 ∷ []

abbrev pub call_lines : List CallLine → List ℕ
call_lines lines = flat_map (λ x. line (call_text x)) lines

-- the whole report
abbrev pub report_text : Report → List ℕ
report_text x = line (opening_text x.opening) ++ (call_lines (vec_items x.calls) ++ line (end_text x.end))
