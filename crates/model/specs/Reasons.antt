-- What a diagnosis finds as values, and the numbers of these.
use Rattle.std.specs.Prelude.{ℕ, Result, Ok, Err}
use Rattle.model.specs.Answers.{wrong_length, not_passed}
use Rattle.model.specs.Calls.Diagnose as calls
use Rattle.model.specs.Calls.Diagnose.{Diagnosis, diagnosis, fault, no_fault}
use Rattle.model.specs.Calls.Diagnose.{never_formatted, bad_settings, bad_trailer, free_not_zero, past_length, bad_node, too_deep, bad_proxy, not_reached}
use Rattle.model.specs.declared.Stage.{Stage}
use Rattle.model.specs.declared.Stage.TheVariants.{Settings, Pages, Walk}
use Rattle.model.specs.declared.Fault.{Fault}
use Rattle.model.specs.declared.Failure.{Failure}
use Rattle.model.specs.declared.Failure.TheVariants.{WrongLength, Broken}
use Rattle.model.specs.declared.Reason.{Reason}
use Rattle.model.specs.declared.Reason.TheVariants.{NeverFormatted, BadSettings, BadTrailer, FreeNotZero, PastLength, BadNode, TooDeep, BadProxy, NotReached}

-- The number of a reason.
abbrev pub reason_number : Reason → ℕ
reason_number NeverFormatted = never_formatted
reason_number BadSettings = bad_settings
reason_number BadTrailer = bad_trailer
reason_number FreeNotZero = free_not_zero
reason_number PastLength = past_length
reason_number BadNode = bad_node
reason_number TooDeep = too_deep
reason_number BadProxy = bad_proxy
reason_number NotReached = not_reached

-- The number of a stage.
abbrev pub stage_number : Stage → ℕ
stage_number Settings = 1
stage_number Pages = 2
stage_number Walk = 3

-- A fault's numbers, and zeros where none is found.
abbrev pub as_fault : Fault → calls.Fault
as_fault f = fault (stage_number f.stage) f.page (reason_number f.reason)

abbrev pub fault_result : {A : Type 0} → Result A Fault → calls.Fault
fault_result (Ok a) = no_fault
fault_result (Err f) = as_fault f

-- The answer's numbers.
abbrev pub diagnose_result : {A : Type 0} → Result A Failure → Diagnosis
diagnose_result (Ok a) = diagnosis 0 no_fault
diagnose_result (Err WrongLength) = diagnosis wrong_length no_fault
diagnose_result (Err (Broken f)) = diagnosis not_passed (as_fault f)
