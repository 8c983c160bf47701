-- Why a check failed.
use Rattle.std.specs.Prelude.{Option, Some, None, Result, Ok, Err}

-- why a check failed
abbrev pub fault_in : {A E : Type 0} → Result A E → Option E
fault_in (Ok x) = None
fault_in (Err fault) = Some fault
