-- What an answer says of the first fault of a body.
-- The faults of the program and of the definitions are the same seven; want of memory is the program's alone.
use Rattle.std.specs.Prelude.{◌≡◌, Bool, Option, Some, None, Result, Ok, Err, IfSome}
use Rattle.seq_tree.specs.Faults as faults
use Rattle.seq_check.specs.declared.fault.BodyFault.{BodyFault}
use Rattle.seq_check.specs.declared.fault.BodyFault.TheVariants.{Unknown, Sort, Divisor, Exit, Assigned, Actual, Count, NoMemory}

-- the fault of the definitions that an answer tells; want of memory tells none
abbrev pub fault_of : BodyFault → Option faults.BodyFault
fault_of Unknown = Some faults.Unknown
fault_of Sort = Some faults.Missorted
fault_of Divisor = Some faults.Divisor
fault_of Exit = Some faults.Exit
fault_of Assigned = Some faults.Assigned
fault_of Actual = Some faults.Actual
fault_of Count = Some faults.Count
fault_of NoMemory = None

-- the first fault is the one that is told, and where none is told there is none
abbrev pub Says : Result (Unit {0}) BodyFault → Option faults.BodyFault → Type 0
Says (Ok _) first = first ≡ None
Says (Err e) first = IfSome (fault_of e) (λ f. first ≡ Some f)

-- the answer that tells a fault
abbrev pub told_as : faults.BodyFault → BodyFault
told_as faults.Unknown = Unknown
told_as faults.Missorted = Sort
told_as faults.Divisor = Divisor
told_as faults.Exit = Exit
told_as faults.Assigned = Assigned
told_as faults.Actual = Actual
told_as faults.Count = Count

-- the answer where this is the first fault
abbrev pub answer_of : Option faults.BodyFault → Result (Unit {0}) BodyFault
answer_of None = Ok tt
answer_of (Some fault) = Err (told_as fault)

-- the first of the three faults of expressions, of those that stand
abbrev pub first_of : Bool → Bool → Bool → Option faults.BodyFault
first_of is_unknown is_missorted has_divisor =
    faults.or_else (faults.fault_if is_unknown faults.Unknown) (faults.or_else (faults.fault_if is_missorted faults.Missorted)
    (faults.fault_if has_divisor faults.Divisor))
