-- The faults of bodies that are told, and the first unit with one.
-- What can be called is gathered once for the whole program.
use Rattle.std.specs.Prelude.{◌≡◌, ℕ, false, List, [], ◌∷◌, ◌++◌, map, Option, Some, None, slice_get}
use Rattle.seq_tree.specs.Operations.{Offer, out_names}
use Rattle.seq_tree.specs.Faults as faults
use Rattle.seq_tree.specs.Faults.{Scope, or_else, block_fault}
use Rattle.seq_tree.specs.declared.tree.Datum.{Datum}
use Rattle.seq_check.specs.declared.fault.BodyFault as code
use Rattle.seq_check.specs.declared.fault.BodyFault.TheVariants as fault
use Rattle.ada_tree.specs.Programs.{Unit, Program}
use Rattle.ada_tree.specs.Bodies.{Body, heads, unit_fault}
use Rattle.ada_rules.specs.Firsts.{NoneBefore}
use Rattle.ada_rules.specs.declared.bodies.FaultAt.{FaultAt}

-- the operations of a unit that can be called
abbrev pub unit_offers : Unit → List Offer
unit_offers u = map (λ h. record { object = u.name; sig = h }) (heads u.form)

-- what is known at the beginning of a body, where this can be called
abbrev pub body_scope : List Offer → List Datum → Body → Scope
body_scope calls data' b = record {
  reads = map (λ d. d.name) data' ++ (map (λ q. q.name) b.params ++ map (λ d. d.name) b.locals);
  writes = map (λ d. d.name) data' ++ (out_names b.params ++ map (λ d. d.name) b.locals);
  calls = calls;
  in_loop = false;
}

-- the first fault of bodies
abbrev pub bodies_fault_at : List Offer → List Datum → List Body → Option faults.BodyFault
bodies_fault_at calls data' [] = None
bodies_fault_at calls data' (b ∷ bs) = or_else (block_fault (body_scope calls data' b) b.block) (bodies_fault_at calls data' bs)

-- the fault that a fault of the code is; none for want of memory
abbrev pub IsToldAs : code.BodyFault → Option faults.BodyFault → Type 0
IsToldAs fault.Unknown first = first ≡ Some faults.Unknown
IsToldAs fault.Sort first = first ≡ Some faults.Missorted
IsToldAs fault.Divisor first = first ≡ Some faults.Divisor
IsToldAs fault.Exit first = first ≡ Some faults.Exit
IsToldAs fault.Assigned first = first ≡ Some faults.Assigned
IsToldAs fault.Actual first = first ≡ Some faults.Actual
IsToldAs fault.Count first = first ≡ Some faults.Count
IsToldAs fault.NoMemory first = ⊥

-- the first fault, or that there is none
abbrev pub IsFault : Option code.BodyFault → Option faults.BodyFault → Type 0
IsFault None first = first ≡ None
IsFault (Some told) first = IsToldAs told first

-- a unit with a fault
abbrev pub HasFault : Program → Unit → Type 0
HasFault p u = (fault' : faults.BodyFault) × (unit_fault p u ≡ Some fault')

-- the first unit with a fault, and its first fault; or that there is none
abbrev pub IsFirstFault : Program → Option FaultAt → Type 0
IsFirstFault p None = (place : ℕ) (u : Unit) → slice_get p.units place ≡ Some u → HasFault p u → ⊥
IsFirstFault p (Some at) = (u : Unit) × (slice_get p.units at.place ≡ Some u) × IsToldAs at.fault (unit_fault p u)
    × NoneBefore (λ place v. HasFault p v) p.units at.place
