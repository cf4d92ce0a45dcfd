-- The rules of a design, and the first that is broken: by number, then in flattened order, then in order of writing.
-- The rules follow HRT-HOOD (Burns and Wellings 1995) where it has them; their numbers are this project's own.
use Rattle.std.specs.Prelude.{◌≡◌, ℕ, ◌<◌, List, Some, slice_get}
use Rattle.seq_tree.specs.declared.tree.OpName.{OpName}
use Rattle.ods_tree.specs.Designs.{Object, Design}
use Rattle.ods_tree.specs.Ticks.{in_ticks}
use Rattle.design_rules.specs.Broken.{Broken, V09Calls, V09Objects, V09Starts}
use Rattle.design_rules.specs.Versions.{version_faults}
use Rattle.design_rules.specs.Clashes.{clashes}
use Rattle.design_rules.specs.Words.{kept_names}
use Rattle.design_rules.specs.Includes.{bad_includes}
use Rattle.design_rules.specs.Operations.{bad_operations}
use Rattle.design_rules.specs.Fittings.{bad_fittings}
use Rattle.design_rules.specs.Uses.{strangers, absent, forbidden}
use Rattle.design_rules.specs.Rings.{terminal_ops, IsOnCallRing, protected_objects, IsOnObjectRing, thread_objects, IsOnStartRing}
use Rattle.design_rules.specs.Sources.{bad_sources}
use Rattle.design_rules.specs.Numbers.{bad_numbers}
use Rattle.design_rules.specs.Bodies.{idle_actives, bad_bodies}
use Rattle.design_rules.specs.Budgets.{bad_budgets, bad_sizes}
use Rattle.design_rules.specs.Separations.{bad_separations}

-- a rule
pub data Rule : Type 0 where
  Version Clash KeptName Include Operation Fitting Stranger Absence Use CallRing ObjectRing StartRing Source Number IdleActive BodyFault Budget Size
      Spacing : Rule

-- the rules in order
abbrev pub number_of : Rule → ℕ
number_of Version = 0
number_of Clash = 1
number_of KeptName = 2
number_of Include = 3
number_of Operation = 4
number_of Fitting = 5
number_of Stranger = 6
number_of Absence = 7
number_of Use = 8
number_of CallRing = 9
number_of ObjectRing = 10
number_of StartRing = 11
number_of Source = 12
number_of Number = 13
number_of IdleActive = 14
number_of BodyFault = 15
number_of Budget = 16
number_of Size = 17
number_of Spacing = 18

-- the offender at a place of a list
abbrev pub IsListed : List Broken → ℕ → Broken → Type 0
IsListed all place told = slice_get all place ≡ Some told

-- the operation at a place on a ring of calls
pub record RingedOp (x : Design) (place : ℕ) (told : Broken) : Type 0 where
  pub op : OpName
  pub stands : slice_get (terminal_ops x) place ≡ Some op
  pub ring : IsOnCallRing x op
  pub tells : told ≡ V09Calls op

-- the protected object at a place on a ring of calls
pub record RingedObject (x : Design) (place : ℕ) (told : Broken) : Type 0 where
  pub object : Object
  pub stands : slice_get (protected_objects x) place ≡ Some object
  pub ring : IsOnObjectRing x object.name
  pub tells : told ≡ V09Objects object.name

-- the thread at a place on a ring of starts
pub record RingedThread (x : Design) (place : ℕ) (told : Broken) : Type 0 where
  pub thread : Object
  pub stands : slice_get (thread_objects x) place ≡ Some thread
  pub ring : IsOnStartRing x thread.name
  pub tells : told ≡ V09Starts thread.name

-- an offender against a rule, at a place of those that may offend in flattened order and order of writing, and what is told of it.
-- The version is judged in the design as it is written, all else in the design in ticks
abbrev pub Offends : Design → Design → Rule → ℕ → Broken → Type 0
Offends written x Version = IsListed (version_faults written)
Offends written x Clash = IsListed (clashes x)
Offends written x KeptName = IsListed (kept_names x)
Offends written x Include = IsListed (bad_includes x)
Offends written x Operation = IsListed (bad_operations x)
Offends written x Fitting = IsListed (bad_fittings x)
Offends written x Stranger = IsListed (strangers x)
Offends written x Absence = IsListed (absent x)
Offends written x Use = IsListed (forbidden x)
Offends written x CallRing = RingedOp x
Offends written x ObjectRing = RingedObject x
Offends written x StartRing = RingedThread x
Offends written x Source = IsListed (bad_sources x)
Offends written x Number = IsListed (bad_numbers x)
Offends written x IdleActive = IsListed (idle_actives x)
Offends written x BodyFault = IsListed (bad_bodies x)
Offends written x Budget = IsListed (bad_budgets x)
Offends written x Size = IsListed (bad_sizes x)
Offends written x Spacing = IsListed (bad_separations x)

-- a design as it is written and in ticks that meets the rules
abbrev pub AreMet : Design → Design → Type 0
AreMet written x = (rule : Rule) (place : ℕ) (told : Broken) → Offends written x rule place told → ⊥

-- the first rule that is broken by a design as it is written and in ticks, and what is told of its first offender
pub record IsFirst (written x : Design) (told : Broken) : Type 0 where
  pub rule : Rule
  pub place : ℕ
  pub offends : Offends written x rule place told
  pub none_lower : (lower : Rule) (other : ℕ) (others : Broken) → number_of lower < number_of rule → Offends written x lower other others → ⊥
  pub none_earlier : (earlier : ℕ) (others : Broken) → earlier < place → Offends written x rule earlier others → ⊥

-- a design that meets the rules
abbrev pub MeetsRules : Design → Type 0
MeetsRules x = AreMet x (in_ticks x)

-- the first rule that a design breaks, and what is told of it
abbrev pub IsFirstBroken : Design → Broken → Type 0
IsFirstBroken x told = IsFirst x (in_ticks x) told
