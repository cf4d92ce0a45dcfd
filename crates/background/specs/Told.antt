-- What a refusal tells: the misfit or the rule of the definitions, with its names and numbers.
-- Want of memory tells nothing.
use Rattle.std.specs.Prelude.{◌≡◌, Bool, true, false, Option, Some, None, Result, Ok, Err, ⊤}
use Rattle.background_designs.specs.Misfits as misfits
use Rattle.background_designs.specs.Misfits.{Misfit}
use Rattle.background.specs.declared.delivery.BackgroundRule.{BackgroundRule}
use Rattle.background.specs.declared.delivery.BackgroundRule.TheVariants.{A1, A2, A3, A4, A5, A6}
use Rattle.background.specs.declared.delivery.BackgroundRefusal as refusals
use Rattle.background.specs.declared.delivery.BackgroundRefusal.TheVariants as refusal
use Rattle.ods_index.specs.declared.broken.Broken.{Broken}

-- the misfit that is told
abbrev pub misfit_of : BackgroundRule → Misfit
misfit_of (A1 object) = misfits.A1 object
misfit_of (A2 object target) = misfits.A2 object target
misfit_of (A3 object) = misfits.A3 object
misfit_of (A4 object target) = misfits.A4 object target
misfit_of (A5 object) = misfits.A5 object
misfit_of (A6 object target) = misfits.A6 object target

-- the refusal for a rule that is broken, by whether it is want of memory
abbrev pub refusal_by : Bool → Broken → refusals.BackgroundRefusal
refusal_by true broken = refusal.NoMemory
refusal_by false broken = refusal.Broken broken

-- a refusal that is told is this misfit, unless it is want of memory
abbrev pub IsTold : refusals.BackgroundRefusal → Option Misfit → Type 0
IsTold (refusal.Rule rule) wanted = wanted ≡ Some (misfit_of rule)
IsTold (refusal.Broken broken) wanted = ⊥
IsTold (refusal.Miss thread miss) wanted = ⊥
IsTold refusal.Long wanted = ⊥
IsTold refusal.NoMemory wanted = ⊤

-- an answer tells the misfit that is to be told, and nothing where none is
abbrev pub Tells : Result (Unit {0}) refusals.BackgroundRefusal → Option Misfit → Type 0
Tells (Ok done) wanted = wanted ≡ None
Tells (Err e) wanted = IsTold e wanted
