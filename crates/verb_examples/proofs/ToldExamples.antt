-- Examples: which rule of a design and which fault of a body an answer tells, with its names and numbers in their order. Want of memory tells none.
use Rattle.std.specs.Prelude.{◌≡◌, [], ◌∷◌, map, Some, None, codes, refl}
use Rattle.seq_tree.specs.Names.{Name}
use Rattle.seq_tree.specs.Faults as faults
use Rattle.seq_tree.specs.declared.tree.OpName.{OpName}
use Rattle.seq_check.specs.Answers.{fault_of}
use Rattle.seq_check.specs.declared.fault.BodyFault.TheVariants as body
use Rattle.design_rules.specs.Broken as rule
use Rattle.ods_index.specs.Told.{told_of}
use Rattle.ods_index.specs.declared.broken.Broken.TheVariants as told

abbrev a : Name
a = codes "a"

abbrev b : Name
b = codes "b"

abbrev op : OpName
op = record { object = codes "q"; op = codes "set" }

bodies : map fault_of (body.Unknown ∷ body.Sort ∷ body.Divisor ∷ body.Exit ∷ body.Assigned ∷ body.Actual ∷ body.Count ∷ body.NoMemory ∷ [])
    ≡ Some faults.Unknown ∷ Some faults.Missorted ∷ Some faults.Divisor ∷ Some faults.Exit ∷ Some faults.Assigned ∷ Some faults.Actual
    ∷ Some faults.Count ∷ None ∷ []
bodies = refl

names : map told_of (told.V01 a ∷ told.V02 a ∷ told.V03 a ∷ told.V04 a ∷ told.V05 a ∷ told.V09Objects a ∷ told.V09Starts a ∷ told.V11 (Some a)
    ∷ told.V11 None ∷ told.V12 a ∷ told.V17 a ∷ [])
    ≡ Some (rule.V01 a) ∷ Some (rule.V02 a) ∷ Some (rule.V03 a) ∷ Some (rule.V04 a) ∷ Some (rule.V05 a) ∷ Some (rule.V09Objects a)
    ∷ Some (rule.V09Starts a) ∷ Some (rule.V11 (Some a)) ∷ Some (rule.V11 None) ∷ Some (rule.V12 a) ∷ Some (rule.V17 a) ∷ []
names = refl

operations : map told_of (told.V06 a op ∷ told.V07 a op ∷ told.V08 a op ∷ told.V09Calls op ∷ [])
    ≡ Some (rule.V06 a op) ∷ Some (rule.V07 a op) ∷ Some (rule.V08 a op) ∷ Some (rule.V09Calls op) ∷ []
operations = refl

numbers : map told_of (told.V10 a 1 2 ∷ told.V14 a 3 4 ∷ told.V15Threads 31 ∷ told.V15Objects 501 ∷ told.V16 a 5 b 6 ∷ [])
    ≡ Some (rule.V10 a 1 2) ∷ Some (rule.V14 a 3 4) ∷ Some (rule.V15Threads 31) ∷ Some (rule.V15Objects 501) ∷ Some (rule.V16 a 5 b 6) ∷ []
numbers = refl

parts : map told_of (told.V13 a (Some b) body.Exit ∷ told.V13 a None body.Sort ∷ told.V15Cost a (Some b) ∷ told.V15Cost a None ∷ [])
    ≡ Some (rule.V13 a (Some b) faults.Exit) ∷ Some (rule.V13 a None faults.Missorted) ∷ Some (rule.V15Cost a (Some b))
    ∷ Some (rule.V15Cost a None) ∷ []
parts = refl

whole : map told_of (told.V17Tick ∷ told.V17Priorities ∷ []) ≡ Some rule.V17Tick ∷ Some rule.V17Priorities ∷ []
whole = refl

no_rule : map told_of (told.NoMemory ∷ told.V13 a None body.NoMemory ∷ []) ≡ None ∷ None ∷ []
no_rule = refl
