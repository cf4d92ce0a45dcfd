-- What an answer tells: the variant of the definitions, with its names and numbers.
-- Want of memory tells nothing; the fault of a body that is told is none of memory.
use Rattle.std.specs.Prelude.{Bool, true, false, Option, Some, None, option_map}
use Rattle.seq_check.specs.Answers.{fault_of}
use Rattle.design_rules.specs.Broken.{Broken, V01, V02, V03, V04, V05, V06, V07, V08, V09Calls, V09Objects, V09Starts, V10, V11, V12, V13}
use Rattle.design_rules.specs.Broken.{V14, V15Threads, V15Objects, V15Cost, V16, V17Tick, V17Priorities, V17}
use Rattle.ods_index.specs.declared.broken.Broken as code
use Rattle.ods_index.specs.declared.broken.Broken.TheVariants as variant

-- what an answer tells
abbrev pub told_of : code.Broken → Option Broken
told_of (variant.V01 name) = Some (V01 name)
told_of (variant.V02 name) = Some (V02 name)
told_of (variant.V03 object) = Some (V03 object)
told_of (variant.V04 object) = Some (V04 object)
told_of (variant.V05 object) = Some (V05 object)
told_of (variant.V06 object target) = Some (V06 object target)
told_of (variant.V07 object target) = Some (V07 object target)
told_of (variant.V08 object target) = Some (V08 object target)
told_of (variant.V09Calls name) = Some (V09Calls name)
told_of (variant.V09Objects object) = Some (V09Objects object)
told_of (variant.V09Starts thread) = Some (V09Starts thread)
told_of (variant.V10 object sources starts) = Some (V10 object sources starts)
told_of (variant.V11 object) = Some (V11 object)
told_of (variant.V12 object) = Some (V12 object)
told_of (variant.V13 object part fault) = option_map (λ f. V13 object part f) (fault_of fault)
told_of (variant.V14 thread cost budget) = Some (V14 thread cost budget)
told_of (variant.V15Threads count) = Some (V15Threads count)
told_of (variant.V15Objects count) = Some (V15Objects count)
told_of (variant.V15Cost object part) = Some (V15Cost object part)
told_of (variant.V16 starter period target separation) = Some (V16 starter period target separation)
told_of variant.V17Tick = Some V17Tick
told_of variant.V17Priorities = Some V17Priorities
told_of (variant.V17 object) = Some (V17 object)
told_of variant.NoMemory = None

-- whether an answer is want of memory
abbrev pub is_memory : code.Broken → Bool
is_memory variant.NoMemory = true
is_memory _ = false
