-- The sections that a task of the machine is inside; the innermost stands last in the machine's list, and first in the definitions.
use Rattle.std.specs.Prelude.{List, [], ◌∷◌, fold}
use Rattle.machine.specs.States as states
use Rattle.task_runtime.specs.declared.inside.Held.{Held}
use Rattle.task_runtime.specs.declared.inside.Section.{Section}
use Rattle.task_runtime.specs.declared.inside.Section.TheVariants.{Object, Control}

-- a section
abbrev pub resource_of : Section → states.Resource
resource_of (Object object) = states.Object object
resource_of (Control task) = states.Control task

-- sections with one more inside them
abbrev pub with_held : List states.Held → Held → List states.Held
with_held rest h = record { section = resource_of h.section; before = h.before } ∷ rest

-- the sections of a list
abbrev pub inside_of : List Held → List states.Held
inside_of hs = fold with_held [] hs
