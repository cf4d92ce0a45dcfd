-- What the flat design has of each terminal object, by sort.
-- Only terminal objects run (Burns and Wellings 1995).
use Rattle.std.specs.Prelude.{List, Option, Some, None, filter_map, option_map, if◌then◌else◌}
use Rattle.seq_tree.specs.Names.{Name}
use Rattle.seq_tree.specs.Operations.{Operation}
use Rattle.ods_tree.specs.Designs.{Provided, Body, Object, Design}
use Rattle.ods_tree.specs.Flats.{Library, Guarded, Thread}
use Rattle.ods_tree.specs.Flattening.{is_passive, is_protected, operation_by, operations, thread_by}

-- a passive object
abbrev pub library_by : Design → Object → Library
library_by x o = record { name = o.name; ops = operations x o }

-- a protected object
abbrev pub guarded_by : Design → Object → Guarded
guarded_by x o = record { name = o.name; vars = o.vars; ops = operations x o }

-- the passive, the protected and the thread ones among objects
abbrev pub libraries_among : Design → List Object → List Library
libraries_among x os = filter_map (λ o. if is_passive o.kind then Some (library_by x o) else None) os

abbrev pub guarded_among : Design → List Object → List Guarded
guarded_among x os = filter_map (λ o. if is_protected o.kind then Some (guarded_by x o) else None) os

abbrev pub threads_among : Design → List Object → List Thread
threads_among x os = filter_map (thread_by x) os

-- the operations among those that are provided, by their bodies
abbrev pub operations_among : Design → (Name → Option Body) → List Provided → List Operation
operations_among x body ps = filter_map (λ p. option_map (operation_by x p.sig) (body p.sig.name)) ps
