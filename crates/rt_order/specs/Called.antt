-- The names of the objects that blocks call, in order, as often as they are called.
-- A call names the object and one of its operations; a thread has its own control structure besides.
use Rattle.std.specs.Prelude.{List, ◌∷◌, map, flat_map}
use Rattle.std.specs.Borrow.{Bor}
use Rattle.seq_tree.specs.Names.{Name}
use Rattle.seq_tree.specs.Statements.{Statements}
use Rattle.seq_tree.specs.Calls.{block_calls}
use Rattle.ods_tree.specs.Flats.{Guarded, Thread}

-- the names that are borrowed
abbrev pub names_of : List (Bor Name) → List Name
names_of names = map (λ n. n.now) names

-- the objects that a block calls
abbrev pub called_objects : Statements → List Name
called_objects b = map (λ c. c.object) (block_calls b)

-- all that a thread uses
abbrev pub names_used : Thread → List Name
names_used t = t.name ∷ called_objects t.block

-- all that a protected object calls
abbrev pub names_called : Guarded → List Name
names_called g = flat_map (λ o. called_objects o.block) g.ops
