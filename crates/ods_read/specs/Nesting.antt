-- What is read of the objects inside an object, by how much further constructs and objects may nest.
-- Where none may nest any more, the first object is the one that is told.
use Rattle.std.specs.Prelude.{ℕ, zero, suc, Bool}
use Rattle.ods_read.specs.ObjectReaders.{TreesReader, over_at, tree_list_at, tree_at}

-- the objects of a section, behind its word
abbrev pub inside_at : Bool → ℕ → TreesReader
inside_at units zero = over_at
inside_at units (suc deeper) = tree_list_at (tree_at units 32 deeper)
