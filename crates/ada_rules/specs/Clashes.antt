-- Names that clash, told with a test of the names that are taken.
-- The test stands for a list of names, in which each name would have to be looked for.
use Rattle.std.specs.Prelude.{Bool, true, false, not, ◌||◌, ◌&&◌, List, [], ◌∷◌, ◌++◌}
use Rattle.seq_tree.specs.Names.{Name, same_name, is_named}
use Rattle.ada_tree.specs.Bodies.{Body}
use Rattle.ada_tree.specs.Naming.{body_names}
use Rattle.ada_rules.specs.Parts.{Part, LoopStart, LoopEnd, Worked, block_parts}

-- whether names are none of those that are taken, and differ from each other
abbrev pub are_new : (Name → Bool) → List Name → Bool
are_new taken [] = true
are_new taken (n ∷ ns) = not (taken n) && are_new (λ m. same_name n m || taken m) ns

-- all but the last of a list
abbrev pub front : List Name → List Name
front [] = []
front (x ∷ []) = []
front (x ∷ y ∷ ys) = x ∷ front (y ∷ ys)

-- whether a loop begins at a part whose name is taken, or that of a loop around it
abbrev pub clashes_at : (Name → Bool) → List Name → Part → Bool
clashes_at taken inside (LoopStart name) = is_named inside name || taken name
clashes_at taken inside LoopEnd = false
clashes_at taken inside (Worked ticks) = false

-- the loops around what follows a part
abbrev pub inside_after : List Name → Part → List Name
inside_after inside (LoopStart name) = inside ++ name ∷ []
inside_after inside LoopEnd = front inside
inside_after inside (Worked ticks) = inside

-- whether some loop clashes
abbrev pub clashes_in : (Name → Bool) → List Name → List Part → Bool
clashes_in taken inside [] = false
clashes_in taken inside (p ∷ ps) = clashes_at taken inside p || clashes_in taken (inside_after inside p) ps

-- whether names clash inside a body, where these are taken around it
abbrev pub clashes_inside : (Name → Bool) → Body → Bool
clashes_inside taken b = not (are_new taken (body_names b)) || clashes_in (λ n. is_named (body_names b) n || taken n) [] (block_parts b.block)
