-- Objects by their places, and tables of the places of names.
-- Of two objects with one name a table has the first: among siblings, and in flattened order.
use Rattle.std.specs.Prelude.{◌≡◌, ⊤, ℕ, List, Option, Some, None, map, option_and_then, slice_get, if◌then◌else◌}
use Rattle.seq_tree.specs.Names.{Name, same_name}
use Rattle.seq_tree.specs.declared.tree.OpName.{OpName}
use Rattle.name_sets.specs.declared.places.Places.{Places}
use Rattle.name_sets.specs.Places.{place_in}
use Rattle.ods_tree.specs.Designs.{Tree, Trees, Node, Empty, With}
use Rattle.ods_tree.specs.Links.{first_of, terminal_op, tree_named}
use Rattle.ods_tree.specs.Trees.{tree_of}
use Rattle.ods_tree.specs.Walk.{own_of}
use Rattle.ods_index.specs.declared.scopes.Scope.{Scope}

-- the trees of the objects that are kept
abbrev pub scope_trees : List Scope → List Tree
scope_trees scopes = map (λ s. tree_of s.node.now) scopes

-- the trees inside a tree
abbrev pub inner_of : Tree → Trees
inner_of (Node own children) = children

-- the first of trees beside each other whose root has this name
abbrev pub child_named : Name → Trees → Option Tree
child_named name Empty = None
child_named name (With first rest) = if same_name (own_of first).name name then Some first else child_named name rest

-- what an operation of the object of a name stands for
abbrev pub meaning_at : List Tree → Places → Name → Name → Option OpName
meaning_at ts places object op = option_and_then (λ t. terminal_op t op) (option_and_then (slice_get ts) (place_in places object))

-- where there is a tree there is its place
abbrev pub Finds : List Tree → Option ℕ → Option Tree → Type 0
Finds ts None None = ⊤
Finds ts None (Some t) = ⊥
Finds ts (Some place) None = ⊥
Finds ts (Some place) (Some t) = slice_get ts place ≡ Some t

-- each tree that was there is at its place
abbrev pub Keeps : List Tree → List Tree → Type 0
Keeps old new = (place : ℕ) (t : Tree) → slice_get old place ≡ Some t → slice_get new place ≡ Some t

-- a table of the places of trees beside each other
abbrev pub AreChildren : List Tree → Places → Trees → Type 0
AreChildren ts places children = (n : Name) → Finds ts (place_in places n) (child_named n children)

-- a table through which each name leads to what it means in a tree
abbrev pub AreNamed : List Tree → Places → Tree → Type 0
AreNamed ts places t = (object op : Name) → meaning_at ts places object op ≡ option_and_then (λ u. terminal_op u op) (tree_named object t)

-- a table with what is found of further trees, and else what was found before
abbrev pub Covers : (Name → Option Tree) → List Tree → Places → List Tree → Places → Type 0
Covers added old before new after =
    (n : Name) (found : Option Tree) → Finds old (place_in before n) found → Finds new (place_in after n) (first_of (added n) found)
