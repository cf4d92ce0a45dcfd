use Rattle.std.proofs.Common.{◌≡◌, map, take}
use Rattle.ods_tree.specs.Trees.{provided_of}
use Rattle.ods_index.specs.Walking.{object_of}
use Rattle.ods_forms.proofs.fittings.Family.ops_of.Given as goal

-- the tables so far are those of the children so far
abbrev pub invariant-children : goal.invariant-children
invariant-children l = map (λ t. map provided_of t.provides.now) l.ops.items ≡ map (λ c. (object_of c).provides) (take l.child-index l.children)
