-- The objects of a proper design in ticks are proper.
use Rattle.std.proofs.Common.{ℕ, suc, List, [], ◌∷◌, map, Option, Some, None, refl}
use Rattle.seq_tree.specs.Lists.{Each}
use Rattle.seq_tree.specs.Proper.{within_limits}
use Rattle.ods_tree.specs.Designs.{Object, Tree, Trees, Node, Empty, With, Design}
use Rattle.ods_tree.specs.Ticks.{attribute_in_ticks, object_in_ticks, tree_in_ticks, trees_in_ticks, tick_time, ticked, in_ticks}
use Rattle.ods_tree.specs.Words.{is_design_name}
use Rattle.ods_tree.specs.declared.design.Attr.{Attr}
use Rattle.ods_tree.specs.declared.design.VersionTwo.{VersionTwo}
use Rattle.ods_tree.specs.Proper.{IsProperAttribute, IsProperObject, IsProperTree, AreProperTrees, IsProperDesign}
use Rattle.ods_tree.specs.Walk.{own_of}
use Rattle.law_designs.proofs.Shared.ProperProgram.{AreProper, proper-tree, proper-objects}

attributes : (tick : ℕ) (as' : List Attr) → Each (IsProperAttribute None) (map (attribute_in_ticks tick) as')
attributes tick [] = tt
attributes tick (a ∷ as') = (refl, attributes tick as')

object-ticked : (v : Option VersionTwo) (tick d : ℕ) (o : Object) → IsProperObject (within_limits is_design_name) v d o
    → IsProperObject (within_limits is_design_name) None d (object_in_ticks tick o)
object-ticked v tick d o p = record {
  nests = p.nests;
  name = p.name;
  attrs = attributes tick o.attrs;
  provides = p.provides;
  needs = p.needs;
  vars = p.vars;
  bodies = p.bodies;
  thread = p.thread;
  links = p.links;
}

mutual
  tree-ticked : (v : Option VersionTwo) (tick d : ℕ) (t : Tree) → IsProperTree (within_limits is_design_name) v d t
      → IsProperTree (within_limits is_design_name) None d (tree_in_ticks tick t)
  tree-ticked v tick d (Node own children) p = (object-ticked v tick (suc d) own p.0, trees-ticked v tick (suc d) children p.1)

  trees-ticked : (v : Option VersionTwo) (tick d : ℕ) (ts : Trees) → AreProperTrees (within_limits is_design_name) v d ts
      → AreProperTrees (within_limits is_design_name) None d (trees_in_ticks tick ts)
  trees-ticked v tick d Empty p = tt
  trees-ticked v tick d (With first rest) p = (tree-ticked v tick d first p.0, trees-ticked v tick d rest p.1)

ticked-proper : (x : Design) (v : Option VersionTwo) → IsProperTree (within_limits is_design_name) x.version 0 x.root → AreProper (ticked v x)
ticked-proper x None p = proper-objects x p
ticked-proper x (Some v) p = λ s h. proper-tree None 0 None (own_of (tree_in_ticks (tick_time v) x.root) ∷ []) (tree_in_ticks (tick_time v) x.root)
    (tree-ticked x.version (tick_time v) 0 x.root p) s h

pub proper-in-ticks : (x : Design) → IsProperDesign (within_limits is_design_name) x → AreProper (in_ticks x)
proper-in-ticks x p = ticked-proper x x.version p.1
