-- The hard part of a design in ticks is in ticks.
use Rattle.std.specs.Prelude.{◌≡◌, ℕ, Bool, true, false, map, Option, Some, None, refl, if◌then◌else◌}
use Rattle.std.proofs.Common.{ap, ap₂, ◌∙◌}
use Rattle.ods_tree.specs.Designs.{Object, Tree, Trees, Node, Empty, With, Design}
use Rattle.ods_tree.specs.declared.design.VersionTwo.{VersionTwo}
use Rattle.ods_tree.specs.Ticks.{attribute_in_ticks, object_in_ticks, tree_in_ticks, trees_in_ticks, tick_time, ticked, in_ticks}
use Rattle.ods_tree.proofs.Shared.TickLaws.{ticks-version, attributes-again}
use Rattle.background_designs.specs.Clients.{is_client, is_server}
use Rattle.background_designs.specs.HardParts.{soft_object, cyclic_client, protected_server, hard_object, hard_tree, hard_trees, hard_part}

soft-again : (tick : ℕ) (o : Object) → object_in_ticks tick (soft_object (object_in_ticks tick o)) ≡ soft_object (object_in_ticks tick o)
soft-again tick o = ap (λ bs. record (soft_object o) { attrs = bs }) (attributes-again tick o.attrs)

hard-again : (tick : ℕ) (o : Object) → object_in_ticks tick (hard_object (object_in_ticks tick o)) ≡ hard_object (object_in_ticks tick o)
hard-again tick o = client (object_in_ticks tick o) (attributes-again tick o.attrs) (is_client (object_in_ticks tick o))
    (is_server (object_in_ticks tick o))
  where
    client : (w : Object) → map (attribute_in_ticks tick) w.attrs ≡ w.attrs → (b c : Bool)
        → object_in_ticks tick (if b then cyclic_client w else (if c then protected_server w else soft_object w))
        ≡ (if b then cyclic_client w else (if c then protected_server w else soft_object w))
    client w e true c = refl
    client w e false true = ap (λ bs. record (protected_server w) { attrs = bs }) e
    client w e false false = ap (λ bs. record (soft_object w) { attrs = bs }) e

mutual
  tree-again : (tick : ℕ) (t : Tree) → tree_in_ticks tick (hard_tree (tree_in_ticks tick t)) ≡ hard_tree (tree_in_ticks tick t)
  tree-again tick (Node own Empty) = ap (λ o. Node o Empty) (hard-again tick own)
  tree-again tick (Node own (With first rest)) =
      ap₂ Node (soft-again tick own) (ap₂ With (tree-again tick first) (trees-again tick rest))

  trees-again : (tick : ℕ) (ts : Trees) → trees_in_ticks tick (hard_trees (trees_in_ticks tick ts)) ≡ hard_trees (trees_in_ticks tick ts)
  trees-again tick Empty = refl
  trees-again tick (With first rest) = ap₂ With (tree-again tick first) (trees-again tick rest)

ticked-hard : (v : Option VersionTwo) (x : Design) → ticked v (hard_part (ticked v x)) ≡ hard_part (ticked v x)
ticked-hard None x = refl
ticked-hard (Some v) x = ap (λ t. record x { root = t }) (tree-again (tick_time v) x.root)

pub ticks-hard : (x : Design) → in_ticks (hard_part (in_ticks x)) ≡ hard_part (in_ticks x)
ticks-hard x = ap (λ v. ticked v (hard_part (in_ticks x))) (ticks-version x) ∙ ticked-hard x.version x
