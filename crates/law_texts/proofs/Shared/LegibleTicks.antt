-- The objects of a design in ticks have the names and numbers of those that are written, but for their attributes.
use Rattle.std.proofs.Common.{◌≡◌, ℕ, List, [], ◌∷◌, Option, Some, None, refl, sym, ap, subst, inl, inr, ◌⊎◌}
use Rattle.ods_tree.specs.Designs.{Object, Tree, Trees, Node, Empty, With, Design}
use Rattle.ods_tree.specs.Walk.{Standing, own_of, roots, standings, inner_standings, objects}
use Rattle.ods_tree.specs.Ticks.{object_in_ticks, tree_in_ticks, trees_in_ticks, tick_time, ticked, in_ticks}
use Rattle.ods_tree.specs.declared.design.VersionTwo.{VersionTwo}
use Rattle.law_lists.proofs.Shared.Lists.{IsIn, in-left, in-right}
use Rattle.law_designs.proofs.Shared.Lists.{in-cases}
use Rattle.law_texts.proofs.Shared.LegibleObjects.{IsLegibleObject}

-- an object of these that is this one in ticks
abbrev IsTicked : ℕ → List Standing → Object → Type 0
IsTicked tick ss o = (s : Standing) × IsIn s ss × (o ≡ object_in_ticks tick s.own)

mutual
  tree-ticked : (tick : ℕ) (p q : Option Object) (ss rs : List Object) (t : Tree) (s : Standing) → IsIn s (standings p ss (tree_in_ticks tick t))
      → IsTicked tick (standings q rs t) s.own
  tree-ticked tick p q ss rs (Node own children) s (inl e) =
      (record { own = own; parent = q; siblings = rs; children = roots children }, inl refl, ap (λ (z : Standing). z.own) (sym e))
  tree-ticked tick p q ss rs (Node own children) s (inr h) =
      let r = trees-ticked tick (Some (object_in_ticks tick own)) (Some own) (roots (trees_in_ticks tick children)) (roots children) children s h in
      (r.0, inr r.1, r.2)

  trees-ticked : (tick : ℕ) (p q : Option Object) (ss rs : List Object) (ts : Trees) (s : Standing)
      → IsIn s (inner_standings p ss (trees_in_ticks tick ts))
      → IsTicked tick (inner_standings q rs ts) s.own
  trees-ticked tick p q ss rs Empty s h = absurd h
  trees-ticked tick p q ss rs (With first rest) s h =
      by (tree-ticked tick p q ss rs first s) (trees-ticked tick p q ss rs rest s)
      (in-cases (standings p ss (tree_in_ticks tick first)) (inner_standings p ss (trees_in_ticks tick rest)) s h)
    where
      by : (IsIn s (standings p ss (tree_in_ticks tick first)) → IsTicked tick (standings q rs first) s.own)
          → (IsIn s (inner_standings p ss (trees_in_ticks tick rest)) → IsTicked tick (inner_standings q rs rest) s.own)
          → IsIn s (standings p ss (tree_in_ticks tick first)) ⊎ IsIn s (inner_standings p ss (trees_in_ticks tick rest))
          → IsTicked tick (inner_standings q rs (With first rest)) s.own
      by f g (inl a) = let r = f a in (r.0, in-left r.0 (standings q rs first) (inner_standings q rs rest) r.1, r.2)
      by f g (inr a) = let r = g a in (r.0, in-right r.0 (standings q rs first) (inner_standings q rs rest) r.1, r.2)

object-ticked : (tick : ℕ) (o : Object) → IsLegibleObject o → IsLegibleObject (object_in_ticks tick o)
object-ticked tick o h = record {
  name = h.name;
  ops = h.ops;
  params = h.params;
  vars = h.vars;
  locals = h.locals;
  blocks = h.blocks;
  thread = h.thread;
}

legible-ticked : (v : Option VersionTwo) (x : Design) → ((s : Standing) → IsIn s (objects x) → IsLegibleObject s.own) → (s : Standing)
    → IsIn s (objects (ticked v x)) → IsLegibleObject s.own
legible-ticked None x h s i = h s i
legible-ticked (Some v) x h s i =
    let r = tree-ticked (tick_time v) None None (own_of (tree_in_ticks (tick_time v) x.root) ∷ []) (own_of x.root ∷ []) x.root s i in
    subst IsLegibleObject (sym r.2) (object-ticked (tick_time v) r.0.own (h r.0 r.1))

pub legible-in-ticks : (x : Design) → ((s : Standing) → IsIn s (objects x) → IsLegibleObject s.own) → (s : Standing) → IsIn s (objects (in_ticks x))
    → IsLegibleObject s.own
legible-in-ticks x = legible-ticked x.version x
