-- The objects of the hard part of a design are proper where those of the design are.
use Rattle.std.specs.Prelude.{◌≡◌, ◌⊎◌, ℕ, Bool, true, false, List, [], ◌∷◌, ◌++◌, map, Option, Some, None, refl, if◌then◌else◌}
use Rattle.std.proofs.Common.{sym, ap, subst, inl, inr}
use Rattle.seq_tree.specs.Lists.{Each}
use Rattle.seq_tree.specs.Proper.{within_limits}
use Rattle.ods_tree.specs.Designs.{Provided, Object, Tree, Trees, Node, Empty, With, Design}
use Rattle.ods_tree.specs.Walk.{Standing, own_of, roots, standings, inner_standings, objects}
use Rattle.ods_tree.specs.Words.{is_design_name}
use Rattle.ods_tree.specs.Proper.{IsProperAttribute, IsProperProvided, IsProperObject}
use Rattle.ods_tree.specs.declared.design.AttrKey.{AttrKey}
use Rattle.ods_tree.specs.declared.design.AttrKey.TheVariants.{Period, Deadline, ThreadBudget}
use Rattle.ods_tree.specs.declared.design.VersionTwo.{VersionTwo}
use Rattle.law_designs.proofs.Shared.ProperProgram.{AreProper}
use Rattle.law_designs.proofs.Shared.Lists.{in-cases}
use Rattle.law_lists.proofs.Shared.Lists.{IsIn, in-left, in-right, each-map}
use Rattle.background_designs.specs.Clients.{is_client, is_server}
use Rattle.background_designs.specs.HardParts.{soft_operation, soft_object, longest, cyclic_client, protected_server, hard_object, hard_tree}
use Rattle.background_designs.specs.HardParts.{hard_trees}
use Rattle.background_designs.specs.HardParts.{hard_part}

-- an object as a hard one, where it has no children, or with softer operations
abbrev pub HardOf : Object → Object → Type 0
HardOf o h = (h ≡ hard_object o) ⊎ (h ≡ soft_object o)

abbrev FromHard : Standing → List Standing → Type 0
FromHard z ss = (w : Standing) × IsIn w ss × HardOf w.own z.own

mutual
  from-tree : (p q : Option Object) (rs ss : List Object) (t : Tree) (z : Standing) → IsIn z (standings p rs (hard_tree t))
      → FromHard z (standings q ss t)
  from-tree p q rs ss (Node own Empty) z (inl e) =
      (record { own = own; parent = q; siblings = ss; children = [] }, inl refl, inl (ap (λ s. s.own) (sym e)))
  from-tree p q rs ss (Node own Empty) z (inr h) = absurd h
  from-tree p q rs ss (Node own (With first rest)) z (inl e) =
      (record { own = own; parent = q; siblings = ss; children = roots (With first rest) }, inl refl, inr (ap (λ s. s.own) (sym e)))
  from-tree p q rs ss (Node own (With first rest)) z (inr h) =
      let r = from-trees (Some (soft_object own)) (Some own) (roots (hard_trees (With first rest))) (roots (With first rest)) (With first rest) z h in
      (r.0, inr r.1, r.2)

  from-trees : (p q : Option Object) (rs ss : List Object) (ts : Trees) (z : Standing) → IsIn z (inner_standings p rs (hard_trees ts))
      → FromHard z (inner_standings q ss ts)
  from-trees p q rs ss Empty z h = absurd h
  from-trees p q rs ss (With first rest) z h =
      by (from-tree p q rs ss first z) (from-trees p q rs ss rest z)
      (in-cases (standings p rs (hard_tree first)) (inner_standings p rs (hard_trees rest)) z h)
    where
      by : (IsIn z (standings p rs (hard_tree first)) → FromHard z (standings q ss first))
          → (IsIn z (inner_standings p rs (hard_trees rest)) → FromHard z (inner_standings q ss rest))
          → IsIn z (standings p rs (hard_tree first)) ⊎ IsIn z (inner_standings p rs (hard_trees rest))
          → FromHard z (standings q ss first ++ inner_standings q ss rest)
      by f g (inl k) = let r = f k in (r.0, in-left r.0 (standings q ss first) (inner_standings q ss rest) r.1, r.2)
      by f g (inr k) = let r = g k in (r.0, in-right r.0 (standings q ss first) (inner_standings q ss rest) r.1, r.2)

-- each object of the hard part comes from one of the design
pub hard-from : (x : Design) (z : Standing) → IsIn z (objects (hard_part x)) → (w : Standing) × IsIn w (objects x) × HardOf w.own z.own
hard-from x z h = from-tree None None (own_of (hard_tree x.root) ∷ []) (own_of x.root ∷ []) x.root z h

soft-provides : (ps : List Provided) → Each (IsProperProvided (within_limits is_design_name)) ps
    → Each (IsProperProvided (within_limits is_design_name)) (map soft_operation ps)
soft-provides ps h = each-map soft_operation (IsProperProvided (within_limits is_design_name)) ps h

soft-proper : (v : Option VersionTwo) (d : ℕ) (o : Object) → IsProperObject (within_limits is_design_name) v d o
    → IsProperObject (within_limits is_design_name) v d (soft_object o)
soft-proper v d o p = record {
  nests = p.nests;
  name = p.name;
  attrs = p.attrs;
  provides = soft-provides o.provides p.provides;
  needs = p.needs;
  vars = p.vars;
  bodies = p.bodies;
  thread = p.thread;
  links = p.links;
}

longest-proper : (v : Option VersionTwo) (key : AttrKey) → IsProperAttribute v (longest key)
longest-proper None key = refl
longest-proper (Some v) key = tt

hard-proper : (v : Option VersionTwo) (d : ℕ) (o : Object) → IsProperObject (within_limits is_design_name) v d o
    → IsProperObject (within_limits is_design_name) v d (hard_object o)
hard-proper v d o p = client (is_client o)
  where
    server : (b : Bool) → IsProperObject (within_limits is_design_name) v d (if b then protected_server o else soft_object o)
    server true = record {
      nests = p.nests;
      name = p.name;
      attrs = p.attrs;
      provides = soft-provides o.provides p.provides;
      needs = p.needs;
      vars = p.vars;
      bodies = p.bodies;
      thread = p.thread;
      links = p.links;
    }
    server false = soft-proper v d o p

    client : (b : Bool)
        → IsProperObject (within_limits is_design_name) v d (if b then cyclic_client o else
        (if is_server o then protected_server o else soft_object o))
    client true = record {
      nests = p.nests;
      name = p.name;
      attrs = (longest-proper v Period, (longest-proper v Deadline, (longest-proper v ThreadBudget, tt)));
      provides = soft-provides o.provides p.provides;
      needs = p.needs;
      vars = p.vars;
      bodies = p.bodies;
      thread = p.thread;
      links = p.links;
    }
    client false = server (is_server o)

pub hard-are-proper : (x : Design) → AreProper x → AreProper (hard_part x)
hard-are-proper x proper z h =
    let f = hard-from x z h in
    let p = proper f.0 f.1 in
    (p.0, p.1, by f.0.own z.own p.0 p.1 p.2 f.2)
  where
    by : (o q : Object) (v : Option VersionTwo) (d : ℕ) → IsProperObject (within_limits is_design_name) v d o → HardOf o q
        → IsProperObject (within_limits is_design_name) v d q
    by o q v d p (inl e) = subst (IsProperObject (within_limits is_design_name) v d) (sym e) (hard-proper v d o p)
    by o q v d p (inr e) = subst (IsProperObject (within_limits is_design_name) v d) (sym e) (soft-proper v d o p)
