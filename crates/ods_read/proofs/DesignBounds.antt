-- Designs without limits keep some limits, and designs that keep limits are designs without them.
use Rattle.std.proofs.Common.{ℕ, suc, ◌+◌, ◌≤◌, List, [], ◌∷◌, Option, Some, None, refl, arith}
use Rattle.std.proofs.lemmas.Bool.{le-leb}
use Rattle.seq_tree.specs.Lists.{Each}
use Rattle.seq_tree.specs.Statements.{Statements}
use Rattle.seq_tree.specs.Proper.{Limits, without_limits}
use Rattle.seq_read.proofs.Shared.ChainLevels.{bounds}
use Rattle.seq_read.proofs.Shared.Bounds.{extent_block, bound-block, free-block}
use Rattle.ods_tree.specs.Designs.{Body, Object, Tree, Trees, Node, Empty, With, Design}
use Rattle.ods_tree.specs.Proper.{IsProperBody, IsProperThread, IsProperObject, IsProperTree, AreProperTrees, IsProperDesign}
use Rattle.ods_tree.specs.Words.{is_design_name}
use Rattle.ods_tree.specs.declared.design.VersionTwo.{VersionTwo}

-- how far a tree nests and chains, at most
abbrev extent_bodies : List Body → ℕ
extent_bodies [] = 0
extent_bodies (b ∷ bs) = extent_block b.block + extent_bodies bs

abbrev extent_thread : Option Statements → ℕ
extent_thread None = 0
extent_thread (Some b) = extent_block b

abbrev mutual
  pub extent_tree : Tree → ℕ
  extent_tree (Node o kids) = suc (extent_bodies o.bodies + (extent_thread o.thread + extent_trees kids))

  pub extent_trees : Trees → ℕ
  extent_trees Empty = 0
  extent_trees (With t ts) = extent_tree t + extent_trees ts

abbrev wide : Limits
wide = without_limits is_design_name

module _ (n : ℕ) (v : Option VersionTwo) where
  abbrev narrow : Limits
  narrow = bounds is_design_name n n

  bound_bodies : (d : ℕ) (bs : List Body) → d + extent_bodies bs ≤ n → Each (IsProperBody wide d) bs → Each (IsProperBody narrow d) bs
  bound_bodies d [] h p = tt
  bound_bodies d (b ∷ bs) h p = (
    (p.0.0, p.0.1, bound-block is_design_name n d b.block (omega (arith, h)) p.0.2),
    bound_bodies d bs (omega
        (arith, h)) p.1,
  )

  bound_thread : (d : ℕ) (t : Option Statements) → d + extent_thread t ≤ n → IsProperThread wide d t → IsProperThread narrow d t
  bound_thread d None h p = tt
  bound_thread d (Some b) h p = bound-block is_design_name n d b h p

  bound_object : (d : ℕ) (o : Object) → d ≤ n → d + extent_bodies o.bodies ≤ n → d + extent_thread o.thread ≤ n → IsProperObject wide v d o
      → IsProperObject narrow v d o
  bound_object d o h k m p = record {
    nests = le-leb d n h;
    name = p.name;
    attrs = p.attrs;
    provides = p.provides;
    needs = p.needs;
    vars = p.vars;
    bodies = bound_bodies d o.bodies k p.bodies;
    thread = bound_thread d o.thread m p.thread;
    links = p.links;
  }

  mutual
    bound_tree : (d : ℕ) (t : Tree) → d + extent_tree t ≤ n → IsProperTree wide v d t → IsProperTree narrow v d t
    bound_tree d (Node o kids) h p
        = (bound_object (suc d) o (omega (arith, h)) (omega (arith, h)) (omega (arith, h)) p.0, bound_trees (suc d) kids (omega (arith, h)) p.1)

    bound_trees : (d : ℕ) (ts : Trees) → d + extent_trees ts ≤ n → AreProperTrees wide v d ts → AreProperTrees narrow v d ts
    bound_trees d Empty h p = tt
    bound_trees d (With t ts) h p = (bound_tree d t (omega (arith, h)) p.0, bound_trees d ts (omega (arith, h)) p.1)

pub bound-design : (n : ℕ) (x : Design) → extent_tree x.root ≤ n → IsProperDesign (without_limits is_design_name) x
    → IsProperDesign (bounds is_design_name n n) x
bound-design n x h p = (p.0, bound_tree n x.version 0 x.root (omega (arith, h)) p.1)

-- wider limits are kept too
module _ (nests most : ℕ) (v : Option VersionTwo) where
  abbrev kept : Limits
  kept = bounds is_design_name nests most

  free_bodies : (d : ℕ) (bs : List Body) → Each (IsProperBody kept d) bs → Each (IsProperBody wide d) bs
  free_bodies d [] p = tt
  free_bodies d (b ∷ bs) p = ((p.0.0, p.0.1, free-block is_design_name nests most d b.block p.0.2), free_bodies d bs p.1)

  free_thread : (d : ℕ) (t : Option Statements) → IsProperThread kept d t → IsProperThread wide d t
  free_thread d None p = tt
  free_thread d (Some b) p = free-block is_design_name nests most d b p

  free_object : (d : ℕ) (o : Object) → IsProperObject kept v d o → IsProperObject wide v d o
  free_object d o p = record {
    nests = refl;
    name = p.name;
    attrs = p.attrs;
    provides = p.provides;
    needs = p.needs;
    vars = p.vars;
    bodies = free_bodies d o.bodies p.bodies;
    thread = free_thread d o.thread p.thread;
    links = p.links;
  }

  mutual
    free_tree : (d : ℕ) (t : Tree) → IsProperTree kept v d t → IsProperTree wide v d t
    free_tree d (Node o kids) p = (free_object (suc d) o p.0, free_trees (suc d) kids p.1)

    free_trees : (d : ℕ) (ts : Trees) → AreProperTrees kept v d ts → AreProperTrees wide v d ts
    free_trees d Empty p = tt
    free_trees d (With t ts) p = (free_tree d t p.0, free_trees d ts p.1)

pub free-design : (nests most : ℕ) (x : Design) → IsProperDesign (bounds is_design_name nests most) x
    → IsProperDesign (without_limits is_design_name) x
free-design nests most x p = (p.0, free_tree nests most x.version 0 x.root p.1)
