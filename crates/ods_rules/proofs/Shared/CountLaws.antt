-- A design has as many objects in ticks as it has as it is written.
use Rattle.std.proofs.Common.{◌≡◌, ℕ, suc, ◌+◌, ◌<◌, List, [], ◌∷◌, Option, Some, None, length, refl, ap, sym, subst, ◌∙◌}
use Rattle.std.proofs.lemmas.List.{length-append}
use Rattle.ods_tree.specs.Designs.{Object, Tree, Trees, Node, Empty, With, Design}
use Rattle.ods_tree.specs.Ticks.{tick_time, object_in_ticks, tree_in_ticks, trees_in_ticks, ticked, in_ticks}
use Rattle.ods_tree.specs.Walk.{objects, standings, inner_standings, own_of, roots}
use Rattle.ods_tree.specs.declared.design.VersionTwo.{VersionTwo}

mutual
  tree-count : (tick : ℕ) (p q : Option Object) (s r : List Object) (t : Tree)
      → length (standings p s (tree_in_ticks tick t)) ≡ length (standings q r t)
  tree-count tick p q s r (Node own children)
      = ap suc (trees-count tick (Some (object_in_ticks tick own)) (Some own) (roots (trees_in_ticks tick children)) (roots children) children)

  trees-count : (tick : ℕ) (p q : Option Object) (s r : List Object) (ts : Trees)
      → length (inner_standings p s (trees_in_ticks tick ts)) ≡ length (inner_standings q r ts)
  trees-count tick p q s r Empty = refl
  trees-count tick p q s r (With first rest) =
      length-append (standings p s (tree_in_ticks tick first)) (inner_standings p s (trees_in_ticks tick rest))
      ∙ ap (λ n. n + length (inner_standings p s (trees_in_ticks tick rest))) (tree-count tick p q s r first)
      ∙ ap (λ n. length (standings q r first) + n) (trees-count tick p q s r rest)
      ∙ sym (length-append (standings q r first) (inner_standings q r rest))

count-in-ticks : (v : Option VersionTwo) (x : Design) → length (objects (ticked v x)) ≡ length (objects x)
count-in-ticks None x = refl
count-in-ticks (Some v) x = tree-count (tick_time v) None None (own_of (tree_in_ticks (tick_time v) x.root) ∷ []) (own_of x.root ∷ []) x.root

-- no more than before
pub few_in_ticks : (x : Design) → length (objects x) < 4294967296 → length (objects (in_ticks x)) < 4294967296
few_in_ticks x few = subst (λ n. n < 4294967296) (sym (count-in-ticks x.version x)) few

pub ruleset count_laws = (few_in_ticks)
