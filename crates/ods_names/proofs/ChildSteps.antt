-- Where nothing is told of a child, it is up to those behind it.
use Rattle.std.proofs.Common.{◌≡◌, ℕ, ◌+◌, ◌<◌, ◌≤◌, List, map, drop, length, flat_map, Option, None, ap, sym, ◌∙◌}
use Rattle.std.proofs.Math.ListN.{get_or, drop_of_length-le}
use Rattle.std.proofs.lemmas.Grind.{flat_map-append}
use Rattle.ods_tree.specs.Designs.{Object}
use Rattle.ods_tree.specs.Trees.{trees_of, tree_of}
use Rattle.ods_tree.specs.Walk.{Standing, standings, inner_standings}
use Rattle.ods_tree.specs.declared.design.Node as nodes
use Rattle.design_rules.specs.Broken.{Broken}
use Rattle.ods_index.specs.Judging.{head_of}
use Rattle.ods_index.proofs.Shared.TellSteps.{head_later}
use Rattle.seq_tree.proofs.Shared.LoopSteps.{drop_step}

-- nothing is told of a child, so that the first is that of those behind it
pub child_passes : (f : Standing → List Broken) (p : Option Object) (s : List Object) (kids : List nodes.Node) (i : ℕ) (kid : nodes.Node)
    (all : Option Broken) → i < length kids → kid ≡ get_or kids i kid
    → head_of (flat_map f (inner_standings p s (trees_of (map tree_of (drop i kids))))) ≡ all
    → head_of (flat_map f (standings p s (tree_of kid))) ≡ None
    → head_of (flat_map f (inner_standings p s (trees_of (map tree_of (drop (i + 1) kids))))) ≡ all
child_passes f p s kids i kid all inside at before none =
    let rest = inner_standings p s (trees_of (map tree_of (drop (i + 1) kids))) in
    sym (ap (λ ks. head_of (flat_map f (inner_standings p s (trees_of (map tree_of ks))))) (drop_step kids i kid inside at)
    ∙ ap head_of (flat_map-append f (standings p s (tree_of kid)) rest)
    ∙ head_later (flat_map f (standings p s (tree_of kid))) (flat_map f rest) none)
    ∙ before

-- no child is left, so that nothing is told
pub children_pass : (f : Standing → List Broken) (p : Option Object) (s : List Object) (kids : List nodes.Node) (i : ℕ) (all : Option Broken)
    → length kids ≤ i → head_of (flat_map f (inner_standings p s (trees_of (map tree_of (drop i kids))))) ≡ all → all ≡ None
children_pass f p s kids i all done before =
    sym before ∙ ap (λ ks. head_of (flat_map f (inner_standings p s (trees_of (map tree_of ks))))) (drop_of_length-le kids done)
