-- What is told first of the operations that objects require: of one object, then of those inside it, one child at a time.
use Rattle.std.proofs.Common.{◌≡◌, ℕ, ◌+◌, ◌<◌, Bool, true, false, cond, List, [], ◌∷◌, ◌++◌, map, filter, find, drop, length, flat_map}
use Rattle.std.proofs.Common.{Option, Some, None, option_map, Err, refl, ap, sym, subst, ◌∙◌}
use Rattle.std.proofs.Math.ListN.{get_or}
use Rattle.std.proofs.lemmas.Grind.{flat_map-append}
use Rattle.seq_tree.proofs.Shared.LoopSteps.{drop_step}
use Rattle.ods_tree.specs.Designs.{Object, Tree}
use Rattle.ods_tree.specs.Trees.{node_layer, trees_of, tree_of}
use Rattle.ods_tree.specs.Walk.{Standing, own_of, standings, inner_standings}
use Rattle.ods_tree.specs.declared.design.Node as nodes
use Rattle.ods_tree.specs.declared.design.Node.{out-Node, fold_out-Node}
use Rattle.design_rules.specs.Broken.{Broken}
use Rattle.ods_index.specs.Judging.{Tells, head_of}
use Rattle.ods_index.specs.Walking.{object_of, inside}
use Rattle.ods_index.specs.declared.broken.Broken as code
use Rattle.ods_index.proofs.Shared.TellSteps.{head_later, tells_front}
use Rattle.ods_index.proofs.Shared.WalkSteps.{standings_of_node}

head_step : {A B : Type 0} (f : A → B) (test : A → Bool) (x : A) (xs : List A) (b : Bool)
    → head_of (map f (filter test xs)) ≡ option_map f (find test xs) →
    head_of (map f (cond b (x ∷ filter test xs) (filter test xs))) ≡ option_map f (cond b (Some x) (find test xs))
head_step f test x xs true h = refl
head_step f test x xs false h = h

-- the first of those that pass a test
pub head_filter : {A B : Type 0} (f : A → B) (test : A → Bool) (xs : List A) → head_of (map f (filter test xs)) ≡ option_map f (find test xs)
head_filter f test [] = refl
head_filter f test (x ∷ xs) = head_step f test x xs (test x) (head_filter f test xs)

-- the name of an object by itself
pub own_name : (n : nodes.Node) → (object_of n).name ≡ (out-Node n).name
own_name n = ap (λ t. (own_of t).name) (fold_out-Node Tree node_layer n)

-- what is told of a front is told of an equal of the whole
pub told_of_all : (e : code.Broken) (xs ys : List Broken) (all : Option Broken) → head_of (xs ++ ys) ≡ all → Tells (Err e) (head_of xs)
    → Tells (Err e) all
told_of_all e xs ys all same h = let P : Option Broken → Type 0 = λ w. Tells (Err e) w in subst P same (tells_front e xs ys h)

-- what is told of an object and of those inside it
within : (f : Standing → List Broken) (n : nodes.Node) (p : Option Object) (s : List Object) →
    flat_map f (standings p s (tree_of n)) ≡ f (record { own = object_of n; parent = p; siblings = s; children = inside (tree_of n) })
    ++ flat_map f (inner_standings (Some (object_of n)) (map object_of (out-Node n).children.items)
    (trees_of (map tree_of (out-Node n).children.items)))
within f n p s = ap (flat_map f) (standings_of_node n p s)

-- nothing is told of the object itself
pub own_passes : (f : Standing → List Broken) (n : nodes.Node) (p : Option Object) (s : List Object) (kids : List nodes.Node)
    → kids ≡ (out-Node n).children.items →
    head_of (f (record { own = object_of n; parent = p; siblings = s; children = inside (tree_of n) })) ≡ None →
    head_of (flat_map f (inner_standings (Some (object_of n)) (map object_of kids) (trees_of (map tree_of kids))))
    ≡ head_of (flat_map f (standings p s (tree_of n)))
own_passes f n p s kids same none =
    ap (λ ks. head_of (flat_map f (inner_standings (Some (object_of n)) (map object_of ks) (trees_of (map tree_of ks))))) same
    ∙ sym (ap head_of (within f n p s) ∙ head_later
    (f (record { own = object_of n; parent = p; siblings = s; children = inside (tree_of n) })) _ none)

-- what is told of the object itself is told of all
pub own_told : (f : Standing → List Broken) (n : nodes.Node) (p : Option Object) (s : List Object) (e : code.Broken) →
    Tells (Err e) (head_of (f (record { own = object_of n; parent = p; siblings = s; children = inside (tree_of n) })))
    → Tells (Err e) (head_of (flat_map f (standings p s (tree_of n))))
own_told f n p s e h =
    told_of_all e (f (record { own = object_of n; parent = p; siblings = s; children = inside (tree_of n) }))
    (flat_map f (inner_standings (Some (object_of n)) (map object_of (out-Node n).children.items)
    (trees_of (map tree_of (out-Node n).children.items))))
    (head_of (flat_map f (standings p s (tree_of n)))) (sym (ap head_of (within f n p s))) h

-- what is told of a child is told of all
pub child_told : (f : Standing → List Broken) (p : Option Object) (s : List Object) (kids : List nodes.Node) (i : ℕ) (kid : nodes.Node)
    (all : Option Broken) (e : code.Broken) →
    i < length kids → kid ≡ get_or kids i kid →
    head_of (flat_map f (inner_standings p s (trees_of (map tree_of (drop i kids))))) ≡ all
    → Tells (Err e) (head_of (flat_map f (standings p s (tree_of kid)))) → Tells (Err e) all
child_told f p s kids i kid all e inside at before h =
    told_of_all e (flat_map f (standings p s (tree_of kid))) (flat_map f (inner_standings p s (trees_of (map tree_of (drop (i + 1) kids))))) all
    (sym (ap (λ ks. head_of (flat_map f (inner_standings p s (trees_of (map tree_of ks))))) (drop_step kids i kid inside at)
    ∙ ap head_of (flat_map-append f (standings p s (tree_of kid)) (inner_standings p s (trees_of (map tree_of (drop (i + 1) kids))))))
    ∙ before) h
