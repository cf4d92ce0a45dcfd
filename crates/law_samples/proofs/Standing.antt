-- The objects of a sample in flattened order, and those of them that run: the board, the step and the threads, group by group.
use Rattle.std.proofs.Common.{◌≡◌, ℕ, ◌+◌, ◌-◌, ◌*◌, ◌/◌, ◌<◌, ◌≤◌, false, List, [], ◌∷◌, ◌++◌, map, filter, flat_map, min, refl, sym, ap, ◌∙◌}
use Rattle.std.proofs.Common.{subst, arith}
use Rattle.std.specs.Prelude.{Some, None}
use Rattle.seq_tree.specs.Lists.{Each}
use Rattle.ods_tree.specs.Designs.{Object, Tree, Node}
use Rattle.ods_tree.specs.Trees.{trees_of}
use Rattle.std.proofs.lemmas.List.Elements.{filter-append}
use Rattle.ods_tree.specs.Walk.{Standing, own_of, roots, inner_standings, objects, terminals, is_empty, is_terminal}
use Rattle.sample_design.specs.Samples.{board, step, thread, group, groups, members, plant, sample_design}
use Rattle.sample_design.proofs.Shared.NumberSteps.{from_to-step}
use Rattle.law_samples.proofs.Numbers.{each-between}
use Rattle.law_samples.proofs.Requests.{each-append}

-- an object among its siblings
abbrev pub standing : Object → List Object → Tree → Standing
standing parent siblings (Node own children) = record { own = own; parent = Some parent; siblings = siblings; children = roots children }

abbrev pub plant_object : ℕ → Object
plant_object n = own_of (plant n)

abbrev pub plant_children : ℕ → List Object
plant_children n = roots (trees_of (board ∷ step ∷ map (group n) (groups n)))

abbrev pub group_object : ℕ → ℕ → Object
group_object n g = own_of (group n g)

abbrev pub group_children : ℕ → ℕ → List Object
group_children n g = roots (trees_of (map (thread n) (members n g)))

-- the threads of a group, as they stand
abbrev pub thread_standings : ℕ → ℕ → List Standing
thread_standings n g = map (λ k. standing (group_object n g) (group_children n g) (thread n k)) (members n g)

-- a group and its threads
abbrev pub group_standings : ℕ → ℕ → List Standing
group_standings n g = standing (plant_object n) (plant_children n) (group n g) ∷ thread_standings n g

threads-stand : (n : ℕ) (parent : Object) (siblings : List Object) (ks : List ℕ)
    → inner_standings (Some parent) siblings (trees_of (map (thread n) ks)) ≡ map (λ k. standing parent siblings (thread n k)) ks
threads-stand n parent siblings [] = refl
threads-stand n parent siblings (k ∷ ks) = ap (λ ss. standing parent siblings (thread n k) ∷ ss) (threads-stand n parent siblings ks)

groups-stand : (n : ℕ) (gs : List ℕ) → inner_standings (Some (plant_object n)) (plant_children n) (trees_of (map (group n) gs))
    ≡ flat_map (group_standings n) gs
groups-stand n [] = refl
groups-stand n (g ∷ gs) =
    ap (λ ss. (standing (plant_object n) (plant_children n) (group n g) ∷ ss) ++ inner_standings (Some (plant_object n)) (plant_children n)
    (trees_of (map (group n) gs)))
    (threads-stand n (group_object n g) (group_children n g) (members n g))
    ∙ ap (λ ss. group_standings n g ++ ss) (groups-stand n gs)

-- the plant, as it stands
abbrev pub plant_standing : ℕ → Standing
plant_standing n = record { own = plant_object n; parent = None; siblings = plant_object n ∷ []; children = plant_children n }

-- the fixed objects
abbrev pub fixed_standings : ℕ → List Standing
fixed_standings n = standing (plant_object n) (plant_children n) board ∷ standing (plant_object n) (plant_children n) step ∷ []

pub objects-stand : (n : ℕ) → objects (sample_design n) ≡ plant_standing n ∷ (fixed_standings n ++ flat_map (group_standings n) (groups n))
objects-stand n = ap (λ ss. plant_standing n ∷ (fixed_standings n ++ ss)) (groups-stand n (groups n))

-- THOSE THAT RUN
threads-run : (n : ℕ) (parent : Object) (siblings : List Object) (ks : List ℕ)
    → filter is_terminal (map (λ k. standing parent siblings (thread n k)) ks) ≡ map (λ k. standing parent siblings (thread n k)) ks
threads-run n parent siblings [] = refl
threads-run n parent siblings (k ∷ ks) = ap (λ ss. standing parent siblings (thread n k) ∷ ss) (threads-run n parent siblings ks)

has_members : (n g : ℕ) → 1 ≤ g → g < (n + 4) / 5 + 1 → is_empty (group_children n g) ≡ false
has_members n g low high =
    let some : 5 * (g - 1) + 1 < min (5 * g + 1) (n + 1) = omega (arith, low, high) in
    subst (λ ks. is_empty (roots (trees_of (map (thread n) ks))) ≡ false) (sym (from_to-step (5 * (g - 1) + 1) (min (5 * g + 1) (n + 1)) some)) refl

group-runs : (n g : ℕ) → is_empty (group_children n g) ≡ false → filter is_terminal (group_standings n g) ≡ thread_standings n g
group-runs n g some = rw some (threads-run n (group_object n g) (group_children n g) (members n g))

groups-run : (n : ℕ) (gs : List ℕ) → Each (λ g. is_empty (group_children n g) ≡ false) gs
    → filter is_terminal (flat_map (group_standings n) gs) ≡ flat_map (thread_standings n) gs
groups-run n [] some = refl
groups-run n (g ∷ gs) some =
    filter-append is_terminal (group_standings n g) (flat_map (group_standings n) gs)
    ∙ ap (λ ss. ss ++ filter is_terminal (flat_map (group_standings n) gs)) (group-runs n g some.0)
    ∙ ap (λ ss. thread_standings n g ++ ss) (groups-run n gs some.1)

pub terminals-stand : (n : ℕ) → terminals (sample_design n) ≡ fixed_standings n ++ flat_map (thread_standings n) (groups n)
terminals-stand n =
    ap (filter is_terminal) (objects-stand n)
    ∙ ap (λ ss. fixed_standings n ++ ss)
    (groups-run n (groups n) (each-between (λ g. is_empty (group_children n g) ≡ false) 1 ((n + 4) / 5 + 1) (has_members n)))

-- a fact of each
each-map : {A B : Type 0} (P : B → Type 0) (f : A → B) (xs : List A) → ((x : A) → P (f x)) → Each P (map f xs)
each-map P f [] h = tt
each-map P f (x ∷ xs) h = (h x, each-map P f xs h)

each-flat : {A B : Type 0} (P : B → Type 0) (f : A → List B) (xs : List A) → ((x : A) → Each P (f x)) → Each P (flat_map f xs)
each-flat P f [] h = tt
each-flat P f (x ∷ xs) h = each-append P (f x) (flat_map f xs) (h x) (each-flat P f xs h)

pub each-thread : (P : Standing → Type 0) (n : ℕ) → ((g k : ℕ) → P (standing (group_object n g) (group_children n g) (thread n k)))
    → Each P (flat_map (thread_standings n) (groups n))
each-thread P n threads =
    each-flat P (thread_standings n) (groups n) (λ g. each-map P (λ k. standing (group_object n g) (group_children n g) (thread n k)) (members n g)
    (threads g))

pub each-terminal : (P : Standing → Type 0) (n : ℕ) → Each P (fixed_standings n)
    → ((g k : ℕ) → P (standing (group_object n g) (group_children n g) (thread n k)))
    → Each P (terminals (sample_design n))
each-terminal P n fixed threads =
    subst (Each P) (sym (terminals-stand n)) (each-append P (fixed_standings n) (flat_map (thread_standings n) (groups n)) fixed
    (each-thread P n threads))
