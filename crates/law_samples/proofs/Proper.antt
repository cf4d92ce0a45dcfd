-- The designs of the samples are proper: each name can be written, and objects nest three deep.
use Rattle.std.proofs.Common.{◌≡◌, ℕ, ◌+◌, ◌-◌, ◌*◌, ◌/◌, ◌≤◌, Bool, true, false, List, [], ◌∷◌, map, min, refl, arith, inl, inr, lit≤}
use Rattle.std.specs.Prelude.{Some, None, if◌then◌else◌}
use Rattle.std.specs.List.{list_all}
use Rattle.seq_tree.specs.Lists.{Each}
use Rattle.seq_tree.specs.Proper.{Limits, within_limits}
use Rattle.ods_tree.specs.Designs.{Tree}
use Rattle.ods_tree.specs.Proper.{IsProperAttribute, IsProperProvided, IsProperOpName, IsProperThread, IsProperTree, AreProperTrees, IsProperDesign}
use Rattle.ods_tree.specs.Trees.{trees_of}
use Rattle.ods_tree.specs.Words.{is_design_name}
use Rattle.sample_design.specs.Samples.{from_on, board, step, needed, block, is_sporadic, sporadic_attrs, cyclic_attrs, thread_time}
use Rattle.sample_design.specs.Samples.{thread_attrs, go, thread_provides, thread, thread_name, group, group_name, groups, members}
use Rattle.sample_design.specs.Samples.{sample_design}
use Rattle.law_samples.proofs.Numbers.{checked, each-between}

abbrev limits : Limits
limits = within_limits is_design_name

threads_named : list_all (λ k. is_design_name (thread_name k)) (from_on 1 30) ≡ true
unfolding is_design_name
threads_named = refl

groups_named : list_all (λ g. is_design_name (group_name g)) (from_on 1 30) ≡ true
unfolding is_design_name
groups_named = refl

needs-proper : Each (IsProperOpName limits) needed
unfolding is_design_name
needs-proper = search parts 40

block-proper : IsProperThread limits 3 (Some block)
unfolding is_design_name
block-proper = search parts 40

board-proper : IsProperTree limits None 1 board
unfolding is_design_name
board-proper = search (inl, inr, lit≤) parts 60

step-proper : IsProperTree limits None 1 step
unfolding is_design_name
step-proper = search (inl, inr, lit≤) parts 60

x-named : is_design_name (120 ∷ []) ≡ true
unfolding is_design_name
x-named = refl

plant-named : is_design_name (112 ∷ 108 ∷ 97 ∷ 110 ∷ 116 ∷ []) ≡ true
unfolding is_design_name
plant-named = refl

sample-named : is_design_name (115 ∷ 97 ∷ 109 ∷ 112 ∷ 108 ∷ 101 ∷ []) ≡ true
unfolding is_design_name
sample-named = refl

go-proper : IsProperProvided limits go
unfolding is_design_name
go-proper = search parts 40

attrs-proper : (n k : ℕ) → Each (IsProperAttribute None) (thread_attrs n k)
attrs-proper n k = by (is_sporadic k)
  where
    by : (b : Bool) → Each (IsProperAttribute None) (if b then sporadic_attrs (thread_time n k) k else cyclic_attrs (thread_time n k))
    by true = (refl, (refl, (refl, (refl, tt))))
    by false = (refl, (refl, (refl, tt)))

provides-proper : (k : ℕ) → Each (IsProperProvided limits) (thread_provides k)
provides-proper k = by (is_sporadic k)
  where
    by : (b : Bool) → Each (IsProperProvided limits) (if b then go ∷ [] else [])
    by true = (go-proper, tt)
    by false = tt

thread-proper : (n k : ℕ) → 1 ≤ k → k ≤ 30 → IsProperTree limits None 2 (thread n k)
thread-proper n k low high = (
  record {
    nests = refl;
    name = checked (λ k. is_design_name (thread_name k)) 1 30 k threads_named low (omega (arith, high));
    attrs = attrs-proper n k;
    provides = provides-proper k;
    needs = needs-proper;
    vars = (x-named, tt);
    bodies = tt;
    thread = block-proper;
    links = tt;
  },
  tt,
)

each_tree : (tree : ℕ → Tree) (d : ℕ) (ks : List ℕ) → Each (λ k. IsProperTree limits None d (tree k)) ks
    → AreProperTrees limits None d (trees_of (map tree ks))
each_tree tree d [] h = tt
each_tree tree d (k ∷ ks) h = (h.0, each_tree tree d ks h.1)

group-proper : (n g : ℕ) → n ≤ 30 → 1 ≤ g → g ≤ 30 → IsProperTree limits None 1 (group n g)
group-proper n g within low high = (
  record {
    nests = refl;
    name = checked (λ g. is_design_name (group_name g)) 1 30 g groups_named low (omega (arith, high));
    attrs = tt;
    provides = tt;
    needs = needs-proper;
    vars = tt;
    bodies = tt;
    thread = tt;
    links = tt;
  },
  each_tree (thread n) 2 (members n g)
      (each-between (λ k. IsProperTree limits None 2 (thread n k)) (5 * (g - 1) + 1) (min (5 * g + 1) (n + 1))
      (λ k first last. thread-proper n k (omega (arith, first)) (omega (arith, last, within)))),
)

pub sample-proper : (n : ℕ) → n ≤ 30 → IsProperDesign limits (sample_design n)
sample-proper n within = (
  sample-named,
  (
    record {
      nests = refl;
      name = plant-named;
      attrs = tt;
      provides = tt;
      needs = tt;
      vars = tt;
      bodies = tt;
      thread = tt;
      links = tt;
    },
    (
      board-proper,
      (
        step-proper,
        each_tree (group n) 1 (groups n)
            (each-between (λ g. IsProperTree limits None 1 (group n g)) 1 ((n + 4) / 5 + 1)
            (λ g first last. group-proper n g within first (omega (arith, last, within)))),
      ),
    ),
  ),
)
