-- The sources of a sporadic thread: it is requested from outside or by one thread, at most once on a path of an activation.
-- So the separation of its requests is that of its source.
use Rattle.std.specs.Prelude.{ℕ, zero, suc, ◌+◌, Bool, not, ◌&&◌, ◌||◌, ◌==◌, List, map, filter, filter_map, length, fold, max, min, nat_le}
use Rattle.std.specs.Prelude.{option_to_list, if◌then◌else◌}
use Rattle.seq_tree.specs.Names.{Name, same_name}
use Rattle.seq_tree.specs.Dearest.{counted}
use Rattle.seq_tree.specs.declared.tree.OpName.{OpName}
use Rattle.ods_tree.specs.Designs.{Object, Design}
use Rattle.ods_tree.specs.Attributes.{attribute}
use Rattle.ods_tree.specs.Links.{resolve}
use Rattle.ods_tree.specs.declared.design.AttrKey.TheVariants.{ArrivalJitter}
use Rattle.ods_tree.specs.Walk.{only_if}
use Rattle.design_rules.specs.Broken.{Broken, V10}
use Rattle.design_rules.specs.Lookups.{requires, is_sporadic}
use Rattle.design_rules.specs.Rings.{terminal_ops, protected_objects, thread_objects, can_start}

-- how often a call in an object requests a target: not where it isn't required, once where it means an operation of the target,
-- and else as often as what it means does
abbrev pub start_weight : Design → Name → (OpName → ℕ) → Object → Name → Name → ℕ
start_weight x target inner o object op =
    let name : OpName = record { object = object; op = op } in
    if requires o name then (if same_name (resolve x name).object target then 1 else inner (resolve x name)) else 0

-- how often the bodies of an operation of an object request a target on one path, at most
abbrev pub body_starts : Design → Name → (OpName → ℕ) → Name → Object → ℕ
body_starts x target inner op o =
    fold max 0 (map (λ b. counted (start_weight x target inner o) b.block) (filter (λ b. same_name b.name op) o.bodies))

-- how often the body of a protected operation requests a target on one path, where these call each other at most so deep
abbrev pub starts_within : ℕ → Design → Name → OpName → ℕ
starts_within zero x target name = 0
starts_within (suc depth) x target name =
    fold max 0 (map (body_starts x target (starts_within depth x target) name.op) (filter (λ o. same_name o.name name.object) (protected_objects x)))

-- the greatest number of requests of an object on one path of another's thread, itself or through protected operations
abbrev pub requests_by : Design → Name → Object → ℕ
requests_by x target o =
    fold max 0 (map (counted (start_weight x target (starts_within (length (terminal_ops x)) x target) o)) (option_to_list o.thread))

-- the number of threads that can request an object, and 1 more where it is requested from outside
abbrev pub source_count : Design → Object → ℕ
source_count x o = length (filter (λ f. can_start x f o) (thread_objects x)) + length (option_to_list (attribute ArrivalJitter o))

-- the greatest number of requests of an object on one path, told as 2 where it is more
abbrev pub start_count : Design → Object → ℕ
start_count x o = min 2 (fold max 0 (map (requests_by x o.name) (thread_objects x)))

-- whether the sources of an object are wrong
abbrev pub breaks_sources : Design → Object → Bool
breaks_sources x o = not (source_count x o == 1) || not (nat_le (start_count x o) 1)

-- the sporadic objects whose sources are wrong
abbrev pub bad_sources : Design → List Broken
bad_sources x =
    filter_map (λ o. only_if (is_sporadic o.kind && breaks_sources x o) (V10 o.name (source_count x o) (start_count x o))) (thread_objects x)
