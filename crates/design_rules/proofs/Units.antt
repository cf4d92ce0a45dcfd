-- Examples of designs of version 2: their ticks, their priorities and their units.
use Rattle.std.specs.Prelude.{◌≡◌, true, false, [], ◌∷◌, ◌++◌, map, Option, Some, None, codes, refl}
use Rattle.std.specs.List.{list_any}
use Rattle.std.proofs.Common.{lit≤, not-suc-le-zero, inl, inr}
use Rattle.seq_tree.specs.Names.{Name, same_name}
use Rattle.seq_tree.specs.Calls.{same_op}
use Rattle.seq_tree.specs.declared.tree.OpName.{OpName}
use Rattle.seq_tree.proofs.Shared.Rounds.{ring-both, OneOf, from-chosen}
use Rattle.seq_tree.specs.Statements.{Work}
use Rattle.ods_tree.specs.Designs.{Design}
use Rattle.ods_tree.specs.Ticks.{in_ticks}
use Rattle.ods_tree.specs.Walk.{terminals}
use Rattle.ods_tree.specs.declared.design.AttrKey.TheVariants.{Period, Deadline, ThreadBudget}
use Rattle.ods_tree.specs.declared.design.TickUnit.TheVariants.{Us, Ms, S}
use Rattle.ods_tree.specs.declared.design.VersionTwo.{VersionTwo}
use Rattle.ods_tree.proofs.Shared.Short.{attr, cyc, cyc_with, group}
use Rattle.ods_tree.proofs.Shared.Versions.{version, timed, design_of_two, millisecond_object}
use Rattle.design_rules.specs.Broken.{V01, V11, V15Threads, V17Tick, V17Priorities, V17}
use Rattle.design_rules.specs.Versions.{version_faults}
use Rattle.design_rules.specs.Clashes.{clashes}
use Rattle.design_rules.specs.Numbers.{bad_numbers}
use Rattle.design_rules.specs.Rings.{operation_calls, CallsOp, IsOnCallRing, CallsObject, IsOnObjectRing, thread_objects, can_start}
use Rattle.design_rules.specs.Rings.{StartsThread, IsOnStartRing}
use Rattle.design_rules.specs.Rules.{Version, Number, IsFirstBroken}
use Rattle.design_rules.specs.Budgets.{thread_limit, bad_sizes}
use Rattle.design_rules.proofs.Shared.Rows.{before_rings, after_rings, first, none_before}
use Rattle.design_rules.proofs.Nested.{Steps, step-between}
use Rattle.ada_tree.specs.Words.{is_ada_name}

abbrev one_in : Option VersionTwo → Design
one_in v = design_of_two v (millisecond_object 5)

-- ten ticks of 500 microseconds
meets : version_faults (one_in (version 500 Us (Some (31, 60)))) ++ (before_rings (in_ticks (one_in (version 500 Us (Some (31, 60)))))
    ++ after_rings (in_ticks (one_in (version 500 Us (Some (31, 60)))))) ≡ []
unfolding is_ada_name
meets = refl

no_whole_number : version_faults (one_in (version 3 Ms None)) ≡ V17 (codes "a") ∷ []
no_whole_number = refl

no_tick : first (version_faults (one_in (version 0 Us None))) ≡ Some V17Tick
no_tick = refl

long_tick : first (version_faults (one_in (version 1001 S None))) ≡ Some V17Tick
long_tick = refl

longest_tick : version_faults (design_of_two (version 1000 S None) (cyc (codes "a") 10 10 (Work 3 ∷ []))) ≡ []
longest_tick = refl

too_many_ticks : version_faults (design_of_two (version 1 Us None) (cyc_with (codes "a") (timed Period 4294967295 S ∷ []) [] (Work 3 ∷ [])))
    ≡ V17 (codes "a") ∷ []
too_many_ticks = refl

as_many_as_can_be : version_faults (design_of_two (version 1 Us None) (cyc_with (codes "a") (timed Period 4294967295 Us ∷ []) [] (Work 3 ∷ []))) ≡ []
as_many_as_can_be = refl

priorities_too_great : version_faults (one_in (version 500 Us (Some (5, 61)))) ≡ V17Priorities ∷ []
priorities_too_great = refl

priorities_fall : version_faults (one_in (version 500 Us (Some (5, 4)))) ≡ V17Priorities ∷ []
priorities_fall = refl

one_priority : version_faults (one_in (version 500 Us (Some (60, 60)))) ≡ []
one_priority = refl

no_priority : version_faults (one_in (version 500 Us (Some (0, 4)))) ≡ V17Priorities ∷ []
no_priority = refl

-- all at once, in order
all_faults : version_faults (one_in (version 0 Ms (Some (2, 1)))) ≡ V17Tick ∷ V17Priorities ∷ V17 (codes "a") ∷ []
all_faults = refl

-- three threads with two priorities
abbrev three : Option VersionTwo → Design
three v = design_of_two v (group (codes "r") (cyc (codes "a") 7 7 (Work 2 ∷ []) ∷ cyc (codes "b") 12 12 (Work 2 ∷ [])
    ∷ cyc (codes "c") 20 20 (Work 4 ∷ []) ∷ []))

few_priorities : bad_sizes (three (version 1 Ms (Some (1, 2)))) ≡ V15Threads 3 ∷ []
few_priorities = refl

enough_priorities : bad_sizes (three (version 1 Ms (Some (58, 60)))) ≡ []
enough_priorities = refl

limits : map thread_limit (None ∷ Some (1, 60) ∷ Some (31, 60) ∷ Some (5, 5) ∷ []) ≡ 30 ∷ 30 ∷ 30 ∷ 1 ∷ []
limits = refl

-- the version goes before all other rules
abbrev named_twice : Design
named_twice = record (one_in (version 0 Us None)) { name = codes "a" }

clash_too : clashes (in_ticks named_twice) ≡ V01 (codes "a") ∷ []
clash_too = refl

tick_first : IsFirstBroken named_twice V17Tick
tick_first = record {
  rule = Version;
  place = 0;
  offends = refl;
  none_lower = λ lower other others h o. absurd (not-suc-le-zero h);
  none_earlier = λ earlier others h o. absurd (not-suc-le-zero h);
}

-- all other rules speak of the design in ticks: a period of 1,001 s has too many microseconds
abbrev too_long : Design
too_long = design_of_two (version 1 Us None) (cyc_with (codes "a") (timed Period 1001 S ∷ attr Deadline 10 ∷ attr ThreadBudget 10 ∷ []) []
    (Work 3 ∷ []))

as_it_is_written : bad_numbers too_long ≡ []
as_it_is_written = refl

number_in_ticks : IsFirstBroken too_long (V11 (Some (codes "a")))
unfolding is_ada_name
number_in_ticks = record {
  rule = Number;
  place = 0;
  offends = refl;
  none_lower = none_before 13 too_long (in_ticks too_long) (lit≤ tt) refl refl (λ op h r. calls op r) (λ name h r. objects' name r) (λ name h r.
      starts name r) (λ h. refl);
  none_earlier = λ earlier others h o. absurd (not-suc-le-zero h);
}
  where
    calls : (op : OpName) → IsOnCallRing (in_ticks too_long) op → ⊥
    calls op r = (ring-both (CallsOp (in_ticks too_long)) (λ o. ⊥) (λ o. ⊥) step op r).0
      where
        by : (from : OpName) (to : OpName) → OneOf (λ s. (same_name s.own.name from.object ≡ true)
            × (list_any (same_op to) (operation_calls (in_ticks too_long) s.own from.op) ≡ true)) (terminals (in_ticks too_long)) → ⊥
        by from to (inl k) = (let z : false ≡ true = k.1 in cc)
        by from to (inr k) = k

        step : (from to : OpName) → CallsOp (in_ticks too_long) from to → ⊥ × ⊥
        step from to h = absurd (by from to (from-chosen (same_op to) (λ s. operation_calls (in_ticks too_long) s.own from.op)
            (λ s. same_name s.own.name from.object) (terminals (in_ticks too_long)) h))

    objects' : (name : Name) → IsOnObjectRing (in_ticks too_long) name → ⊥
    objects' name r = (ring-both (CallsObject (in_ticks too_long)) (λ o. ⊥) (λ o. ⊥) (λ from to h. cc) name r).0

    starts : (name : Name) → IsOnStartRing (in_ticks too_long) name → ⊥
    starts name r = (ring-both (StartsThread (in_ticks too_long)) (λ o. ⊥) (λ o. ⊥)
        (λ from to h. absurd (by from to (step-between (λ o. o.name) (can_start (in_ticks too_long))
        (thread_objects (in_ticks too_long)) from to h))) name r).0
      where
        by : (from to : Name) → Steps (λ o. o.name) (can_start (in_ticks too_long)) (thread_objects (in_ticks too_long)) from to → ⊥
        by from to (inl (f, inl (g, l))) = (let z : false ≡ true = l in cc)
        by from to (inl (f, inr k)) = k
        by from to (inr k) = k
