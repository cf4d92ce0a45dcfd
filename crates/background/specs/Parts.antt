-- What is told of each object before the rules of the hard part, object by object: of objects by themselves, and of what they require.
-- The parts are the lists of misfits, in their order.
use Rattle.std.specs.Prelude.{Bool, not, ◌&&◌, ◌||◌, List, filter_map, find, Option, None, option_map, if◌then◌else◌}
use Rattle.std.specs.List.{list_any}
use Rattle.seq_tree.specs.Names.{Name}
use Rattle.seq_tree.specs.declared.tree.OpName.{OpName}
use Rattle.ods_tree.specs.Designs.{Object, Design}
use Rattle.ods_tree.specs.Walk.{Standing, is_terminal, only_if}
use Rattle.ods_tree.specs.declared.design.Constraint.{Constraint}
use Rattle.design_rules.specs.Bodies.{is_active}
use Rattle.design_rules.specs.Clashes.{is_aser}
use Rattle.design_rules.specs.Lookups.{has_thread, operation_named}
use Rattle.background_designs.specs.Clients.{is_hser, is_client, is_server}
use Rattle.background_designs.specs.Misfits.{Misfit, A1, A2, A3, A4, A5, is_such, is_misfit, is_slow}
use Rattle.background.specs.declared.misfits.Part.{Part}
use Rattle.background.specs.declared.misfits.Part.TheVariants.{Shape, Service, Deadline}
use Rattle.background.specs.declared.misfits.Callers.{Callers}
use Rattle.background.specs.declared.misfits.Callers.TheVariants.{Wait, GoOn}

-- whether an object isn't active and provides an operation whose callers wait
abbrev pub serves : Object → Bool
serves o = not (is_active o.kind) && list_any (λ p. is_hser p.constraint) o.provides

-- whether an object has no children, and a thread with the deadline of clients
abbrev pub is_slow_thread : Standing → Bool
is_slow_thread s = is_terminal s && (has_thread s.own.kind && is_slow s.own)

-- whether an object by itself is wrong in a part
abbrev pub breaks : Part → Standing → Bool
breaks Shape s = is_terminal s && is_misfit s
breaks Service s = serves s.own
breaks Deadline s = is_slow_thread s

-- what is told of an object that is
abbrev pub told_by : Part → Name → Misfit
told_by Shape object = A1 object
told_by Service object = A3 object
told_by Deadline object = A5 object

-- what is told of objects by themselves
abbrev pub bad_objects : Part → List Standing → List Misfit
bad_objects part ss = filter_map (λ s. only_if (breaks part s) (told_by part s.own.name)) ss

-- whether the callers of an operation of a constraint do so
abbrev pub do_so : Callers → Option Constraint → Bool
do_so Wait constraint = is_hser constraint
do_so GoOn constraint = is_aser constraint

-- the first required operation whose callers do so
abbrev pub first_need : Callers → Design → List OpName → Option OpName
first_need callers x needs = find (λ n. is_such (do_so callers) (operation_named x n)) needs

-- whether an object may not require such operations: those whose callers wait where it isn't active, and requests where it is a client or a server
abbrev pub may_not : Callers → Standing → Bool
may_not Wait s = not (is_active s.own.kind)
may_not GoOn s = is_terminal s && (is_client s.own || is_server s.own)

-- what is told of an operation that an object requires and may not
abbrev pub told_need : Callers → Name → OpName → Misfit
told_need Wait object target = A2 object target
told_need GoOn object target = A4 object target

-- what is told of what an object requires, where something is
abbrev pub need_fault : Callers → Design → Standing → Option Misfit
need_fault callers x s = if may_not callers s then option_map (told_need callers s.own.name) (first_need callers x s.own.needs) else None

-- what is told of what objects require
abbrev pub bad_needs : Callers → Design → List Standing → List Misfit
bad_needs callers x ss = filter_map (need_fault callers x) ss
