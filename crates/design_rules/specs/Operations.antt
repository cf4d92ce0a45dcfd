-- Which operations an object may provide.
-- The constraints are those of HRT-HOOD (Burns and Wellings 1995); the table is this project's own.
use Rattle.std.specs.Prelude.{Bool, true, false, not, ◌&&◌, ◌||◌, ◌==◌, List, length, filter_map, nat_le, Option, Some, None}
use Rattle.std.specs.List.{list_any}
use Rattle.seq_tree.specs.Operations.{is_out}
use Rattle.ods_tree.specs.Designs.{Provided, Object, Design}
use Rattle.ods_tree.specs.Walk.{Standing, objects, is_terminal}
use Rattle.ods_tree.specs.declared.design.Kind.{Kind}
use Rattle.ods_tree.specs.declared.design.Kind.TheVariants.{Passive, Active, Protected, Cyclic, Sporadic}
use Rattle.ods_tree.specs.declared.design.Constraint.{Constraint}
use Rattle.ods_tree.specs.declared.design.Constraint.TheVariants.{Aser, Pser, Paer}
use Rattle.ods_tree.specs.Walk.{only_if}
use Rattle.design_rules.specs.Broken.{Broken, V04}

-- whether a terminal object of a kind may provide an operation of a constraint
abbrev pub may_provide : Kind → Option Constraint → Bool
may_provide Active c = true
may_provide Passive None = true
may_provide Protected (Some Pser) = true
may_provide Protected (Some Paer) = true
may_provide Sporadic (Some Aser) = true
may_provide _ _ = false

-- whether an object with children may
abbrev pub may_pass_on : Kind → Option Constraint → Bool
may_pass_on Active c = true
may_pass_on Passive None = true
may_pass_on Protected None = true
may_pass_on Protected (Some Pser) = true
may_pass_on Protected (Some Paer) = true
may_pass_on Sporadic None = true
may_pass_on Sporadic (Some Aser) = true
may_pass_on Sporadic (Some Pser) = true
may_pass_on Sporadic (Some Paer) = true
may_pass_on Cyclic None = true
may_pass_on Cyclic (Some Aser) = true
may_pass_on Cyclic (Some Pser) = true
may_pass_on Cyclic (Some Paer) = true
may_pass_on _ _ = false

-- whether a terminal object has as many operations as its kind asks, and no more parameters
abbrev pub has_request : Kind → List Provided → Bool
has_request Sporadic ps = length ps == 1 && not (list_any (λ p. not (nat_le (length p.sig.params) 1)) ps)
has_request _ ps = true

-- whether a caller of a constraint doesn't wait for values
abbrev pub is_one_way : Option Constraint → Bool
is_one_way (Some Aser) = true
is_one_way (Some Paer) = true
is_one_way _ = false

-- whether an operation hands out values to a caller that doesn't wait for them
abbrev pub hands_out : Provided → Bool
hands_out p = is_one_way p.constraint && list_any (λ q. is_out q.mode) p.sig.params

-- whether the operations of a terminal object, or of one with children, break the table
abbrev pub breaks_table : Bool → Object → Bool
breaks_table true o = list_any (λ p. not (may_provide o.kind p.constraint)) o.provides || not (has_request o.kind o.provides)
breaks_table false o = list_any (λ p. not (may_pass_on o.kind p.constraint)) o.provides

-- whether an object breaks the rule
abbrev pub breaks_operations : Standing → Bool
breaks_operations s = breaks_table (is_terminal s) s.own || list_any hands_out s.own.provides

-- the objects that break the rule
abbrev pub bad_operations : Design → List Broken
bad_operations x = filter_map (λ s. only_if (breaks_operations s) (V04 s.own.name)) (objects x)
