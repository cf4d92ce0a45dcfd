-- Whether the parts of an object fit: bodies for operations, a thread where one runs, links to operations of children.
-- Links implement the operations of a parent (Burns and Wellings 1995).
use Rattle.std.specs.Prelude.{ℕ, Bool, true, false, not, ◌&&◌, ◌||◌, ◌==◌, List, [], ◌∷◌, filter, filter_map, length, find, Option, Some, None}
use Rattle.std.specs.Prelude.{option_and_then}
use Rattle.std.specs.List.{list_any}
use Rattle.seq_tree.specs.Names.{Name, same_name}
use Rattle.seq_tree.specs.Operations.{is_out}
use Rattle.seq_tree.specs.declared.tree.Param.{Param}
use Rattle.seq_tree.specs.declared.tree.OpName.{OpName}
use Rattle.ods_tree.specs.Designs.{Provided, Object, Design}
use Rattle.ods_tree.specs.Walk.{Standing, objects, is_terminal, is_empty}
use Rattle.ods_tree.specs.Flattening.{is_passive}
use Rattle.ods_tree.specs.declared.design.Link.{Link}
use Rattle.ods_tree.specs.declared.design.Constraint.{Constraint}
use Rattle.ods_tree.specs.declared.design.Constraint.TheVariants.{Aser, Hser, Pser, Paer}
use Rattle.ods_tree.specs.Walk.{only_if}
use Rattle.design_rules.specs.Broken.{Broken, V05}
use Rattle.design_rules.specs.Lookups.{provided_named, has_thread}
use Rattle.design_rules.specs.Clashes.{is_request, has_block}

-- the number of bodies that an operation must have: none for a sporadic object's request, and else one
abbrev pub wanted_bodies : Object → Provided → ℕ
wanted_bodies o p = wanted (is_request o p)
  where
    wanted : Bool → ℕ
    wanted true = 0
    wanted false = 1

-- the number of bodies that an operation has
abbrev pub body_count : Object → Name → ℕ
body_count o name = length (filter (λ b. same_name b.name name) o.bodies)

-- whether an operation is there
abbrev pub is_provided : Option Provided → Bool
is_provided None = false
is_provided (Some p) = true

-- whether the parts of a terminal object don't fit
abbrev pub misfits_terminal : Object → Bool
misfits_terminal o =
    list_any (λ p. not (body_count o p.sig.name == wanted_bodies o p)) o.provides
    || list_any (λ b. not (is_provided (provided_named b.name o.provides))) o.bodies
    || (has_thread o.kind && not (has_block o.thread)) || (not (has_thread o.kind) && has_block o.thread)
    || (is_passive o.kind && not (is_empty o.vars)) || not (is_empty o.links)

-- a constraint's place, or 0 where there is none
abbrev pub constraint_place : Option Constraint → ℕ
constraint_place None = 0
constraint_place (Some Aser) = 1
constraint_place (Some Hser) = 2
constraint_place (Some Pser) = 3
constraint_place (Some Paer) = 4

-- whether two modes are one
abbrev pub same_mode : Bool → Bool → Bool
same_mode true b = b
same_mode false b = not b

-- whether parameters agree in number, names and modes
abbrev pub same_params : List Param → List Param → Bool
same_params [] [] = true
same_params (p ∷ ps) (q ∷ qs) = same_name p.name q.name && same_mode (is_out p.mode) (is_out q.mode) && same_params ps qs
same_params _ _ = false

-- whether two operations agree
abbrev pub agrees : Option Provided → Option Provided → Bool
agrees (Some p) (Some q) = constraint_place p.constraint == constraint_place q.constraint && same_params p.sig.params q.sig.params
agrees _ _ = false

-- the operation of a child, where it is there
abbrev pub child_operation : List Object → OpName → Option Provided
child_operation children to = option_and_then (λ c. provided_named to.op c.provides) (find (λ c. same_name c.name to.object) children)

-- whether a link stands for an operation of the object by one of a child that agrees
abbrev pub is_link : Standing → Link → Bool
is_link s l = agrees (provided_named l.op s.own.provides) (child_operation s.children l.to)

-- the number of links of an operation
abbrev pub link_count : Object → Name → ℕ
link_count o name = length (filter (λ l. same_name l.op name) o.links)

-- whether the parts of an object with children don't fit
abbrev pub misfits_parent : Standing → Bool
misfits_parent s =
    has_block s.own.thread || not (is_empty s.own.vars) || not (is_empty s.own.bodies)
    || list_any (λ p. not (link_count s.own p.sig.name == 1)) s.own.provides || list_any (λ l. not (is_link s l)) s.own.links

-- whether the parts of an object don't fit
abbrev pub misfits : Bool → Standing → Bool
misfits true s = misfits_terminal s.own
misfits false s = misfits_parent s

-- the objects whose parts don't fit
abbrev pub bad_fittings : Design → List Broken
bad_fittings x = filter_map (λ s. only_if (misfits (is_terminal s) s) (V05 s.own.name)) (objects x)
