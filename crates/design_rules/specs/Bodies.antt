-- Active objects without children, and the faults of bodies; a call must be one that the object requires.
-- Visibility is that of HRT-HOOD's REQUIRES (Burns and Wellings 1995).
use Rattle.std.specs.Prelude.{Bool, true, false, List, [], ◌++◌, map, filter_map, flat_map, Option, Some, None, option_map, option_to_list}
use Rattle.seq_tree.specs.Statements.{Statements}
use Rattle.seq_tree.specs.Operations.{Offer, Signature, out_names}
use Rattle.seq_tree.specs.Faults.{Scope, block_fault}
use Rattle.seq_tree.specs.declared.tree.Param.{Param}
use Rattle.seq_tree.specs.declared.tree.Datum.{Datum}
use Rattle.ods_tree.specs.Designs.{Provided, Body, Object, Design}
use Rattle.ods_tree.specs.Walk.{objects, terminals}
use Rattle.ods_tree.specs.Flattening.{request_op}
use Rattle.ods_tree.specs.declared.design.Kind.{Kind}
use Rattle.ods_tree.specs.declared.design.Kind.TheVariants.{Active, Sporadic}
use Rattle.ods_tree.specs.Walk.{only_if}
use Rattle.design_rules.specs.Broken.{Broken, V12, V13}
use Rattle.design_rules.specs.Lookups.{provided_named, operation_named}

-- whether a kind is active
abbrev pub is_active : Kind → Bool
is_active Active = true
is_active _ = false

-- the active objects without children
abbrev pub idle_actives : Design → List Broken
idle_actives x = filter_map (λ s. only_if (is_active s.own.kind) (V12 s.own.name)) (terminals x)

-- the operations that an object requires
abbrev pub offers : Design → Object → List Offer
offers x o = filter_map (λ n. option_map (λ p. record { object = n.object; sig = p.sig }) (operation_named x n)) o.needs

-- what is known in a body with these parameters and locals
abbrev pub scope : Design → Object → List Param → List Datum → Scope
scope x o params locals = record {
  reads = map (λ d. d.name) o.vars ++ (map (λ q. q.name) params ++ map (λ d. d.name) locals);
  writes = map (λ d. d.name) o.vars ++ (out_names params ++ map (λ d. d.name) locals);
  calls = offers x o;
  in_loop = false;
}

-- the parameters of an operation, where it is there
abbrev pub params_by : Option Provided → List Param
params_by None = []
params_by (Some p) = p.sig.params

-- the fault of a body, where it has one
abbrev pub body_fault : Design → Object → Body → Option Broken
body_fault x o b =
    option_map (V13 o.name (Some b.name)) (block_fault (scope x o (params_by (provided_named b.name o.provides)) b.locals) b.block)

-- the parameter of a request
abbrev pub request_params : Kind → Option Signature → List Param
request_params Sporadic (Some sig) = sig.params
request_params _ sig = []

-- the fault of a thread, where it has one; its parameter is that of its request
abbrev pub thread_fault : Design → Object → Statements → Option Broken
thread_fault x o b = option_map (V13 o.name None) (block_fault (scope x o (request_params o.kind (request_op o.provides)) []) b)

-- the faults of all bodies, in order of writing
abbrev pub bad_bodies : Design → List Broken
bad_bodies x =
    flat_map (λ s. filter_map (body_fault x s.own) s.own.bodies ++ filter_map (thread_fault x s.own) (option_to_list s.own.thread)) (objects x)
