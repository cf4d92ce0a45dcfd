-- Examples: views forget capacities alone. What a value of the code holds is what its tree holds.
use Rattle.std.specs.Prelude.{◌≡◌, Some, refl}
use Rattle.seq_tree.specs.Trees.{signature_of, operation_of}
use Rattle.seq_tree.specs.declared.tree.OpSig.{OpSig}
use Rattle.seq_tree.specs.declared.tree.OpText.{OpText}
use Rattle.ods_tree.specs.Designs.{Tree}
use Rattle.ods_tree.specs.Flats.{Cyclic, Sporadic}
use Rattle.ods_tree.specs.Trees.{provided_of, body_of, node_layer, design_of, timing_of, guarded_of, thread_of, flat_of}
use Rattle.ods_tree.specs.Walk.{own_of}
use Rattle.ods_tree.specs.declared.design.Provided as provided
use Rattle.ods_tree.specs.declared.design.OpBody.{OpBody}
use Rattle.ods_tree.specs.declared.design.Node.TheOpen.{Node-F}
use Rattle.ods_tree.specs.declared.design.Design as designs
use Rattle.ods_tree.specs.declared.flat.Timing.TheVariants as timing
use Rattle.ods_tree.specs.declared.flat.FlatShared.{FlatShared}
use Rattle.ods_tree.specs.declared.flat.FlatThread.{FlatThread}
use Rattle.ods_tree.specs.declared.flat.Flat as flats

params_kept : (s : OpSig) → (signature_of s).params ≡ s.params.items
params_kept s = refl

locals_kept : (o : OpText) → (operation_of o).locals ≡ o.locals.items
locals_kept o = refl

constraint_kept : (p : provided.Provided) → (provided_of p).constraint ≡ p.constraint
constraint_kept p = refl

body_locals_kept : (b : OpBody) → (body_of b).locals ≡ b.locals.items
body_locals_kept b = refl

kind_kept : (n : Node-F Tree) → (own_of (node_layer n)).kind ≡ n.kind
kind_kept n = refl

attrs_kept : (n : Node-F Tree) → (own_of (node_layer n)).attrs ≡ n.attrs.items
attrs_kept n = refl

needs_kept : (n : Node-F Tree) → (own_of (node_layer n)).needs ≡ n.needs.items
needs_kept n = refl

vars_kept : (n : Node-F Tree) → (own_of (node_layer n)).vars ≡ n.vars.items
vars_kept n = refl

links_kept : (n : Node-F Tree) → (own_of (node_layer n)).links ≡ n.links.items
links_kept n = refl

version_kept : (x : designs.Design) → (design_of x).version ≡ x.version
version_kept x = refl

costs_kept : (x : designs.Design) → (design_of x).costs ≡ x.costs
costs_kept x = refl

cyclic_kept : timing_of (timing.Cyclic 10 2) ≡ Cyclic 10 2
cyclic_kept = refl

sporadic_kept : (op : OpSig) → timing_of (timing.Sporadic op 10 (Some 4)) ≡ Sporadic (signature_of op) 10 (Some 4)
sporadic_kept op = refl

data_kept : (g : FlatShared) → (guarded_of g).vars ≡ g.vars.items
data_kept g = refl

deadline_kept : (t : FlatThread) → (thread_of t).deadline ≡ t.deadline
deadline_kept t = refl

thread_data_kept : (t : FlatThread) → (thread_of t).vars ≡ t.vars.items
thread_data_kept t = refl

flat_costs_kept : (f : flats.Flat) → (flat_of f).costs ≡ f.costs
flat_costs_kept f = refl
