use Rattle.std.proofs.Common.{[], ◌∷◌, map, subst, ◌+◌, sym}
use Rattle.seq_tree.specs.Trees.{operation_of}
use Rattle.machine.specs.Systems.{op_named, protected_by, objects_from}
use Rattle.linker.specs.Callees.{AreEntered, body_of, target_among}
use Rattle.linker.proofs.Entering.{protected_led}
use Rattle.linker.proofs.Units.{as_shared, object_here, object_of}
use Rattle.linker.proofs.tables.Callees.add_object.Goals as goal

pub returns-in_ok-enter_ops-in-Shared : goal.returns-in_ok-enter_ops-in-Shared
returns-in_ok-enter_ops-in-Shared c = λ y us i k ts h.
    let u = c.args.unit.now in
    let s = c.in-Shared in
    let os = map operation_of s.ops.items in
    let g = object_of i u.name s.ceiling s.vars.items os in
    let m = c.args.object in
    let t = c.enter_ops.new.self in
    subst (λ q. AreEntered y t.units (map body_of t.bodies.items) (target_among 0 [] q (objects_from (i + 1) us) k ts))
    (sym c.in_ok-next-in-Shared.ensures)
    ((rw (c.deref.ensures.value, c.deref-in-Shared.ensures.value) at c.in_ok-enter_ops-in-Shared.ensures) y
    (λ op. protected_by (m, g) (op_named op os)) _ _ (protected_led m g)
    (object_here u.name s.ceiling s.vars.items os m i k us ts)
    (subst (λ v. AreEntered y c.args.self.now.units (map body_of c.args.self.now.bodies.items) (target_among 0 [] m (objects_from i (v ∷ us)) k ts))
    (as_shared u s.ceiling s.vars s.ops s.is) h))
