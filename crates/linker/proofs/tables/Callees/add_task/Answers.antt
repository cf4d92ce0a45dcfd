use Rattle.std.proofs.Common.{[], ◌∷◌, map, subst, ◌+◌, refl, sym}
use Rattle.std.specs.Prelude.{if◌then◌else◌}
use Rattle.seq_tree.specs.Names.{same_name}
use Rattle.seq_tree.specs.Trees.{block_of, signature_of}
use Rattle.machine.specs.Systems as to
use Rattle.linker.specs.Callees.{AreEntered, body_of, target_among}
use Rattle.linker.proofs.Units.{as_cyclic, as_sporadic, cyclic_here, request_led, sporadic_here}
use Rattle.linker.proofs.tables.Callees.add_task.Goals as goal
use Rattle.machine.specs.Systems.{threads_from}

pub returns-in_ok-enter-in-Cyclic : goal.returns-in_ok-enter-in-Cyclic
returns-in_ok-enter-in-Cyclic c = λ y durations us i h.
    let u = c.args.unit.now in
    let s = c.in-Cyclic in
    let t = c.enter.new.self in
    subst (λ q. AreEntered y t.units (map body_of t.bodies.items) (target_among 0 [] 0 [] q (threads_from durations (i + 1) us)))
    (sym c.in_ok-next-in-Cyclic.ensures)
    (c.in_ok-enter-in-Cyclic.ensures y (λ op. to.Unknown) _ _ (λ op. refl)
    (cyclic_here u.name s.priority s.offset s.period s.vars.items (block_of s.block) durations c.args.task i us)
    (subst (λ v. AreEntered y c.args.self.now.units (map body_of c.args.self.now.bodies.items)
    (target_among 0 [] 0 [] c.args.task (threads_from durations i (v ∷ us))))
    (as_cyclic u s.priority s.offset s.period s.vars s.block s.is) h))

pub returns-in_ok-enter-in-Sporadic : goal.returns-in_ok-enter-in-Sporadic
returns-in_ok-enter-in-Sporadic c = λ y durations us i h.
    let u = c.args.unit.now in
    let s = c.in-Sporadic in
    let sig = signature_of s.op in
    let k = c.args.task in
    let t = c.enter-in-Sporadic.new.self in
    subst (λ q. AreEntered y t.units (map body_of t.bodies.items) (target_among 0 [] 0 [] q (threads_from durations (i + 1) us)))
    (sym c.in_ok-next-in-Sporadic.ensures)
    (c.in_ok-enter-in-Sporadic.ensures y (λ op. if same_name sig.name op then to.Request k else to.Unknown) _ _
    (λ op. request_led (same_name sig.name op) (map body_of c.args.self.now.bodies.items) k)
    (sporadic_here u.name s.priority s.ceiling sig s.separation s.jitter s.external s.vars.items (block_of s.block) durations k i us)
    (subst (λ v. AreEntered y c.args.self.now.units (map body_of c.args.self.now.bodies.items)
    (target_among 0 [] 0 [] k (threads_from durations i (v ∷ us))))
    (as_sporadic u s.priority s.ceiling s.op s.separation s.jitter s.external s.vars s.block s.is) h))
