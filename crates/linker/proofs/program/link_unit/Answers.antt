use Rattle.std.proofs.Common.{◌∷◌, ◌++◌, map, subst, ◌+◌}
use Rattle.seq_tree.specs.Trees.{block_of}
use Rattle.linker.specs.Parts.{PartsLeft}
use Rattle.linker.specs.Programs.{datum_names, param_names, task_part}
use Rattle.linker.specs.Standing.{lists_of}
use Rattle.linker.specs.declared.code.Ins.TheVariants as ins
use Rattle.linker.proofs.Parting.{parts_on}
use Rattle.linker.proofs.Units.{as_cyclic, as_passive, as_shared, as_sporadic}
use Rattle.linker.proofs.program.link_unit.Goals as goal
use Rattle.machine.specs.Systems.{threads_from}

pub returns-in-Passive : goal.returns-in-Passive
returns-in-Passive g c = λ from whole durations i us h.
    subst (λ v. PartsLeft (g.C.Calls.leads c.args.calls.now) ins.Finish from (lists_of c.args.code.now) whole
    (map task_part (threads_from durations i (v ∷ us))) c.args.starts.now.items) (as_passive c.args.unit.now c.in-Passive.ops c.in-Passive.is) h

pub returns-in-Shared : goal.returns-in-Shared
returns-in-Shared g c = λ from whole durations i us h.
    let s = c.in-Shared in
    subst (λ v. PartsLeft (g.C.Calls.leads c.args.calls.now) ins.Finish from (lists_of c.args.code.now) whole
    (map task_part (threads_from durations i (v ∷ us))) c.args.starts.now.items) (as_shared c.args.unit.now s.ceiling s.vars s.ops s.is) h

pub returns-in_ok-push-in-Cyclic : goal.returns-in_ok-push-in-Cyclic
returns-in_ok-push-in-Cyclic g c = λ from whole durations i us h.
    let leads = g.C.Calls.leads c.args.calls.now in
    let s = c.in-Cyclic in
    parts_on leads ins.Finish from (lists_of c.args.code.now) (lists_of c.link_task.new.code) whole
    (map task_part (threads_from durations (i + 1) us)) (record { names = datum_names s.vars.items; block = block_of s.block })
    c.args.starts.now.items _ c.in_ok-start-in-Cyclic.start
    (subst (λ v. PartsLeft leads ins.Finish from (lists_of c.args.code.now) whole (map task_part (threads_from durations i (v ∷ us)))
    c.args.starts.now.items) (as_cyclic c.args.unit.now s.priority s.offset s.period s.vars s.block s.is) h)
    (rw c.deref.ensures.value at c.in_ok-start-in-Cyclic.ensures) c.in_ok-push-in-Cyclic.ensures.items

pub returns-in_ok-push-in-Sporadic : goal.returns-in_ok-push-in-Sporadic
returns-in_ok-push-in-Sporadic g c = λ from whole durations i us h.
    let leads = g.C.Calls.leads c.args.calls.now in
    let s = c.in-Sporadic in
    parts_on leads ins.Finish from (lists_of c.args.code.now) (lists_of c.link_task-in-Sporadic.new.code) whole
    (map task_part (threads_from durations (i + 1) us))
    (record { names = param_names s.op.params.items ++ datum_names s.vars.items; block = block_of s.block })
    c.args.starts.now.items _ c.in_ok-start-in-Sporadic.start
    (subst (λ v. PartsLeft leads ins.Finish from (lists_of c.args.code.now) whole (map task_part (threads_from durations i (v ∷ us)))
    c.args.starts.now.items)
    (as_sporadic c.args.unit.now s.priority s.ceiling s.op s.separation s.jitter s.external s.vars s.block s.is) h)
    (rw (c.deref-in-Sporadic.ensures.value, c.deref-in-Sporadic-2.ensures.value) at c.in_ok-start-in-Sporadic.ensures)
    c.in_ok-push-in-Sporadic.ensures.items
