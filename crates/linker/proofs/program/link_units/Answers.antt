use Rattle.std.proofs.Common.{[], map, sym, subst}
use Rattle.ada_tree.specs.Trees.{unit_of}
use Rattle.seq_tree.specs.Names.{Name}
use Rattle.linker.proofs.Shared.Growths.{grows_twice}
use Rattle.linker.specs.Callees.{body_of, lead_by}
use Rattle.linker.specs.Leads.{Leads}
use Rattle.linker.specs.Parts.{EndStands}
use Rattle.linker.specs.Programs.{AllStand, op_part, task_part}
use Rattle.linker.specs.Standing.{lists_of}
use Rattle.linker.specs.declared.code.Ins.TheVariants as ins
use Rattle.name_sets.specs.Tables.{named}
use Rattle.linker.proofs.Parting.{keeps_none, nodes_ordered, parts_done}
use Rattle.linker.proofs.program.link_units.Goals as goal
use Rattle.machine.specs.Systems.{threads_from}

pub returns : goal.returns
returns c =
    let callees = c.in_ok-callees.callees in
    let leads : Name → Name → Leads = λ unit op. lead_by (named callees.units unit) op in
    let zero' = lists_of c.new-code.result in
    let one = lists_of c.link_ops.new.code in
    let two = lists_of c.link_tasks.new.code in
    let bodies = map op_part (map body_of callees.bodies.items) in
    let ops = rw c.bodies.ensures at c.in_ok-starts.ensures in
    let tasks = c.in_ok-tasks.ensures in
    rw c.into_bodies-ops.ensures (record {
      leads = leads;
      calls = c.in_ok-callees.ensures;
      bodies = parts_done leads ins.Return zero' one two bodies c.in_ok-starts.starts.items ops (tasks (λ k. [])).kept;
      tasks = λ y is. subst (λ ts. AllStand (EndStands leads two ins.Finish) (map task_part ts) c.in_ok-tasks.tasks.items) (sym is.threads)
          (parts_done leads ins.Finish one two two (map task_part (threads_from is.durations 0 (map unit_of c.args.units.now)))
          c.in_ok-tasks.tasks.items (tasks is.durations) (keeps_none 0 _ two));
      ordered = nodes_ordered zero' two c.new-code.ensures.nodes
          (grows_twice zero'.nodes one.nodes two.nodes ops.kept.nodes (tasks (λ k. [])).kept.nodes);
    })
