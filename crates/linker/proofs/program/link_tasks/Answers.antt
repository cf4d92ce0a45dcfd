use Rattle.std.proofs.Common.{◌≡◌, rules, [], ◌∷◌, map, ap, subst, ◌+◌}
use Rattle.ada_tree.specs.Trees.{unit_of}
use Rattle.linker.specs.Parts.{PartsLeft}
use Rattle.linker.specs.Programs.{task_part}
use Rattle.linker.specs.Standing.{lists_of}
use Rattle.linker.specs.declared.code.Ins.TheVariants as ins
use Rattle.linker.proofs.Parting.{parts_all}
use Rattle.linker.proofs.LinkSteps.{empty_of}
use Rattle.linker.proofs.program.link_tasks.Goals as goal
use Rattle.machine.specs.Systems.{threads_from}

pub units-init : goal.units-init
units-init g c = λ durations. (
  0,
  rw c.new-starts.ensures.items (parts_all (g.C.Calls.leads c.args.calls.now) ins.Finish (lists_of c.args.code.now)
      (map task_part (threads_from durations 0 (map unit_of c.args.units.now)))),
)

pub units-preserved : goal.units-preserved
units-preserved g c = λ durations.
    let r = c.units.invariant durations in
    let here : c.units.left.now ≡ c.in-Some.unit.now ∷ c.in-Some.rest.now = search rules in
    let whole = map task_part (threads_from durations 0 (map unit_of c.args.units.now)) in (
      r.0 + 1,
      c.in_ok-link_unit.ensures (lists_of c.args.code.now) whole durations r.0 (map unit_of c.in-Some.rest.now)
          (subst (λ us. PartsLeft (g.C.Calls.leads c.args.calls.now) ins.Finish (lists_of c.args.code.now) (lists_of c.units.code) whole
          (map task_part (threads_from durations r.0 us)) c.units.starts.items) (ap (map unit_of) here) r.1),
    )

pub returns : goal.returns
returns g c = λ durations.
    let r = c.units.invariant durations in
    let none : c.units.left.now ≡ [] = empty_of c.units.left.now (search rules) in
    subst (λ us. PartsLeft (g.C.Calls.leads c.args.calls.now) ins.Finish (lists_of c.args.code.now) (lists_of c.units.code)
    (map task_part (threads_from durations 0 (map unit_of c.args.units.now))) (map task_part (threads_from durations r.0 us)) c.units.starts.items)
    (ap (map unit_of) none) r.1
