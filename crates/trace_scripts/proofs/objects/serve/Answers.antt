use Rattle.std.proofs.Common.{refl, rules}
use Rattle.trace_tree.specs.Placed.{IsPlaced}
use Rattle.trace_scripts.specs.Objects.{services_of}
use Rattle.trace_scripts.specs.Scenes.{program_in}
use Rattle.trace_scripts.proofs.Passing.{done-states, placed-at, stands-at, step-states}
use Rattle.trace_scripts.proofs.objects.serve.Goals as goal

pub note-requires-clause-placed : goal.note-requires-clause-placed
note-requires-clause-placed c =
    placed-at (IsPlaced (program_in c.args.scene.now)) c.args.events.now c.events.here c.in-Some.event
    (stands-at c.args.events.now c.events.at c.next.new.at c.events.here c.in-Some.event c.in-Some.ensures c.events.invariant.here) c.requires.placed

pub note-requires-clause-at : goal.note-requires-clause-at
note-requires-clause-at c =
    stands-at c.args.events.now c.events.at c.next.new.at c.events.here c.in-Some.event c.in-Some.ensures c.events.invariant.here

pub events-preserved : goal.events-preserved
events-preserved c = record {
  here = refl;
  sized = search rules;
  states = λ depth may. step-states (program_in c.args.scene.now) depth c.args.events.now c.events.at c.next.new.at c.events.here c.in-Some.event
      c.in-Some.ensures c.events.invariant.here (services_of c.events.objects) (services_of c.note.new.self) _
      (c.in_ok-note.ensures.states depth may) (c.events.invariant.states depth may);
}

pub returns-clause-states : goal.returns-clause-states
returns-clause-states c = λ depth may.
    done-states (program_in c.args.scene.now) depth _ (services_of c.events.objects) _ (search rules) (c.events.invariant.states depth may)
