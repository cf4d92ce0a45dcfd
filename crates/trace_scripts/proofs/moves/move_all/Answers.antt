use Rattle.std.proofs.Common.{refl, rules}
use Rattle.trace_tree.specs.Placed.{IsPlaced}
use Rattle.trace_scripts.specs.Objects.{charge_of, services_of}
use Rattle.trace_scripts.specs.Moving.{threads_of}
use Rattle.trace_scripts.specs.Scenes.{program_in}
use Rattle.trace_scripts.proofs.MoveSteps.{all-done, go-on}
use Rattle.trace_scripts.proofs.Passing.{placed-at, stands-at}
use Rattle.trace_scripts.proofs.moves.move_all.Goals as goal

pub note-requires-clause-placed : goal.note-requires-clause-placed
note-requires-clause-placed c =
    placed-at (IsPlaced (program_in c.args.scene.now)) c.args.events.now c.events.here c.in-Some.event
    (stands-at c.args.events.now c.events.at c.next.new.at c.events.here c.in-Some.event c.in-Some.ensures c.events.invariant.here) c.requires.placed

pub note-requires-clause-at : goal.note-requires-clause-at
note-requires-clause-at c =
    stands-at c.args.events.now c.events.at c.next.new.at c.events.here c.in-Some.event c.in-Some.ensures c.events.invariant.here

pub events-preserved : goal.events-preserved
events-preserved c = record {
  here = refl;
  sized = search rules;
  served = search rules;
  states = λ depth may. go-on (program_in c.args.scene.now) depth c.args.most (services_of c.args.objects.now) c.args.events.now c.events.at
      c.next.new.at c.events.here c.in-Some.event c.in-Some.ensures c.events.invariant.here (services_of c.events.served)
      (services_of c.note.new.self) (c.in_ok-charge.ensures.states depth may) (threads_of (program_in c.args.scene.now) c.args.events.now c.events.threads) (threads_of (program_in c.args.scene.now) c.args.events.now c.note-in-Some.new.self) _
      (c.events.invariant.states depth may) (charge_of c.in_ok-charge.charge) (c.in_ok-charge.ensures.charge depth may)
      c.is_good_entry-good.result c.is_good_entry-good.ensures (c.in_ok-note.ensures.states depth may);
}

pub returns-clause-states : goal.returns-clause-states
returns-clause-states c = λ depth may.
    all-done (program_in c.args.scene.now) depth (services_of c.args.objects.now) _ _ (threads_of (program_in c.args.scene.now) c.args.events.now c.events.threads) _ (search rules)
    (c.events.invariant.states depth may)
