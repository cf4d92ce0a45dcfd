use Rattle.std.proofs.Common.{List}
use Rattle.ada_tree.specs.Programs.{Program}
use Rattle.guarantee.specs.Events.{Event, named}
use Rattle.guarantee.specs.Software.{Software}
use Rattle.law_traces.specs.Checks.{follows, serves}
use Rattle.trace_scripts.specs.Moving.{threads_of}
use Rattle.trace_scripts.specs.Objects.{services_of}
use Rattle.trace_scripts.specs.Scenes.{program_in, software_of}
use Rattle.trace_scripts.proofs.Clearing.{may-all, objects-say}
use Rattle.trace_scripts.proofs.Judging.{none-wrong, object-wrong, thread-wrong}
use Rattle.trace_scripts.proofs.ThreadsNamed.{threads-told}
use Rattle.trace_scripts.proofs.verdict.first_wrong.Goals as goal

pub returns-in-Some : goal.returns-in-Some
returns-in-Some c = λ clear other.
    let p : Program = program_in c.args.scene.now in
    let w : Software = software_of c.args.scene.now in
    let told : List Event = named p c.args.events.now in
    thread-wrong p w clear.depth told other c.in_ok-astray.astray
    (c.in_ok-astray.ensures clear.depth (may-all p clear) (follows w clear.depth told)
    (threads-told p c.requires.scene.rules clear c.args.events.now c.requires.placed
    (services_of c.in_ok-objects.objects) (c.in_ok-objects.ensures.states clear.depth (may-all p clear)) c.most_used-most.result
    c.most_used-most.ensures (threads_of (program_in c.args.scene.now) c.args.events.now c.in_ok-threads.threads) (c.in_ok-threads.ensures.states clear.depth (may-all p clear))))
    c.in-Some.unit c.in-Some.is

pub returns-in-Some-broken : goal.returns-in-Some-broken
returns-in-Some-broken c = λ clear other.
    let p : Program = program_in c.args.scene.now in
    let w : Software = software_of c.args.scene.now in
    let told : List Event = named p c.args.events.now in
    object-wrong p w clear.depth told other c.in_ok-astray.astray
    (c.in_ok-astray.ensures clear.depth (may-all p clear) (follows w clear.depth told)
    (threads-told p c.requires.scene.rules clear c.args.events.now c.requires.placed
    (services_of c.in_ok-objects.objects) (c.in_ok-objects.ensures.states clear.depth (may-all p clear)) c.most_used-most.result
    c.most_used-most.ensures (threads_of (program_in c.args.scene.now) c.args.events.now c.in_ok-threads.threads) (c.in_ok-threads.ensures.states clear.depth (may-all p clear))))
    c.first_broken-broken.result
    (c.first_broken-broken.ensures (serves w clear.depth told)
    (objects-say p c.requires.scene.rules clear c.args.events.now c.requires.placed
    (services_of c.in_ok-objects.objects) (c.in_ok-objects.ensures.states clear.depth (may-all p clear))))
    c.in_default.is c.in-Some-broken.unit c.in-Some-broken.is

pub returns : goal.returns
returns c = λ clear other.
    let p : Program = program_in c.args.scene.now in
    let w : Software = software_of c.args.scene.now in
    let told : List Event = named p c.args.events.now in
    none-wrong p w clear.depth told other c.in_ok-astray.astray
    (c.in_ok-astray.ensures clear.depth (may-all p clear) (follows w clear.depth told)
    (threads-told p c.requires.scene.rules clear c.args.events.now c.requires.placed
    (services_of c.in_ok-objects.objects) (c.in_ok-objects.ensures.states clear.depth (may-all p clear)) c.most_used-most.result
    c.most_used-most.ensures (threads_of (program_in c.args.scene.now) c.args.events.now c.in_ok-threads.threads) (c.in_ok-threads.ensures.states clear.depth (may-all p clear))))
    c.first_broken-broken.result
    (c.first_broken-broken.ensures (serves w clear.depth told)
    (objects-say p c.requires.scene.rules clear c.args.events.now c.requires.placed
    (services_of c.in_ok-objects.objects) (c.in_ok-objects.ensures.states clear.depth (may-all p clear))))
    c.in_default.is c.in_default-broken.is
