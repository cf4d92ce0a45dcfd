use Rattle.std.proofs.Common.{[], ap, Some, ◌∙◌}
use Rattle.ada_tree.specs.Trees.{program_of}
use Rattle.guarantee.specs.Events.{named}
use Rattle.guarantee.specs.Software.{program_software}
use Rattle.law_traces.specs.Verdicts.{Times}
use Rattle.design_accepts.proofs.Scenery.{are-led, as-listed, is-scene}
use Rattle.design_accepts.proofs.Wronging.{thread-told, object-told, none-told}
use Rattle.design_accepts.proofs.units.judge_units.Goals as goal

pub of-requires : goal.of-requires
of-requires c =
    as-listed (program_of c.args.program.now) c.in_ok-called.called _ _ [] [] c.as_slice.ensures.value c.as_slice-2.ensures.value
    c.in_ok-called.ensures

pub first_wrong-requires-clause-scene : goal.first_wrong-requires-clause-scene
first_wrong-requires-clause-scene c =
    is-scene _ (c.in_ok-calls.ensures ∙ are-led (program_of c.args.program.now) c.in_ok-called.called _ _ _ _ c.as_slice.ensures.value
    c.as_slice-2.ensures.value c.in_ok-called.ensures c.as_slice-3.ensures.value c.as_slice-4.ensures.value) c.requires.meets c.requires.quick

pub returns-in-None : goal.returns-in-None
returns-in-None c = λ clear.
    none-told (program_software (program_of c.args.program.now)) clear.depth (named (program_of c.args.program.now) c.args.events.now)
    (program_of c.args.program.now) c.in_ok-first_wrong.field-0 (c.in_ok-first_wrong.ensures clear Times) c.in-None.is

pub returns-in-Some-Thread : goal.returns-in-Some-Thread
returns-in-Some-Thread c = λ clear.
    thread-told (program_software (program_of c.args.program.now)) clear.depth (named (program_of c.args.program.now) c.args.events.now)
    (program_of c.args.program.now) c.in_ok-first_wrong.field-0 c.in-Some-Thread.place _ (c.in_ok-first_wrong.ensures clear Times)
    (c.in-Some-Thread.is ∙ ap Some c.in-Some-Thread.field-0-is) c.in_ok-name_at-in-Some-Thread.ensures

pub returns : goal.returns
returns c = λ clear.
    object-told (program_software (program_of c.args.program.now)) clear.depth (named (program_of c.args.program.now) c.args.events.now)
    (program_of c.args.program.now) c.in_ok-first_wrong.field-0 c.in-Some-Object.place _ (c.in_ok-first_wrong.ensures clear Times)
    (c.in-Some-Object.is ∙ ap Some c.in-Some-Object.field-0-is) c.in_ok-name_at-in-Some-Object.ensures
