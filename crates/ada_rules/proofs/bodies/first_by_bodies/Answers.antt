use Rattle.std.proofs.Common.{◌∙◌}
use Rattle.seq_check.specs.Views.{offers_of}
use Rattle.ada_tree.specs.Trees.{program_of}
use Rattle.ada_rules.specs.FaultsTold.{HasFault}
use Rattle.ada_rules.proofs.FirstLaws.{none_at_all}
use Rattle.ada_rules.proofs.FaultLaws.{no_fault, first_fault}
use Rattle.ada_rules.proofs.bodies.first_by_bodies.Goals as goal

pub returns-in-Some : goal.returns-in-Some
returns-in-Some c =
    first_fault c.args.program.now c.as_slice-list.result.now (offers_of c.in_ok-calls.calls) c.units.place c.index-list-place.result c.in-Some.fault
    c.as_slice-list.ensures.value
    c.units-test.true c.index-list-place.is (c.in_ok-calls.ensures ∙ c.in_ok-offers.ensures) (rw c.in-Some.is at c.in_ok-unit_fault.ensures)
    c.units.invariant

pub units-preserved : goal.units-preserved
units-preserved c =
    no_fault c.args.program.now c.as_slice-list.result.now (offers_of c.in_ok-calls.calls) c.units.place c.index-list-place.result
    c.as_slice-list.ensures.value
    c.units-test.true c.index-list-place.is (c.in_ok-calls.ensures ∙ c.in_ok-offers.ensures) (rw c.in-None.is at c.in_ok-unit_fault.ensures)
    c.units.invariant

pub returns : goal.returns
returns c =
    none_at_all (λ k u. HasFault (program_of c.args.program.now) u) c.as_slice-list.result.now c.args.program.now.units.items c.units.place
    c.as_slice-list.ensures.value c.units-test.false
    c.units.invariant
