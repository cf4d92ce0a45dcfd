use Rattle.std.proofs.Common.{◌≡◌, ◌≤◌, ap, arith, false, length}
use Rattle.std.specs.Prelude.{nat_lt}
use Rattle.std.proofs.lemmas.Bool.{false_from_ne_true, or_parts}
use Rattle.ada_tree.specs.Programs.{Program}
use Rattle.ada_tree.specs.Ranges.{whole_breaks}
use Rattle.ada_tree.specs.Rules.{Ranges, Whole, MeetsRules}
use Rattle.ada_tree.specs.Trees.{program_of}
use Rattle.lower_tests.proofs.openings.queues_show_the_ready_and_the_sleeping_tasks.Goals as goal

-- a program that meets the rules has few units
few-units : (p : Program) → MeetsRules p → length p.units ≤ 500
few-units p meets =
    let kept : whole_breaks p ≡ false = false_from_ne_true (whole_breaks p) (λ breaks. meets Ranges Whole breaks) in
    let few : nat_lt 500 (length p.units) ≡ false = (or_parts _ _ kept).1 in
    grind arith

pub read_arrivals-requires : goal.read_arrivals-requires
read_arrivals-requires g c = let few = few-units (program_of c.in_ok-program.program) c.in_ok-program.ensures.says.meets in omega (arith, few)

pub new-requires : goal.new-requires
new-requires g c = record {
  proper = c.in_ok-program.ensures.says.reads.proper;
  meets = c.in_ok-program.ensures.says.meets;
  accepted = c.in_ok-arrivals.ensures.says.accepted;
}

pub walk-requires-clause-goes_on : goal.walk-requires-clause-goes_on
walk-requires-clause-goes_on g c = ap (λ r. r.state.stopped) c.in_ok-machine.ensures.opens
