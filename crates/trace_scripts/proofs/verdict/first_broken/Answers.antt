use Rattle.std.proofs.Common.{rules}
use Rattle.ada_tree.specs.Trees.{program_of}
use Rattle.trace_scripts.proofs.Firsts.{broken-here, broken-past, in-units, on-units}
use Rattle.trace_scripts.proofs.verdict.first_broken.Goals as goal

pub returns-then-is_broken : goal.returns-then-is_broken
returns-then-is_broken c = λ serving are.
    broken-here (program_of c.args.program.now) c.units.at (in-units c.args.program.now c.units.at (search rules)) serving _
    (c.units.invariant.found serving are) c.is_broken.result (c.is_broken.ensures serving are) (search rules)

pub units-preserved : goal.units-preserved
units-preserved c = record {
  within = on-units c.args.program.now c.units.at (search rules);
  found = λ serving are. broken-past (program_of c.args.program.now) c.units.at (in-units c.args.program.now c.units.at (search rules)) serving _
      (c.units.invariant.found serving are) c.is_broken.result (c.is_broken.ensures serving are) (search rules);
}
