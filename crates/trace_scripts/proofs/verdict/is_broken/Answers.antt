use Rattle.std.proofs.Common.{rules}
use Rattle.ada_tree.specs.Trees.{program_of}
use Rattle.trace_scripts.proofs.Firsts.{in-states, some-broken}
use Rattle.trace_scripts.proofs.verdict.is_broken.Goals as goal

pub returns : goal.returns
returns c = λ serving are.
    some-broken (program_of c.args.program.now) c.args.objects.now.states.items serving are c.args.unit c.requires.unit
    (in-states c.args.program.now c.args.unit _ c.requires.states c.requires.unit) c.index.result.now (search rules) c.is_sound.result
    c.is_sound.ensures (search rules)
