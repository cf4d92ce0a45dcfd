use Rattle.std.proofs.Common.{arith, sym}
use Rattle.ada_tree.specs.Trees.{program_of}
use Rattle.hrthood_top.proofs.ReplayLaws.{few-units}
use Rattle.hrthood_top.proofs.replay.read_under.Goals as goal

pub read_arrivals-requires : goal.read_arrivals-requires
read_arrivals-requires c = let few = few-units (program_of c.args.program.now) c.requires in omega (arith, few)

pub returns-in-Ok : goal.returns-in-Ok
returns-in-Ok c = λ ada. record { arrives = c.in-Ok.ensures.says; alone = λ a arrives. sym (c.in-Ok.ensures.only a arrives) }
