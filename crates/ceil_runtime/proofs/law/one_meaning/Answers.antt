use Rattle.machine.specs.Meanings.{start}
use Rattle.machine.specs.Systems.{system}
use Rattle.machine.proofs.Shared.RunLaws.{Rest-unique}
use Rattle.ceil_runtime.proofs.law.one_meaning.Goals as goal

pub returns : goal.returns
returns c p a x y = Rest-unique (system p a) (start p a) x y
