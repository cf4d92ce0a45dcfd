use Rattle.linker.proofs.Shared.Writing.{stores_write}
use Rattle.linker.proofs.law.stores_are_writes.Goals as goal

pub returns : goal.returns
returns c = stores_write
