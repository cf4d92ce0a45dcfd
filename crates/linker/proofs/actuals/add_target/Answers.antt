use Rattle.std.proofs.Common.{refl}
use Rattle.linker.specs.Standing.{lists_of}
use Rattle.linker.proofs.Keeping.{added_none}
use Rattle.linker.proofs.actuals.add_target.Goals as goal

pub returns-in-In-clause-added : goal.returns-in-In-clause-added
returns-in-In-clause-added c = added_none (lists_of c.args.code.now)

pub returns-in-In-clause-target : goal.returns-in-In-clause-target
returns-in-In-clause-target c = rw c.in-In.is refl

pub returns-in-Out-clause-target : goal.returns-in-Out-clause-target
returns-in-Out-clause-target c = rw c.in-Out.is c.put_target.ensures.target
