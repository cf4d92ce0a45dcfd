use Rattle.std.specs.Prelude.{length}
use Rattle.law_dispatching.specs.Queueing.{places}
use Rattle.law_dispatching.proofs.Shared.Ranks.{queued-places, ranks-alike}
use Rattle.law_dispatching.proofs.places_are_order_numbers.Goals as goal

pub returns : goal.returns
returns c tasks orders ready q = ranks-alike tasks orders (places (length tasks) ready) ready q (queued-places tasks orders ready q)
