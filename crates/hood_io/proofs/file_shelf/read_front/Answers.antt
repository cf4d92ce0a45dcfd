use Rattle.hood_io.proofs.Fronts.{given_to_empty}
use Rattle.hood_io.proofs.file_shelf.read_front.Goals as goal

pub returns-in_err-read_to_end-clause-front : goal.returns-in_err-read_to_end-clause-front
returns-in_err-read_to_end-clause-front g c =
    given_to_empty g.S.Read.remaining _ _ _ _ _ _ c.take.ensures.inner c.clear.ensures.items c.read_to_end.ensures.none_lost

pub returns-clause-front : goal.returns-clause-front
returns-clause-front g c =
    given_to_empty g.S.Read.remaining _ _ _ _ _ _ c.take.ensures.inner c.clear.ensures.items c.read_to_end.ensures.none_lost
