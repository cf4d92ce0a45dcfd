use Rattle.std.proofs.Common.{◌∙◌, sym, ap}
use Rattle.hood_io.proofs.Places.{file_of-set, file_of-push}
use Rattle.hood_io.specs.MemShelf.{file_of}
use Rattle.hood_io.proofs.mem_shelf.MemShelf.put.Goals as goal

pub returns-in-Some-clause-files : goal.returns-in-Some-clause-files
returns-in-Some-clause-files c n =
    file_of-set _ _ _ n _ _ c.index_mut.result.now (sym c.place_of.ensures ∙ c.in-Some.is) (ap (λ f. f.name.items) c.index_mut.ensures.value)
    c.in_ok-bytes.ensures.items

pub returns-in_ok-push-in-None-clause-files : goal.returns-in_ok-push-in-None-clause-files
returns-in_ok-push-in-None-clause-files c n =
    ap (λ fs. file_of fs n) c.in_ok-push-in-None.ensures.items ∙ file_of-push _ _ _ n _ (sym c.place_of.ensures ∙ c.in-None.is)
    (c.in_ok-name-in-None.ensures.items ∙ c.as_bytes.ensures.value) c.in_ok-bytes.ensures.items
