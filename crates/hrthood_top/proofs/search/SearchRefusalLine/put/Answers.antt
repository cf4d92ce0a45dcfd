use Rattle.std.proofs.Common.{codes}
use Rattle.std.proofs.lemmas.Result.{err_from_is_err_and}
use Rattle.hrthood_top.specs.Searches.{names_text}
use Rattle.hrthood_top.proofs.SearchSteps.{first-part, second-part, third-put}
use Rattle.hrthood_top.proofs.search.SearchRefusalLine.put.Goals as goal

pub returns-in_err-put_all-in-None-clause-puts : goal.returns-in_err-put_all-in-None-clause-puts
returns-in_err-put_all-in-None-clause-puts g c =
    let p = err_from_is_err_and c.from_residual.result c.from_residual.ensures.1 in
    rw (p.1, c.in-None.is) (first-part _ _ (codes "refused P2") (names_text c.in-None.threads) (codes "\n") c.in_err-put_all-in-None.ensures.puts)

pub returns-in_err-put_names-in-None-clause-puts : goal.returns-in_err-put_names-in-None-clause-puts
returns-in_err-put_names-in-None-clause-puts g c =
    let q = c.from_residual-in_err-put_names-in-None in
    let p = err_from_is_err_and q.result q.ensures.1 in
    rw (p.1, c.in-None.is) (second-part _ _ _ (codes "refused P2") (names_text c.in-None.threads) (codes "\n")
    c.in_ok-put_all-in-None.ensures.puts (rw c.names.ensures at c.in_err-put_names-in-None.ensures.puts))

pub returns-in_ok-put_names-in-None-clause-puts : goal.returns-in_ok-put_names-in-None-clause-puts
returns-in_ok-put_names-in-None-clause-puts g c =
    rw c.in-None.is (third-put _ _ _ _ (codes "refused P2") (names_text c.in-None.threads) (codes "\n") c.put_all-in-None.result
    c.in_ok-put_all-in-None.ensures.puts
    (rw c.names.ensures at c.in_ok-put_names-in-None.ensures.puts) c.put_all-in-None.ensures.puts)
