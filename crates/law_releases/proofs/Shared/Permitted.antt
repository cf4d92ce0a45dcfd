-- Every run without a stop, in which cyclic tasks end within their periods and no request overruns another, is one that the program's texts permit.
use Rattle.std.specs.Prelude.{ℕ, List, [], ◌∷◌}
use Rattle.seq_tree.specs.Lists.{Each}
use Rattle.guarantee.specs.Software.{program_software}
use Rattle.law_written.proofs.Shared.EveryRun.{every_run}
use Rattle.law_releases.specs.Laws.{RunsArePermitted}
use Rattle.law_releases.proofs.Shared.ArrivalsTold.{are_told}
use Rattle.law_releases.proofs.Shared.PeriodicLaw.{are_periodic}
use Rattle.law_releases.proofs.Shared.ServedLaw.{all_requests_served}

-- what follows for each item from what holds of each
each_then : {A : Type 0} (P Q : A → Type 0) (xs : List A) → Each (λ x. P x → Q x) xs → Each P xs → Each Q xs
each_then P Q [] f all = tt
each_then P Q (x ∷ xs) f all = (f.0 all.0, each_then P Q xs f.1 all.1)

pub permits : (limit : ℕ) → RunsArePermitted limit
permits limit p r trace readable accepted m quiet ends none = record {
  written = every_run limit p r trace readable accepted m quiet;
  periodic = each_then _ _ (program_software p).tasks (are_periodic limit p r trace readable.1 accepted m quiet) ends;
  arrivals = are_told limit p r trace accepted m quiet;
  requested = each_then _ _ (program_software p).tasks (all_requests_served limit p r trace readable.1 accepted m) none;
}
