use Rattle.std.proofs.Common.{◌≡◌, ℕ, ◌<◌, arith, ap, ◌∙◌, refl, None, below_more}
use Rattle.std.specs.List.{slice_get}
use Rattle.std.proofs.lemmas.Option.{get_or_from_slice_get}
use Rattle.late_response.specs.Progress.{StartsAt, IsLiveIn}
use Rattle.late_response.proofs.behind.first_behind.Goals as goal

pub rows-preserved : goal.rows-preserved
rows-preserved c = λ i s less starts.
    below_more (λ i. (s : ℕ) → StartsAt c.args.table.now i s → IsLiveIn (slice_get c.args.known.now s) × (s < c.args.count)) c.rows.index
    (λ i less s starts. c.rows.invariant i s less starts)
    (λ s starts. c.in_default.ensures.none refl s
    (ap (λ r. r.starter) (get_or_from_slice_get c.args.table.now c.rows.index starts.row
    (record { period = 0; deadline = 0; jitter = 0; cost = 0; block = 0; starter = None }) starts.is) ∙ starts.started)) i less s starts

pub returns-clause-none : goal.returns-clause-none
returns-clause-none c = λ e i s less starts. c.rows.invariant i s (let end : c.args.count ≡ c.rows.index = omega arith in omega (arith, less)) starts
