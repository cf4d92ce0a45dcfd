-- In every run of a program, a chain of tasks of a table that fits takes at most the response time of the lowest of their rows.
use Rattle.std.specs.Prelude.{◌≡◌, ℕ, zero, suc, ◌≤◌, List, [], ◌∷◌, map, Some, None, slice_get, refl}
use Rattle.std.proofs.Common.{ap, subst}
use Rattle.std.proofs.lemmas.Option.{same_Some}
use Rattle.seq_tree.specs.Lists.{Each}
use Rattle.rt_response.specs.declared.rows.Bound.{Bound}
use Rattle.guarantee.specs.Software.{Task}
use Rattle.guarantee.specs.Bounded.{Response}
use Rattle.guarantee.specs.Events.{Event, named}
use Rattle.guarantee.specs.Requests.{notices}
use Rattle.guarantee.specs.ResponseLaw.{Ranked, times_of}
use Rattle.law_lists.proofs.Shared.Lists.{each-to, each-map}
use Rattle.law_lists.proofs.Shared.Places.{all-at}
use Rattle.law_chains.specs.AtOnce.{AreServedAtOnce, IsServedAtOnce}
use Rattle.law_responses.specs.Resting.{RestsBy}
use Rattle.law_responses.proofs.Shared.LevelLaw.{levels-of-tasks-rest}
use Rattle.law_runs.specs.Chains.{HasSporadic}
use Rattle.law_runs.proofs.Shared.Chained.{once-sporadic, tabled-served-at-once}
use Rattle.law_chain_bounds.specs.Levels.{RestWithin, TabledChainsKeepToLevels}
use Rattle.law_chain_bounds.proofs.EarlyRequests.{runs-request-before-ends}
use Rattle.law_chain_bounds.proofs.LevelSteps.{chains-of-levels-respond}

-- a response time is that of a task and a bound at its place
pub record IsTimed (ts : List Ranked) (v : List Bound) (k : ℕ) (q : Response) : Type 0 where
  pub task : Ranked
  pub bound : Bound
  pub stands : slice_get ts k ≡ Some task
  pub gets : slice_get v k ≡ Some bound
  pub name : task.task.name ≡ q.thread
  pub ticks : bound.response ≡ q.ticks

pub timed-at : (ts : List Ranked) (v : List Bound) (k : ℕ) (q : Response) → slice_get (times_of ts v) k ≡ Some q → IsTimed ts v k q
timed-at [] v k q e = cc
timed-at (t ∷ ts) [] k q e = cc
timed-at (t ∷ ts) (b ∷ v) zero q e =
    let is : record { thread = t.task.name; ticks = b.response } ≡ q = same_Some (record { thread = t.task.name; ticks = b.response }) q e in
    record { task = t; bound = b; stands = refl; gets = refl; name = ap (λ z. z.thread) is; ticks = ap (λ z. z.ticks) is }
timed-at (t ∷ ts) (b ∷ v) (suc k) q e =
    let h = timed-at ts v k q e in
    record { task = h.task; bound = h.bound; stands = h.stands; gets = h.gets; name = h.name; ticks = h.ticks }

-- the requests of a sporadic task are served at once, where those of all tasks are
sporadic-served : (trace : List Event) (ts : List Ranked) → Each (λ t. IsServedAtOnce trace t.task.name t.task.timing) ts → (q : Response)
    → HasSporadic (map (λ t. t.task) ts) q.thread → AreServedAtOnce None (notices q.thread trace)
sporadic-served trace ts all q h =
    let t : Task = h.1 in
    let tasks : Each (λ z. IsServedAtOnce trace z.name z.timing) (map (λ z. z.task) ts)
    = each-map (λ z. z.task) (λ z. IsServedAtOnce trace z.name z.timing) ts all in
    let served : IsServedAtOnce trace t.name t.timing = all-at (λ z. IsServedAtOnce trace z.name z.timing) (map (λ z. z.task) ts) h.0 t tasks h.2 in
    subst (λ n. AreServedAtOnce None (notices n trace)) h.3 (once-sporadic trace t.name t.timing h.4 served)

pub tabled-chains-keep-to-levels : (limit : ℕ) → TabledChainsKeepToLevels limit
tabled-chains-keep-to-levels limit p ts rows v r trace i lowest first more readable tabled fits accepted m at within sporadic =
    chains-of-levels-respond r.until lowest.ticks (named p trace) first.thread (map (λ q. q.thread) more) rest
    (runs-request-before-ends p r trace readable.1 m)
    (each-map (λ q. q.thread) (λ n. AreServedAtOnce None (notices n (named p trace))) more
    (each-to (λ q. HasSporadic (map (λ t. t.task) ts) q.thread) (λ q. AreServedAtOnce None (notices q.thread (named p trace))) more
    (sporadic-served (named p trace) ts (tabled-served-at-once limit p ts rows v r trace readable tabled fits accepted m)) sporadic))
  where
    rest : RestWithin r.until (named p trace) lowest.ticks (map (λ q. q.thread) (first ∷ more))
    rest from near =
        let found = levels-of-tasks-rest limit p ts rows v r trace i lowest from readable tabled fits accepted m at near in (
          found.0,
          found.1,
          found.2,
          each-map (λ q. q.thread) (RestsBy found.0 (named p trace)) (first ∷ more)
              (each-to (λ q. (k : ℕ) × (k ≤ i) × (slice_get (times_of ts v) k ≡ Some q)) (λ q. RestsBy found.0 (named p trace) q.thread)
              (first ∷ more) (λ q h.
              let t = timed-at ts v h.0 q h.2 in
              subst (RestsBy found.0 (named p trace)) t.name (found.3 h.0 t.task h.1 t.stands)) within),
        )
