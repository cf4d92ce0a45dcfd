-- What a table says of a program's tasks holds of the tasks of its system: what each costs, and how it is requested.
use Rattle.std.specs.Prelude.{◌≡◌, ℕ, ◌+◌, ◌≤◌, ◌||◌, nat_lt, nat_le, true, false, List, slice_get, Some, None, refl}
use Rattle.std.proofs.lemmas.Option.{none-some}
use Rattle.std.proofs.Common.{sym, ◌∙◌, ap, subst, arith}
use Rattle.seq_tree.specs.Limits.{tick_limit}
use Rattle.seq_tree.specs.Dearest.{starts}
use Rattle.ada_tree.specs.Programs.{Program, Sporadic}
use Rattle.ada_tree.specs.Ranges.{is_outside, jitter_breaks, numbers_break}
use Rattle.ada_tree.specs.Rules.{MeetsRules}
use Rattle.arrivals_tree.specs.Arriving.{Arrivals}
use Rattle.rt_response.specs.declared.rows.ThreadRow.{ThreadRow}
use Rattle.ods_tree.specs.Flats as flats
use Rattle.machine.specs.Systems.{TaskUnit, ReleasePattern, Periodic, Requested, system}
use Rattle.analysis.specs.Execution.{block_cost}
use Rattle.guarantee.specs.ResponseLaw.{Ranked, ranked, program_services, IsStarter, IsStarted, AreTabled}
use Rattle.law_calls.proofs.Shared.Systems.{thread_form, thread-at}
use Rattle.law_responses.proofs.Frames.{Frame, HasRow, IsAsked, IsTabled}
use Rattle.law_responses.proofs.TwinTasks.{SameTiming, AreTwins, HasTwin, twin-of, thread-of}
use Rattle.law_responses.proofs.Tabling.{place_in, item_at, starter_by, starter_if, starter_in, frame, row-is, has-row, place-of}
use Rattle.law_lists.proofs.Shared.Places.{same-item}
use Rattle.std.proofs.lemmas.Bool.{or_parts}
use Rattle.law_lists.proofs.Shared.Lists.{zip-first}
use Rattle.law_calls.proofs.Shared.UnitRules.{numbers-kept}

-- numbers of a task that is requested
small-jitter : (separation jitter : ℕ) → is_outside 1 tick_limit separation ≡ false → jitter_breaks true separation jitter ≡ false
    → jitter ≤ tick_limit
small-jitter separation jitter e g =
    let most : nat_lt tick_limit separation ≡ false = (or_parts (nat_lt separation 1) (nat_lt tick_limit separation) e).1 in
    let less : nat_le separation jitter ≡ false = g in
    grind arith

module _ (p : Program) (a : Arrivals) (rules : MeetsRules p) (ts : List Ranked) (rows : List ThreadRow) (tabled : AreTabled p ts rows) where
  abbrev f : Frame
  f = frame p ts rows a

  -- the number of a row's task's starter
  row-at : (r : ℕ) (u : Ranked) → slice_get ts r ≡ Some u → (row : ThreadRow) × (slice_get rows r ≡ Some row)
  row-at r u e = let found = zip-first (λ t row. IsStarted p ts row t.task.name t.task.timing) ts rows r u tabled.started e in (found.0, found.1)

  starter-is : (j r : ℕ) (u : Ranked) (row : ThreadRow) → slice_get (ranked p) j ≡ Some u → HasRow f j r → slice_get rows r ≡ Some row
      → f.starter_of j ≡ starter_if u.task.timing (place_in (ranked p) (item_at ts row.starter))
  starter-is j r u row at has line =
      ap (λ o. starter_in o (starter_by (ranked p) ts (item_at rows (f.row_of j)))) at
      ∙ ap (λ o. starter_if u.task.timing (starter_by (ranked p) ts (item_at rows o))) has
      ∙ ap (λ o. starter_if u.task.timing (starter_by (ranked p) ts o)) line

  -- how a task with a row is requested
  asked-is : (j r : ℕ) (t : TaskUnit) (u : Ranked) (row : ThreadRow) → HasRow f j r → slice_get (system p a).threads j ≡ Some t
      → slice_get (ranked p) j ≡ Some u → slice_get ts r ≡ Some u → AreTwins t u
      → slice_get rows r ≡ Some row → row.period ≡ flats.period_of u.task.timing → IsStarted p ts row u.task.name u.task.timing → (x : ReleasePattern)
      → t.timing ≡ x → IsAsked f j row x
  asked-is j r t u row has at among listed twins line period started (Periodic offset every) e =
      let timing : u.task.timing ≡ flats.Cyclic every offset = subst (λ x. SameTiming x u.task.timing) e twins.timing in
      let is : row.period ≡ every = period ∙ ap flats.period_of timing in
      (omega (arith, is), starter-is j r u row among has line ∙ ap (λ x. starter_if x (place_in (ranked p) (item_at ts row.starter))) timing)
  asked-is j r t u row has at among listed twins line period started (Requested op ceiling separation jitter true) e =
      let timing : u.task.timing ≡ flats.Sporadic op separation (Some jitter) = subst (λ x. SameTiming x u.task.timing) e twins.timing in
      let is : row.period ≡ separation = period ∙ ap flats.period_of timing in
      let outer : (row.starter ≡ None) × (jitter ≤ row.jitter) = subst (IsStarted p ts row u.task.name) timing started in (
        outer.0,
        omega (arith, is),
        outer.1,
        small,
        starter-is j r u row among has line ∙ ap (λ x.
            starter_if x (place_in (ranked p) (item_at ts row.starter))) timing,
      )
    where
      small : jitter ≤ tick_limit
      small =
          let found = thread-at p a j t at in
          let form : found.1.form ≡ Sporadic t.priority ceiling op separation jitter true t.vars t.block
          = subst (λ x. thread_form t x found.1.form) e (found.2).form in
          let now : numbers_break (Sporadic t.priority ceiling op separation jitter true t.vars t.block) ≡ false
          = subst (λ x. numbers_break x ≡ false) form (numbers-kept p rules found.0 found.1 (found.2).stands) in
          let one = or_parts (is_outside 1 60 t.priority || is_outside 1 60 ceiling || is_outside 1 tick_limit separation
          || jitter_breaks true separation jitter) (nat_lt ceiling t.priority) now in
          let two = or_parts (is_outside 1 60 t.priority || is_outside 1 60 ceiling || is_outside 1 tick_limit separation)
          (jitter_breaks true separation jitter) one.0 in
          let three = or_parts (is_outside 1 60 t.priority || is_outside 1 60 ceiling) (is_outside 1 tick_limit separation) two.0 in
          small-jitter separation jitter three.1 two.1
  asked-is j r t u row has at among listed twins line period started (Requested op ceiling separation jitter false) e =
      let timing : u.task.timing ≡ flats.Sporadic op separation None = subst (λ x. SameTiming x u.task.timing) e twins.timing in
      let is : row.period ≡ separation = period ∙ ap flats.period_of timing in
      let inner : IsStarter p ts row u.task.name op separation = subst (IsStarted p ts row u.task.name) timing started in
      let place = place-of p a rules ts rows tabled inner.place inner.starter inner.stands in
      let numbers = zip-first (λ x line'. (line'.period ≡ flats.period_of x.task.timing)
      × (block_cost p.costs (program_services p) x.task.block + p.costs.finish ≤ line'.cost)) ts rows inner.place inner.starter tabled.numbers
      inner.stands in
      let least : separation ≤ flats.period_of inner.starter.task.timing = inner.period in
      let own : numbers.0.period ≡ flats.period_of inner.starter.task.timing = numbers.2.0 in (
        inner.place,
        place.0,
        numbers.0,
        has-row p a rules ts rows tabled place.0 inner.place inner.starter place.1 inner.stands,
        inner.told,
        numbers.1,
        omega (arith, is, least, own),
        starter-is j r u row among has line ∙ ap (λ x. starter_if x (place_in (ranked p) (item_at ts row.starter))) timing
            ∙ ap (λ o. place_in (ranked p) (item_at ts o)) inner.told ∙ ap (place_in (ranked p)) inner.stands ∙ place.2,
      )

  pub task-tabled : (j r : ℕ) (t : TaskUnit) → HasRow f j r → slice_get (system p a).threads j ≡ Some t → IsTabled f j r t
  task-tabled j r t has at = build (row-is p a rules ts rows tabled j r has) (twin-of p a j t at)
    where
      build : (u : Ranked) × (slice_get (ranked p) j ≡ Some u) × (slice_get ts r ≡ Some u) → HasTwin (ranked p) j t → IsTabled f j r t
      build row twin =
          let u : Ranked = row.0 in
          let same : twin.0 ≡ u = same-item (slice_get (ranked p) j) twin.0 u twin.1 row.1 in
          let twins : AreTwins t u = subst (AreTwins t) same twin.2 in
          let numbers = zip-first (λ x line. (line.period ≡ flats.period_of x.task.timing)
          × (block_cost p.costs (program_services p) x.task.block + p.costs.finish ≤ line.cost)) ts rows r u tabled.numbers row.2 in
          let started = zip-first (λ x line. IsStarted p ts line x.task.name x.task.timing) ts rows r u tabled.started row.2 in
          let lines : started.0 ≡ numbers.0 = same-item (slice_get rows r) started.0 numbers.0 started.1 numbers.1 in
          record {
            row = numbers.0;
            asks = numbers.1;
            cost = subst (λ b. block_cost p.costs (program_services p) b + p.costs.finish ≤ numbers.0.cost) twins.block numbers.2.1;
            asked = asked-is j r t u numbers.0 has at row.1 row.2 twins numbers.1 numbers.2.0 (subst
                (λ x. IsStarted p ts x u.task.name u.task.timing) lines started.2) t.timing refl;
          }

  -- starters have rows
  pub starters-tabled : (k s i : ℕ) → HasRow f k s → f.starter_of k ≡ Some i → (r : ℕ) × HasRow f i r
  starters-tabled k s i has starts =
      let row = row-is p a rules ts rows tabled k s has in
      let thread = thread-of p a k row.0 row.1 in
      let is = task-tabled k s thread.0 has thread.1 in
      by thread.0.timing is.row is.asked
    where
      by : (x : ReleasePattern) (row : ThreadRow) → IsAsked f k row x → (r : ℕ) × HasRow f i r
      by (Periodic offset period) row asked = absurd (none-some i (sym asked.1 ∙ starts))
      by (Requested op ceiling separation jitter true) row asked = absurd (none-some i (sym asked.4 ∙ starts))
      by (Requested op ceiling separation jitter false) row asked =
          (asked.0, subst (λ x. HasRow f x asked.0) (same-item (f.starter_of k) asked.1 i asked.7 starts) asked.3)
