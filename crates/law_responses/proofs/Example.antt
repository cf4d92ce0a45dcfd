-- The worked program meets what the law asks: its table fits, with a started task and nested sections.
use Rattle.std.specs.Prelude.{◌≡◌, ℕ, List, [], ◌∷◌, Option, Some, None, codes, refl}
use Rattle.std.proofs.Common.{lit≤, lit<, arith}
use Rattle.seq_tree.specs.Names.{Name}
use Rattle.seq_tree.specs.Statements.{Statement}
use Rattle.ods_tree.proofs.Shared.Short.{block}
use Rattle.rt_response.specs.declared.rows.ThreadRow.{ThreadRow}
use Rattle.rt_response.specs.declared.rows.Bound.{Bound}
use Rattle.rt_response.specs.Response.{Fits}
use Rattle.ods_tree.specs.Flats as flats
use Rattle.guarantee.specs.ResponseLaw.{Ranked, AreTabled, task_sections, times_of}
use Rattle.arrivals_tree.specs.Arriving.{Arrivals}
use Rattle.arrivals_tree.specs.Acceptance.{IsAccepted}
use Rattle.machine.specs.Meanings.{Meaning}
use Rattle.trace_tree.specs.declared.event.Event.{Event}
use Rattle.trace_tree.specs.declared.event.Event.TheVariants as event
use Rattle.guarantee.specs.Events.{named}
use Rattle.guarantee.specs.Bounded.{IsBounded}
use Rattle.guarantee.specs.MachineLaw.{NeverStops}
use Rattle.law_responses.proofs.ExampleProgram.{start, of_sampler, of_alarm, of_watcher, plant, readable}
use Rattle.law_responses.proofs.Shared.ProgramLaw.{processor-responds}

-- its tasks by priority, greatest first
abbrev task : Name → flats.Timing → List Statement → ℕ → Ranked
task name timing ss priority = record { task = record { name = name; timing = timing; vars = []; block = block ss }; priority = priority }

abbrev sampler : Ranked
sampler = task (codes "sampler") (flats.Cyclic 50 0) of_sampler 2

abbrev tasks : List Ranked
tasks = task (codes "alarm") (flats.Sporadic start 50 None) of_alarm 3 ∷ sampler ∷ task (codes "watcher") (flats.Cyclic 200 0) of_watcher 1 ∷ []

abbrev row : ℕ → ℕ → ℕ → ℕ → Option ℕ → ThreadRow
row period deadline cost block starter = record { period = period; deadline = deadline; jitter = 0; cost = cost; block = block; starter = starter }

-- the alarm may wait for the end of its request, the sampler for the watcher's section
abbrev rows : List ThreadRow
rows = row 50 20 5 2 (Some 1) ∷ row 50 50 12 2 None ∷ row 200 200 15 0 None ∷ []

abbrev bound : ℕ → ℕ → Bound
bound jitter response = record { jitter = jitter; response = response }

abbrev bounds : List Bound
bounds = bound 19 7 ∷ bound 0 19 ∷ bound 0 37 ∷ []

sampler-sections : task_sections plant sampler.task ≡
    record { object = codes "store"; cost = 9 } ∷ record { object = codes "log"; cost = 2 } ∷ record { object = codes "alarm"; cost = 2 } ∷ []
sampler-sections = refl

-- the table fits: no bound is above its deadline
fits : Fits rows bounds
fits = (
  (refl, ((lit≤ tt, lit≤ tt), ((lit≤ tt, lit≤ tt), ((lit≤ tt, lit≤ tt), tt)))),
  ((lit≤ tt, lit≤ tt), ((lit≤ tt, lit≤ tt), ((lit≤ tt, lit≤ tt), tt))),
)

-- the table is that of the program: a section of a lower task that reaches a task's priority costs at most its blocking, and the sampler
-- alone requests the alarm, once
tabled : AreTabled plant tasks rows
tabled = record {
  table = record {
    count = lit≤ tt;
    each = (
      record {
        asks = lit≤ tt;
        before_next = lit≤ tt;
        period = lit≤ tt;
        works = lit≤ tt;
        cost = lit≤ tt;
        block = lit≤ tt;
        jitter = lit≤ tt;
        starter = lit< tt;
      },
      (
        record {
          asks = lit≤ tt;
          before_next = lit≤ tt;
          period = lit≤ tt;
          works = lit≤ tt;
          cost = lit≤ tt;
          block = lit≤ tt;
          jitter = lit≤ tt;
          starter = tt;
        },
        (
          record {
            asks = lit≤ tt;
            before_next = lit≤ tt;
            period = lit≤ tt;
            works = lit≤ tt;
            cost = lit≤ tt;
            block = lit≤ tt;
            jitter = lit≤ tt;
            starter = tt;
          },
          tt,
        ),
      ),
    );
  };
  tasks = ((1, refl), ((0, refl), ((2, refl), tt)));
  falls = ((lit< tt, (lit< tt, tt)), ((lit< tt, tt), (tt, tt)));
  outside = (λ e. absurd cc, (λ e. absurd cc, (λ e. absurd cc, tt)));
  numbers = ((refl, lit≤ tt), ((refl, lit≤ tt), ((refl, lit≤ tt), tt)));
  ceilings = ((lit≤ tt, tt), (tt, ((lit≤ tt, tt), tt)));
  inner_ceilings = ((tt, tt), (((lit≤ tt, (lit≤ tt, tt)), tt), tt));
  blocks = (
    (λ low. (λ reach. absurd (omega arith), (λ reach. lit≤ tt, (λ reach. lit≤ tt, tt))), (λ low. tt, (λ low. (λ reach. lit≤ tt, tt), tt))),
    (
      (λ low. absurd (omega arith), (λ low. tt, (λ low. (λ reach. lit≤ tt, tt), tt))),
      ((λ low. absurd (omega arith), (λ low. tt, (λ low. absurd (omega arith), tt))), tt),
    ),
  );
  started = (
    record {
      place = 1;
      starter = sampler;
      stands = refl;
      told = refl;
      requests = refl;
      alone = (λ e. refl, (λ e. absurd cc, (λ e. absurd cc, tt)));
      period = lit≤ tt;
      once = lit≤ tt;
    },
    (tt, (tt, tt)),
  );
}

-- so in each of its runs every task responds within its bound, whatever durations and arrivals it is run with
responds : (limit : ℕ) (r : Arrivals) (trace : List Event) → IsAccepted limit plant r → Meaning plant r trace
    → NeverStops (named plant trace) × IsBounded (times_of tasks bounds) r.until (named plant trace)
responds limit r trace accepted meaning = processor-responds limit plant tasks rows bounds r trace readable tabled fits accepted meaning

-- one of them, with the longest durations: in ticks, the alarm responds within 5 of its 7, the sampler within 17 of its 19, the watcher
-- within 32 of its 37
abbrev alone : Arrivals
alone = record { until = 40; work = []; items = [] }

accepted : IsAccepted 1000 plant alone
accepted = refl

abbrev trace : List Event
trace =
    event.Release 0 2 None ∷ event.Release 0 4 None ∷ event.Enter 2 2 1 0 [] ∷ event.Enter 5 2 0 0 [] ∷ event.Leave 7 2 0 0 []
    ∷ event.Request 11 2 3 (Some 7) ∷ event.Release 11 3 (Some 7)
    ∷ event.Leave 11 2 1 0 [] ∷ event.End 16 3 5 ∷ event.End 17 2 12 ∷ event.Enter 19 4 0 0 [] ∷ event.Leave 21 4 0 0 [] ∷ event.End 32 4 15
    ∷ event.Horizon 40 ∷ []

meaning : Meaning plant alone trace
meaning = record { steps = 220; tells = refl; stops = refl }

in-time : NeverStops (named plant trace) × IsBounded (times_of tasks bounds) 40 (named plant trace)
in-time = responds 1000 alone trace accepted meaning
