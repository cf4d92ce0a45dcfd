-- Examples: which arrivals keep separations, and which tables are those of a program. Each but the first breaks one condition alone.
use Rattle.std.specs.Prelude.{◌≡◌, ◌≤◌, ◌<◌, ℕ, zero, suc, true, false, List, [], ◌∷◌, map, slice_get, Option, Some, None, option_map, codes, refl}
use Rattle.std.proofs.Common.{lit≤, lit<, arith, ap, sym, subst, ◌∙◌}
use Rattle.seq_tree.specs.Names.{Name, same_name}
use Rattle.seq_tree.specs.Statements.{Statement, Work}
use Rattle.seq_tree.specs.Operations.{Operation, Signature}
use Rattle.ods_tree.specs.Designs.{Design}
use Rattle.ods_tree.specs.Flats as flats
use Rattle.ods_tree.proofs.Shared.Short.{row_costs, block, call, cyc, spo_external, several}
use Rattle.ada_tree.specs.Programs.{Form, Unit, Program, Shared, Cyclic, Sporadic}
use Rattle.rt_response.specs.declared.rows.ThreadRow.{ThreadRow}
use Rattle.analysis.specs.Starts.{block_starts}
use Rattle.guarantee.specs.Arrivals.{Arrival, Arrivals, KeepsSeparations}
use Rattle.guarantee.specs.ResponseLaw.{Ranked, ranked, AreTabled, CallsUpwards, IsStarter, ceiling_named, program_services}

-- a thread that is requested from outside at least 10 ticks apart, with a jitter of 5, beside a cyclic one
abbrev asked : Design
asked = several (spo_external (codes "s") 10 10 5 (Work 1 ∷ []) ∷ cyc (codes "c") 20 20 (Work 1 ∷ []) ∷ [])

abbrev at : ℕ → Arrival
at time = record { time = time; task = codes "s"; value = Some 7 }

abbrev lasting : Name → ℕ → List Arrival → Arrivals
lasting task ticks items = record { until = 20; work = record { task = task; ticks = ticks ∷ [] } ∷ []; items = items }

abbrev separate : List Arrival
separate = at 0 ∷ at 6 ∷ at 15 ∷ []

kept : KeepsSeparations 20 asked (lasting (codes "s") 1 separate)
kept = record {
  horizon = lit≤ tt;
  durations = ((refl, (lit≤ tt, tt)), tt);
  times = (lit≤ tt, (lit≤ tt, (lit≤ tt, tt)));
  external = (tt, (tt, (tt, tt)));
  separations = ((lit≤ tt, (lit≤ tt, (lit≤ tt, tt))), (tt, tt));
}

too_far : KeepsSeparations 19 asked (lasting (codes "s") 1 separate) → ⊥
too_far h = (let within : 20 ≤ 19 = h.horizon in omega (arith, within))

of_no_task : KeepsSeparations 20 asked (lasting (codes "z") 1 separate) → ⊥
of_no_task h = (let there : false ≡ true = h.durations.0.0 in cc)

of_no_tick : KeepsSeparations 20 asked (lasting (codes "s") 0 separate) → ⊥
of_no_tick h = (let some : 1 ≤ 0 = h.durations.0.1.0 in omega (arith, some))

earlier_last : KeepsSeparations 20 asked (lasting (codes "s") 1 (at 15 ∷ record (at 0) { task = codes "s" } ∷ [])) → ⊥
earlier_last h = (let later : 15 ≤ 0 = h.times.1.0 in omega (arith, later))

of_cyclic : KeepsSeparations 20 asked (lasting (codes "s") 1 (record (at 0) { task = codes "c" } ∷ [])) → ⊥
of_cyclic h = h.external.0

without_value : KeepsSeparations 20 asked (lasting (codes "s") 1 (record (at 0) { value = None } ∷ [])) → ⊥
without_value h = h.external.0

too_close : KeepsSeparations 20 asked (lasting (codes "s") 1 (at 0 ∷ at 6 ∷ at 12 ∷ [])) → ⊥
too_close h = (let third : 20 ≤ 17 = h.separations.0.1.1.0 in omega (arith, third))

-- two cyclic tasks that call a protected unit, which calls another; the ceilings are as told
abbrev unit : Name → Form → Unit
unit name form = record { name = name; form = form }

abbrev setting : Name → List Statement → Operation
setting n ss = record { sig = record { name = n; params = [] }; locals = []; block = block ss }

abbrev outer : ℕ → Unit
outer ceiling = unit (codes "q") (Shared ceiling [] (setting (codes "set") (call (codes "e") (codes "set") ∷ []) ∷ []))

abbrev inner : ℕ → Unit
inner ceiling = unit (codes "e") (Shared ceiling [] (setting (codes "set") (Work 1 ∷ []) ∷ []))

abbrev calling : List Statement
calling = call (codes "q") (codes "set") ∷ []

abbrev program : ℕ → ℕ → Program
program first second = record {
  name = codes "d";
  costs = row_costs;
  units = outer first ∷ inner second ∷ unit (codes "l") (Cyclic 1 0 40 [] (block calling)) ∷ unit (codes "h") (Cyclic 2 0 20 [] (block calling)) ∷ [];
}

abbrev task : Name → ℕ → ℕ → Ranked
task name period priority =
    record { task = record { name = name; timing = flats.Cyclic period 0; vars = []; block = block calling }; priority = priority }

abbrev high : Ranked
high = task (codes "h") 20 2

abbrev low : Ranked
low = task (codes "l") 40 1

-- an activation costs 2 for each of two calls, 1 for the work and 1 for its end; a section 3
abbrev row : ℕ → ℕ → ℕ → ℕ → ThreadRow
row period deadline cost blocking = record { period = period; deadline = deadline; jitter = 0; cost = cost; block = blocking; starter = None }

abbrev Tabled : Program → Ranked → ThreadRow → Type 0
Tabled p first first_row = AreTabled p (first ∷ low ∷ []) (first_row ∷ row 40 40 6 0 ∷ [])

tabled : Tabled (program 2 2) high (row 20 20 6 3)
tabled = record {
  table = record {
    count = lit≤ tt;
    each = (
      record {
        asks = lit≤ tt;
        before_next = lit≤ tt;
        period = lit≤ tt;
        works = lit≤ tt;
        cost = lit≤ tt;
        block = lit≤ tt;
        jitter = lit≤ tt;
        starter = tt;
      },
      (
        record {
          asks = lit≤ tt;
          before_next = lit≤ tt;
          period = lit≤ tt;
          works = lit≤ tt;
          cost = lit≤ tt;
          block = lit≤ tt;
          jitter = lit≤ tt;
          starter = tt;
        },
        tt,
      ),
    );
  };
  tasks = ((1, refl), ((0, refl), tt));
  falls = ((lit< tt, tt), (tt, tt));
  outside = (λ e. absurd cc, (λ e. absurd cc, tt));
  numbers = ((refl, lit≤ tt), ((refl, lit≤ tt), tt));
  ceilings = ((lit≤ tt, tt), ((lit≤ tt, tt), tt));
  inner_ceilings = (((lit≤ tt, tt), tt), ((tt, tt), tt));
  blocks = (
    (λ lower. (λ reach. lit≤ tt, (λ reach. lit≤ tt, tt)), (λ lower. absurd (omega (arith, lower)), tt)),
    ((λ lower. absurd (omega (arith, lower)), (λ lower. absurd (omega (arith, lower)), tt)), tt),
  );
  started = (tt, (tt, tt));
}

no_deadline : Tabled (program 2 2) high (row 20 0 6 3) → ⊥
no_deadline w = (let some : 1 ≤ 0 = w.table.each.0.asks in omega (arith, some))

-- no task of the program has priority 3
one_three : ◌≡◌ {A = Option ℕ} (Some 1) (Some 3) → ⊥
one_three e = cc

two_three : ◌≡◌ {A = Option ℕ} (Some 2) (Some 3) → ⊥
two_three e = cc

none_three : ◌≡◌ {A = Option ℕ} None (Some 3) → ⊥
none_three e = cc

of_no_program : Tabled (program 2 2) (task (codes "h") 20 3) (row 20 20 6 3) → ⊥
of_no_program w = none w.tasks.0.0 (ap (option_map (λ (t : Ranked). t.priority)) w.tasks.0.1)
  where
    none : (k : ℕ) → option_map (λ (t : Ranked). t.priority) (slice_get (ranked (program 2 2)) k) ≡ Some 3 → ⊥
    none zero e = one_three e
    none (suc zero) e = two_three e
    none (suc (suc k)) e = none_three e

rising : AreTabled (program 2 2) (low ∷ high ∷ []) (row 40 40 6 0 ∷ row 20 20 6 3 ∷ []) → ⊥
rising w = (let falls : 2 < 1 = w.falls.0.0 in omega (arith, falls))

a_greater_outside : AreTabled (program 2 2) (low ∷ []) (row 40 40 6 0 ∷ []) → ⊥
a_greater_outside w = (let less : 2 < 1 = (w.outside.1.0 refl).0 in omega (arith, less))

other_period : Tabled (program 2 2) high (row 21 20 6 3) → ⊥
other_period w = (let same : ◌≡◌ {A = ℕ} 21 20 = w.numbers.0.0 in omega (arith, same))

too_cheap : Tabled (program 2 2) high (row 20 20 5 3) → ⊥
too_cheap w = (let covers : 6 ≤ 5 = w.numbers.0.1 in omega (arith, covers))

low_ceiling : Tabled (program 1 2) high (row 20 20 6 3) → ⊥
low_ceiling w = (let above : 2 ≤ 1 = w.ceilings.1.0.0 in omega (arith, above))

low_inner_ceiling : Tabled (program 3 2) high (row 20 20 6 3) → ⊥
low_inner_ceiling w = (let above : 3 ≤ 2 = w.inner_ceilings.0.0.0 in omega (arith, above))

short_block : Tabled (program 2 2) high (row 20 20 6 2) → ⊥
short_block w = (let outer_section : 3 ≤ 2 = (w.blocks.0.0 (lit< tt)).0 (lit≤ tt) in omega (arith, outer_section))

-- a task that is requested from outside: no other starts it, and its jitter is in its row
abbrev alone : Program
alone =
    record {
      name = codes "d";
      costs = row_costs;
      units = unit (codes "s")
          (Sporadic 1 1 (record { name = codes "start"; params = [] }) 20 4 true [] (block (Work 1 ∷ []))) ∷ [];
    }

abbrev requested : Ranked
requested =
    record {
      task = record {
        name = codes "s";
        timing = flats.Sporadic (record { name = codes "start"; params = [] }) 20
            (Some 4);
        vars = [];
        block = block (Work 1 ∷ []);
      };
      priority = 1;
    }

less_jitter : AreTabled alone (requested ∷ []) (record (row 20 10 2 0) { jitter = 3 } ∷ []) → ⊥
less_jitter w = (let covers : 4 ≤ 3 = w.started.0.1 in omega (arith, covers))

started_by_another : AreTabled alone (requested ∷ []) (record (row 20 10 2 0) { jitter = 4; starter = Some 0 } ∷ []) → ⊥
started_by_another w = (let none : ◌≡◌ {A = Option ℕ} (Some 0) None = w.started.0.0 in cc)

-- a task that another one starts: priorities, ceilings, and requests at ceilings of at least a priority
abbrev start : Signature
start = record { name = codes "start"; params = [] }

abbrev request : Statement
request = call (codes "s") (codes "start")

abbrev starting : List Statement → List Statement → ℕ → Program
starting first second ceiling = record {
  name = codes "d";
  costs = row_costs;
  units = unit (codes "p") (Cyclic 2 0 50 [] (block first)) ∷ unit (codes "o") (Cyclic 1 0 60 [] (block second))
      ∷ unit (codes "s") (Sporadic 3 ceiling start 50 0 false [] (block (Work 1 ∷ []))) ∷ [];
}

abbrev started : ℕ → Program
started ceiling = starting (request ∷ []) (Work 1 ∷ []) ceiling

their_priorities : map (λ (t : Ranked). t.priority) (ranked (started 5)) ≡ 2 ∷ 1 ∷ 3 ∷ []
their_priorities = refl

their_ceilings : map (ceiling_named (started 5)) (codes "p" ∷ codes "o" ∷ codes "s" ∷ []) ≡ 0 ∷ 0 ∷ 5 ∷ []
their_ceilings = refl

requests_upwards : CallsUpwards (started 2) 2 (block (request ∷ []))
requests_upwards = (lit≤ tt, tt)

requests_downwards : CallsUpwards (started 1) 2 (block (request ∷ [])) → ⊥
requests_downwards h = (let above : 2 ≤ 1 = h.0 in omega (arith, above))

-- its one starter, which requests it once
abbrev first_task : List Statement → Ranked
first_task ss = record { task = record { name = codes "p"; timing = flats.Cyclic 50 0; vars = []; block = block ss }; priority = 2 }

abbrev started_task : Ranked
started_task =
    record { task = record { name = codes "s"; timing = flats.Sporadic start 50 None; vars = []; block = block (Work 1 ∷ []) }; priority = 3 }

abbrev Starts : List Statement → List Statement → Type 0
Starts first second =
    IsStarter (starting first second 3) (started_task ∷ first_task first ∷ []) (record (row 50 20 2 0) { starter = Some 1 }) (codes "s") start 50

one_starter : Starts (request ∷ []) (Work 1 ∷ [])
one_starter = record {
  place = 1;
  starter = first_task (request ∷ []);
  stands = refl;
  told = refl;
  requests = refl;
  alone = (λ h. refl, (λ h. cc, (λ h. cc, tt)));
  period = lit≤ tt;
  once = lit≤ tt;
}

second_place : {n : ℕ} → ◌≡◌ {A = Option ℕ} (Some 1) (Some n) → n ≡ 1
second_place e = cc

-- who stands at the place that the row tells
it_is : (first second : List Statement) (w : Starts first second) → w.starter ≡ first_task first
it_is first second w =
    let e : Some w.starter ≡ Some (first_task first) = sym w.stands
    ∙ ap (slice_get (started_task ∷ first_task first ∷ [])) (second_place w.told) in cc

requested_twice : Starts (request ∷ request ∷ []) (Work 1 ∷ []) → ⊥
requested_twice w =
    let services = program_services (starting (request ∷ request ∷ []) (Work 1 ∷ []) 3) in
    let P : Ranked → Type 0 = λ z. block_starts services (record { object = codes "s"; op = codes "start" }) z.task.block ≤ 1 in
    let once : 2 ≤ 1 = subst P (it_is (request ∷ request ∷ []) (Work 1 ∷ []) w) w.once in omega (arith, once)

requested_by_two : Starts (request ∷ []) (request ∷ []) → ⊥
requested_by_two w =
    let P : Ranked → Type 0 = λ z. same_name (codes "o") z.task.name ≡ true in
    let same : false ≡ true = subst P (it_is (request ∷ []) (request ∷ []) w) (w.alone.1.0 refl) in cc
