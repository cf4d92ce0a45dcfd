-- Worked examples: a started thread's trace is allowed, and the same trace with one tick more at an end isn't.
use Rattle.std.specs.Prelude.{Option, ◌≡◌, ℕ, ◌+◌, ◌≤◌, false, List, [], ◌∷◌, ◌++◌, map, drop, Some, None, codes, refl}
use Rattle.std.proofs.Common.{lit≤, lit<, inl, inr, ap, ◌∙◌, arith}
use Rattle.seq_tree.specs.Names.{Name}
use Rattle.seq_tree.specs.Expressions.{Number}
use Rattle.seq_tree.specs.Statements.{Call, Work}
use Rattle.seq_tree.specs.Runs.{Action, Path, silent}
use Rattle.seq_tree.specs.Runs as runs
use Rattle.ods_tree.specs.Designs.{Design}
use Rattle.ods_tree.proofs.Shared.Short.{cyc, spo, several}
use Rattle.guarantee.specs.Software.{Task, Software, software}
use Rattle.guarantee.specs.Events.{Deed, Release, Request, End, Event, By, Horizon}
use Rattle.guarantee.specs.Arrivals.{Arrivals, KeepsSeparations}
use Rattle.guarantee.specs.Steps.{Step, Placed, shown}
use Rattle.guarantee.specs.Scripts.{AreRuns}
use Rattle.guarantee.specs.Allowed.{Allows}
use Rattle.guarantee.proofs.Ordered.{in_order}
use Rattle.guarantee.specs.Programs.{program}
use Rattle.guarantee.specs.Guaranteed.{IsRight}
use Rattle.trace_tree.specs.declared.event.Event.TheVariants as event
use Rattle.trace_tree.specs.Lines.{unit_name, unit_ops}
use Rattle.guarantee.specs.Bounded.{IsBounded}

abbrev p : Name
p = codes "p"

abbrev s : Name
s = codes "s"

-- a cyclic thread that starts a sporadic one
abbrev started : Design
started = several (cyc p 50 50 (Call s (codes "start") (Number 7 ∷ []) ∷ []) ∷ spo s 50 20 (Work 4 ∷ []) ∷ [])

-- until 12
abbrev arrivals : Arrivals
arrivals = record { until = 12; work = []; items = [] }

kept : KeepsSeparations 1000000 started arrivals
kept = record { horizon = lit≤ tt; durations = tt; times = tt; external = tt; separations = (tt, (tt, tt)) }

-- the trace, with this number of ticks used by s
abbrev trace : ℕ → List Event
trace used =
    By 0 p (Release None) ∷ By 4 p (Request s (Some 7)) ∷ By 4 s (Release (Some 7)) ∷ By 9 s (End used) ∷ By 10 p (End 5) ∷ Horizon 12 ∷ []

abbrev step : ℕ → Deed → Step
step time deed = record { time = time; deed = deed; body = silent 0 [] }

abbrev of_p : Path
of_p = record { script = runs.Request (record { object = s; op = codes "start" }) (Some 7) ∷ []; left = false; vars = []; low = 4; high = 4 }

abbrev of_s : Path
of_s = record { script = []; left = false; vars = (codes "v", 7) ∷ []; low = 1; high = 4 }

abbrev at : ℕ → Deed → Placed
at time deed = record { depth = 0; step = step time deed }

allowed : Allows started arrivals (trace 5)
allowed = record {
  written = record {
    order = in_order (software started).tasks arrivals.until 0 (trace 5) refl;
    bodies = [];
    threads = (
      (
        refl,
        inl (
          of_p,
          record {
            run = (0, (_, refl, (_, refl, refl)), refl);
            script = step 4 (Request s (Some 7)) ∷ [];
            end = step 10 (End 5);
            used = 5;
            steps = refl;
            shows = refl;
            ends = refl;
            since = lit≤ tt;
          },
          record { at_least = lit≤ tt; at_most = lit≤ tt },
          tt,
        ),
      ),
      (
        (
          refl,
          inl (
            of_s,
            record {
              run = (0, (_, refl, (_, refl, refl)), refl);
              script = [];
              end = step 9 (End 5);
              used = 5;
              steps = refl;
              shows = refl;
              ends = refl;
              since = lit≤ tt;
            },
            record { at_least = lit≤ tt; at_most = lit≤ tt },
            tt,
          ),
        ),
        tt,
      ),
    );
    objects = tt;
  };
  periodic = ((lit≤ tt, refl, refl, lit< tt), (tt, tt));
  arrivals = refl;
  requested = (tt, ((refl, refl, tt), tt));
}

-- within the bounds 7 and 10
bounded : IsBounded (record { thread = s; ticks = 7 } ∷ record { thread = p; ticks = 10 } ∷ []) 12 (trace 5)
bounded = ((tt, (λ h. lit≤ tt, tt)), ((λ h. lit≤ tt, (tt, tt)), tt))

-- the last of one step and of others
abbrev first_or : Step → List Step → Step
first_or x [] = x
first_or x (y ∷ ys) = y

nil_not_more : (e : Step) (ss : List Step) → [] ≡ ss ++ e ∷ [] → ⊥
nil_not_more e [] q = cc
nil_not_more e (y ∷ ys) q = cc

last_one : (x e : Step) (ss : List Step) → x ∷ [] ≡ ss ++ e ∷ [] → x ≡ e
last_one x e [] q = ap (first_or x) q
last_one x e (y ∷ ys) q = absurd (nil_not_more e ys (ap (drop 1) q))

abbrev used_of : Deed → ℕ
used_of (End used) = used
used_of _ = 0

-- no action is an end
not_end : (used : ℕ) (a : Action) → End used ≡ shown a → ⊥
not_end used (runs.Enter name values) q = cc
not_end used (runs.Leave name values) q = cc
not_end used (runs.Request name value) q = cc
not_end used (runs.Print value) q = cc

no_script : (used : ℕ) (as' : List Action) → End used ∷ [] ≡ map shown as' → ⊥
no_script used [] q = cc
no_script used (a ∷ as') q = not_end used a (ap first q)
  where
    first : List Deed → Deed
    first [] = End used
    first (d ∷ ds) = d

too_much : (w : Software) (t : Task) (vars : List (Name × ℕ)) (b : Path)
    → AreRuns w t vars (record
    { time = 4; value = Some 7; steps = record { depth = 0; step = record { time = 9; deed = End 6; body = b } } ∷ [] } ∷ []) → ⊥
too_much w t vars b (inl whole) =
    let x : Step = record { time = 9; deed = End 6; body = b } in
    let same : x ≡ whole.1.end = last_one x whole.1.end whole.1.script whole.1.steps in
    let time : 9 ≡ whole.1.end.time = ap (λ z. z.time) same in
    let used : 6 ≡ whole.1.used = ap (λ z. used_of z.deed) same ∙ ap used_of whole.1.ends in
    let since : 4 + whole.1.used ≤ whole.1.end.time = whole.1.since in
    omega arith
too_much w t vars b (inr begun) = no_script 6 begun.0.script begun.0.shows

not_allowed : Allows started arrivals (trace 6) → ⊥
not_allowed h = too_much _ _ _ _ h.written.threads.1.0.1

-- an end is later than a processor with priorities would have it, and the design allows it
abbrev other_trace : List Event
other_trace =
    By 0 p (Release None) ∷ By 4 p (Request s (Some 7)) ∷ By 4 s (Release (Some 7)) ∷ By 5 p (End 5) ∷ By 10 s (End 5) ∷ Horizon 12 ∷ []

other_allowed : Allows started arrivals other_trace
other_allowed = record {
  written = record {
    order = in_order (software started).tasks arrivals.until 0 other_trace refl;
    bodies = [];
    threads = (
      (
        refl,
        inl (
          of_p,
          record {
            run = (0, (_, refl, (_, refl, refl)), refl);
            script = step 4 (Request s (Some 7)) ∷ [];
            end = step 5 (End 5);
            used = 5;
            steps = refl;
            shows = refl;
            ends = refl;
            since = lit≤ tt;
          },
          record { at_least = lit≤ tt; at_most = lit≤ tt },
          tt,
        ),
      ),
      (
        (
          refl,
          inl (
            of_s,
            record {
              run = (0, (_, refl, (_, refl, refl)), refl);
              script = [];
              end = step 10 (End 5);
              used = 5;
              steps = refl;
              shows = refl;
              ends = refl;
              since = lit≤ tt;
            },
            record { at_least = lit≤ tt; at_most = lit≤ tt },
            tt,
          ),
        ),
        tt,
      ),
    );
    objects = tt;
  };
  periodic = allowed.periodic;
  arrivals = refl;
  requested = (tt, ((refl, refl, tt), tt));
}

-- another value than the request's isn't allowed
wrong_value : Allows started arrivals
    (By 0 p (Release None) ∷ By 4 p (Request s (Some 7)) ∷ By 4 s (Release (Some 8)) ∷ By 9 s (End 5) ∷ By 10 p (End 5) ∷ Horizon 12 ∷ []) → ⊥
wrong_value h =
    let same : ◌≡◌ {A = Option ℕ} (Some 8) (Some 7) = h.requested.1.0.1 in
    cc

-- what the processor tells of the generated program is that trace
end_to_end : IsRight started (record { jitter = 10; response = 7 } ∷ record { jitter = 0; response = 10 } ∷ []) (program started)
    (record { until = 12; work = []; items = [] })
unfolding unit_name unit_ops
end_to_end = record {
  trace =
      event.Release 0 0 None ∷ event.Request 4 0 1 (Some 7) ∷ event.Release 4 1 (Some 7) ∷ event.End 9 1 5 ∷ event.End 10 0 5 ∷ event.Horizon 12 ∷ [];
  means = record { steps = 100; stops = refl; tells = refl };
  allowed = allowed;
  bounded = bounded;
}
