-- What the response law asks where protected units call: ceilings that don't fall inwards, and one starter, through a protected operation too.
use Rattle.std.specs.Prelude.{◌≡◌, ℕ, ◌≤◌, false, List, [], ◌∷◌, map, slice_get, Some, None, codes, refl}
use Rattle.std.proofs.Common.{lit≤, lit<, inl, arith, sym, ap, subst, ◌∙◌}
use Rattle.seq_tree.specs.Lists.{Each}
use Rattle.seq_tree.specs.Expressions.{Number}
use Rattle.seq_tree.specs.Statements.{Call, Work}
use Rattle.seq_tree.specs.Runs.{Path, silent}
use Rattle.seq_tree.specs.Runs as runs
use Rattle.seq_tree.specs.declared.tree.OpName.{OpName}
use Rattle.ods_tree.specs.Designs.{Design}
use Rattle.ods_tree.specs.Flattening.{flat}
use Rattle.ods_tree.proofs.Shared.Short.{block, cyc, cyc_at, spo, pro, several, call, v_in}
use Rattle.ods_tree.specs.Flats.{Cyclic, Sporadic, period_of}
use Rattle.ada_tree.specs.Programs.{Program}
use Rattle.rt_response.specs.declared.rows.ThreadRow.{ThreadRow}
use Rattle.guarantee.specs.Software.{software, program_software}
use Rattle.guarantee.specs.Events.{Deed, Release, Enter, Leave, Request, End, Event, By, Horizon}
use Rattle.guarantee.specs.Steps.{Step}
use Rattle.guarantee.specs.Allowed.{Allows}
use Rattle.guarantee.proofs.Ordered.{in_order}
use Rattle.guarantee.specs.Programs.{program, program_for}
use Rattle.guarantee.specs.ResponseLaw.{Ranked, ranked, ceiling_named, CallsUpwards, IsStarter}

-- one protected operation inside another
abbrev nested : Design
nested = several (cyc (codes "l") 40 40 (call (codes "q") (codes "set") ∷ []) ∷ cyc_at (codes "h") 20 10 7 (call (codes "e") (codes "set") ∷ [])
    ∷ pro (codes "q") (codes "set") (Work 2 ∷ call (codes "e") (codes "set") ∷ Work 1 ∷ []) ∷ pro (codes "e") (codes "set") (Work 2 ∷ []) ∷ [])

ceilings_named : map (ceiling_named (program nested)) (codes "q" ∷ codes "e" ∷ codes "l" ∷ codes "h" ∷ []) ≡ 1 ∷ 2 ∷ 0 ∷ 0 ∷ []
ceilings_named = refl

abbrev AreUpwards : Program → Type 0
AreUpwards p = Each (λ g. Each (λ o. CallsUpwards p (ceiling_named p g.name) o.block) g.ops) (program_software p).shared

upwards : AreUpwards (program nested)
upwards = (((lit≤ tt, tt), tt), ((tt, tt), tt))

-- the same with a greater ceiling outside
abbrev downwards : Program
downwards = program_for (flat nested) (record { threads = 1 ∷ 2 ∷ []; shared = 3 ∷ 2 ∷ []; obcs = 0 ∷ 0 ∷ [] })

not_upwards : AreUpwards downwards → ⊥
not_upwards h = (let e : 3 ≤ 2 = h.0.0.0 in omega (arith, e))

-- a request inside a protected operation: p is the one starter of s
abbrev requesting : Design
requesting = several (cyc (codes "p") 50 50 (call (codes "q") (codes "set") ∷ [])
    ∷ pro (codes "q") (codes "set") (Call (codes "s") (codes "start") (Number 7 ∷ []) ∷ []) ∷ spo (codes "s") 50 20 (Work 4 ∷ []) ∷ [])

abbrev through : Program
through = program requesting

abbrev p : Ranked
p = record { task = record { name = codes "p"; timing = Cyclic 50 0; vars = []; block = block (call (codes "q") (codes "set") ∷ []) }; priority = 1 }

abbrev s : Ranked
s =
    record {
      task = record {
        name = codes "s";
        timing = Sporadic
            (record { name = codes "start"; params = v_in ∷ [] }) 50 None;
        vars = [];
        block = block (Work 4 ∷ []);
      };
      priority = 2;
    }

by_priority : ranked through ≡ p ∷ s ∷ []
by_priority = refl

abbrev row_of_s : ThreadRow
row_of_s = record { period = 50; deadline = 20; jitter = 0; cost = 5; block = 2; starter = Some 1 }

starter : IsStarter through (s ∷ p ∷ []) row_of_s (codes "s") (record { name = codes "start"; params = v_in ∷ [] }) 50
starter = record {
  place = 1;
  starter = p;
  stands = refl;
  told = refl;
  requests = refl;
  alone = ((λ h. refl), ((λ h. cc), tt));
  period = lit≤ tt;
  once = lit≤ tt;
}

-- a separation that is longer than the period has no starter
no_starter : IsStarter through (s ∷ p ∷ []) row_of_s (codes "s") (record { name = codes "start"; params = v_in ∷ [] }) 51 → ⊥
no_starter w = (
    let e : Some w.starter ≡ Some p = sym w.stands ∙ ap (slice_get (s ∷ p ∷ [])) (place w.told) in
    let same : w.starter ≡ p = cc in
    let long : 51 ≤ period_of w.starter.task.timing = w.period in
    let P : Ranked → Type 0 = λ z. 51 ≤ period_of z.task.timing in
    let short : 51 ≤ 50 = subst P same long in omega (arith, short))
  where
    place : {n : ℕ} → Some 1 ≡ Some n → n ≡ 1
    place e = cc

-- a trace of it: the request is part of what q.set does, and its ticks are among those of p
abbrev q_set : OpName
q_set = record { object = codes "q"; op = codes "set" }

abbrev trace : List Event
trace =
    By 0 (codes "p") (Release None) ∷ By 2 (codes "p") (Enter q_set []) ∷ By 6 (codes "p") (Request (codes "s") (Some 7))
    ∷ By 6 (codes "s") (Release (Some 7))
    ∷ By 6 (codes "p") (Leave q_set []) ∷ By 11 (codes "s") (End 5) ∷ By 12 (codes "p") (End 7) ∷ Horizon 15 ∷ []

abbrev none : Path
none = silent 0 []

abbrev in_q : Path
in_q = record { script = runs.Request (record { object = codes "s"; op = codes "start" }) (Some 7) ∷ []; left = false; vars = []; low = 4; high = 4 }

abbrev of_p : Path
of_p = record { script = runs.Enter q_set [] ∷ runs.Leave q_set [] ∷ []; left = false; vars = []; low = 2; high = 2 }

abbrev of_s : Path
of_s = record { script = []; left = false; vars = (codes "v", 7) ∷ []; low = 1; high = 4 }

abbrev step : ℕ → Deed → Path → Step
step time deed body = record { time = time; deed = deed; body = body }

allowed : Allows requesting (record { until = 15; work = []; items = [] }) trace
allowed = record {
  written = record {
    order = in_order (software requesting).tasks 15 0 trace refl;
    bodies = none ∷ in_q ∷ [];
    threads = (
      (
        refl,
        inl (
          of_p,
          record {
            run = (0, (_, ([], refl, refl), (_, refl, refl)), refl);
            script = step 2 (Enter q_set []) in_q ∷ step 6 (Leave q_set []) none ∷ [];
            end = step 12 (End 7) none;
            used = 7;
            steps = refl;
            shows = refl;
            ends = refl;
            since = lit≤ tt;
          },
          record { at_least = lit≤ tt; at_most = lit≤ tt },
          tt,
        ),
      ),
      (
        (
          refl,
          inl (
            of_s,
            record {
              run = (0, (_, refl, (_, refl, refl)), refl);
              script = [];
              end = step 11 (End 5) none;
              used = 5;
              steps = refl;
              shows = refl;
              ends = refl;
              since = lit≤ tt;
            },
            record { at_least = lit≤ tt; at_most = lit≤ tt },
            tt,
          ),
        ),
        tt,
      ),
    );
    objects = (
      (
        refl,
        refl,
        record { operation = _; stands = refl; runs = record { run = (0, (_, refl, (_, refl, refl)), refl); shows = refl }; gives = refl },
        tt,
      ),
      tt,
    );
  };
  periodic = ((lit≤ tt, refl, refl, lit< tt), (tt, tt));
  arrivals = refl;
  requested = (tt, ((refl, refl, tt), tt));
}
