-- Worked examples: how far the `work` of small designs may grow, and what fails at the next per mille.
use Rattle.std.specs.Prelude.{◌≡◌, ◌≤◌, ◌<◌, ℕ, zero, suc, List, [], ◌∷◌, map, Option, Some, None, codes, refl}
use Rattle.std.proofs.Common.{le_refl, zero-le, arith}
use Rattle.seq_tree.specs.Statements.{Null, Work}
use Rattle.ods_tree.specs.Flats.{Flat}
use Rattle.ods_tree.specs.Flattening.{flat}
use Rattle.ods_tree.proofs.Shared.Short.{cyc, pro, pas, design, several, call}
use Rattle.rt_response.specs.declared.rows.Limit.TheVariants.{Deadline}
use Rattle.rt_response.specs.declared.rows.Miss.{Miss}
use Rattle.rt_response.specs.declared.rows.ThreadRow.{ThreadRow}
use Rattle.rt_response.specs.declared.excess.Excess.{Excess}
use Rattle.rt_response.specs.Rounds.{round, first_excess, IsMiss}
use Rattle.rt_response.proofs.Shared.Least.{miss-none_fits}
use Rattle.analysis.specs.Tables.{table}
use Rattle.law_scaling.specs.Scaling.{scaled, scaled_in, scaled_ticks}
use Rattle.law_scaling.specs.Parts.{parts, first_dear}
use Rattle.law_scaling.specs.Holding.{Holds, HoldsIn, IsGreatest, IsGreatestIn, scaled_rows}
use Rattle.law_scaling.specs.Designs.{scaled_design, scaled_design_in}
use Rattle.law_scaling.proofs.Shared.Holding.{holds-less}

-- ticks are rounded up, and cut at the greatest number
ticks : map (scaled_ticks 1) (1 ∷ 1000 ∷ 1001 ∷ []) ≡ 1 ∷ 1 ∷ 2 ∷ []
ticks = refl

ticks-same : map (scaled_ticks 1000) (1 ∷ 4 ∷ 1000000000 ∷ []) ≡ 1 ∷ 4 ∷ 1000000000 ∷ []
ticks-same = refl

ticks-more : map (scaled_ticks 1001) (1 ∷ 4 ∷ 1000000000 ∷ []) ≡ 2 ∷ 5 ∷ 1000000000 ∷ []
ticks-more = refl

abbrev excess : Flat → ℕ → ℕ → Option Excess
excess f k n = first_excess 0 (scaled_rows f k) (round (scaled_rows f k) n)

-- a cyclic thread whose `work` may become three times as long
abbrev one : Flat
one = flat (design (cyc (codes "a") 10 10 (Work 3 ∷ [])))

one-holds : Holds one 3000
one-holds = record {
  cheap = refl;
  bounds = record { jitter = 0; response = 10 } ∷ [];
  fits = ((refl, ((zero-le, le_refl 10), tt)), ((le_refl 10, le_refl 10), tt));
}

one-misses : IsMiss (scaled_rows one 3001) (record { index = 0; which = Deadline; value = 11; limit = 10; round = 0 })
one-misses = record { earlier = λ k h. absurd (omega (arith, h)); over = refl }

one-greatest : IsGreatest one 3000
one-greatest = record {
  within = (omega arith, omega arith);
  holds = one-holds;
  above = λ n less most h. let there = holds-less None one 3001 n less h in
      miss-none_fits (scaled_rows one 3001) (record { index = 0; which = Deadline; value = 11; limit = 10; round = 0 }) there.bounds one-misses
      there.fits;
}

-- three threads, of which the last has no tick to spare
abbrev three : Flat
three = flat (several (cyc (codes "a") 7 7 (Work 2 ∷ []) ∷ cyc (codes "b") 12 12 (Work 2 ∷ []) ∷ cyc (codes "c") 20 20 (Work 4 ∷ []) ∷ []))

three-misses : map (excess three 1001) (0 ∷ 1 ∷ 2 ∷ []) ≡ None ∷ None ∷ Some (record { index = 2; which = Deadline; value = 22; limit = 20 }) ∷ []
three-misses = refl

three-holds : Holds three 1000
three-holds = record {
  cheap = refl;
  bounds = record { jitter = 0; response = 3 } ∷ record { jitter = 0; response = 6 } ∷ record { jitter = 0; response = 20 } ∷ [];
  fits = (
    (refl, ((zero-le, le_refl 3), ((zero-le, le_refl 6), ((zero-le, le_refl 20), tt)))),
    ((omega arith, omega arith), ((omega arith, omega arith), ((le_refl 20, le_refl 20), tt))),
  );
}

three-miss : IsMiss (scaled_rows three 1001) (record { index = 2; which = Deadline; value = 22; limit = 20; round = 2 })
three-miss = record { earlier = λ k h. by k h; over = refl }
  where
    by : (k : ℕ) → k < 2 → first_excess 0 (scaled_rows three 1001) (round (scaled_rows three 1001) k) ≡ None
    by zero h = refl
    by (suc zero) h = refl
    by (suc (suc k)) h = absurd (omega (arith, h))

three-greatest : IsGreatest three 1000
three-greatest = record {
  within = (omega arith, omega arith);
  holds = three-holds;
  above = λ n less most h. let there = holds-less None three 1001 n less h in
      miss-none_fits (scaled_rows three 1001) (record { index = 2; which = Deadline; value = 22; limit = 20; round = 2 }) there.bounds three-miss
      there.fits;
}

three-fits : map (excess three 1000) (0 ∷ 1 ∷ 2 ∷ 3 ∷ 4 ∷ 5 ∷ []) ≡ None ∷ None ∷ None ∷ None ∷ None ∷ None ∷ []
three-fits = refl

-- a thread without `work` holds at the greatest per mille
abbrev idle : Flat
idle = flat (design (cyc (codes "a") 10 10 (Null ∷ [])))

idle-holds : Holds idle 1000000
idle-holds = record {
  cheap = refl;
  bounds = record { jitter = 0; response = 2 } ∷ [];
  fits = ((refl, ((zero-le, le_refl 2), tt)), ((omega arith, omega arith), tt));
}

idle-greatest : IsGreatest idle 1000000
idle-greatest = record { within = (omega arith, omega arith); holds = idle-holds; above = λ n less most h. omega (arith, less, most) }

-- a thread that is over its deadline at every per mille: each `work` takes a tick at least
abbrev never : Flat
never = flat (design (cyc (codes "a") 5 5 (Null ∷ Null ∷ Null ∷ Null ∷ Work 1 ∷ [])))

never-holds : map (λ k. excess never k 0) (1 ∷ 1000 ∷ [])
    ≡ Some (record { index = 0; which = Deadline; value = 6; limit = 5 }) ∷ Some (record { index = 0; which = Deadline; value = 6; limit = 5 }) ∷ []
never-holds = refl

never-nowhere : (k : ℕ) → 1 ≤ k → Holds never k → ⊥
never-nowhere k some h =
    let there = holds-less None never 1 k some h in
    miss-none_fits (scaled_rows never 1) (record { index = 0; which = Deadline; value = 6; limit = 5; round = 0 }) there.bounds
    (record { earlier = λ k h. absurd (omega (arith, h)); over = refl }) there.fits

-- a body that no thread calls, which is too dear before any thread is late
abbrev unused : Flat
unused = flat (several (cyc (codes "a") 10 10 (Null ∷ []) ∷ pas (codes "p") (codes "f") (Work 1000000 ∷ Work 1000000 ∷ []) ∷ []))

unused-cheap : first_dear (scaled 500000 unused) ≡ None
unused-cheap = refl

unused-dear : first_dear (scaled 500001 unused) ≡ Some (record { object = codes "p"; op = Some (codes "f"); ticks = 1000002000 })
unused-dear = refl

-- of two bodies that are too dear the passive one is told, though the thread is written first
abbrev both : Flat
both = flat (several (cyc (codes "a") 1000000000 1000000000 (Work 1000000000 ∷ []) ∷ pas (codes "p") (codes "f") (Work 1000000000 ∷ Null ∷ []) ∷ []))

both-dear : (parts both ≡ record { object = codes "p"; op = Some (codes "f"); ticks = 1000000001 }
    ∷ record { object = codes "a"; op = None; ticks = 1000000001 } ∷ [])
    × (first_dear both ≡ Some (record { object = codes "p"; op = Some (codes "f"); ticks = 1000000001 }))
both-dear = (refl, refl)

-- a section grows with the `work` in it
abbrev guarded : Flat
guarded =
    flat (several (cyc (codes "l") 20 20 (call (codes "q") (codes "set") ∷ []) ∷ cyc (codes "h") 10 9 (call (codes "q") (codes "set") ∷ [])
    ∷ pro (codes "q") (codes "set") (Work 3 ∷ []) ∷ []))

guarded-blocks : map (λ k. map (λ r. r.block) (scaled_rows guarded k)) (1 ∷ 1000 ∷ 1001 ∷ []) ≡ (1 ∷ 0 ∷ []) ∷ (3 ∷ 0 ∷ []) ∷ (4 ∷ 0 ∷ []) ∷ []
guarded-blocks = refl

-- budgets are no part of what runs
scaled-flat : flat (scaled_design 2000 (design (cyc (codes "a") 10 10 (Work 3 ∷ [])))) ≡ scaled 2000 one
scaled-flat = refl

-- of two threads the `work` of the first alone may become twice as long, and then the second is late
abbrev pair : Flat
pair = flat (several (cyc (codes "a") 10 10 (Work 3 ∷ []) ∷ cyc (codes "b") 20 20 (Work 4 ∷ []) ∷ []))

abbrev pair_rows : ℕ → List ThreadRow
pair_rows k = (table (scaled_in (Some (codes "a")) k pair)).rows

pair-costs : map (λ k. map (λ r. r.cost) (pair_rows k)) (1 ∷ 1000 ∷ 2000 ∷ 2001 ∷ []) ≡ (2 ∷ 5 ∷ []) ∷ (4 ∷ 5 ∷ []) ∷ (7 ∷ 5 ∷ []) ∷ (8 ∷ 5 ∷ []) ∷ []
pair-costs = refl

pair-holds : HoldsIn (Some (codes "a")) pair 2000
pair-holds = record {
  cheap = refl;
  bounds = record { jitter = 0; response = 7 } ∷ record { jitter = 0; response = 19 } ∷ [];
  fits = ((refl, ((zero-le, le_refl 7), ((zero-le, le_refl 19), tt))), ((omega arith, omega arith), ((omega arith, omega arith), tt)));
}

abbrev pair_miss : Miss
pair_miss = record { index = 1; which = Deadline; value = 21; limit = 20; round = 2 }

pair-misses : IsMiss (pair_rows 2001) pair_miss
pair-misses = record { earlier = λ k h. by k h; over = refl }
  where
    by : (k : ℕ) → k < 2 → first_excess 0 (pair_rows 2001) (round (pair_rows 2001) k) ≡ None
    by zero h = refl
    by (suc zero) h = refl
    by (suc (suc k)) h = absurd (omega (arith, h))

pair-greatest : IsGreatestIn (Some (codes "a")) pair 2000
pair-greatest = record {
  within = (omega arith, omega arith);
  holds = pair-holds;
  above = λ n less most h. let there = holds-less (Some (codes "a")) pair 2001 n less h in
      miss-none_fits (pair_rows 2001) pair_miss there.bounds pair-misses there.fits;
}

-- with no name all `work` is scaled, and in a design the thread of that name alone
pair-all : scaled_in None 2000 pair ≡ scaled 2000 pair
pair-all = refl

pair-flat : flat (scaled_design_in (Some (codes "b")) 3000 (several (cyc (codes "a") 10 10 (Work 3 ∷ []) ∷ cyc (codes "b") 20 20 (Work 4 ∷ []) ∷ [])))
    ≡ flat (several (cyc (codes "a") 10 10 (Work 3 ∷ []) ∷ cyc (codes "b") 20 20 (Work 12 ∷ []) ∷ []))
pair-flat = refl
