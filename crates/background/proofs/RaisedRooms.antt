-- The raised priorities and ceilings of a flat design are at most as many as its threads, and at most 60 as they are written.
use Rattle.std.proofs.Common.{ℕ, ◌+◌, ◌-◌, ◌≤◌, Bool, true, false, List, [], ◌∷◌, length, filter, max}
use Rattle.std.proofs.Common.{refl, arith, suc}
use Rattle.std.specs.Prelude.{if◌then◌else◌}
use Rattle.std.proofs.Math.Nat.{max-le}
use Rattle.seq_tree.specs.Lists.{Each}
use Rattle.ods_tree.specs.Designs.{Design}
use Rattle.ods_tree.specs.Ticks.{first_priority}
use Rattle.ods_tree.specs.Flats.{Timing, Cyclic, Sporadic, Thread, Guarded, Flat}
use Rattle.ods_tree.specs.Flattening.{flat}
use Rattle.analysis.specs.Ceilings.{ceiling, control_ceiling, ranks}
use Rattle.analysis.specs.Priorities.{priorities_of}
use Rattle.analysis.specs.Sound.{IsSound}
use Rattle.design_rules.specs.Rules.{AreMet}
use Rattle.design_bounds.proofs.Shared.RankLaws.{each-made}
use Rattle.law_designs.proofs.Shared.RankRanges.{priority-range, ceiling-range, room}
use Rattle.law_lists.proofs.Shared.Lists.{each-in, each-to}
use Rattle.background_designs.specs.Programs.{at_least, raised}
use Rattle.background.specs.Fronts.{is_slow, slow_count}
use Rattle.background.specs.Makes.{HasRoom}

few-passed : {A : Type 0} (test : A → Bool) (xs : List A) → length (filter test xs) ≤ length xs
few-passed test [] = omega arith
few-passed {A} test (x ∷ xs) = by (test x) (few-passed test xs)
  where
    by : (b : Bool) → length (filter test xs) ≤ length xs → length (if b then x ∷ filter test xs else filter test xs) ≤ suc (length xs)
    by true h = omega (arith, h)
    by false h = omega (arith, h)

each-raised : (least bound : ℕ) (ns : List ℕ) → least ≤ bound → Each (λ n. n ≤ bound) ns → Each (λ n. n ≤ bound) (at_least least ns)
each-raised least bound [] low h = tt
each-raised least bound (n ∷ ns) low h = (max-le low h.0, each-raised least bound ns low h.1)

module _ (f : Flat) where
  pub slow-few : slow_count f ≤ length f.threads
  slow-few = few-passed is_slow f.threads

  abbrev most : ℕ
  most = max 1 (length f.threads)

  slow-low : slow_count f ≤ most
  slow-low = (let few = slow-few in omega (arith, few))

  low-control : (u : Timing) (name : List ℕ) → control_ceiling f (priorities_of f) name u ≤ most
  low-control (Cyclic period offset) name = omega arith
  low-control (Sporadic op separation jitter) name = (ceiling-range f name).1

  low-threads : Each (λ n. n ≤ most) (raised (slow_count f) (ranks f)).threads
  low-threads = each-raised (slow_count f) most (priorities_of f) slow-low
      (each-in (λ n. n ≤ most) (priorities_of f) (λ n h. let r = priority-range f n h in omega (arith, r.1)))

  low-shared : Each (λ n. n ≤ most) (raised (slow_count f) (ranks f)).shared
  low-shared = each-raised (slow_count f) most (ranks f).shared slow-low
      (each-made (λ n. n ≤ most) (λ (g : Guarded). ceiling f (priorities_of f) g.name) f.shared (λ g. (ceiling-range f g.name).1))

  low-obcs : Each (λ n. n ≤ most) (raised (slow_count f) (ranks f)).obcs
  low-obcs = each-raised (slow_count f) most (ranks f).obcs slow-low
      (each-made (λ n. n ≤ most) (λ (t : Thread). control_ceiling f (priorities_of f) t.name t.timing) f.threads (λ t. low-control t.timing t.name))

  module _ (sound : IsSound f) where
    small : most ≤ 31
    small = (let few = sound.formed.thread_count in omega (arith, few))

    -- at most 31
    pub small-threads : Each (λ n. n ≤ 31) (raised (slow_count f) (ranks f)).threads
    small-threads = each-to (λ n. n ≤ most) (λ n. n ≤ 31) _ (λ n h. let s = small in omega (arith, h, s)) low-threads

    pub small-shared : Each (λ n. n ≤ 31) (raised (slow_count f) (ranks f)).shared
    small-shared = each-to (λ n. n ≤ most) (λ n. n ≤ 31) _ (λ n h. let s = small in omega (arith, h, s)) low-shared

  -- and where that many priorities have room, at most 60 as they are written
  pub has-room : (first : ℕ) → most + (first - 1) ≤ 60 → HasRoom first (raised (slow_count f) (ranks f))
  has-room first fits =
      let up : (n : ℕ) → n ≤ most → n + (first - 1) ≤ 60 = λ n h. omega (arith, h, fits) in record {
        threads = each-to (λ n. n ≤ most) (λ n. n + (first - 1) ≤ 60) _ up low-threads;
        shared = each-to (λ n. n ≤ most) (λ n. n + (first - 1) ≤ 60) _ up low-shared;
        obcs = each-to (λ n. n ≤ most) (λ n. n + (first - 1) ≤ 60) _ up low-obcs;
      }

-- of a design that meets the rules
module _ (y : Design) (met : AreMet y y) where
  pub room-raised : HasRoom (first_priority y) (raised (slow_count (flat y)) (ranks (flat y)))
  room-raised = has-room (flat y) (first_priority y) (room y y met refl)
