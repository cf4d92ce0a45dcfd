-- The priorities and ceilings of a design that meets the rules are at most 60 as they are written.
use Rattle.std.proofs.Common.{ℕ, ◌+◌, ◌-◌, ◌≤◌, List, length, max}
use Rattle.std.proofs.Common.{refl, arith}
use Rattle.ods_tree.specs.Designs.{Design}
use Rattle.ods_tree.specs.Ticks.{first_priority}
use Rattle.ods_tree.specs.Flats.{Timing, Cyclic, Sporadic, Thread, Guarded}
use Rattle.ods_tree.specs.Flattening.{threads, flat}
use Rattle.analysis.specs.Ceilings.{ceiling, control_ceiling}
use Rattle.analysis.specs.Priorities.{priorities_of}
use Rattle.design_rules.specs.Rules.{AreMet}
use Rattle.design_bounds.proofs.Shared.RankLaws.{each-made}
use Rattle.law_designs.proofs.Shared.RankRanges.{priority-range, ceiling-range, room}
use Rattle.law_lists.proofs.Shared.Lists.{each-in}
use Rattle.bridge.specs.Makes.{HasRoom}

module _ (x : Design) (met : AreMet x x) where
  most : max 1 (length (threads x)) + (first_priority x - 1) ≤ 60
  most = room x x met refl

  small-ceiling : (name : List ℕ) → ceiling (flat x) (priorities_of (flat x)) name + (first_priority x - 1) ≤ 60
  small-ceiling name = (let r = ceiling-range (flat x) name in let k = most in omega (arith, r.1, k))

  small-control : (u : Timing) (name : List ℕ) → control_ceiling (flat x) (priorities_of (flat x)) name u + (first_priority x - 1) ≤ 60
  small-control (Cyclic period offset) name = (let k = most in omega (arith, k))
  small-control (Sporadic op separation jitter) name = small-ceiling name

  pub has-room : HasRoom (first_priority x) (flat x)
  has-room = record {
    threads = each-in (λ n. n + (first_priority x - 1) ≤ 60) (priorities_of (flat x)) (λ n h. let r = priority-range (flat x) n h in let k = most
        in omega (arith, r.1, k));
    shared = each-made (λ n. n + (first_priority x - 1) ≤ 60) (λ (g : Guarded). ceiling (flat x)
        (priorities_of (flat x)) g.name) (flat x).shared (λ g. small-ceiling g.name);
    obcs = each-made (λ n. n + (first_priority x - 1) ≤ 60) (λ (t : Thread). control_ceiling (flat x)
        (priorities_of (flat x)) t.name t.timing) (flat x).threads (λ t. small-control t.timing t.name);
  }
