-- All parts together: each is decided, and they are the machine.
use Rattle.std.proofs.Common.{◌≡◌, inl, inr, true, List, [], ◌∷◌}
use Rattle.std.specs.Bool.{Decides}
use Rattle.seq_tree.specs.Lists.{Each}
use Rattle.seq_tree.specs.Variables.{Variables, written, kept}
use Rattle.seq_tree.specs.Runs.{Path}
use Rattle.law_walks.specs.Fit.{MayRun}
use Rattle.guarantee.specs.Software.{Software, Task, leads_to}
use Rattle.guarantee.specs.Events.{Event}
use Rattle.guarantee.specs.Arrivals.{Arrivals}
use Rattle.guarantee.specs.Steps.{moments, steps_of, placed}
use Rattle.guarantee.specs.Scripts.{Activation, Activations, grouped, AreRuns, FollowsBlock}
use Rattle.guarantee.specs.Passages.{ServesOneByOne}
use Rattle.guarantee.specs.Allowed.{IsPeriodic, IsRequested, Permits}
use Rattle.law_traces.specs.Clear.{IsClear}
use Rattle.law_traces.specs.Parts.{Serves, AreRight, enters_in, IsAmongServed, AreRunsWhere, Follows}
use Rattle.law_traces.specs.Checks.{follows, is_periodic, is_requested}
use Rattle.law_traces.specs.Laws.{AreDecided, PartsHold, IsInParts}
use Rattle.law_traces.proofs.Deciding.{each-of, each-map, each-both}
use Rattle.law_traces.proofs.Shared.Simple.{times, cyclic, arrivals, requests}
use Rattle.law_traces.proofs.Charges.{computed, objects-decided, computed-right}
use Rattle.law_traces.proofs.Scripts.{follows-decided, follows-computed}

pub all-decided : (w : Software) (clear : IsClear w) (r : Arrivals) (trace : List Event) → AreDecided w clear.depth r trace
all-decided w clear r trace = record {
  times = times w.tasks r.until 0 trace;
  cyclic = each-of (λ t. Decides (is_periodic r.until trace t.name t.timing) (IsPeriodic r.until trace t.name t.timing))
      (λ t. cyclic r.until trace t.name t.timing) w.tasks;
  arrivals = arrivals r.until r.items trace;
  requests = each-of (λ t. Decides (is_requested trace t.name t.timing) (IsRequested trace t.name t.timing))
      (λ t. requests trace t.name t.timing) w.tasks;
  scripts = each-map (λ t. MayRun (leads_to w) clear.depth t.block) (λ t. Decides (follows w clear.depth trace t) (Follows w trace t))
      (λ t may. follows-decided w clear trace t may) w.tasks clear.threads;
  objects = objects-decided w clear trace;
}

-- activations that are runs are so where a condition holds, and so they are where it always does
runs-where : (Where : Activation → Type 0) (w : Software) (t : Task) (data' : Variables) (acts : List Activation) → AreRuns w t data' acts
    → AreRunsWhere Where w t data' acts
runs-where Where w t data' [] h = tt
runs-where Where w t data' (a ∷ more) h =
    elim h [
      | inl r ↦ inl (r.0, r.1, (λ there. r.2), runs-where Where w t (kept t.vars r.0.vars) more r.3)
      | inr r ↦ inr r
    ]

runs-all : (Where : Activation → Type 0) → ((a : Activation) → Where a) → (w : Software) (t : Task) (data' : Variables) (acts : List Activation)
    → AreRunsWhere Where w t data' acts → AreRuns w t data' acts
runs-all Where all w t data' [] h = tt
runs-all Where all w t data' (a ∷ more) h =
    elim h [
      | inl r ↦ inl (r.0, r.1, r.2 (all a), runs-all Where all w t (kept t.vars r.0.vars) more r.3)
      | inr r ↦ inr r
    ]

module _ (w : Software) (clear : IsClear w) (r : Arrivals) (trace : List Event) where
  abbrev groups_of : Task → List Path → Activations
  groups_of t bodies = grouped (placed 0 (steps_of t.name (moments trace bodies)))

  apart : Permits w r trace → PartsHold w r trace
  apart p =
      let bs : List Path = p.written.bodies in
      let served : Each (Serves w trace) w.shared =
      each-map (ServesOneByOne w (moments trace bs)) (Serves w trace) (λ g h. (bs, h)) w.shared p.written.objects in
      let right : AreRight w trace bs =
      each-map (ServesOneByOne w (moments trace bs)) (λ g. Serves w trace g → ServesOneByOne w (moments trace bs) g) (λ g h s. h) w.shared
      p.written.objects in
      record {
        times = p.written.order;
        cyclic = p.periodic;
        arrivals = p.arrivals;
        requests = p.requested;
        scripts = each-map (FollowsBlock w (moments trace bs)) (Follows w trace)
            (λ t h. (bs, right, (h.0, runs-where (IsAmongServed w trace) w t (written t.vars) (groups_of t bs).activations h.1))) w.tasks
            p.written.threads;
        objects = served;
      }

  together : PartsHold w r trace → Permits w r trace
  together p =
      let among : (a : Activation) → IsAmongServed w trace a =
      λ a. each-map (Serves w trace) (λ g. enters_in g.name a ≡ true → Serves w trace g) (λ g h s. h) w.shared p.objects in
      record {
        written = record {
          order = p.times;
          bodies = computed w clear trace;
          threads = each-both (λ t. MayRun (leads_to w) clear.depth t.block) (Follows w trace) (FollowsBlock w (moments trace (computed w clear trace)))
              (λ t may h.
              let c = follows-computed w clear trace t may h in
              (c.0, runs-all (IsAmongServed w trace) among w t (written t.vars) (groups_of t (computed w clear trace)).activations c.1))
              w.tasks clear.threads p.scripts;
          objects = each-both (Serves w trace) (λ g. Serves w trace g → ServesOneByOne w (moments trace (computed w clear trace)) g)
              (ServesOneByOne w (moments trace (computed w clear trace))) (λ g h right. right h) w.shared p.objects (computed-right w clear trace);
        };
        periodic = p.cyclic;
        arrivals = p.arrivals;
        requested = p.requests;
      }

  pub in-parts : IsInParts w r trace
  in-parts = record { apart = apart; together = together }
