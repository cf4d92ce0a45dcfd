-- What a trace says of some software doesn't depend on the periods of its cyclic tasks, but for their releases.
use Rattle.std.specs.Prelude.{◌≡◌, ℕ, Bool, List, [], ◌∷◌, ◌++◌, map, find, Option, Some, None, refl}
use Rattle.std.specs.Prelude.{option_to_list, option_map}
use Rattle.std.proofs.Common.{sym, ◌∙◌, ap, subst, inl, inr}
use Rattle.seq_tree.specs.Names.{Name, same_name}
use Rattle.seq_tree.specs.Operations.{Operation}
use Rattle.seq_tree.specs.Variables.{Variables, entered, kept, written, opened}
use Rattle.seq_tree.specs.Runs.{Callee, Run, BeginsScript, Path}
use Rattle.ods_tree.specs.Flats.{Timing, Guarded}
use Rattle.ods_tree.specs.Flats as timing
use Rattle.ods_tree.specs.Services.{services, requested, request_of, callee}
use Rattle.guarantee.specs.Software.{Task, Software, leads_to, params_of}
use Rattle.guarantee.specs.Events.{Deed, Event, By, Horizon}
use Rattle.guarantee.specs.Arrivals.{Arrivals, AreKept, IsTaken, Takes, IsExternal, AreDurations, KeepsSeparation}
use Rattle.guarantee.specs.Order.{IsInOrder, is_task_name}
use Rattle.guarantee.specs.Steps.{steps_of, placed, moments}
use Rattle.guarantee.specs.Scripts.{Activation, grouped, IsWhole, IsCharged, IsBegun, AreRuns, FollowsBlock, released_vars}
use Rattle.guarantee.specs.Passages.{Passage, Into, Out, passages, IsBody, IsBodyBegun, IsServed, AreOneByOne, ServesOneByOne}
use Rattle.guarantee.specs.Allowed.{DoesAsWritten}
use Rattle.law_lists.proofs.Shared.Lists.{each-map, each-to}
use Rattle.law_backgrounds.proofs.Shared.Lifts.{any-through}
use Rattle.law_backgrounds.proofs.LiftedTables.{retime, retask, made-same, find-through, each-unmap}

-- software with its tasks so timed
abbrev pub retimed : (Name → Bool) → Software → Software
retimed eager w = record w { tasks = map (retask eager) w.tasks }

params-same : (b : Bool) (z : Timing) → params_of (retime b z) ≡ params_of z
params-same b (timing.Cyclic period offset) = refl
params-same b (timing.Sporadic op separation jitter) = refl

request-same : (b : Bool) (z : Timing) → request_of (retime b z) ≡ request_of z
request-same b (timing.Cyclic period offset) = refl
request-same b (timing.Sporadic op separation jitter) = refl

module _ (eager : Name → Bool) (w : Software) where
  abbrev w' : Software
  w' = retimed eager w

  leads : leads_to w' ≡ leads_to w
  leads = ap (λ rs. callee (services w.passive w.shared rs)) (made-same (retask eager) (λ t. requested t.name (request_of t.timing)) w.tasks
      (λ t. ap (λ o. requested t.name o) (request-same (eager t.name) t.timing)))

  vars-same : (t : Task) (value : Option ℕ) (data' : Variables) → released_vars (retask eager t) value data' ≡ released_vars t value data'
  vars-same t value data' = ap (λ ps. entered ps (option_to_list value) ++ data') (params-same (eager t.name) t.timing)

  run-back : (t : Task) (value : Option ℕ) (data' : Variables) (p : Path)
      → Run w.costs (leads_to w') t.block (released_vars (retask eager t) value data') p
      → Run w.costs (leads_to w) t.block (released_vars t value data') p
  run-back t value data' p h =
      let P : (Name → Name → Callee) → Type 0 = λ l. Run w.costs l t.block (released_vars t value data') p in
      let Q : Variables → Type 0 = λ vs. Run w.costs (leads_to w') t.block vs p in
      subst P leads (subst Q (vars-same t value data') h)

  whole-back : (t : Task) (data' : Variables) (a : Activation) (p : Path) → IsWhole w' (retask eager t) data' a p → IsWhole w t data' a p
  whole-back t data' a p h = record {
    run = run-back t a.value data' p h.run;
    script = h.script;
    end = h.end;
    used = h.used;
    steps = h.steps;
    shows = h.shows;
    ends = h.ends;
    since = h.since;
  }

  charged-back : (a : Activation) (p : Path) (used : ℕ) → IsCharged w' a p used → IsCharged w a p used
  charged-back a p used h = record { at_least = h.at_least; at_most = h.at_most }

  begun-back : (t : Task) (data' : Variables) (a : Activation) → IsBegun w' (retask eager t) data' a → IsBegun w t data' a
  begun-back t data' a h =
      let P : (Name → Name → Callee) → Type 0 = λ l. BeginsScript w.costs l t.block (released_vars t a.value data') h.script in
      let Q : Variables → Type 0 = λ vs. BeginsScript w.costs (leads_to w') t.block vs h.script in
      record { script = h.script; begins = subst P leads (subst Q (vars-same t a.value data') h.begins); shows = h.shows }

  runs-back : (t : Task) (data' : Variables) (as' : List Activation) → AreRuns w' (retask eager t) data' as' → AreRuns w t data' as'
  unfolding whole-back
  runs-back t data' [] h = tt
  runs-back t data' (a ∷ more) (inl (p, whole, charged, rest)) =
      inl (p, whole-back t data' a p whole, charged-back a p whole.used charged, runs-back t (kept t.vars p.vars) more rest)
  runs-back t data' (a ∷ more) (inr (begun, none)) = inr (begun-back t data' a begun, none)

  body-back : (o : Operation) (data' : Variables) (values : List ℕ) (does : List Deed) (body : Path) → IsBody w' o data' values does body
      → IsBody w o data' values does body
  body-back o data' values does body h =
      let P : (Name → Name → Callee) → Type 0 = λ l. Run w.costs l o.block (opened o values ++ data') body in
      record { run = subst P leads h.run; shows = h.shows }

  body-begun-back : (o : Operation) (data' : Variables) (values : List ℕ) (does : List Deed) → IsBodyBegun w' o data' values does
      → IsBodyBegun w o data' values does
  body-begun-back o data' values does h =
      let P : (Name → Name → Callee) → Type 0 = λ l. BeginsScript w.costs l o.block (opened o values ++ data') h.script in
      record { script = h.script; begins = subst P leads h.begins; shows = h.shows }

  served-back : (g : Guarded) (data' : Variables) (op : Name) (values : List ℕ) (does : List Deed) (body : Path) (results : List ℕ)
      → IsServed w' g data' op values does body results → IsServed w g data' op values does body results
  served-back g data' op values does body results h = record {
    operation = h.operation;
    stands = h.stands;
    runs = body-back h.operation data' values does body h.runs;
    gives = h.gives;
  }

  one-by-one-back : (g : Guarded) (data' : Variables) (ps : List Passage) → AreOneByOne w' g data' ps → AreOneByOne w g data' ps
  one-by-one-back g data' [] h = tt
  one-by-one-back g data' (Into thread op values does body ∷ []) (o, stands, begun) = (o, stands, body-begun-back o data' values does begun)
  one-by-one-back g data' (Into thread op values does body ∷ Out other same results ∷ more) (a, b, served, rest) =
      (a, b, served-back g data' op values does body results served, one-by-one-back g (kept g.vars body.vars) more rest)
  one-by-one-back g data' (Into thread op values does body ∷ Into other another values' does' body' ∷ more) h = absurd h
  one-by-one-back g data' (Out thread op results ∷ more) h = absurd h

  names-same : (name : Name) → is_task_name (map (retask eager) w.tasks) name ≡ is_task_name w.tasks name
  names-same name = any-through (retask eager) (λ t. same_name t.name name) (λ t. same_name t.name name) w.tasks (λ t. refl)

  order-back : (until now : ℕ) (told : List Event) → IsInOrder (map (retask eager) w.tasks) until now told → IsInOrder w.tasks until now told
  order-back until now [] h = h
  order-back until now (By time task deed ∷ told) (a, b, c, rest) = (a, sym (names-same task) ∙ b, c, order-back until time told rest)
  order-back until now (Horizon time ∷ told) h = h

  -- a trace that does as the retimed software is written does as the software is
  pub written-back : (until : ℕ) (trace : List Event) → DoesAsWritten w' until trace → DoesAsWritten w until trace
  written-back until trace h = record {
    order = order-back until 0 trace h.order;
    bodies = h.bodies;
    threads = each-unmap (retask eager) (FollowsBlock w' (moments trace h.bodies)) (FollowsBlock w (moments trace h.bodies)) w.tasks
        (λ t k. (k.0, runs-back t (written t.vars) (grouped (placed 0 (steps_of t.name (moments trace h.bodies)))).activations k.1)) h.threads;
    objects = each-to (ServesOneByOne w' (moments trace h.bodies)) (ServesOneByOne w (moments trace h.bodies)) w.shared
        (λ g k. one-by-one-back g (written g.vars) (passages g.name (moments trace h.bodies)) k) h.objects;
  }

  -- arrivals that keep the separations of the software keep those of the retimed one
  pub kept-on : (limit : ℕ) (r : Arrivals) → AreKept limit w r → AreKept limit w' r
  kept-on limit r h = record {
    horizon = h.horizon;
    durations = each-to (AreDurations w.tasks) (AreDurations w'.tasks) r.work (λ d k. (names-same d.task ∙ k.0, k.1)) h.durations;
    times = h.times;
    external = each-to (IsExternal w.tasks) (IsExternal w'.tasks) r.items (λ a k. let P : Option Task → Type 0 = λ o. IsTaken o a.value in
        subst P (sym (find-through (retask eager) (λ t. same_name t.name a.task) w.tasks (λ t. refl)))
        (taken (find (λ t. same_name t.name a.task) w.tasks) a.value k)) h.external;
    separations = each-map (retask eager) (λ t. KeepsSeparation r.items t.name t.timing) w.tasks
        (each-to _ _ w.tasks (λ t k. separate t.name (eager t.name) t.timing k) h.separations);
  }
    where
      takes : (b : Bool) (z : Timing) (value : Option ℕ) → Takes z value → Takes (retime b z) value
      takes b (timing.Cyclic period offset) value k = k
      takes b (timing.Sporadic op separation jitter) value k = k

      taken : (o : Option Task) (value : Option ℕ) → IsTaken o value → IsTaken (option_map (retask eager) o) value
      taken None value k = k
      taken (Some t) value k = takes (eager t.name) t.timing value k

      separate : (name : Name) (b : Bool) (z : Timing) → KeepsSeparation r.items name z → KeepsSeparation r.items name (retime b z)
      separate name b (timing.Cyclic period offset) k = k
      separate name b (timing.Sporadic op separation jitter) k = k
