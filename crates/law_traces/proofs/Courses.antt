-- A thread's activations, one step at a time, are those of its steps in groups.
-- The current activation stands for the steps that it has so far; each step goes behind them, or begins the next.
use Rattle.std.proofs.Common.{◌≡◌, ◌⊎◌, inl, inr, ℕ, zero, suc, ◌+◌, Bool, true, false, not, ◌&&◌, ◌||◌, List, [], ◌∷◌, ◌++◌, map, drop, Option}
use Rattle.std.proofs.Common.{Some, None}
use Rattle.std.proofs.Common.{refl, sym, ap, subst, ◌∙◌, append_assoc, append-nil}
use Rattle.std.specs.List.{cons_option}
use Rattle.std.specs.Prelude.{◌-◌, ◌==◌, filter, nat_le, is_some, if◌then◌else◌, ⊤}
use Rattle.std.proofs.lemmas.List.{map-append}
use Rattle.std.proofs.lemmas.List.Elements.{filter-append}
use Rattle.std.proofs.lemmas.List.Sums.{sum_by_push}
use Rattle.std.proofs.Math.Bool.{and-false, and-true}
use Rattle.std.proofs.lemmas.Bool.{and_parts}
use Rattle.seq_tree.specs.Names.{Name, same_name}
use Rattle.seq_tree.specs.Variables.{Variables, written, kept}
use Rattle.seq_tree.specs.Runs.{Action, Path}
use Rattle.guarantee.specs.Software.{Software, Task}
use Rattle.guarantee.specs.Events.{Deed, Release, Arrive, Enter, Leave, Request, Print, End, Stop, Event, By, Horizon}
use Rattle.guarantee.specs.Steps.{Step, Placed, moments, first_way, is_own, steps_of, depth_after, depth_of, placed, outermost}
use Rattle.guarantee.specs.Scripts.{Activation, Activations, grouped_by, grouped, least_by, most_by, least_inside, most_inside, released_vars}
use Rattle.law_traces.specs.Checks.{action_of, both, scripted, run_along, begins_along, run_of, begins, Ended, ended_at, with_step, ended, is_charged}
use Rattle.law_traces.specs.Checks.{whole_by, activation_by, are_runs, are_activations}
use Rattle.law_traces.specs.Entries.{Shown}
use Rattle.law_traces.specs.Progress.{Course, Progress, Idle, Active, Astray, course_from, with_last, all_shown, end_by, shown_by, is_good, ticks_by}
use Rattle.law_traces.specs.Progress.{seen_at, charged_in, after_deed, is_within, left_by, left_by_course, again_by, active_by, idle_by}
use Rattle.law_traces.specs.Progress.{step_on, ends_by, is_well, moved_from}

abbrev deeds : List Step → List Deed
deeds ss = map (λ s. s.deed) ss

-- ONE STEP MORE
abbrev ended_with : List Step → Step → Deed → Option Ended
ended_with ss s (End used) = Some (record { script = ss; end = s; used = used })
ended_with ss s _ = None

ended-one : (s : Step) (d : Deed) → ended_at s d ≡ ended_with [] s d
ended-one s (Release v) = refl
ended-one s (Arrive v) = refl
ended-one s (Enter name values) = refl
ended-one s (Leave name values) = refl
ended-one s (Request target v) = refl
ended-one s (Print v) = refl
ended-one s (End used) = refl
ended-one s (Stop object priority ceiling) = refl

ended-behind : (x : Step) (ss : List Step) (s : Step) (d : Deed) → with_step x (ended_with ss s d) ≡ ended_with (x ∷ ss) s d
ended-behind x ss s (Release v) = refl
ended-behind x ss s (Arrive v) = refl
ended-behind x ss s (Enter name values) = refl
ended-behind x ss s (Leave name values) = refl
ended-behind x ss s (Request target v) = refl
ended-behind x ss s (Print v) = refl
ended-behind x ss s (End used) = refl
ended-behind x ss s (Stop object priority ceiling) = refl

ended-last : (ss : List Step) (s : Step) → ended (ss ++ s ∷ []) ≡ ended_with ss s s.deed
ended-last [] s = ended-one s s.deed
ended-last (x ∷ []) s = ap (with_step x) (ended-last [] s) ∙ ended-behind x [] s s.deed
ended-last (x ∷ y ∷ ys) s = ap (with_step x) (ended-last (y ∷ ys) s) ∙ ended-behind x (y ∷ ys) s s.deed

both-last : (d : Option Action) (shown : Shown) (a : Option Action) → both d (with_last shown a) ≡ with_last (both d shown) a
both-last None shown a = refl
both-last (Some x) None a = refl
both-last (Some x) (Some as') None = refl
both-last (Some x) (Some as') (Some a) = refl

scripted-last : (w : Software) (ds : List Deed) (d : Deed) → scripted w (ds ++ d ∷ []) ≡ with_last (scripted w ds) (action_of w d)
scripted-last w [] d = by (action_of w d)
  where
    by : (a : Option Action) → both a (Some []) ≡ with_last (Some []) a
    by None = refl
    by (Some a) = refl
scripted-last w (x ∷ ds) d =
    ap (both (action_of w x)) (scripted-last w ds d) ∙ both-last (action_of w x) (scripted w ds) (action_of w d)

outermost-last : (ps : List Placed) (p : Placed) (b : Bool) → (p.depth == 0) ≡ b
    → outermost (ps ++ p ∷ []) ≡ (if b then outermost ps ++ p.step ∷ [] else outermost ps)
outermost-last ps p b e =
    ap (λ z. map (λ q. q.step) z) (filter-append (λ q. q.depth == 0) ps (p ∷ []))
    ∙ ap (λ z. map (λ q. q.step) (filter (λ q. q.depth == 0) ps ++ (if z then p ∷ [] else []))) e ∙ by b
  where
    by : (b : Bool) → map (λ q. q.step) (filter (λ q. q.depth == 0) ps ++ (if b then p ∷ [] else [])) ≡ (if b then outermost ps ++ p.step ∷ [] else outermost ps)
    by true = map-append (λ q. q.step) (filter (λ q. q.depth == 0) ps) (p ∷ [])
    by false = ap (λ z. map (λ q. q.step) z) (append-nil (filter (λ q. q.depth == 0) ps))

abbrev pair : Shown → Option (ℕ × ℕ) → Shown × Option (ℕ × ℕ)
pair shown end = (shown, end)

-- what the outermost steps show, by the end among them
abbrev seen : Software → List Step → Option Ended → Shown × Option (ℕ × ℕ)
seen w ss None = (scripted w (deeds ss), None)
seen w ss (Some e) = (scripted w (deeds e.script), Some (e.end.time, e.used))

wrong : {A : Type 0} → true ≡ false → A
wrong e = absurd (cc)

module _ (w : Software) (depth : ℕ) (t : Task) (served : Name → Bool) (where' : Activation → Bool)
    (at-first : (time : ℕ) (value : Option ℕ) → where' (record { time = time; value = value; steps = [] }) ≡ true)
    (at-last : (time : ℕ) (value : Option ℕ) (ps : List Placed) (p : Placed)
    → where' (record { time = time; value = value; steps = ps ++ p ∷ [] })
    ≡ (where' (record { time = time; value = value; steps = ps }) && is_good served p.step.deed)) where
  -- an activation so far stands for the steps that it has so far
  record Tells (c : Course) (ps : List Placed) : Type 0 where
    all : all_shown c.shown c.end ≡ scripted w (deeds (outermost ps))
    same : pair c.shown c.end ≡ seen w (outermost ps) (ended (outermost ps))
    among : c.among ≡ where' (record { time = c.time; value = c.value; steps = ps })
    low : c.among ≡ true → c.low ≡ least_inside ps
    high : c.among ≡ true → c.high ≡ most_inside ps

  tells-first : (time : ℕ) (value : Option ℕ) → Tells (course_from time value) []
  tells-first time value = record { all = refl; same = refl; among = sym (at-first time value); low = λ e. refl; high = λ e. refl }

  -- the outermost steps with one more
  all-after : (time : ℕ) (d : Deed) (body : Path) (shown : Shown) (end : Option (ℕ × ℕ)) (ss : List Step)
      → all_shown shown end ≡ scripted w (deeds ss)
      → all_shown (shown_by w d (all_shown shown end)) (end_by time d) ≡ with_last (scripted w (deeds ss)) (action_of w d)
  all-after time (Release v) body shown end ss e = ap (λ z. with_last z None) e
  all-after time (Arrive v) body shown end ss e = ap (λ z. with_last z None) e
  all-after time (Enter name values) body shown end ss e = ap (λ z. with_last z (action_of w (Enter name values))) e
  all-after time (Leave name values) body shown end ss e = ap (λ z. with_last z (action_of w (Leave name values))) e
  all-after time (Request target v) body shown end ss e = ap (λ z. with_last z (action_of w (Request target v))) e
  all-after time (Print v) body shown end ss e = ap (λ z. with_last z (action_of w (Print v))) e
  all-after time (End used) body shown end ss e = by (scripted w (deeds ss))
    where
      by : (s : Shown) → None ≡ with_last s None
      by None = refl
      by (Some as') = refl
  all-after time (Stop object priority ceiling) body shown end ss e = ap (λ z. with_last z None) e

  seen-after : (time : ℕ) (d : Deed) (body : Path) (shown : Shown) (ss : List Step) → shown ≡ scripted w (deeds ss)
      → pair (shown_by w d shown) (end_by time d)
      ≡ seen w (ss ++ record { time = time; deed = d; body = body } ∷ []) (ended_with ss (record { time = time; deed = d; body = body }) d)
  seen-after time d body shown ss e = by d refl
    where
      step : Deed → Step
      step x = record { time = time; deed = x; body = body }

      other : (x : Deed) → pair (with_last shown (action_of w x)) None ≡ pair (scripted w (deeds (ss ++ step x ∷ []))) None
      other x =
          let F : Shown → Shown × Option (ℕ × ℕ) = λ z. (z, None) in
          ap (λ z. F (with_last z (action_of w x))) e ∙ ap F (sym (scripted-last w (deeds ss) x))
          ∙ ap (λ z. F (scripted w z)) (sym (map-append (λ s. s.deed) ss (step x ∷ [])))

      by : (x : Deed) → d ≡ x → pair (shown_by w x shown) (end_by time x) ≡ seen w (ss ++ step x ∷ []) (ended_with ss (step x) x)
      by (Release v) i = other (Release v)
      by (Arrive v) i = other (Arrive v)
      by (Enter name values) i = other (Enter name values)
      by (Leave name values) i = other (Leave name values)
      by (Request target v) i = other (Request target v)
      by (Print v) i = other (Print v)
      by (End used) i = let F : Shown → Shown × Option (ℕ × ℕ) = λ z. (z, Some (time, used)) in ap F e
      by (Stop object priority ceiling) i = other (Stop object priority ceiling)

  -- ticks
  abbrev ChargedRight : Bool → Deed → Path → ℕ × ℕ → Type 0
  ChargedRight good (Enter name values) p c = good ≡ true → (c.0 ≡ p.low) × (c.1 ≡ p.high)
  ChargedRight good _ p c = ⊤

  low-by : (d : Deed) (p : Path) (c : ℕ × ℕ) → ChargedRight true d p c → ticks_by true d c.0 ≡ least_by d p
  low-by (Release v) p c h = refl
  low-by (Arrive v) p c h = refl
  low-by (Enter name values) p c h = (h refl).0
  low-by (Leave name values) p c h = refl
  low-by (Request target v) p c h = refl
  low-by (Print v) p c h = refl
  low-by (End used) p c h = refl
  low-by (Stop object priority ceiling) p c h = refl

  high-by : (d : Deed) (p : Path) (c : ℕ × ℕ) → ChargedRight true d p c → ticks_by true d c.1 ≡ most_by d p
  high-by (Release v) p c h = refl
  high-by (Arrive v) p c h = refl
  high-by (Enter name values) p c h = (h refl).1
  high-by (Leave name values) p c h = refl
  high-by (Request target v) p c h = refl
  high-by (Print v) p c h = refl
  high-by (End used) p c h = refl
  high-by (Stop object priority ceiling) p c h = refl

  -- an activation so far, and one step more
  tells-after : (c : Course) (ps : List Placed) (charge : ℕ × ℕ) (time : ℕ) (deed : Deed) (body : Path) → Tells c ps
      → ChargedRight (is_good served deed) deed body charge
      → Tells (after_deed w (is_good served deed) charge time deed c)
      (ps ++ record { depth = depth_of c.depth deed; step = record { time = time; deed = deed; body = body } } ∷ [])
  tells-after c ps charge time deed body h right = by (depth_of c.depth deed == 0) refl
    where
      s : Step
      s = record { time = time; deed = deed; body = body }

      p : Placed
      p = record { depth = depth_of c.depth deed; step = s }

      good : Bool
      good = is_good served deed

      low' : (c.among && good) ≡ true → c.low + ticks_by good deed charge.0 ≡ least_inside (ps ++ p ∷ [])
      low' e =
          let b = and_parts c.among good e in
          let right' : ChargedRight true deed body charge = subst (λ z. ChargedRight z deed body charge) b.1 right in
          ap (λ z. c.low + ticks_by z deed charge.0) b.1 ∙ ap (λ z. c.low + z) (low-by deed body charge right')
          ∙ ap (λ z. z + least_by deed body) (h.low b.0) ∙ sym (sum_by_push (λ q. least_by q.step.deed q.step.body) ps p)

      high' : (c.among && good) ≡ true → c.high + ticks_by good deed charge.1 ≡ most_inside (ps ++ p ∷ [])
      high' e =
          let b = and_parts c.among good e in
          let right' : ChargedRight true deed body charge = subst (λ z. ChargedRight z deed body charge) b.1 right in
          ap (λ z. c.high + ticks_by z deed charge.1) b.1 ∙ ap (λ z. c.high + z) (high-by deed body charge right')
          ∙ ap (λ z. z + most_by deed body) (h.high b.0) ∙ sym (sum_by_push (λ q. most_by q.step.deed q.step.body) ps p)

      among' : (c.among && good) ≡ where' (record { time = c.time; value = c.value; steps = ps ++ p ∷ [] })
      among' = ap (λ z. z && good) h.among ∙ sym (at-last c.time c.value ps p)

      by : (b : Bool) → (depth_of c.depth deed == 0) ≡ b → Tells (charged_in good charge deed (seen_at w b time deed c)) (ps ++ p ∷ [])
      by true e =
          let outer : outermost (ps ++ p ∷ []) ≡ outermost ps ++ s ∷ [] = outermost-last ps p true e in
          record {
            all = all-after time deed body c.shown c.end (outermost ps) h.all ∙ sym (scripted-last w (deeds (outermost ps)) deed)
                ∙ ap (scripted w) (sym (map-append (λ x. x.deed) (outermost ps) (s ∷ []))) ∙ ap (λ z. scripted w (deeds z)) (sym outer);
            same = seen-after time deed body (all_shown c.shown c.end) (outermost ps) h.all
                ∙ ap (seen w (outermost ps ++ s ∷ [])) (sym (ended-last (outermost ps) s)) ∙ ap (λ z. seen w z (ended z)) (sym outer);
            among = among';
            low = low';
            high = high';
          }
      by false e =
          let outer : outermost (ps ++ p ∷ []) ≡ outermost ps = outermost-last ps p false e in
          record {
            all = h.all ∙ ap (λ z. scripted w (deeds z)) (sym outer);
            same = h.same ∙ ap (λ z. seen w z (ended z)) (sym outer);
            among = among';
            low = low';
            high = high';
          }

  shown-of : (shown : Shown) (end : Option (ℕ × ℕ)) (r : Shown × Option (ℕ × ℕ)) → pair shown end ≡ r → (shown ≡ r.0) × (end ≡ r.1)
  shown-of shown end r e = (ap (λ z. z.0) e, ap (λ z. z.1) e)

  -- AN ACTIVATION THAT ANOTHER FOLLOWS
  -- what is behind an activation, by the data that it leaves
  abbrev then_from : Option Variables → (Variables → Bool) → Bool
  then_from None next = false
  then_from (Some d) next = next d

  if-then : (a b c : Bool) (d : Variables) (next : Variables → Bool)
      → (a && b && next d) ≡ then_from (if a && b then Some d else None) next
  if-then true true c d next = refl
  if-then true false c d next = refl
  if-then false b c d next = refl

  charged-same : (c : Course) (a : Activation) (p : Path) (used : ℕ) (b : Bool) → b ≡ c.among → (c.among ≡ true → c.low ≡ least_inside a.steps)
      → (c.among ≡ true → c.high ≡ most_inside a.steps)
      → (not b || is_charged w a p used) ≡ (not c.among || is_within w c p used)
  charged-same c a p used b e low high = by c.among refl
    where
      by : (z : Bool) → c.among ≡ z → (not b || is_charged w a p used) ≡ (not c.among || is_within w c p used)
      by true f =
          ap (λ z. not z || is_charged w a p used) (e ∙ f)
          ∙ ap (λ z. nat_le (p.low + z + w.costs.finish) used && nat_le used (p.high + most_inside a.steps + w.costs.finish)) (sym (low f))
          ∙ ap (λ z. nat_le (p.low + c.low + w.costs.finish) used && nat_le used (p.high + z + w.costs.finish)) (sym (high f))
          ∙ ap (λ z. not z || is_within w c p used) (sym f)
      by false f = ap (λ z. not z || is_charged w a p used) (e ∙ f) ∙ ap (λ z. not z || is_within w c p used) (sym f)

  whole-same : (c : Course) (ps : List Placed) (e : Ended) (o : Option Path) (next : Variables → Bool) → Tells c ps
      → whole_by where' w t (record { time = c.time; value = c.value; steps = ps }) e o next
      ≡ then_from (left_by w t c o (Some (e.end.time, e.used))) next
  whole-same c ps e None next h = refl
  whole-same c ps e (Some p) next h =
      let a : Activation = record { time = c.time; value = c.value; steps = ps } in
      ap (λ z. nat_le (c.time + e.used) e.end.time && z && next (kept t.vars p.vars))
      (charged-same c a p e.used (where' a) (sym h.among) h.low h.high)
      ∙ if-then (nat_le (c.time + e.used) e.end.time) (not c.among || is_within w c p e.used) true (kept t.vars p.vars) next

  closed-same : (data' : Variables) (c : Course) (ps : List Placed) (next : Variables → Bool) → Tells c ps
      → activation_by where' w depth t data' (record { time = c.time; value = c.value; steps = ps }) false (ended (outermost ps)) next
      ≡ then_from (left_by_course w depth t data' c) next
  unfolding run_of
  closed-same data' c ps next h = by (ended (outermost ps)) refl
    where
      vars : Variables
      vars = released_vars t c.value data'

      by : (o : Option Ended) → ended (outermost ps) ≡ o
          → activation_by where' w depth t data' (record { time = c.time; value = c.value; steps = ps }) false o next
          ≡ then_from (left_by_course w depth t data' c) next
      by None e =
          let same = shown-of c.shown c.end _ (h.same ∙ ap (seen w (outermost ps)) e) in
          and-false (begins w depth t.block vars (deeds (outermost ps)))
          ∙ ap (λ z. then_from (left_by w t c (run_along w depth t.block vars c.shown) z) next) (sym same.1)
      by (Some x) e =
          let same = shown-of c.shown c.end _ (h.same ∙ ap (seen w (outermost ps)) e) in
          whole-same c ps x (run_along w depth t.block vars (scripted w (deeds x.script))) next h
          ∙ ap (λ z. then_from (left_by w t c (run_along w depth t.block vars z) (Some (x.end.time, x.used))) next) (sym same.0)
          ∙ ap (λ z. then_from (left_by w t c (run_along w depth t.block vars c.shown) z) next) (sym same.1)

  -- THE LAST ACTIVATION
  some-then : (o : Option Variables) → then_from o (λ d. true) ≡ is_some o
  some-then None = refl
  some-then (Some d) = refl

  last-same : (data' : Variables) (c : Course) (ps : List Placed) → Tells c ps
      → activation_by where' w depth t data' (record { time = c.time; value = c.value; steps = ps }) true (ended (outermost ps)) (λ d. true)
      ≡ ends_by w depth t data' c c.end
  unfolding run_of begins
  last-same data' c ps h = by (ended (outermost ps)) refl
    where
      vars : Variables
      vars = released_vars t c.value data'

      by : (o : Option Ended) → ended (outermost ps) ≡ o
          → activation_by where' w depth t data' (record { time = c.time; value = c.value; steps = ps }) true o (λ d. true)
          ≡ ends_by w depth t data' c c.end
      by None e =
          let same = shown-of c.shown c.end _ (h.same ∙ ap (seen w (outermost ps)) e) in
          and-true (begins_along w depth t.block vars (scripted w (deeds (outermost ps))))
          ∙ ap (begins_along w depth t.block vars) (sym same.0) ∙ ap (ends_by w depth t data' c) (sym same.1)
      by (Some x) e =
          let same = shown-of c.shown c.end _ (h.same ∙ ap (seen w (outermost ps)) e) in
          whole-same c ps x (run_along w depth t.block vars (scripted w (deeds x.script))) (λ d. true) h
          ∙ some-then (left_by w t c (run_along w depth t.block vars (scripted w (deeds x.script))) (Some (x.end.time, x.used)))
          ∙ ap (λ z. is_some (left_by w t c (run_along w depth t.block vars z) (Some (x.end.time, x.used)))) (sym same.0)
          ∙ ap (λ z. is_some (left_by w t c (run_along w depth t.block vars c.shown) z)) (sym same.1)
          ∙ ap (ends_by w depth t data' c) (sym same.1)

  -- STEPS: a release outside of operations, or one that goes behind the others
  abbrev behind : Placed → Activations → Activations
  behind p g = record { before = p ∷ g.before; activations = g.activations }

  record IsPlain (d : ℕ) (deed : Deed) : Type 0 where
    groups : (p : Placed) (g : Activations) → grouped_by d deed p g ≡ behind p g
    goes : (good : Bool) (charge : ℕ × ℕ) (time : ℕ) (data' : Variables) (c : Course)
        → active_by w depth t good charge time d deed data' c ≡ Active data' (after_deed w good charge time deed c)

  abbrev IsRelease : ℕ → Deed → Type 0
  IsRelease d deed = (v : Option ℕ) × (d ≡ 0) × (deed ≡ Release v)

  kind : (d : ℕ) (deed : Deed) → IsRelease d deed ⊎ IsPlain d deed
  kind zero (Release v) = inl (v, refl, refl)
  kind zero (Arrive v) = inr (record { groups = λ p g. refl; goes = λ good charge time data' c. refl })
  kind zero (Enter name values) = inr (record { groups = λ p g. refl; goes = λ good charge time data' c. refl })
  kind zero (Leave name values) = inr (record { groups = λ p g. refl; goes = λ good charge time data' c. refl })
  kind zero (Request target v) = inr (record { groups = λ p g. refl; goes = λ good charge time data' c. refl })
  kind zero (Print v) = inr (record { groups = λ p g. refl; goes = λ good charge time data' c. refl })
  kind zero (End used) = inr (record { groups = λ p g. refl; goes = λ good charge time data' c. refl })
  kind zero (Stop object priority ceiling) = inr (record { groups = λ p g. refl; goes = λ good charge time data' c. refl })
  kind (suc d) deed = inr (record { groups = λ p g. refl; goes = λ good charge time data' c. refl })

  -- the ticks of events, right where they enter an object that is served
  abbrev EventCharged : Event → Path → ℕ × ℕ → Type 0
  EventCharged (By time task deed) p c = ChargedRight (is_good served deed) deed p c
  EventCharged (Horizon time) p c = ⊤

  abbrev pub AreCharged : List Event → List Path → List (ℕ × ℕ) → Type 0
  AreCharged [] bodies cs = ⊤
  AreCharged (e ∷ told) bodies [] = ⊥
  AreCharged (e ∷ told) bodies (c ∷ cs) = EventCharged e (first_way bodies) c × AreCharged told (drop 1 bodies) cs

  abbrev steps_in : List Event → List Path → List Step
  steps_in told bodies = steps_of t.name (moments told bodies)

  abbrev groups_in : ℕ → List Event → List Path → Activations
  groups_in k told bodies = grouped (placed k (steps_in told bodies))

  -- the current activation, with more steps, and those behind it
  abbrev fronted : Course → List Placed → Activations → List Activation
  fronted c ps g = record { time = c.time; value = c.value; steps = ps ++ g.before } ∷ g.activations

  abbrev runs_from : Variables → List Activation → Bool
  runs_from data' acts = are_runs where' w depth t data' acts

  astray-stays : (told : List Event) (cs : List (ℕ × ℕ)) → is_well w depth t (moved_from w depth t served told cs Astray) ≡ false
  astray-stays [] cs = refl
  astray-stays (e ∷ told) [] = refl
  astray-stays (By time task deed ∷ told) (c ∷ cs) = by (same_name task t.name && is_own deed) (astray-stays told cs)
    where
      by : (b : Bool) → is_well w depth t (moved_from w depth t served told cs Astray) ≡ false
          → is_well w depth t (moved_from w depth t served told cs (if b then Astray else Astray)) ≡ false
      by true h = h
      by false h = h
  astray-stays (Horizon time ∷ told) (c ∷ cs) = astray-stays told cs

  abbrev Follows : List Event → List Path → List (ℕ × ℕ) → Type 0
  Follows told bodies cs = (data' : Variables) (c : Course) (ps : List Placed) → Tells c ps
      → is_well w depth t (moved_from w depth t served told cs (Active data' c)) ≡ runs_from data' (fronted c ps (groups_in c.depth told bodies))

  -- one step of the thread
  step-own : (time : ℕ) (deed : Deed) (charge : ℕ × ℕ) (body : Path) (told : List Event) (bodies : List Path) (cs : List (ℕ × ℕ))
      → ChargedRight (is_good served deed) deed body charge → Follows told bodies cs → (data' : Variables) (c : Course) (ps : List Placed) → Tells c ps
      → is_well w depth t (moved_from w depth t served told cs (step_on w depth t (is_good served deed) charge time deed (Active data' c)))
      ≡ runs_from data' (fronted c ps (grouped (placed c.depth (record { time = time; deed = deed; body = body } ∷ steps_in told bodies))))
  step-own time deed charge body told bodies cs right more data' c ps h = by (kind (depth_of c.depth deed) deed)
    where
      s : Step
      s = record { time = time; deed = deed; body = body }

      p : Placed
      p = record { depth = depth_of c.depth deed; step = s }

      next : Progress → Bool
      next z = is_well w depth t (moved_from w depth t served told cs z)

      Goal : ℕ → ℕ → Deed → Type 0
      Goal d k x = next (active_by w depth t (is_good served deed) charge time d x data' c)
          ≡ runs_from data' (fronted c ps (grouped_by d x p (groups_in k told bodies)))

      closing : (v : Option ℕ) (o : Option Variables)
          → next (again_by time v o)
          ≡ then_from o (λ d. runs_from d (fronted (course_from time v) [] (groups_in 0 told bodies)))
      closing v None = astray-stays told cs
      closing v (Some d) = more d (course_from time v) [] (tells-first time v)

      released : (v : Option ℕ) → Goal 0 0 (Release v)
      released v =
          let rest : Variables → Bool = λ d. runs_from d (fronted (course_from time v) [] (groups_in 0 told bodies)) in
          closing v (left_by_course w depth t data' c) ∙ sym (closed-same data' c ps rest h)
          ∙ ap (λ z. activation_by where' w depth t data' (record { time = c.time; value = c.value; steps = z }) false (ended (outermost z)) rest)
          (sym (append-nil ps))

      by : IsRelease (depth_of c.depth deed) deed ⊎ IsPlain (depth_of c.depth deed) deed → Goal (depth_of c.depth deed) (depth_after c.depth deed) deed
      by (inl r) =
          let k : depth_after c.depth deed ≡ 0 =
          ap (depth_after c.depth) r.2 ∙ sym (ap (depth_of c.depth) r.2) ∙ r.1 in
          subst (λ d. Goal d (depth_after c.depth deed) deed) (sym r.1)
          (subst (λ d. Goal 0 d deed) (sym k) (subst (λ x. Goal 0 0 x) (sym r.2) (released r.0)))
      by (inr r) =
          let c' : Course = after_deed w (is_good served deed) charge time deed c in
          ap next (r.goes (is_good served deed) charge time data' c)
          ∙ more data' c' (ps ++ p ∷ []) (tells-after c ps charge time deed body h right)
          ∙ ap (λ z. runs_from data' (record { time = c.time; value = c.value; steps = z } ∷ (groups_in (depth_after c.depth deed) told bodies).activations))
          (append_assoc ps (p ∷ []) (groups_in (depth_after c.depth deed) told bodies).before)
          ∙ ap (λ z. runs_from data' (fronted c ps z)) (sym (r.groups p (groups_in (depth_after c.depth deed) told bodies)))

  -- A WHOLE TRACE, from an activation on
  from-active : (told : List Event) (bodies : List Path) (cs : List (ℕ × ℕ)) → AreCharged told bodies cs → Follows told bodies cs
  from-active [] bodies cs right data' c ps h =
      sym (last-same data' c ps h)
      ∙ ap (λ z. activation_by where' w depth t data' (record { time = c.time; value = c.value; steps = z }) true (ended (outermost z)) (λ d. true))
      (sym (append-nil ps))
  from-active (e ∷ told) bodies [] right data' c ps h = absurd right
  from-active (Horizon time ∷ told) bodies (x ∷ cs) right data' c ps h = from-active told (drop 1 bodies) cs right.1 data' c ps h
  from-active (By time task deed ∷ told) bodies (x ∷ cs) right data' c ps h =
      by (same_name task t.name && is_own deed) (from-active told (drop 1 bodies) cs right.1)
    where
      s : Step
      s = record { time = time; deed = deed; body = first_way bodies }

      by : (b : Bool) → Follows told (drop 1 bodies) cs
          → is_well w depth t (moved_from w depth t served told cs
          (if b then step_on w depth t (is_good served deed) x time deed (Active data' c) else Active data' c))
          ≡ runs_from data' (fronted c ps (grouped (placed c.depth (cons_option (if b then Some s else None) (steps_in told (drop 1 bodies))))))
      by true more = step-own time deed x (first_way bodies) told (drop 1 bodies) cs right.0 more data' c ps h
      by false more = more data' c ps h

  -- and before the first release
  abbrev acts_of : Activations → Bool
  acts_of g = are_activations where' w depth t g

  idle-own : (time : ℕ) (deed : Deed) (p : Placed) (told : List Event) (bodies : List Path) (cs : List (ℕ × ℕ)) → p.step.time ≡ time
      → Follows told bodies cs
      → is_well w depth t (moved_from w depth t served told cs (idle_by time deed (written t.vars)))
      ≡ acts_of (grouped_by (depth_of 0 deed) deed p (groups_in (depth_after 0 deed) told bodies))
  idle-own time (Release v) p told bodies cs e more =
      more (written t.vars) (course_from time v) [] (tells-first time v)
      ∙ ap (λ z. runs_from (written t.vars) (record { time = z; value = v; steps = (groups_in 0 told bodies).before } ∷ (groups_in 0 told bodies).activations))
      (sym e)
  idle-own time (Arrive v) p told bodies cs e more = astray-stays told cs
  idle-own time (Enter name values) p told bodies cs e more = astray-stays told cs
  idle-own time (Leave name values) p told bodies cs e more = by (0 - 1)
    where
      by : (n : ℕ) → is_well w depth t (moved_from w depth t served told cs Astray)
          ≡ acts_of (grouped_by n (Leave name values) p (groups_in (depth_after 0 (Leave name values)) told bodies))
      by zero = astray-stays told cs
      by (suc n) = astray-stays told cs
  idle-own time (Request target v) p told bodies cs e more = astray-stays told cs
  idle-own time (Print v) p told bodies cs e more = astray-stays told cs
  idle-own time (End used) p told bodies cs e more = astray-stays told cs
  idle-own time (Stop object priority ceiling) p told bodies cs e more = astray-stays told cs

  pub from-idle : (told : List Event) (bodies : List Path) (cs : List (ℕ × ℕ)) → AreCharged told bodies cs
      → is_well w depth t (moved_from w depth t served told cs (Idle (written t.vars))) ≡ acts_of (groups_in 0 told bodies)
  from-idle [] bodies cs right = refl
  from-idle (e ∷ told) bodies [] right = absurd right
  from-idle (Horizon time ∷ told) bodies (x ∷ cs) right = from-idle told (drop 1 bodies) cs right.1
  from-idle (By time task deed ∷ told) bodies (x ∷ cs) right =
      by (same_name task t.name && is_own deed) (from-idle told (drop 1 bodies) cs right.1)
    where
      s : Step
      s = record { time = time; deed = deed; body = first_way bodies }

      by : (b : Bool)
          → is_well w depth t (moved_from w depth t served told cs (Idle (written t.vars))) ≡ acts_of (groups_in 0 told (drop 1 bodies))
          → is_well w depth t (moved_from w depth t served told cs
          (if b then step_on w depth t (is_good served deed) x time deed (Idle (written t.vars)) else Idle (written t.vars)))
          ≡ acts_of (grouped (placed 0 (cons_option (if b then Some s else None) (steps_in told (drop 1 bodies)))))
      by true h =
          idle-own time deed (record { depth = depth_of 0 deed; step = s }) told (drop 1 bodies) cs refl (from-active told (drop 1 bodies) cs right.1)
      by false h = h
