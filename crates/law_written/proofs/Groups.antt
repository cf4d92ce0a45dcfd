-- Activations, from their ends on: what follows a release is a whole activation and then what follows its end, or a begun one.
use Rattle.std.specs.Prelude.{◌≡◌, ℕ, zero, suc, ◌+◌, ◌≤◌, Bool, true, false, ◌==◌, List, [], ◌∷◌, ◌++◌, map, filter, cond, Option, ⊤, refl}
use Rattle.std.proofs.Common.{sym, ◌∙◌, ap, subst, arith, inl, inr}
use Rattle.std.proofs.lemmas.List.Sums.{sum_by_push}
use Rattle.seq_tree.specs.Lists.{Each}
use Rattle.seq_tree.specs.Variables.{Variables, kept}
use Rattle.seq_tree.specs.Runs.{Action, Path, Run, BeginsScript}
use Rattle.seq_tree.specs.Runs as runs
use Rattle.guarantee.specs.Software.{Task, Software, leads_to}
use Rattle.guarantee.specs.Events.{Deed, Release, Arrive, Enter, Leave, Request, Print, End, Stop}
use Rattle.guarantee.specs.Steps.{Step, Placed, placed, outermost, shown}
use Rattle.guarantee.specs.Scripts.{Activation, Activations, grouped, grouped_by, least_by, most_by, least_inside, most_inside, released_vars}
use Rattle.guarantee.specs.Scripts.{IsWhole, IsCharged, AreRuns}
use Rattle.law_tasks.proofs.Shared.Ways.{Within, outer}
use Rattle.law_tasks.proofs.Shared.Depths.{placed-append, outermost-append}
use Rattle.std.proofs.lemmas.Bool.{true≢false}

-- the life of a thread from some data on: its steps are activations
abbrev pub Life : Software → Task → Variables → List Step → Type 0
Life w t data' ss = ((grouped (placed 0 ss)).before ≡ []) × AreRuns w t data' (grouped (placed 0 ss)).activations

-- a step that begins no activation
abbrev NoRelease : ℕ → Deed → Type 0
NoRelease zero (Release value) = ⊥
NoRelease _ _ = ⊤

grouped_by-plain : (d : ℕ) (deed : Deed) (p : Placed) (g : Activations) → NoRelease d deed
    → grouped_by d deed p g ≡ record { before = p ∷ g.before; activations = g.activations }
grouped_by-plain zero (Release value) p g no' = absurd no'
grouped_by-plain zero (Arrive value) p g no' = refl
grouped_by-plain zero (Enter name values) p g no' = refl
grouped_by-plain zero (Leave name values) p g no' = refl
grouped_by-plain zero (Request target value) p g no' = refl
grouped_by-plain zero (Print value) p g no' = refl
grouped_by-plain zero (End used) p g no' = refl
grouped_by-plain zero (Stop object priority ceiling) p g no' = refl
grouped_by-plain (suc d) deed p g no' = refl

abbrev ArePlain : List Placed → Type 0
ArePlain ps = Each (λ p. NoRelease p.depth p.step.deed) ps

grouped-append : (ps qs : List Placed) → ArePlain ps → grouped (ps ++ qs) ≡ record {
  before = ps ++ (grouped qs).before;
  activations = (grouped qs).activations;
}
grouped-append [] qs plain = refl
grouped-append (p ∷ ps) qs plain =
    ap (λ g. grouped_by p.depth p.step.deed p g) (grouped-append ps qs plain.1)
    ∙ grouped_by-plain p.depth p.step.deed p (record { before = ps ++ (grouped qs).before; activations = (grouped qs).activations }) plain.0

-- steps whose outermost ones are shown actions
shown-plain : (d : ℕ) (a : Action) → NoRelease d (shown a)
shown-plain zero (runs.Enter name values) = tt
shown-plain zero (runs.Leave name values) = tt
shown-plain zero (runs.Request name value) = tt
shown-plain zero (runs.Print value) = tt
shown-plain (suc d) a = tt

deeper-plain : (d : ℕ) (deed : Deed) → (d == 0) ≡ false → NoRelease d deed
deeper-plain zero deed e = absurd (true≢false e)
deeper-plain (suc d) deed e = tt

plain-shown : (ps : List Placed) (script : List Action) → map (λ s. s.deed) (outermost ps) ≡ map shown script → ArePlain ps
plain-shown [] script e = tt
plain-shown (p ∷ ps) script e = by (p.depth == 0) refl script e (λ rest h. plain-shown ps rest h)
  where
    by : (b : Bool) → (p.depth == 0) ≡ b → (as' : List Action)
        → map (λ s. s.deed) (map (λ q. q.step) (cond b (p ∷ filter (λ q. q.depth == 0) ps) (filter (λ q. q.depth == 0) ps))) ≡ map shown as'
        → ((rest : List Action) → map (λ s. s.deed) (outermost ps) ≡ map shown rest → ArePlain ps) → ArePlain (p ∷ ps)
    by true here [] h later = absurd (cons_nil _ _ h)
      where
        cons_nil : (d : Deed) (ds : List Deed) → d ∷ ds ≡ [] → ⊥
        cons_nil d ds q = cc
    by true here (a ∷ as') h later =
        let heads' : p.step.deed ≡ shown a = heads _ _ _ _ h in
        let P : Deed → Type 0 = λ d. NoRelease p.depth d in
        (subst P (sym heads') (shown-plain p.depth a), later as' (tails _ _ _ _ h))
      where
        heads : (d d' : Deed) (ds ds' : List Deed) → d ∷ ds ≡ d' ∷ ds' → d ≡ d'
        heads d d' ds ds' q = cc

        tails : (d d' : Deed) (ds ds' : List Deed) → d ∷ ds ≡ d' ∷ ds' → ds ≡ ds'
        tails d d' ds ds' q = cc
    by false here as' h later = (deeper-plain p.depth p.step.deed here, later as' h)

-- the end of an activation
abbrev pub end_step : ℕ → ℕ → Path → Step
end_step time used body = record { time = time; deed = End used; body = body }

-- the steps of an activation and its end
end_steps : (w : Software) (t : Task) (inner more : List Step) (time used : ℕ) (body : Path) (data' : Variables) (script : List Action)
    → Within 0 0 inner → outer 0 inner ≡ map shown script → Life w t data' more
    → grouped (placed 0 (inner ++ end_step time used body ∷ more))
    ≡ record {
      before = placed 0 inner ++ record { depth = 0; step = end_step time used body } ∷ [];
      activations = (grouped (placed 0 more)).activations;
    }
end_steps w t inner more time used body data' script within shows life =
    let g : Activations = grouped (placed 0 more) in
    let p : Placed = record { depth = 0; step = end_step time used body } in
    ap grouped (placed-append 0 0 inner (end_step time used body ∷ more) within)
    ∙ grouped-append (placed 0 inner) (placed 0 (end_step time used body ∷ more)) (plain-shown (placed 0 inner) script shows)
    ∙ ap (λ b. let h : Activations = record { before = placed 0 inner ++ p ∷ b; activations = g.activations } in h) life.0

-- the ticks of operations that are entered, up to an end
least-end : (ps : List Placed) (time used : ℕ) (body : Path) → least_inside (ps ++ record { depth = 0; step = end_step time used body } ∷ [])
    ≡ least_inside ps
least-end ps time used body = sum_by_push (λ p. least_by p.step.deed p.step.body) ps (record { depth = 0; step = end_step time used body }) ∙
    omega arith

most-end : (ps : List Placed) (time used : ℕ) (body : Path) → most_inside (ps ++ record { depth = 0; step = end_step time used body } ∷ [])
    ≡ most_inside ps
most-end ps time used body = sum_by_push (λ p. most_by p.step.deed p.step.body) ps (record { depth = 0; step = end_step time used body }) ∙
    omega arith

-- a release, a whole activation and what follows its end
pub life_whole : (w : Software) (t : Task) (data' : Variables) (time : ℕ) (value : Option ℕ) (way : Path) (p : Path) (inner more : List Step)
    (ending used : ℕ) (body : Path)
    → Run w.costs (leads_to w) t.block (released_vars t value data') p
    → Within 0 0 inner → outer 0 inner ≡ map shown p.script
    → p.low + least_inside (placed 0 inner) + w.costs.finish ≤ used → used ≤ p.high + most_inside (placed 0 inner) + w.costs.finish
    → time + used ≤ ending
    → Life w t (kept t.vars p.vars) more
    → Life w t data' (record { time = time; deed = Release value; body = way } ∷ (inner ++ end_step ending used body ∷ more))
life_whole w t data' time value way p inner more ending used body run within shows low high since life =
    let ss : List Step = inner ++ end_step ending used body ∷ more in
    let last : Placed = record { depth = 0; step = end_step ending used body } in
    let g : Activations = record { before = placed 0 inner ++ last ∷ []; activations = (grouped (placed 0 more)).activations } in
    let P : Activations → Type 0 = λ h. AreRuns w t data' (record { time = time; value = value; steps = h.before } ∷ h.activations) in
    let a : Activation = record { time = time; value = value; steps = placed 0 inner ++ last ∷ [] } in
    let whole : IsWhole w t data' a p = record {
      run = run;
      script = outermost (placed 0 inner);
      end = end_step ending used body;
      used = used;
      steps = outermost-append (placed 0 inner) (last ∷ []);
      shows = shows;
      ends = refl;
      since = since;
    } in
    let charged : IsCharged w a p used = record {
      at_least = omega (arith, low, least-end (placed 0 inner) ending used body);
      at_most = omega (arith, high, most-end (placed 0 inner) ending used body);
    } in
    let parts : grouped (placed 0 ss) ≡ g = end_steps w t inner more ending used body (kept t.vars p.vars) p.script within shows life in
    (refl, subst P (sym parts) (inl (p, whole, charged, life.1)))

-- steps that begin no activation are one group
grouped_plain : (ps : List Placed) → ArePlain ps → grouped ps ≡ record { before = ps; activations = [] }
grouped_plain [] plain = refl
grouped_plain (p ∷ ps) plain =
    ap (λ g. grouped_by p.depth p.step.deed p g) (grouped_plain ps plain.1) ∙ grouped_by-plain p.depth p.step.deed p
    (record { before = ps; activations = [] }) plain.0

-- a release and an activation that does not end
pub life_begun : (w : Software) (t : Task) (data' : Variables) (time : ℕ) (value : Option ℕ) (way : Path) (ss : List Step) (script : List Action)
    → BeginsScript w.costs (leads_to w) t.block (released_vars t value data') script
    → outer 0 ss ≡ map shown script
    → Life w t data' (record { time = time; deed = Release value; body = way } ∷ ss)
life_begun w t data' time value way ss script begins shows =
    let P : Activations → Type 0 = λ h. AreRuns w t data' (record { time = time; value = value; steps = h.before } ∷ h.activations) in (
      refl,
      subst P (sym (grouped_plain (placed 0 ss) (plain-shown (placed 0 ss) script shows))) (inr
          (record { script = script; begins = begins; shows = shows }, refl)),
    )
