-- The activations of a thread: what is computed of them with the ways that are computed tells whether they are runs with any right ways.
use Rattle.std.proofs.Common.{◌≡◌, inl, inr, ℕ, ◌+◌, ◌≤◌, Bool, true, false, not, ◌&&◌, ◌||◌, List, [], ◌∷◌, ◌++◌, map, Option, Some, None, refl}
use Rattle.std.proofs.Common.{sym, ap, subst, ◌∙◌, arith}
use Rattle.std.specs.Prelude.{nat_le}
use Rattle.std.specs.Bool.{Decides}
use Rattle.std.specs.List.{list_any}
use Rattle.std.proofs.lemmas.Bool.{and_from, and_parts}
use Rattle.std.proofs.lemmas.Option.{same_Some, none-some}
use Rattle.seq_tree.specs.Lists.{Each}
use Rattle.seq_tree.specs.Names.{Name}
use Rattle.seq_tree.specs.Variables.{Variables, written, kept}
use Rattle.seq_tree.specs.Runs.{Action, Path, Run}
use Rattle.seq_tree.specs.Runs as runs
use Rattle.ods_tree.specs.Flats.{Guarded}
use Rattle.law_walks.specs.Fit.{MayRun}
use Rattle.guarantee.specs.Software.{Software, Task, leads_to}
use Rattle.guarantee.specs.Events.{Deed, Release, Arrive, Enter, Leave, Request, Print, End, Stop, Event}
use Rattle.guarantee.specs.Steps.{Step, Placed, moments, steps_of, placed, outermost, shown}
use Rattle.guarantee.specs.Scripts.{Activation, Activations, grouped, released_vars, IsWhole, IsCharged, IsBegun, least_inside, most_inside}
use Rattle.law_traces.specs.Clear.{IsClear}
use Rattle.law_traces.specs.Parts.{Serves, enters, enters_in, IsAmongServed, AreRunsWhere, AreActivations, Follows}
use Rattle.law_traces.specs.Checks.{Ended, ended, ended_at, with_step, is_charged, is_nil, whole_by, activation_by, are_runs, follows}
use Rattle.law_traces.specs.Checks.{is_among_served, run_of, begins, used_by}
use Rattle.law_traces.proofs.Deciding.{decides-and, decides-le}
use Rattle.law_traces.proofs.RunLaws.{run-found, run-only, begins-found, begins-only}
use Rattle.law_traces.proofs.Shared.Pairs.{Pairs, AlikeStep, AlikePlaced, AlikeActivation, pairs-steps, pairs-placed, pairs-outermost, pairs-grouped}
use Rattle.law_traces.proofs.Shared.Pairs.{pairs-same}
use Rattle.law_traces.proofs.Objects.{wrong}
use Rattle.law_traces.proofs.Charges.{most, computed, Fair, computed-right, right-fair, among-decided, charged-too}

-- THE END of an activation
used-one : (used n : ℕ) → End used ≡ End n → used ≡ n
used-one used n e = cc

-- steps that end with an end
abbrev EndsAs : List Step → Ended → Type 0
EndsAs ss e = (ss ≡ e.script ++ e.end ∷ []) × (e.end.deed ≡ End e.used)

at-end : (s : Step) (d : Deed) → s.deed ≡ d → (e : Ended) → ended_at s d ≡ Some e → EndsAs (s ∷ []) e
at-end s (End used) same e h =
    let one = same_Some _ e h in
    (ap (λ z. z.script ++ z.end ∷ []) one, ap (λ z. z.end.deed) (sym one) ∙ same ∙ ap (λ z. End z.used) one)
at-end s (Release v) same e h = absurd (none-some e h)
at-end s (Arrive v) same e h = absurd (none-some e h)
at-end s (Enter name values) same e h = absurd (none-some e h)
at-end s (Leave name values) same e h = absurd (none-some e h)
at-end s (Request target v) same e h = absurd (none-some e h)
at-end s (Print v) same e h = absurd (none-some e h)
at-end s (Stop object priority ceiling) same e h = absurd (none-some e h)

step-found : (s : Step) (o : Option Ended) (e : Ended) → with_step s o ≡ Some e
    → (f : Ended) × (o ≡ Some f) × (e ≡ (let z : Ended = record { script = s ∷ f.script; end = f.end; used = f.used } in z))
step-found s None e h = absurd (none-some e h)
step-found s (Some f) e h = (f, refl, sym (same_Some _ e h))

ended-found : (ss : List Step) (e : Ended) → ended ss ≡ Some e → EndsAs ss e
ended-found [] e h = absurd (none-some e h)
ended-found (s ∷ []) e h = at-end s s.deed refl e h
ended-found (s ∷ t ∷ ss) e h =
    let p = step-found s (ended (t ∷ ss)) e h in
    let r = ended-found (t ∷ ss) p.0 p.1 in
    (ap (λ zs. s ∷ zs) r.0 ∙ sym (ap (λ z. z.script ++ z.end ∷ []) p.2), ap (λ z. z.end.deed) p.2 ∙ r.1 ∙ sym (ap (λ z. End z.used) p.2))

ended-only : (script : List Step) (end : Step) (used : ℕ) → end.deed ≡ End used
    → ended (script ++ end ∷ []) ≡ Some (record { script = script; end = end; used = used })
ended-only [] end used e = ap (ended_at end) e
ended-only (s ∷ []) end used e = ap (with_step s) (ended-only [] end used e)
ended-only (s ∷ t ∷ script) end used e = ap (with_step s) (ended-only (t ∷ script) end used e)

-- an end is no action
not-shown : (a : Action) (used : ℕ) → shown a ≡ End used → ⊥
not-shown (runs.Enter name values) used e = cc
not-shown (runs.Leave name values) used e = cc
not-shown (runs.Request name v) used e = cc
not-shown (runs.Print v) used e = cc

no-end : (xs : List Deed) (used : ℕ) (script : List Action) → xs ++ End used ∷ [] ≡ map shown script → ⊥
no-end [] used [] e = cc
no-end [] used (a ∷ script) e = not-shown a used cc
no-end (x ∷ xs) used [] e = cc
no-end (x ∷ xs) used (a ∷ script) e = no-end xs used script cc

map-last : (ss : List Step) (s : Step) → map (λ x. x.deed) (ss ++ s ∷ []) ≡ map (λ x. x.deed) ss ++ s.deed ∷ []
map-last [] s = refl
map-last (t ∷ ss) s = ap (λ ds. t.deed ∷ ds) (map-last ss s)

-- what is paired with steps of which the last is an end
abbrev LastOf : (Step → Step → Type 0) → List Step → Step → List Step → Type 0
LastOf R script end ts = (script' : List Step) × (end' : Step) × (ts ≡ script' ++ end' ∷ []) × Pairs R script script' × R end end'

last-paired : (R : Step → Step → Type 0) (script : List Step) (end : Step) (ts : List Step) → Pairs R (script ++ end ∷ []) ts → LastOf R script end ts
last-paired R [] end [] h = absurd h
last-paired R [] end (t ∷ []) h = ([], t, refl, tt, h.0)
last-paired R [] end (t ∷ u ∷ ts) h = absurd h.1
last-paired R (s ∷ script) end [] h = absurd h
last-paired R (s ∷ script) end (t ∷ ts) h =
    let r = last-paired R script end ts h.1 in
    (t ∷ r.0, r.1, ap (λ zs. t ∷ zs) r.2, (h.0, r.3), r.4)

nil-paired : {A B : Type 0} (R : A → B → Type 0) (xs : List A) (ys : List B) → Pairs R xs ys → xs ≡ [] → is_nil ys ≡ true
nil-paired R [] [] h e = refl
nil-paired R [] (y ∷ ys) h e = absurd h
nil-paired R (x ∷ xs) ys h e = cc

nil-found : {A : Type 0} (xs : List A) → is_nil xs ≡ true → xs ≡ []
nil-found [] e = refl
nil-found (x ∷ xs) e = wrong (sym e)

module _ (w : Software) (clear : IsClear w) (trace : List Event) (t : Task) (may : MayRun (leads_to w) clear.depth t.block) where
  abbrev among : Activation → Bool
  among a = is_among_served w clear.depth trace a

  abbrev Alike : Step → Step → Type 0
  Alike = AlikeStep (Fair w clear trace)

  abbrev PairOf : Placed → Placed → Type 0
  PairOf = AlikePlaced Alike (λ s u h. h.1)

  abbrev AlikeAs : Activation → Activation → Type 0
  AlikeAs = AlikeActivation Alike (λ s u h. h.1) (λ s u h. h.0)

  abbrev checked : Variables → List Activation → Bool
  checked data' acts = are_runs among w clear.depth t data' acts

  -- alike activations enter the same objects
  enters-same : (object : Name) (ps qs : List Placed) → Pairs PairOf ps qs
      → list_any (λ p. enters object p.step.deed) ps ≡ list_any (λ p. enters object p.step.deed) qs
  enters-same object [] [] h = refl
  enters-same object [] (q ∷ qs) h = absurd h
  enters-same object (p ∷ ps) [] h = absurd h
  enters-same object (p ∷ ps) (q ∷ qs) h =
      ap (λ d. enters object d || list_any (λ p. enters object p.step.deed) ps) h.0.1.1
      ∙ ap (λ b. enters object q.step.deed || b) (enters-same object ps qs h.1)

  among-same : (a b : Activation) → AlikeAs a b → IsAmongServed w trace b → IsAmongServed w trace a
  among-same a b h among' = each-turned w.shared among'
    where
      each-turned : (gs : List Guarded) → Each (λ g. enters_in g.name b ≡ true → Serves w trace g) gs
          → Each (λ g. enters_in g.name a ≡ true → Serves w trace g) gs
      each-turned [] k = tt
      each-turned (g ∷ gs) k = ((λ e. k.0 (sym (enters-same g.name a.steps b.steps h.2) ∙ e)), each-turned gs k.1)

  -- a charge is computed
  charge-decided : (a : Activation) (p : Path) (used : ℕ) → Decides (is_charged w a p used) (IsCharged w a p used)
  charge-decided a p used =
      let d = decides-and _ _ _ _ (decides-le (p.low + least_inside a.steps + w.costs.finish) used)
      (decides-le used (p.high + most_inside a.steps + w.costs.finish)) in
      ((λ e. let h = d.0 e in record { at_least = h.0; at_most = h.1 }), λ h. d.1 (h.at_least, h.at_most))

  -- a condition that is computed, where another holds
  asked : (a b : Bool) → (a ≡ true → b ≡ true) → (not a || b) ≡ true
  asked true b f = f refl
  asked false b f = refl

  answered : (a b : Bool) → (not a || b) ≡ true → a ≡ true → b ≡ true
  answered true b h e = h
  answered false b h e = wrong (sym e)

  -- ONLY: activations that are runs with any right ways pass with those that are computed
  whole-only : (data' : Variables) (a b : Activation) (next : Variables → Bool) (p : Path) (whole : IsWhole w t data' a p) → AlikeAs a b
      → (IsAmongServed w trace a → IsCharged w a p whole.used) → next (kept t.vars p.vars) ≡ true → (last : Bool)
      → activation_by among w clear.depth t data' b last (ended (outermost b.steps)) next ≡ true
  whole-only data' a b next p whole alike charged goes last =
      let outer : Pairs Alike (whole.script ++ whole.end ∷ []) (outermost b.steps) =
      subst (λ zs. Pairs Alike zs (outermost b.steps)) whole.steps (pairs-outermost Alike (λ s u h. h.1) a.steps b.steps alike.2) in
      let l = last-paired Alike whole.script whole.end (outermost b.steps) outer in
      let end-deed : l.1.deed ≡ End whole.used = sym l.4.1 ∙ whole.ends in
      let found : ended (outermost b.steps) ≡ Some (record { script = l.0; end = l.1; used = whole.used }) =
      ap ended l.2 ∙ ended-only l.0 l.1 whole.used end-deed in
      let deeds : map (λ s. s.deed) l.0 ≡ map (λ s. s.deed) whole.script =
      sym (pairs-same Alike (λ s. s.deed) (λ s. s.deed) (λ s u h. h.1) whole.script l.0 l.3) in
      let run : run_of w clear.depth t.block (released_vars t b.value data') (map (λ s. s.deed) l.0) ≡ Some p =
      ap (λ v. run_of w clear.depth t.block (released_vars t v data') (map (λ s. s.deed) l.0)) (sym alike.1)
      ∙ run-only w clear t.block may (released_vars t a.value data') (map (λ s. s.deed) l.0) p (whole.run, sym whole.shows ∙ sym deeds) in
      let since : b.time + whole.used ≤ l.1.time = later _ _ _ _ _ alike.0 l.4.0 whole.since in
      let few : whole.used ≤ most w clear trace = subst (λ d. used_by d ≤ most w clear trace) whole.ends l.4.2.0 in
      let charge : (not (among b) || is_charged w b p whole.used) ≡ true =
      asked (among b) (is_charged w b p whole.used)
      (λ e.
      let there : IsAmongServed w trace a = among-same a b alike ((among-decided w clear trace b).0 e) in
      (charge-decided b p whole.used).1
      (charged-too w clear trace a b p whole.used alike.2 ((among-decided w clear trace a).1 there) few (charged there))) in
      ap (λ o. activation_by among w clear.depth t data' b last o next) found
      ∙ ap (λ o. whole_by among w t b (record { script = l.0; end = l.1; used = whole.used }) o next) run
      ∙ and_from _ _ (and_from _ _ ((decides-le (b.time + whole.used) l.1.time).1 since) charge) goes
    where
      later : (a b u m n : ℕ) → a ≡ b → m ≡ n → a + u ≤ m → b + u ≤ n
      later a b u m n e f g = omega (arith, e, f, g)

  begun-only : (data' : Variables) (a b : Activation) (next : Variables → Bool) → AlikeAs a b → IsBegun w t data' a → (last : Bool) → last ≡ true
      → activation_by among w clear.depth t data' b last (ended (outermost b.steps)) next ≡ true
  begun-only data' a b next alike begun last is-last = by (ended (outermost b.steps)) refl
    where
      deeds : map (λ s. s.deed) (outermost a.steps) ≡ map (λ s. s.deed) (outermost b.steps)
      deeds = pairs-same Alike (λ s. s.deed) (λ s. s.deed) (λ s u h. h.1) (outermost a.steps) (outermost b.steps)
          (pairs-outermost Alike (λ s u h. h.1) a.steps b.steps alike.2)

      by : (o : Option Ended) → ended (outermost b.steps) ≡ o → activation_by among w clear.depth t data' b last o next ≡ true
      by None e =
          and_from _ _
          (ap (λ v. begins w clear.depth t.block (released_vars t v data') (map (λ s. s.deed) (outermost b.steps))) (sym alike.1)
          ∙ begins-only w clear t.block may (released_vars t a.value data') (map (λ s. s.deed) (outermost b.steps))
          (begun.script, begun.begins, sym begun.shows ∙ deeds)) is-last
      by (Some e) found =
          let f = ended-found (outermost b.steps) e found in
          let shows : map (λ s. s.deed) (outermost b.steps) ≡ map shown begun.script = sym deeds ∙ begun.shows in
          let ends : map (λ s. s.deed) e.script ++ End e.used ∷ [] ≡ map shown begun.script =
          ap (λ d. map (λ s. s.deed) e.script ++ d ∷ []) (sym f.1) ∙ sym (map-last e.script e.end) ∙ ap (map (λ s. s.deed)) (sym f.0) ∙ shows in
          absurd (no-end (map (λ s. s.deed) e.script) e.used begun.script ends)

  runs-only : (data' : Variables) (as' bs : List Activation) → Pairs AlikeAs as' bs → AreRunsWhere (IsAmongServed w trace) w t data' as'
      → checked data' bs ≡ true
  runs-only data' [] [] h runs = refl
  runs-only data' [] (b ∷ bs) h runs = absurd h
  runs-only data' (a ∷ as') [] h runs = absurd h
  runs-only data' (a ∷ as') (b ∷ bs) h runs =
      elim runs [
        | inl r ↦ whole-only data' a b (λ d. checked d bs) r.0 r.1 h.0 r.2 (runs-only (kept t.vars r.0.vars) as' bs h.1 r.3) (is_nil bs)
        | inr r ↦ begun-only data' a b (λ d. checked d bs) h.0 r.0 (is_nil bs) (nil-paired AlikeAs as' bs h.1 r.1)
      ]

  -- FOUND: activations that pass are runs
  out-whole : (a : Activation) (e : Ended) (o : Option Path) (next : Variables → Bool) → whole_by among w t a e o next ≡ true
      → (p : Path) × (o ≡ Some p) × (a.time + e.used ≤ e.end.time) × (among a ≡ true → IsCharged w a p e.used) × (next (kept t.vars p.vars) ≡ true)
  out-whole a e None next h = wrong (sym h)
  out-whole a e (Some p) next h =
      let x = and_parts (nat_le (a.time + e.used) e.end.time && (not (among a) || is_charged w a p e.used)) (next (kept t.vars p.vars)) h in
      let y = and_parts (nat_le (a.time + e.used) e.end.time) (not (among a) || is_charged w a p e.used) x.0 in (
        p,
        refl,
        (decides-le (a.time + e.used) e.end.time).0 y.0,
        (λ s. (charge-decided a p e.used).0 (answered (among a) (is_charged w a p e.used) y.1 s)),
        x.1,
      )

  runs-found : (data' : Variables) (as' : List Activation) → checked data' as' ≡ true → AreRunsWhere (IsAmongServed w trace) w t data' as'
  runs-found data' [] h = tt
  runs-found data' (a ∷ more) h = by (ended (outermost a.steps)) refl (λ d. runs-found d more)
    where
      by : (o : Option Ended) → ended (outermost a.steps) ≡ o
          → ((d : Variables) → checked d more ≡ true → AreRunsWhere (IsAmongServed w trace) w t d more)
          → AreRunsWhere (IsAmongServed w trace) w t data' (a ∷ more)
      by None e rest =
          let h' = and_parts (begins w clear.depth t.block (released_vars t a.value data') (map (λ s. s.deed) (outermost a.steps))) (is_nil more)
          (sym (ap (λ o. activation_by among w clear.depth t data' a (is_nil more) o (λ d. checked d more)) e) ∙ h) in
          let b = begins-found w clear t.block may (released_vars t a.value data') (map (λ s. s.deed) (outermost a.steps)) h'.0 in
          inr (record { script = b.0; begins = b.1; shows = sym b.2 }, nil-found more h'.1)
      by (Some e) found rest =
          let f = ended-found (outermost a.steps) e found in
          let o = out-whole a e (run_of w clear.depth t.block (released_vars t a.value data') (map (λ s. s.deed) e.script)) (λ d. checked d more)
          (sym (ap (λ o. activation_by among w clear.depth t data' a (is_nil more) o (λ d. checked d more)) found) ∙ h) in
          let r = run-found w clear t.block may (released_vars t a.value data') (map (λ s. s.deed) e.script) o.0 o.1 in
          let whole : IsWhole w t data' a o.0 = record {
            run = r.0;
            script = e.script;
            end = e.end;
            used = e.used;
            steps = f.0;
            shows = sym r.1;
            ends = f.1;
            since = o.2;
          } in
          inl (o.0, whole, (λ s. o.3 ((among-decided w clear trace a).1 s)), rest (kept t.vars o.0.vars) o.4)

  -- A THREAD
  abbrev groups : List Path → Activations
  groups bodies = grouped (placed 0 (steps_of t.name (moments trace bodies)))

  -- what passes is followed with the ways that are computed
  passed : follows w clear.depth trace t ≡ true
      → AreActivations (IsAmongServed w trace) w t (groups (computed w clear trace))
  unfolding follows
  passed e =
      let p = and_parts (is_nil (groups (computed w clear trace)).before) (checked (written t.vars) (groups (computed w clear trace)).activations) e in
      (nil-found _ p.0, runs-found (written t.vars) (groups (computed w clear trace)).activations p.1)

  -- and what is followed with any right ways passes
  passes : Follows w trace t → follows w clear.depth trace t ≡ true
  unfolding follows
  passes h =
      let bs : List Path = h.0 in
      let alike = pairs-grouped Alike (λ s u h. h.1) (λ s u h. h.0) (placed 0 (steps_of t.name (moments trace bs)))
      (placed 0 (steps_of t.name (moments trace (computed w clear trace))))
      (pairs-placed Alike (λ s u h. h.1) 0 _ _ (pairs-steps (Fair w clear trace) t.name _ _ (right-fair w clear trace bs h.1))) in
      and_from _ _ (nil-paired PairOf (groups bs).before (groups (computed w clear trace)).before alike.0 h.2.0)
      (runs-only (written t.vars) (groups bs).activations (groups (computed w clear trace)).activations alike.1 h.2.1)

  pub follows-decided : Decides (follows w clear.depth trace t) (Follows w trace t)
  follows-decided = ((λ e. (computed w clear trace, computed-right w clear trace, passed e)), passes)

  pub follows-computed : Follows w trace t → AreActivations (IsAmongServed w trace) w t (groups (computed w clear trace))
  follows-computed h = passed (passes h)
