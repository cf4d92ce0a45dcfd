-- The checks of threads and objects over a whole trace, as passes tell them: an activation is charged where all objects that it enters are served.
use Rattle.std.proofs.Common.{◌≡◌, ℕ, Bool, true, false, not, ◌&&◌, ◌||◌, List, [], ◌∷◌, ◌++◌, map, Option, Some}
use Rattle.std.proofs.Common.{refl, sym, ap, ◌∙◌}
use Rattle.std.specs.Prelude.{find, unwrap_or, option_map, if◌then◌else◌}
use Rattle.std.specs.List.{list_any, list_all}
use Rattle.std.proofs.lemmas.Bool.{and_parts, or_parts, not-true}
use Rattle.std.proofs.lemmas.Slice.Eq.{bytes_eq-Decides}
use Rattle.seq_tree.specs.Names.{Name, same_name, is_named, are_distinct}
use Rattle.seq_tree.specs.Variables.{written}
use Rattle.ods_tree.specs.Flats.{Guarded}
use Rattle.guarantee.specs.Software.{Software, Task}
use Rattle.guarantee.specs.Events.{Deed, Release, Arrive, Enter, Leave, Request, Print, End, Stop, Event}
use Rattle.guarantee.specs.Steps.{Placed}
use Rattle.law_traces.specs.Parts.{enters}
use Rattle.law_traces.specs.Checks.{object_named, written_in, most_used, ways, serves, follows, is_among_served}
use Rattle.law_traces.proofs.Shared.Finding.{same-turned}
use Rattle.law_traces.specs.Entries.{entries_in}
use Rattle.law_traces.specs.Services.{Service, Free, is_sound, served_from, charges_from, is_served}
use Rattle.law_traces.specs.Progress.{Idle, is_good, is_well, moved_from}
use Rattle.law_traces.proofs.Courses.{from-idle}
use Rattle.law_traces.proofs.Shared.Served.{served-sound}
use Rattle.law_traces.proofs.Shared.Charged.{Owns, Kept, charged-from}

module _ (serving : Guarded → Bool) where
  abbrev enters_any : Name → List Placed → Bool
  enters_any object ps = list_any (λ p. enters object p.step.deed) ps

  abbrev all_of : List Guarded → List Placed → Bool
  all_of gs ps = list_all (λ g. not (enters_any g.name ps) || serving g) gs

  all-none : (gs : List Guarded) → all_of gs [] ≡ true
  all-none [] = refl
  all-none (g ∷ gs) = all-none gs

  any-last : (object : Name) (ps : List Placed) (p : Placed) → enters_any object (ps ++ p ∷ []) ≡ (enters_any object ps || enters_any object (p ∷ []))
  any-last object [] p = refl
  any-last object (q ∷ ps) p = ap (λ z. enters object q.step.deed || z) (any-last object ps p) ∙ or-three (enters object q.step.deed) _ _
    where
      or-three : (a b c : Bool) → (a || (b || c)) ≡ ((a || b) || c)
      or-three true b c = refl
      or-three false b c = refl

  all-last : (gs : List Guarded) (ps : List Placed) (p : Placed) → all_of gs (ps ++ p ∷ []) ≡ (all_of gs ps && all_of gs (p ∷ []))
  all-last [] ps p = refl
  all-last (g ∷ gs) ps p =
      ap (λ z. (not z || serving g) && all_of gs (ps ++ p ∷ [])) (any-last g.name ps p)
      ∙ ap (λ z. (not (enters_any g.name ps || enters_any g.name (p ∷ [])) || serving g) && z) (all-last gs ps p)
      ∙ by (enters_any g.name ps) (enters_any g.name (p ∷ [])) (serving g) (all_of gs ps) (all_of gs (p ∷ []))
    where
      by : (a b s c d : Bool) → ((not (a || b) || s) && (c && d)) ≡ (((not a || s) && c) && ((not b || s) && d))
      by true true true c d = refl
      by true true false c d = refl
      by true false true c d = refl
      by true false false c d = refl
      by false true true c d = refl
      by false true false true d = refl
      by false true false false d = refl
      by false false s c d = refl

  -- the objects that an entry enters
  abbrev all_named : Name → List Guarded → Bool
  all_named object gs = list_all (λ g. not (same_name object g.name || false) || serving g) gs

  none-named : (object : Name) (gs : List Guarded) → is_named (map (λ g. g.name) gs) object ≡ false → all_named object gs ≡ true
  none-named object [] e = refl
  none-named object (g ∷ gs) e =
      let p = or_parts (same_name g.name object) _ e in
      ap (λ z. (not (z || false) || serving g) && all_named object gs) (same-turned g.name object p.0) ∙ none-named object gs p.1

  one-named : (object : Name) (gs : List Guarded) → are_distinct (map (λ g. g.name) gs) ≡ true
      → all_named object gs ≡ is_served serving (find (λ g. same_name g.name object) gs)
  one-named object [] e = refl
  one-named object (g ∷ gs) e =
      let p = and_parts (not (is_named (map (λ h. h.name) gs) g.name)) (are_distinct (map (λ h. h.name) gs)) e in
      by (same_name g.name object) refl p.0 (one-named object gs p.1)
    where
      rest : Option Guarded
      rest = find (λ h. same_name h.name object) gs

      only : (b : Bool) → (b && true) ≡ b
      only true = refl
      only false = refl

      by : (b : Bool) → same_name g.name object ≡ b → not (is_named (map (λ h. h.name) gs) g.name) ≡ true → all_named object gs ≡ is_served serving rest
          → all_named object (g ∷ gs) ≡ is_served serving (find (λ h. same_name h.name object) (g ∷ gs))
      by true f other more =
          let same : g.name ≡ object = (bytes_eq-Decides g.name object).0 f in
          let turned : same_name object g.name ≡ true = (bytes_eq-Decides object g.name).1 (sym same) in
          let F : Bool → Option Guarded = λ z. if z then Some g else rest in
          ap (λ z. (not (z || false) || serving g) && all_named object gs) turned
          ∙ ap (λ z. serving g && z) (none-named object gs (ap (λ n. is_named (map (λ h. h.name) gs) n) (sym same) ∙ not-true _ other))
          ∙ only (serving g) ∙ ap (is_served serving) (sym (ap F f))
      by false f other more =
          let F : Bool → Option Guarded = λ z. if z then Some g else rest in
          ap (λ z. (not (z || false) || serving g) && all_named object gs) (same-turned g.name object f)
          ∙ more ∙ ap (is_served serving) (sym (ap F f))

  -- the objects that a step enters
  step-good : (gs : List Guarded) → are_distinct (map (λ g. g.name) gs) ≡ true → (p : Placed) (d : Deed) → p.step.deed ≡ d
      → all_of gs (p ∷ []) ≡ is_good (λ object. is_served serving (find (λ g. same_name g.name object) gs)) d
  step-good gs distinct p d same =
      ap (λ z. list_all (λ g. not (enters g.name z || false) || serving g) gs) same ∙ by d
    where
      none : (gs : List Guarded) → list_all (λ g. not (false || false) || serving g) gs ≡ true
      none [] = refl
      none (g ∷ gs) = none gs

      by : (d : Deed) → list_all (λ g. not (enters g.name d || false) || serving g) gs
          ≡ is_good (λ object. is_served serving (find (λ g. same_name g.name object) gs)) d
      by (Enter name values) = one-named name.object gs distinct
      by (Release v) = none gs
      by (Arrive v) = none gs
      by (Leave name values) = none gs
      by (Request target v) = none gs
      by (Print v) = none gs
      by (End used) = none gs
      by (Stop object priority ceiling) = none gs

-- THE CHECKS
module _ (w : Software) (distinct : are_distinct (map (λ g. g.name) w.shared) ≡ true) (depth : ℕ) (trace : List Event) where
  abbrev pub at_first : Name → Service
  at_first object = Free (written_in w object)

  abbrev pub served_in : Name → Bool
  served_in object = is_served (serves w depth trace) (object_named w object)

  written-own : (g : Guarded) → Owns w depth (most_used trace) g → written_in w g.name ≡ written g.vars
  written-own g own = ap (λ o. unwrap_or (option_map (λ h. written h.vars) o) []) own

  kept-first : Kept w depth (most_used trace) (serves w depth trace) trace at_first (written_in w)
  kept-first g own = record {
    sound = served-sound w depth g trace
        ∙ ap (λ z. is_sound (served_from w depth g trace (entries_in w trace) (Free z))) (sym (written-own g own));
    matches = λ s. refl;
  }

  among-first : (time : ℕ) (value : Option ℕ) → is_among_served w depth trace (record { time = time; value = value; steps = [] }) ≡ true
  unfolding is_among_served
  among-first time value = all-none (serves w depth trace) w.shared

  among-last : (time : ℕ) (value : Option ℕ) (ps : List Placed) (p : Placed)
      → is_among_served w depth trace (record { time = time; value = value; steps = ps ++ p ∷ [] })
      ≡ (is_among_served w depth trace (record { time = time; value = value; steps = ps }) && is_good served_in p.step.deed)
  unfolding is_among_served
  among-last time value ps p =
      all-last (serves w depth trace) w.shared ps p
      ∙ ap (λ z. all_of (serves w depth trace) w.shared ps && z) (step-good (serves w depth trace) w.shared distinct p p.step.deed refl)

  -- whether a thread's steps are activations, from the passes over the trace
  pub thread-told : (t : Task)
      → is_well w depth t (moved_from w depth t served_in trace (charges_from w depth (most_used trace) trace (entries_in w trace) at_first)
      (Idle (written t.vars)))
      ≡ follows w depth trace t
  unfolding follows
  thread-told t =
      from-idle w depth t served_in (is_among_served w depth trace) among-first among-last trace (ways w depth trace)
      (charges_from w depth (most_used trace) trace (entries_in w trace) at_first)
      (charged-from w depth (most_used trace) (serves w depth trace) trace at_first (written_in w) kept-first)
