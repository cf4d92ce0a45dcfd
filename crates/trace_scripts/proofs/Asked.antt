-- The operation by which the unit at a place is requested.
use Rattle.std.proofs.Common.{◌≡◌, ℕ, zero, suc, Bool, true, false, ◌&&◌, List, [], ◌∷◌, ◌++◌, map, Option, Some, None, refl, ap, subst, ◌∙◌}
use Rattle.std.proofs.Common.{append_assoc}
use Rattle.std.specs.Prelude.{find, filter_map, flat_map, slice_get, option_map, unwrap_or, cond}
use Rattle.std.specs.List.{cons_option}
use Rattle.std.proofs.lemmas.Option.{none-some, same_Some}
use Rattle.std.proofs.lemmas.List.Concat.{flat_map-cons}
use Rattle.std.proofs.Math.Bool.{and-false}
use Rattle.seq_tree.specs.Lists.{Each}
use Rattle.seq_tree.specs.Names.{Name, same_name}
use Rattle.seq_tree.specs.Operations.{Operation}
use Rattle.seq_tree.specs.Statements.{End}
use Rattle.ods_tree.specs.Flats.{Library, Guarded}
use Rattle.ods_tree.specs.Services.{Service, Plain, Protected, Request, plain_services, protected_services, requested, request_of}
use Rattle.ada_tree.specs.Programs.{Form, Unit, Program, Passive, Shared, Cyclic, Sporadic}
use Rattle.ada_tree.specs.Rules.{MeetsRules}
use Rattle.guarantee.specs.Software.{Task, program_software, task_by}
use Rattle.law_calls.proofs.Shared.UnitNames.{AreApart}
use Rattle.law_calls.proofs.Shared.Apart.{units_apart}
use Rattle.law_lists.proofs.Shared.Facts.{is-same}
use Rattle.law_traces.specs.Clear.{is_request, asked_op}
use Rattle.law_traces.proofs.Shared.Finding.{same-turned}
use Rattle.trace_scripts.specs.Scripts.{asked_name}
use Rattle.law_traces.proofs.Shared.Events.{each-at}

module _ (target : Name) where
  abbrev asks : Service → Bool
  asks s = same_name s.object target && is_request s.sort

  abbrev found : List Service → Option Name
  found ss = option_map (λ s. s.op.sig.name) (find asks ss)

  -- what isn't a request is passed over
  past : (s : Service) (ss : List Service) → asks s ≡ false → find asks (s ∷ ss) ≡ find asks ss
  past s ss e = ap (λ b. cond b (Some s) (find asks ss)) e

  plain-past : (l : Library) (ops : List Operation) (ss : List Service)
      → find asks (map (λ o. record { object = l.name; sort = Plain; op = o }) ops ++ ss) ≡ find asks ss
  plain-past l [] ss = refl
  plain-past l (o ∷ ops) ss =
      past (record { object = l.name; sort = Plain; op = o }) (map (λ q. record { object = l.name; sort = Plain; op = q }) ops ++ ss)
      (and-false (same_name l.name target))
      ∙ plain-past l ops ss

  shared-past : (g : Guarded) (ops : List Operation) (ss : List Service)
      → find asks (map (λ o. record { object = g.name; sort = Protected; op = o }) ops ++ ss) ≡ find asks ss
  shared-past g [] ss = refl
  shared-past g (o ∷ ops) ss =
      past (record { object = g.name; sort = Protected; op = o }) (map (λ q. record { object = g.name; sort = Protected; op = q }) ops ++ ss)
      (and-false (same_name g.name target))
      ∙ shared-past g ops ss

  plains-past : (ls : List Library) (ss : List Service) → find asks (flat_map plain_services ls ++ ss) ≡ find asks ss
  plains-past [] ss = refl
  plains-past (l ∷ ls) ss =
      ap (λ z. find asks (z ++ ss)) (flat_map-cons plain_services l ls)
      ∙ ap (find asks) (append_assoc (plain_services l) (flat_map plain_services ls) ss)
      ∙ plain-past l l.ops (flat_map plain_services ls ++ ss) ∙ plains-past ls ss

  shareds-past : (gs : List Guarded) (ss : List Service) → find asks (flat_map protected_services gs ++ ss) ≡ find asks ss
  shareds-past [] ss = refl
  shareds-past (g ∷ gs) ss =
      ap (λ z. find asks (z ++ ss)) (flat_map-cons protected_services g gs)
      ∙ ap (find asks) (append_assoc (protected_services g) (flat_map protected_services gs) ss)
      ∙ shared-past g g.ops (flat_map protected_services gs ++ ss) ∙ shareds-past gs ss

-- the requests of units
abbrev task_in : Unit → Option Task
task_in u = task_by u.name u.form

abbrev asking : Task → Option Service
asking t = requested t.name (request_of t.timing)

abbrev requests : List Unit → List Service
requests us = filter_map asking (filter_map task_in us)

-- a unit of another name
unit-past : (target : Name) (u : Unit) (us : List Unit) → same_name u.name target ≡ false
    → find (asks target) (requests (u ∷ us)) ≡ find (asks target) (requests us)
unit-past target u us e = by u.name u.form e
  where
    by : (name : Name) (f : Form) → same_name name target ≡ false
        → find (asks target) (filter_map asking (cons_option (task_by name f) (filter_map task_in us))) ≡ find (asks target) (requests us)
    by name (Passive ops) e = refl
    by name (Shared ceiling vars ops) e = refl
    by name (Cyclic priority offset period vars block) e = refl
    by name (Sporadic priority ceiling op separation jitter external vars block) e =
        ap (λ b. cond (b && true) (Some (record { object = name; sort = Request; op = record { sig = op; locals = []; block = End } })) (find (asks target) (requests us))) e

none-asks : (target : Name) (us : List Unit) → Each (λ v. same_name target v.name ≡ false) us → find (asks target) (requests us) ≡ None
none-asks target [] h = refl
none-asks target (u ∷ us) h = unit-past target u us (same-turned target u.name h.0) ∙ none-asks target us h.1

-- the name that is found
abbrev name_or : Name → Option Service → Name
name_or other o = unwrap_or (option_map (λ s. s.op.sig.name) o) other

unit-here : (u : Unit) (us : List Unit) → Each (λ v. same_name u.name v.name ≡ false) us
    → name_or u.name (find (asks u.name) (requests (u ∷ us))) ≡ asked_name u.name u.form
unit-here u us h = by u.name u.form h
  where
    by : (name : Name) (f : Form) → Each (λ v. same_name name v.name ≡ false) us
        → name_or name (find (asks name) (filter_map asking (cons_option (task_by name f) (filter_map task_in us)))) ≡ asked_name name f
    by name (Passive ops) h = ap (name_or name) (none-asks name us h)
    by name (Shared ceiling vars ops) h = ap (name_or name) (none-asks name us h)
    by name (Cyclic priority offset period vars block) h = ap (name_or name) (none-asks name us h)
    by name (Sporadic priority ceiling op separation jitter external vars block) h =
        ap (λ b. name_or name (cond (b && true) (Some (record { object = name; sort = Request; op = record { sig = op; locals = []; block = End } }))
        (find (asks name) (requests us)))) (is-same name name refl)

unit-asked : (us : List Unit) (k : ℕ) (u : Unit) → AreApart us → slice_get us k ≡ Some u
    → name_or u.name (find (asks u.name) (requests us)) ≡ asked_name u.name u.form
unit-asked [] k u far at = absurd (none-some u at)
unit-asked (v ∷ us) zero u far at =
    let P : Unit → Type 0 = λ z. name_or z.name (find (asks z.name) (requests (v ∷ us))) ≡ asked_name z.name z.form in
    subst P (same_Some v u at) (unit-here v us far.0)
unit-asked (v ∷ us) (suc k) u far at =
    ap (name_or u.name) (unit-past u.name v us (each-at (λ z. same_name v.name z.name ≡ false) us k u far.0 at)) ∙ unit-asked us k u far.1 at

pub asked-at : (p : Program) → MeetsRules p → (k : ℕ) (u : Unit) → slice_get p.units k ≡ Some u
    → asked_op (program_software p) u.name ≡ asked_name u.name u.form
asked-at p meets k u at =
    ap (name_or u.name)
    (plains-past u.name (program_software p).passive (flat_map protected_services (program_software p).shared ++ requests p.units)
    ∙ shareds-past u.name (program_software p).shared (requests p.units))
    ∙ unit-asked p.units k u (units_apart p meets) at
