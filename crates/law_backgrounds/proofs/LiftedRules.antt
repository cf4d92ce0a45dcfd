-- A program that can be read can be read with its priorities and ceilings raised to at most 60, and tasks released at once.
use Rattle.std.specs.Prelude.{◌≡◌, ℕ, zero, suc, ◌≤◌, Bool, true, false, not, ◌||◌, ◌&&◌, List, [], ◌∷◌, ◌++◌, map, filter, flat_map, take, max}
use Rattle.std.specs.Prelude.{length}
use Rattle.std.specs.Prelude.{nat_lt, Some, slice_get, refl, if◌then◌else◌}
use Rattle.std.specs.List.{list_any}
use Rattle.std.proofs.Common.{sym, ◌∙◌, ap, ap₂, subst, inl, inr, arith}
use Rattle.std.proofs.lemmas.Bool.{or_parts, or_from}
use Rattle.seq_tree.specs.Limits.{tick_limit}
use Rattle.seq_tree.specs.Names.{Name, same_name, is_named, are_distinct}
use Rattle.seq_tree.specs.Operations.{Offer, out_names}
use Rattle.seq_tree.specs.Calls.{block_calls, same_op, block_works}
use Rattle.seq_tree.specs.Faults.{block_fault, or_else}
use Rattle.seq_tree.specs.Rings.{LeadsTo}
use Rattle.seq_tree.specs.Proper.{Limits, within_limits}
use Rattle.seq_tree.specs.declared.tree.OpName.{OpName}
use Rattle.ada_tree.specs.Programs.{Form, Unit, Program, Passive, Shared, Cyclic, Sporadic, is_task}
use Rattle.ada_tree.specs.Bodies.{Body, bodies, data_of, heads, offers, bodies_fault, unit_fault}
use Rattle.ada_tree.specs.Naming.{own_names, inner_names, body_clashes, is_there, calls_of, breaks_naming}
use Rattle.ada_tree.specs.Uses.{passive_ops, shared_ops, is_confined, passive_named, is_empty, Calls, ops_of_shared, is_shared}
use Rattle.ada_tree.specs.Uses.{is_shared_name, called_units, CallsUnit, BreaksRings, shared_named, calls_within, task_calls, is_requested}
use Rattle.ada_tree.specs.Uses.{breaks_external}
use Rattle.ada_tree.specs.Ranges.{is_outside, jitter_breaks, numbers_break, breaks_ranges, whole_breaks, costs_break}
use Rattle.ada_tree.specs.Rules.{Rule, Naming, Uses, Rings, Bodies, Ranges, Externals, Whole, At, UnitBreaks, WholeBreaks, MeetsRules}
use Rattle.ada_tree.specs.Proper.{IsProperForm}
use Rattle.ada_tree.specs.Words.{is_ada_name}
use Rattle.guarantee.specs.MachineLaw.{IsReadable}
use Rattle.law_lists.proofs.Shared.Lists.{each-map, each-to, flat-same}
use Rattle.law_lists.proofs.Shared.Places.{mapped-at}
use Rattle.law_backgrounds.proofs.Shared.Lifts.{unless, lift_form, lift_unit, lifted, map-through, flat-through, filter-through, any-same}
use Rattle.law_backgrounds.proofs.Shared.Lifts.{any-through}
use Rattle.law_backgrounds.proofs.Shared.Lifts.{take-map, length-map}

-- what of a unit no number is part of
module _ (least : ℕ) (b : Bool) where
  heads-same : (f : Form) → heads (lift_form least b f) ≡ heads f
  heads-same (Passive ops) = refl
  heads-same (Shared ceiling vars ops) = refl
  heads-same (Cyclic priority offset period vars block) = refl
  heads-same (Sporadic priority ceiling op separation jitter external vars block) = refl

  inner-same : (f : Form) → inner_names (lift_form least b f) ≡ inner_names f
  inner-same (Passive ops) = refl
  inner-same (Shared ceiling vars ops) = refl
  inner-same (Cyclic priority offset period vars block) = refl
  inner-same (Sporadic priority ceiling op separation jitter external vars block) = refl

  passive-same : (f : Form) → passive_ops (lift_form least b f) ≡ passive_ops f
  passive-same (Passive ops) = refl
  passive-same (Shared ceiling vars ops) = refl
  passive-same (Cyclic priority offset period vars block) = refl
  passive-same (Sporadic priority ceiling op separation jitter external vars block) = refl

  shared-same : (f : Form) → shared_ops (lift_form least b f) ≡ shared_ops f
  shared-same (Passive ops) = refl
  shared-same (Shared ceiling vars ops) = refl
  shared-same (Cyclic priority offset period vars block) = refl
  shared-same (Sporadic priority ceiling op separation jitter external vars block) = refl

  is_shared-same : (f : Form) → is_shared (lift_form least b f) ≡ is_shared f
  is_shared-same (Passive ops) = refl
  is_shared-same (Shared ceiling vars ops) = refl
  is_shared-same (Cyclic priority offset period vars block) = refl
  is_shared-same (Sporadic priority ceiling op separation jitter external vars block) = refl

  is_task-same : (f : Form) → is_task (lift_form least b f) ≡ is_task f
  is_task-same (Passive ops) = refl
  is_task-same (Shared ceiling vars ops) = refl
  is_task-same (Cyclic priority offset period vars block) = refl
  is_task-same (Sporadic priority ceiling op separation jitter external vars block) = refl

  calls-same : (f : Form) → calls_of (lift_form least b f) ≡ calls_of f
  calls-same (Passive ops) = refl
  calls-same (Shared ceiling vars ops) = refl
  calls-same (Cyclic priority offset period vars block) = refl
  calls-same (Sporadic priority ceiling op separation jitter external vars block) = refl

  -- what is said of names of a unit, by what is taken and what is offered
  abbrev naming_by : List Name → Name → Name → List Name → List Offer → Form → Bool
  naming_by taken name whole upto offered form =
      is_named taken name || same_name whole name || list_any (is_named upto) (inner_names form)
      || not (are_distinct (own_names form)) || list_any (body_clashes form) (bodies form)
      || list_any (λ c. not (is_there offered c)) (calls_of form)

  naming-same : (taken : List Name) (name whole : Name) (upto : List Name) (offered : List Offer) (f : Form)
      → naming_by taken name whole upto offered (lift_form least b f) ≡ naming_by taken name whole upto offered f
  naming-same taken name whole upto offered (Passive ops) = refl
  naming-same taken name whole upto offered (Shared ceiling vars ops) = refl
  naming-same taken name whole upto offered (Cyclic priority offset period vars block) = refl
  naming-same taken name whole upto offered (Sporadic priority ceiling op separation jitter external vars block) = refl

  proper-same : (l : Limits) (f : Form) → IsProperForm l f → IsProperForm l (lift_form least b f)
  proper-same l (Passive ops) h = h
  proper-same l (Shared ceiling vars ops) h = h
  proper-same l (Cyclic priority offset period vars block) h = h
  proper-same l (Sporadic priority ceiling op separation jitter external vars block) h = h

  -- numbers in their ranges
  raised-range : (n : ℕ) → least ≤ 60 → is_outside 1 60 n ≡ false → is_outside 1 60 (max least n) ≡ false
  raised-range n h e = grind arith

  raised-order : (c q : ℕ) → nat_lt c q ≡ false → nat_lt (max least c) (max least q) ≡ false
  raised-order c q e = grind arith

  at-once-period : (period : ℕ) → is_outside 1 tick_limit period ≡ false → is_outside 1 tick_limit (unless b 1 period) ≡ false
  at-once-period period e = by b
    where
      by : (c : Bool) → is_outside 1 tick_limit (unless c 1 period) ≡ false
      by true = refl
      by false = e

  at-once-offset : (offset : ℕ) → nat_lt tick_limit offset ≡ false → nat_lt tick_limit (unless b 0 offset) ≡ false
  at-once-offset offset e = by b
    where
      by : (c : Bool) → nat_lt tick_limit (unless c 0 offset) ≡ false
      by true = refl
      by false = e

  numbers-right : (f : Form) → least ≤ 60 → numbers_break f ≡ false → numbers_break (lift_form least b f) ≡ false
  numbers-right (Passive ops) h e = refl
  numbers-right (Shared ceiling vars ops) h e = raised-range ceiling h e
  numbers-right (Cyclic priority offset period vars block) h e =
      let one = or_parts (is_outside 1 60 priority || is_outside 1 tick_limit period) (nat_lt tick_limit offset) e in
      let two = or_parts (is_outside 1 60 priority) (is_outside 1 tick_limit period) one.0 in
      or_from _ _ (or_from _ _ (raised-range priority h two.0) (at-once-period period two.1)) (at-once-offset offset one.1)
  numbers-right (Sporadic priority ceiling op separation jitter external vars block) h e =
      let a = or_parts (is_outside 1 60 priority || is_outside 1 60 ceiling || is_outside 1 tick_limit separation
      || jitter_breaks external separation jitter) (nat_lt ceiling priority) e in
      let c = or_parts (is_outside 1 60 priority || is_outside 1 60 ceiling || is_outside 1 tick_limit separation)
      (jitter_breaks external separation jitter) a.0 in
      let d = or_parts (is_outside 1 60 priority || is_outside 1 60 ceiling) (is_outside 1 tick_limit separation) c.0 in
      let g = or_parts (is_outside 1 60 priority) (is_outside 1 60 ceiling) d.0 in
      or_from _ _ (or_from _ _ (or_from _ _ (or_from _ _ (raised-range priority h g.0) (raised-range ceiling h g.1)) d.1) c.1)
      (raised-order ceiling priority a.1)

  -- what else is asked of the numbers of a unit
  abbrev others_break : Form → Bool
  others_break f = list_any (λ h. nat_lt 8 (length h.params)) (heads f)

  abbrev works_break : Form → Bool
  works_break f = list_any (is_outside 1 tick_limit) (flat_map (λ c. block_works c.block) (bodies f))

  others-same : (f : Form) → others_break (lift_form least b f) ≡ others_break f
  others-same (Passive ops) = refl
  others-same (Shared ceiling vars ops) = refl
  others-same (Cyclic priority offset period vars block) = refl
  others-same (Sporadic priority ceiling op separation jitter external vars block) = refl

  works-same : (f : Form) → works_break (lift_form least b f) ≡ works_break f
  works-same (Passive ops) = refl
  works-same (Shared ceiling vars ops) = refl
  works-same (Cyclic priority offset period vars block) = refl
  works-same (Sporadic priority ceiling op separation jitter external vars block) = refl

  ranges-right : (name : Name) (f : Form) → least ≤ 60 → breaks_ranges (record { name = name; form = f }) ≡ false
      → breaks_ranges (record { name = name; form = lift_form least b f }) ≡ false
  ranges-right name f h e =
      let one = or_parts (numbers_break f || others_break f) (works_break f) e in
      let two = or_parts (numbers_break f) (others_break f) one.0 in
      or_from _ _ (or_from _ _ (numbers-right f h two.0) (others-same f ∙ two.1)) (works-same f ∙ one.1)

module _ (least : ℕ) (eager : Name → Bool) (p : Program) where
  abbrev L : Unit → Unit
  L = lift_unit least eager

  abbrev q : Program
  q = lifted least eager p

  pub offers-same : offers q ≡ offers p
  offers-same = flat-through L (λ u. map (λ h. let o : Offer = record { object = u.name; sig = h } in o) (heads u.form)) p.units
      (λ u. ap (λ hs. map (λ h. let o : Offer = record { object = u.name; sig = h } in o) hs) (heads-same least (eager u.name) u.form))

  -- names
  abbrev names_of : List Unit → List Name
  names_of us = map (λ u. u.name) us ++ flat_map (λ u. inner_names u.form) us

  names-same : (us : List Unit) → names_of (map L us) ≡ names_of us
  names-same us = ap₂ (λ a b. a ++ b) (map-through L (λ u. u.name) us (λ u. refl))
      (flat-through L (λ u. inner_names u.form) us (λ u. inner-same least (eager u.name) u.form))

  naming : (place : ℕ) (u : Unit) → breaks_naming q place (L u) ≡ breaks_naming p place u
  naming place u =
      ap (λ us. naming_by least (eager u.name) (names_of us) u.name p.name (map (λ v. v.name) (take (suc place) q.units)) (offers q) (L u).form)
      (take-map L place p.units)
      ∙ ap (λ ns. naming_by least (eager u.name) ns u.name p.name (map (λ v. v.name) (take (suc place) q.units)) (offers q) (L u).form)
      (names-same (take place p.units))
      ∙ ap (λ us. naming_by least (eager u.name) (names_of (take place p.units)) u.name p.name (map (λ v. v.name) us) (offers q) (L u).form)
      (take-map L (suc place) p.units)
      ∙ ap (λ ns. naming_by least (eager u.name) (names_of (take place p.units)) u.name p.name ns (offers q) (L u).form)
      (map-through L (λ v. v.name) (take (suc place) p.units) (λ v. refl))
      ∙ ap (λ os. naming_by least (eager u.name) (names_of (take place p.units)) u.name p.name (map (λ v. v.name) (take (suc place) p.units)) os
      (L u).form) offers-same
      ∙ naming-same least (eager u.name) (names_of (take place p.units)) u.name p.name (map (λ v. v.name) (take (suc place) p.units))
      (offers p) u.form

  -- uses
  passive_named-same : (c : OpName) → passive_named q c ≡ passive_named p c
  passive_named-same c = ap (filter (λ o. same_name o.sig.name c.op))
      (ap (flat_map (λ u. passive_ops u.form)) (filter-through L (λ u. same_name u.name c.object) p.units (λ u. refl))
      ∙ flat-through L (λ u. passive_ops u.form) (filter (λ u. same_name u.name c.object) p.units)
      (λ u. passive-same least (eager u.name) u.form))

  uses-by : (f : Form) (b : Bool) → (is_confined (lift_form least b f) && list_any (λ c. is_empty (passive_named q c))
      (calls_of (lift_form least b f)))
      ≡ (is_confined f && list_any (λ c. is_empty (passive_named p c)) (calls_of f))
  uses-by (Passive ops) b = any-same _ _ (calls_of (Passive ops)) (λ c. ap is_empty (passive_named-same c))
  uses-by (Shared ceiling vars ops) b = refl
  uses-by (Cyclic priority offset period vars block) b = refl
  uses-by (Sporadic priority ceiling op separation jitter external vars block) b = refl

  -- rings
  calls-back : (from to : OpName) → Calls q from to → Calls p from to
  calls-back from to h = ap (λ os. list_any (same_op to) (flat_map (λ o. block_calls o.block) os)) (sym (passive_named-same from)) ∙ h

  ops_of_shared-same : (name : Name) → ops_of_shared q name ≡ ops_of_shared p name
  ops_of_shared-same name =
      ap (flat_map (λ u. shared_ops u.form)) (filter-through L (λ u. same_name u.name name) p.units (λ u. refl))
      ∙ flat-through L (λ u. shared_ops u.form) (filter (λ u. same_name u.name name) p.units) (λ u. shared-same least (eager u.name) u.form)

  is_shared_name-same : (name : Name) → is_shared_name q name ≡ is_shared_name p name
  is_shared_name-same name = any-through L _ _ p.units (λ u. ap (λ b. b && same_name u.name name) (is_shared-same least (eager u.name) u.form))

  filter-same : {A : Type 0} (s t : A → Bool) (xs : List A) → ((x : A) → s x ≡ t x) → filter s xs ≡ filter t xs
  filter-same s t [] same = refl
  filter-same s t (x ∷ xs) same = ap₂ (λ b ys. if b then x ∷ ys else ys) (same x) (filter-same s t xs same)

  called_units-same : (from : Name) → called_units q from ≡ called_units p from
  called_units-same from =
      ap (λ os. filter (is_shared_name q) (map (λ c. c.object) (flat_map (λ o. block_calls o.block) os))) (ops_of_shared-same from)
      ∙ filter-same (is_shared_name q) (is_shared_name p) (map (λ c. c.object) (flat_map (λ o. block_calls o.block) (ops_of_shared p from)))
      is_shared_name-same

  units-back : (from to : Name) → CallsUnit q from to → CallsUnit p from to
  units-back from to h = ap (λ ns. list_any (same_name to) ns) (sym (called_units-same from)) ∙ h

  way : {A : Type 0} (R S : A → A → Type 0) → ((a b : A) → R a b → S a b) → (from : A) (path : List A) (to : A) → LeadsTo R from path to
      → LeadsTo S from path to
  way R S f from [] to h = f from to h
  way R S f from (via ∷ path) to h = (f from via h.0, way R S f via path to h.1)

  rings-back : (u : Unit) → BreaksRings q (L u) → BreaksRings p u
  rings-back u (inl (op, ring)) = inl (op, (ring.0, way (Calls q) (Calls p) calls-back _ ring.0 _ ring.1))
  rings-back u (inr ring) = inr (ring.0, way (CallsUnit q) (CallsUnit p) units-back _ ring.0 _ ring.1)

  -- bodies
  bodies-same : (f : Form) (b : Bool) (bs : List Body) → data_of (lift_form least b f) ≡ data_of f
      → bodies_fault q (lift_form least b f) bs ≡ bodies_fault p f bs
  bodies-same f b [] same = refl
  bodies-same f b (c ∷ bs) same =
      ap₂ (λ x y. or_else x y)
      (ap₂ (λ ds os. block_fault (record {
        reads = map (λ d. d.name) ds ++ (map (λ z. z.name) c.params ++ map (λ d. d.name) c.locals);
        writes = map (λ d. d.name) ds ++ (out_names c.params ++ map (λ d. d.name) c.locals);
        calls = os;
        in_loop = false;
      }) c.block) same offers-same)
      (bodies-same f b bs same)

  fault-same : (u : Unit) → unit_fault q (L u) ≡ unit_fault p u
  fault-same u = by u.form (eager u.name)
    where
      by : (f : Form) (b : Bool) → bodies_fault q (lift_form least b f) (bodies (lift_form least b f)) ≡ bodies_fault p f (bodies f)
      by (Passive ops) b = bodies-same (Passive ops) b (bodies (Passive ops)) refl
      by (Shared ceiling vars ops) b = bodies-same (Shared ceiling vars ops) b (bodies (Shared ceiling vars ops)) refl
      by (Cyclic priority offset period vars block) b = bodies-same (Cyclic priority offset period vars block) b
          (bodies (Cyclic priority offset period vars block)) refl
      by (Sporadic priority ceiling op separation jitter external vars block) b =
          bodies-same (Sporadic priority ceiling op separation jitter external vars block) b
          (bodies (Sporadic priority ceiling op separation jitter external vars block)) refl

  -- requests
  shared_named-same : (c : OpName) → shared_named q c ≡ shared_named p c
  shared_named-same c = ap (filter (λ o. same_name o.sig.name c.op)) (ops_of_shared-same c.object)

  flat-equal : {A B : Type 0} (f g : A → List B) (xs : List A) → ((x : A) → f x ≡ g x) → flat_map f xs ≡ flat_map g xs
  flat-equal f g xs same = flat-same f g xs (λ x h. same x)

  within-same : (depth : ℕ) (c : OpName) → calls_within depth q c ≡ calls_within depth p c
  within-same zero c = refl
  within-same (suc depth) c =
      ap (λ cs. c ∷ cs) (ap (λ os. flat_map (calls_within depth q) (flat_map (λ o. block_calls o.block) os)) (shared_named-same c)
      ∙ flat-equal (calls_within depth q) (calls_within depth p) (flat_map (λ o. block_calls o.block) (shared_named p c)) (within-same depth))

  task_calls-same : (u : Unit) → task_calls q (L u).form ≡ task_calls p u.form
  task_calls-same u =
      ap (λ cs. flat_map (calls_within (length (offers q)) q) cs) (calls-same least (eager u.name) u.form)
      ∙ ap (λ os. flat_map (calls_within (length os) q) (calls_of u.form)) offers-same
      ∙ flat-equal (calls_within (length (offers p)) q) (calls_within (length (offers p)) p) (calls_of u.form) (within-same (length (offers p)))

  requested-same : (op : OpName) → is_requested q op ≡ is_requested p op
  requested-same op = any-through L _ _ p.units (λ u. ap₂ (λ b cs. b && list_any (same_op op) cs) (is_task-same least (eager u.name) u.form)
      (task_calls-same u))

  external-same : (name : Name) (f : Form) (b : Bool) → breaks_external q name (lift_form least b f) ≡ breaks_external p name f
  external-same name (Passive ops) b = refl
  external-same name (Shared ceiling vars ops) b = refl
  external-same name (Cyclic priority offset period vars block) b = refl
  external-same name (Sporadic priority ceiling op separation jitter external vars block) b =
      ap (λ t. if t then external else not external) (requested-same (record { object = name; op = op.name }))

  -- the whole
  whole-same : whole_breaks q ≡ whole_breaks p
  whole-same = ap₂ (λ m n. costs_break p.costs || nat_lt 30 m || nat_lt 500 n)
      (ap length (filter-through L (λ u. is_task u.form) p.units (λ u. is_task-same least (eager u.name) u.form))
      ∙ length-map L (filter (λ u. is_task u.form) p.units)) (length-map L p.units)

  pub lifted-meets : least ≤ 60 → MeetsRules p → MeetsRules q
  lifted-meets low meets rule Whole h = whole rule h
    where
      whole : (rule : Rule) → WholeBreaks q rule → ⊥
      whole Ranges h = meets Ranges Whole (sym whole-same ∙ h)
      whole Naming h = h
      whole Uses h = h
      whole Rings h = h
      whole Bodies h = h
      whole Externals h = h
  lifted-meets low meets rule (At place) (v, at, h) =
      let m = mapped-at L p.units place v at in
      unit rule m.0 m.1 (let P : Unit → Type 0 = λ z. UnitBreaks q rule place z in subst P (sym m.2) h)
    where
      unit : (rule : Rule) (u : Unit) → slice_get p.units place ≡ Some u → UnitBreaks q rule place (L u) → ⊥
      unit Naming u e h = meets Naming (At place) (u, e, sym (naming place u) ∙ h)
      unit Uses u e h = meets Uses (At place) (u, e, sym (uses-by u.form (eager u.name)) ∙ h)
      unit Rings u e h = meets Rings (At place) (u, e, rings-back u h)
      unit Bodies u e (fault, h) = meets Bodies (At place) (u, e, (fault, sym (fault-same u) ∙ h))
      unit Externals u e h = meets Externals (At place) (u, e, sym (external-same u.name u.form (eager u.name)) ∙ h)
      unit Ranges u e h = by (breaks_ranges u) refl
        where
          by : (b : Bool) → breaks_ranges u ≡ b → ⊥
          by true g = meets Ranges (At place) (u, e, g)
          by false g = let z : true ≡ false = sym h ∙ ranges-right least (eager u.name) u.name u.form low g in cc

  pub lifted-readable : least ≤ 60 → IsReadable p → IsReadable q
  lifted-readable low readable = (
    (
      readable.0.0,
      each-map L _ p.units (each-to _ _ p.units (λ u h.
          (h.0, proper-same least (eager u.name) (within_limits is_ada_name) u.form h.1)) readable.0.1),
    ),
    lifted-meets low readable.1,
  )
