-- Rules on calls, rings, sources and separations: who calls and starts whom, and how often, is as it was in a design whose `work` is changed.
use Rattle.std.proofs.Common.{◌≡◌, ℕ, zero, suc, ◌+◌, ◌==◌, Bool, true, false, not, ◌&&◌, ◌||◌, List, [], ◌∷◌, ◌++◌, map, filter, flat_map, filter_map}
use Rattle.std.proofs.Common.{length, refl, ap, ap₂, ◌∙◌, sym, subst, Option, Some, None, option_map, option_to_list, slice_get}
use Rattle.std.specs.Prelude.{unwrap_or, fold, max, min, nat_le, nat_lt, if◌then◌else◌}
use Rattle.std.specs.List.{list_any}
use Rattle.std.proofs.lemmas.List.{length-map}
use Rattle.seq_tree.specs.Names.{Name, same_name}
use Rattle.seq_tree.specs.Statements.{Statements}
use Rattle.seq_tree.specs.Calls.{block_calls, same_op}
use Rattle.seq_tree.specs.Dearest.{counted}
use Rattle.seq_tree.specs.Rings.{LeadsTo, IsOnRing}
use Rattle.seq_tree.specs.declared.tree.OpName.{OpName}
use Rattle.ods_tree.specs.Attributes.{attribute, attribute_or}
use Rattle.ods_tree.specs.Designs.{Body, Object, Design}
use Rattle.ods_tree.specs.Walk.{Standing, terminals, only_if}
use Rattle.ods_tree.specs.Links.{resolve}
use Rattle.ods_tree.specs.Flattening.{is_protected}
use Rattle.ods_tree.specs.declared.design.AttrKey.TheVariants.{Period, Separation, ArrivalJitter}
use Rattle.ods_tree.specs.declared.design.Kind.{Kind}
use Rattle.ods_tree.specs.declared.design.Kind.TheVariants as kind
use Rattle.design_rules.specs.Broken.{Broken, V09Objects, V09Starts, V10, V16}
use Rattle.design_rules.specs.Lookups.{requires, required_calls, has_thread, is_sporadic}
use Rattle.design_rules.specs.Rings.{terminal_ops, meant_calls, operation_calls, calls_from, CallsOp, IsOnCallRing, protected_objects, calls_object}
use Rattle.design_rules.specs.Rings.{CallsObject, IsOnObjectRing, inner_calls, calls_within, thread_objects, thread_calls, can_start, StartsThread}
use Rattle.design_rules.specs.Rings.{IsOnStartRing}
use Rattle.design_rules.specs.Rules.{RingedOp, RingedObject, RingedThread}
use Rattle.design_rules.specs.Sources.{start_weight, body_starts, starts_within, requests_by, source_count, start_count, breaks_sources, bad_sources}
use Rattle.design_rules.specs.Separations.{spacing_by, spacing, is_too_often, bad_separations}
use Rattle.law_scaling.specs.Working.{reworked_block}
use Rattle.law_scaling.specs.Designs.{reworked_body, reworked_object, reworked_design}
use Rattle.law_scaling.proofs.Shared.Blocks.{block-calls}
use Rattle.law_scaling.proofs.Shared.Designs.{standing, terminals-same, resolve-same, attribute-same, filter-map}
use Rattle.law_scaling.proofs.Shared.Ranks.{any-map, map-map}
use Rattle.law_scaled_designs.proofs.Lists.{filter_map-moved, flat_map-moved, flat_map-each, map-each, any-each, count-moved, moved-at}
use Rattle.law_scaled_designs.proofs.Texts.{counted-same}

leads-same : {A : Type 0} (P Q : A → A → Type 0) → ((a b : A) → P a b → Q a b) → (path : List A) (a b : A) → LeadsTo P a path b → LeadsTo Q a path b
leads-same P Q each [] a b h = each a b h
leads-same P Q each (via ∷ path) a b h = (each a via h.0, leads-same P Q each path via b h.1)

module _ (w : Name → ℕ → ℕ) (x : Design) where
  abbrev new : Design
  new = reworked_design w x

  -- CALLS

  ops-same : terminal_ops new ≡ terminal_ops x
  ops-same =
      ap (flat_map (λ s. map (λ p. let n : OpName = record { object = s.own.name; op = p.sig.name } in n) s.own.provides)) (terminals-same w x)
      ∙ flat_map-moved (λ s. map (λ p. let n : OpName = record { object = s.own.name; op = p.sig.name } in n) s.own.provides)
      (λ s. map (λ p. record { object = s.own.name; op = p.sig.name }) s.own.provides) (standing w) (terminals x) (λ s. refl)

  -- what a block of an object calls
  meant-same : (o : Object) (c : ℕ → ℕ) (b : Statements) → meant_calls new (reworked_object w o) (reworked_block c b) ≡ meant_calls x o b
  meant-same o c b =
      ap (λ ns. map (resolve new) (filter (requires o) ns)) (block-calls c b)
      ∙ map-each (resolve new) (resolve x) (required_calls o b) (resolve-same w x)

  operation-calls : (o : Object) (op : Name) → operation_calls new (reworked_object w o) op ≡ operation_calls x o op
  operation-calls o op =
      ap (flat_map (λ b. meant_calls new (reworked_object w o) b.block))
      (filter-map (λ b. same_name b.name op) (λ b. same_name b.name op) (reworked_body (w o.name)) o.bodies (λ b. refl))
      ∙ flat_map-moved (λ b. meant_calls new (reworked_object w o) b.block) (λ b. meant_calls x o b.block) (reworked_body (w o.name))
      (filter (λ b. same_name b.name op) o.bodies) (λ b. meant-same o (w o.name) b.block)

  from-same : (name : OpName) → calls_from new name ≡ calls_from x name
  from-same name =
      ap (λ ss. flat_map (λ s. operation_calls new s.own name.op) (filter (λ s. same_name s.own.name name.object) ss)) (terminals-same w x)
      ∙ ap (flat_map (λ s. operation_calls new s.own name.op))
      (filter-map (λ s. same_name s.own.name name.object) (λ s. same_name s.own.name name.object) (standing w) (terminals x) (λ s. refl))
      ∙ flat_map-moved (λ s. operation_calls new s.own name.op) (λ s. operation_calls x s.own name.op) (standing w)
      (filter (λ s. same_name s.own.name name.object) (terminals x)) (λ s. operation-calls s.own name.op)

  calls-op : (a b : OpName) → CallsOp new a b → CallsOp x a b
  calls-op a b h = sym (ap (list_any (same_op b)) (from-same a)) ∙ h

  pub ringed-op : (place : ℕ) (told : Broken) → RingedOp new place told → RingedOp x place told
  ringed-op place told r = record {
    op = r.op;
    stands = sym (ap (λ ns. slice_get ns place) ops-same) ∙ r.stands;
    ring = (r.ring.0, leads-same (CallsOp new) (CallsOp x) calls-op r.ring.0 r.op r.op r.ring.1);
    tells = r.tells;
  }

  -- OBJECTS

  chosen-same : (test : Kind → Bool) → map (λ s. s.own) (filter (λ s. test s.own.kind) (terminals new))
      ≡ map (reworked_object w) (map (λ s. s.own) (filter (λ s. test s.own.kind) (terminals x)))
  chosen-same test =
      let chosen : List Standing = filter (λ s. test s.own.kind) (terminals x) in
      ap (λ ss. map (λ s. s.own) (filter (λ s. test s.own.kind) ss)) (terminals-same w x)
      ∙ ap (map (λ s. s.own)) (filter-map (λ s. test s.own.kind) (λ s. test s.own.kind) (standing w) (terminals x) (λ s. refl))
      ∙ map-map (λ s. s.own) (standing w) (λ s. reworked_object w s.own) chosen (λ s. refl)
      ∙ sym (map-map (reworked_object w) (λ s. s.own) (λ s. reworked_object w s.own) chosen (λ s. refl))

  pub protected-same : protected_objects new ≡ map (reworked_object w) (protected_objects x)
  protected-same = chosen-same is_protected

  pub threads-same : thread_objects new ≡ map (reworked_object w) (thread_objects x)
  threads-same = chosen-same has_thread

  calls-object-same : (f t : Object) → calls_object new (reworked_object w f) (reworked_object w t) ≡ calls_object x f t
  calls-object-same f t =
      ap (list_any (λ c. same_name c.object t.name))
      (flat_map-moved (λ b. meant_calls new (reworked_object w f) b.block) (λ b. meant_calls x f b.block) (reworked_body (w f.name)) f.bodies
      (λ b. meant-same f (w f.name) b.block))

  -- whether one of these objects leads to another, by their names
  abbrev leads_among : (Object → Object → Bool) → List Object → Name → Name → Bool
  leads_among leads os from to = list_any (λ f. same_name f.name from && list_any (λ t. same_name t.name to && leads f t) os) os

  among-same : (leads other : Object → Object → Bool) (os : List Object) (from to : Name)
      → ((f t : Object) → leads (reworked_object w f) (reworked_object w t) ≡ other f t)
      → leads_among leads (map (reworked_object w) os) from to ≡ leads_among other os from to
  among-same leads other os from to same =
      any-map (λ f. same_name f.name from && list_any (λ t. same_name t.name to && leads f t) (map (reworked_object w) os))
      (λ f. same_name f.name from && list_any (λ t. same_name t.name to && other f t) os) (reworked_object w) os
      (λ f. ap (λ b. same_name f.name from && b)
      (any-map (λ t. same_name t.name to && leads (reworked_object w f) t) (λ t. same_name t.name to && other f t) (reworked_object w) os
      (λ t. ap (λ b. same_name t.name to && b) (same f t))))

  object-leads : (a b : Name) → CallsObject new a b → CallsObject x a b
  object-leads a b h =
      sym (ap (λ os. leads_among (calls_object new) os a b) protected-same
      ∙ among-same (calls_object new) (calls_object x) (protected_objects x) a b calls-object-same) ∙ h

  pub ringed-object : (place : ℕ) (told : Broken) → RingedObject new place told → RingedObject x place told
  ringed-object place told r =
      let at = moved-at (reworked_object w) (protected_objects x) place r.object (sym (ap (λ os. slice_get os place) protected-same) ∙ r.stands) in
      let named : r.object.name ≡ at.0.name = ap (λ o. o.name) at.2 in
      let R : Name → Type 0 = λ n. IsOnObjectRing x n in
      let ring : IsOnObjectRing x r.object.name
      = (r.ring.0, leads-same (CallsObject new) (CallsObject x) object-leads r.ring.0 r.object.name r.object.name r.ring.1) in
      record { object = at.0; stands = at.1; ring = subst R named ring; tells = r.tells ∙ ap V09Objects named }

  -- STARTS

  inner-same : (name : OpName) → inner_calls new name ≡ inner_calls x name
  inner-same name =
      ap (λ os. flat_map (λ o. operation_calls new o name.op) (filter (λ o. same_name o.name name.object) os)) protected-same
      ∙ ap (flat_map (λ o. operation_calls new o name.op))
      (filter-map (λ o. same_name o.name name.object) (λ o. same_name o.name name.object) (reworked_object w) (protected_objects x) (λ o. refl))
      ∙ flat_map-moved (λ o. operation_calls new o name.op) (λ o. operation_calls x o name.op) (reworked_object w)
      (filter (λ o. same_name o.name name.object) (protected_objects x)) (λ o. operation-calls o name.op)

  within-same : (depth : ℕ) (name : OpName) → calls_within depth new name ≡ calls_within depth x name
  within-same zero name = refl
  within-same (suc depth) name =
      ap (λ ns. name ∷ ns)
      (ap (flat_map (calls_within depth new)) (inner-same name)
      ∙ flat_map-each (calls_within depth new) (calls_within depth x) (inner_calls x name) (within-same depth))

  thread-calls-same : (o : Object) → thread_calls new (reworked_object w o) ≡ thread_calls x o
  thread-calls-same o =
      ap (λ n. flat_map (calls_within n new) (flat_map (meant_calls new (reworked_object w o)) (option_to_list (option_map (reworked_block (w o.name)) o.thread))))
      (ap length ops-same)
      ∙ ap (flat_map (calls_within (length (terminal_ops x)) new)) (by o.thread)
      ∙ flat_map-each (calls_within (length (terminal_ops x)) new) (calls_within (length (terminal_ops x)) x)
      (flat_map (meant_calls x o) (option_to_list o.thread)) (within-same (length (terminal_ops x)))
    where
      by : (b : Option Statements) → flat_map (meant_calls new (reworked_object w o)) (option_to_list (option_map (reworked_block (w o.name)) b))
          ≡ flat_map (meant_calls x o) (option_to_list b)
      by None = refl
      by (Some b) = ap (λ ns. ns ++ []) (meant-same o (w o.name) b)

  pub can-start-same : (f t : Object) → can_start new (reworked_object w f) (reworked_object w t) ≡ can_start x f t
  can-start-same f t = ap (λ ns. is_sporadic t.kind && list_any (λ c. same_name c.object t.name) ns) (thread-calls-same f)

  thread-leads : (a b : Name) → StartsThread new a b → StartsThread x a b
  thread-leads a b h =
      sym (ap (λ os. leads_among (can_start new) os a b) threads-same
      ∙ among-same (can_start new) (can_start x) (thread_objects x) a b can-start-same) ∙ h

  pub ringed-thread : (place : ℕ) (told : Broken) → RingedThread new place told → RingedThread x place told
  ringed-thread place told r =
      let at = moved-at (reworked_object w) (thread_objects x) place r.thread (sym (ap (λ os. slice_get os place) threads-same) ∙ r.stands) in
      let named : r.thread.name ≡ at.0.name = ap (λ o. o.name) at.2 in
      let R : Name → Type 0 = λ n. IsOnStartRing x n in
      let ring : IsOnStartRing x r.thread.name
      = (r.ring.0, leads-same (StartsThread new) (StartsThread x) thread-leads r.ring.0 r.thread.name r.thread.name r.ring.1) in
      record { thread = at.0; stands = at.1; ring = subst R named ring; tells = r.tells ∙ ap V09Starts named }

  -- SOURCES

  weight-same : (target : Name) (inner other : OpName → ℕ) (o : Object) (object op : Name) → ((n : OpName) → inner n ≡ other n)
      → start_weight new target inner (reworked_object w o) object op ≡ start_weight x target other o object op
  weight-same target inner other o object op same =
      let name : OpName = record { object = object; op = op } in
      let made : ℕ → OpName → ℕ = λ more n. if requires o name then (if same_name n.object target then 1 else more) else 0 in
      ap (λ n. made (inner n) n) (resolve-same w x name) ∙ ap (λ more. made more (resolve x name)) (same (resolve x name))

  starts-moved : (target : Name) (inner other : OpName → ℕ) (op : Name) (o : Object) → ((n : OpName) → inner n ≡ other n)
      → body_starts new target inner op (reworked_object w o) ≡ body_starts x target other op o
  starts-moved target inner other op o same =
      ap (fold max 0)
      (ap (map (λ b. counted (start_weight new target inner (reworked_object w o)) b.block))
      (filter-map (λ b. same_name b.name op) (λ b. same_name b.name op) (reworked_body (w o.name)) o.bodies (λ b. refl))
      ∙ map-map (λ b. counted (start_weight new target inner (reworked_object w o)) b.block) (reworked_body (w o.name))
      (λ b. counted (start_weight x target other o) b.block) (filter (λ b. same_name b.name op) o.bodies)
      (λ b. counted-same (w o.name) (start_weight new target inner (reworked_object w o)) (start_weight x target other o) b.block
      (λ object p. weight-same target inner other o object p same)))

  started-within : (depth : ℕ) (target : Name) (name : OpName) → starts_within depth new target name ≡ starts_within depth x target name
  started-within zero target name = refl
  started-within (suc depth) target name = by (started-within depth target)
    where
      by : ((n : OpName) → starts_within depth new target n ≡ starts_within depth x target n)
          → starts_within (suc depth) new target name ≡ starts_within (suc depth) x target name
      by same =
          ap (fold max 0)
          (ap (λ os. map (body_starts new target (starts_within depth new target) name.op) (filter (λ o. same_name o.name name.object) os)) protected-same
          ∙ ap (map (body_starts new target (starts_within depth new target) name.op))
          (filter-map (λ o. same_name o.name name.object) (λ o. same_name o.name name.object) (reworked_object w) (protected_objects x) (λ o. refl))
          ∙ map-map (body_starts new target (starts_within depth new target) name.op) (reworked_object w)
          (body_starts x target (starts_within depth x target) name.op) (filter (λ o. same_name o.name name.object) (protected_objects x))
          (λ o. starts-moved target (starts_within depth new target) (starts_within depth x target) name.op o same))

  requests-same : (target : Name) (o : Object) → requests_by new target (reworked_object w o) ≡ requests_by x target o
  requests-same target o =
      ap (fold max 0)
      (ap (λ n. map (counted (start_weight new target (starts_within n new target) (reworked_object w o)))
      (option_to_list (option_map (reworked_block (w o.name)) o.thread))) (ap length ops-same)
      ∙ by o.thread)
    where
      deep : ℕ
      deep = length (terminal_ops x)

      by : (b : Option Statements)
          → map (counted (start_weight new target (starts_within deep new target) (reworked_object w o)))
          (option_to_list (option_map (reworked_block (w o.name)) b))
          ≡ map (counted (start_weight x target (starts_within deep x target) o)) (option_to_list b)
      by None = refl
      by (Some b) =
          ap (λ n. n ∷ [])
          (counted-same (w o.name) (start_weight new target (starts_within deep new target) (reworked_object w o))
          (start_weight x target (starts_within deep x target) o) b
          (λ object op. weight-same target (starts_within deep new target) (starts_within deep x target) o object op (started-within deep target)))

  source-counts : (o : Object) → source_count new (reworked_object w o) ≡ source_count x o
  source-counts o =
      ap₂ (λ m n. m + n)
      (ap (λ os. length (filter (λ f. can_start new f (reworked_object w o)) os)) threads-same
      ∙ count-moved (λ f. can_start new f (reworked_object w o)) (λ f. can_start x f o) (reworked_object w) (thread_objects x)
      (λ f. can-start-same f o))
      (ap (λ a. length (option_to_list a)) (attribute-same ArrivalJitter refl w o))

  start-counts : (o : Object) → start_count new (reworked_object w o) ≡ start_count x o
  start-counts o =
      ap (λ ns. min 2 (fold max 0 ns))
      (ap (map (requests_by new o.name)) threads-same
      ∙ map-map (requests_by new o.name) (reworked_object w) (requests_by x o.name) (thread_objects x) (requests-same o.name))

  pub bad-sources-same : bad_sources new ≡ bad_sources x
  bad-sources-same =
      ap (filter_map (λ o. only_if (is_sporadic o.kind && breaks_sources new o) (V10 o.name (source_count new o) (start_count new o)))) threads-same
      ∙ filter_map-moved (λ o. only_if (is_sporadic o.kind && breaks_sources new o) (V10 o.name (source_count new o) (start_count new o)))
      (λ o. only_if (is_sporadic o.kind && breaks_sources x o) (V10 o.name (source_count x o) (start_count x o))) (reworked_object w)
      (thread_objects x)
      (λ o. ap₂ (λ m n. only_if (is_sporadic o.kind && (not (m == 1) || not (nat_le n 1))) (V10 o.name m n)) (source-counts o) (start-counts o))

  -- SEPARATIONS

  spacing-same : (k : Kind) (o : Object) → spacing_by k (reworked_object w o) ≡ spacing_by k o
  spacing-same kind.Sporadic o = ap (λ a. unwrap_or a 0) (attribute-same Separation refl w o)
  spacing-same kind.Passive o = ap (λ a. unwrap_or a 0) (attribute-same Period refl w o)
  spacing-same kind.Active o = ap (λ a. unwrap_or a 0) (attribute-same Period refl w o)
  spacing-same kind.Protected o = ap (λ a. unwrap_or a 0) (attribute-same Period refl w o)
  spacing-same kind.Cyclic o = ap (λ a. unwrap_or a 0) (attribute-same Period refl w o)

  separation-told : (f t : Object)
      → only_if (is_too_often new (reworked_object w f) (reworked_object w t))
      (V16 f.name (spacing (reworked_object w f)) t.name (attribute_or 0 Separation (reworked_object w t)))
      ≡ only_if (is_too_often x f t) (V16 f.name (spacing f) t.name (attribute_or 0 Separation t))
  separation-told f t =
      ap (λ b. only_if (b && nat_lt (spacing (reworked_object w f)) (attribute_or 0 Separation (reworked_object w t)))
      (V16 f.name (spacing (reworked_object w f)) t.name (attribute_or 0 Separation (reworked_object w t)))) (can-start-same f t)
      ∙ ap₂ (λ m n. only_if (can_start x f t && nat_lt m n) (V16 f.name m t.name n)) (spacing-same f.kind f)
      (ap (λ a. unwrap_or a 0) (attribute-same Separation refl w t))

  pub bad-separations-same : bad_separations new ≡ bad_separations x
  bad-separations-same =
      let told : Design → Object → Object → Option Broken
      = λ y f t. only_if (is_too_often y f t) (V16 f.name (spacing f) t.name (attribute_or 0 Separation t)) in
      ap (λ os. flat_map (λ f. filter_map (told new f) os) os) threads-same
      ∙ flat_map-moved (λ f. filter_map (told new f) (map (reworked_object w) (thread_objects x))) (λ f. filter_map (told x f) (thread_objects x))
      (reworked_object w) (thread_objects x)
      (λ f. filter_map-moved (told new (reworked_object w f)) (told x f) (reworked_object w) (thread_objects x) (separation-told f))
