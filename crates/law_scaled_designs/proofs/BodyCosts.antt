-- Each body and each thread of an object that runs is one of the flat design, so none is too dear where the changed flat design is sound.
use Rattle.std.proofs.Common.{◌≡◌, ℕ, suc, ◌+◌, ◌==◌, ◌≤◌, Bool, true, false, not, ◌&&◌, ◌||◌, List, [], ◌∷◌, ◌++◌, map, filter, length, nat_lt, nat_le}
use Rattle.std.proofs.Common.{refl, ap, ap₂, ◌∙◌, sym, subst, arith, Option, Some, None, option_map, inl, inr}
use Rattle.std.specs.Prelude.{find, if◌then◌else◌}
use Rattle.std.specs.List.{list_any, list_all}
use Rattle.std.proofs.lemmas.Bool.{or_parts, and_parts, not-false, eqb-true}
use Rattle.seq_tree.specs.Limits.{tick_limit}
use Rattle.seq_tree.specs.Names.{Name, same_name}
use Rattle.seq_tree.specs.Statements.{Statements}
use Rattle.seq_tree.specs.Operations.{Signature, Operation}
use Rattle.ods_tree.specs.Designs.{Provided, Body, Object, Design}
use Rattle.ods_tree.specs.Walk.{Standing, objects, terminals, is_terminal, is_empty}
use Rattle.ods_tree.specs.Links.{resolved}
use Rattle.ods_tree.specs.Flats.{Library, Guarded, Timing, Cyclic, Sporadic, Thread, Flat}
use Rattle.ods_tree.specs.Flattening.{body_named, operation_by, operations, request_op, timing_by, thread_at, is_passive, is_protected, flat}
use Rattle.ods_tree.specs.Attributes.{attribute, attribute_or}
use Rattle.ods_tree.specs.Services.{flat_services}
use Rattle.ods_tree.specs.Sound.{entry_ops}
use Rattle.ods_tree.specs.declared.design.Constraint.{Constraint}
use Rattle.ods_tree.specs.declared.design.Constraint.TheVariants.{Aser, Hser, Pser, Paer}
use Rattle.ods_tree.specs.declared.design.AttrKey.TheVariants.{Period, Offset, Separation, ArrivalJitter}
use Rattle.ods_tree.specs.declared.design.Kind.{Kind}
use Rattle.ods_tree.specs.declared.design.Kind.TheVariants as kind
use Rattle.analysis.specs.Execution.{block_cost}
use Rattle.analysis.specs.Sound.{IsSound}
use Rattle.analysis.specs.Tables.{activation_cost}
use Rattle.design_rules.specs.Bodies.{is_active}
use Rattle.design_rules.specs.Clashes.{has_block, is_aser, is_request}
use Rattle.design_rules.specs.Fittings.{wanted_bodies, body_count, is_provided, misfits, misfits_terminal}
use Rattle.design_rules.specs.Lookups.{provided_named, has_thread, is_sporadic}
use Rattle.design_rules.specs.Operations.{may_provide, breaks_table, has_request, hands_out, breaks_operations}
use Rattle.design_rules.specs.Rules.{AreMet}
use Rattle.law_lists.proofs.Shared.Lists.{IsIn, in-left, in-right, in-map, found-in, none-in, filter-in}
use Rattle.law_lists.proofs.Shared.Facts.{same-is, is-same}
use Rattle.law_designs.proofs.Shared.Lists.{all-in, found-some}
use Rattle.law_designs.proofs.Shared.ObjectRules.{parts-fit, operations-right, not-active}
use Rattle.law_designs.proofs.Shared.Flattened.{terminal-object, library_by, guarded_by, library-of, guarded-of, thread-of, operation-of}
use Rattle.law_scaling.specs.Working.{reworked_block, reworked_op, reworked_library, reworked_guarded, reworked_thread, reworked}

-- of one thing that passes a test, that one is found
one-of : {A : Type 0} (ys : List A) (a b : A) → length ys ≡ 1 → IsIn a ys → IsIn b ys → a ≡ b
one-of [] a b e h k = absurd h
one-of (c ∷ []) a b e (inl p) (inl q) = sym p ∙ q
one-of (c ∷ []) a b e (inl p) (inr k) = absurd k
one-of (c ∷ []) a b e (inr h) k = absurd h
one-of (c ∷ d ∷ ys) a b e h k = cc

only-one : {A : Type 0} (p : A → Bool) (xs : List A) (a : A) → length (filter p xs) ≡ 1 → IsIn a xs → p a ≡ true → find p xs ≡ Some a
only-one {A} p xs a one h e =
    let f = found-some p xs a h e in
    let there = found-in p xs f.0 f.1 in
    let same : f.0 ≡ a = one-of (filter p xs) f.0 a one (filter-in p f.0 xs there.0 there.1) (filter-in p a xs h e) in
    subst (λ b. find p xs ≡ Some b) same f.1

some-length : {A : Type 0} (ys : List A) (a : A) → IsIn a ys → length ys ≡ 0 → ⊥
some-length [] a h e = absurd h
some-length (y ∷ ys) a h e = cc

some-provided : (p : Option Provided) → is_provided p ≡ true → (q : Provided) × (p ≡ Some q)
some-provided None h = cc
some-provided (Some q) h = (q, refl)

-- what the parts of a terminal object are
record Parted (o : Object) : Type 0 where
  counts : list_any (λ p. not (body_count o p.sig.name == wanted_bodies o p)) o.provides ≡ false
  bodies : list_any (λ b. not (is_provided (provided_named b.name o.provides))) o.bodies ≡ false
  threads : (not (has_thread o.kind) && has_block o.thread) ≡ false

parted : (o : Object) → misfits_terminal o ≡ false → Parted o
parted o h =
    let a : Bool = list_any (λ p. not (body_count o p.sig.name == wanted_bodies o p)) o.provides in
    let b : Bool = list_any (λ b. not (is_provided (provided_named b.name o.provides))) o.bodies in
    let c : Bool = has_thread o.kind && not (has_block o.thread) in
    let d : Bool = not (has_thread o.kind) && has_block o.thread in
    let e : Bool = is_passive o.kind && not (is_empty o.vars) in
    let five = or_parts (a || b || c || d || e) (not (is_empty o.links)) h in
    let four = or_parts (a || b || c || d) e five.0 in
    let three = or_parts (a || b || c) d four.0 in
    let two = or_parts (a || b) c three.0 in
    let one = or_parts a b two.0 in
    record { counts = one.0; bodies = one.1; threads = three.1 }

-- a body with the operation that it is of
record Bodied (o : Object) (b : Body) : Type 0 where
  provided : Provided
  provides : IsIn provided o.provides
  count : (body_count o provided.sig.name == wanted_bodies o provided) ≡ true
  stands : IsIn b (filter (λ c. same_name c.name provided.sig.name) o.bodies)
  may : may_provide o.kind provided.constraint ≡ true
  same : same_name b.name provided.sig.name ≡ true

bodied : (o : Object) (b : Body) → Parted o → breaks_table true o ≡ false → IsIn b o.bodies → Bodied o b
bodied o b h k i =
    let there = some-provided _ (not-false _ (none-in (λ b. not (is_provided (provided_named b.name o.provides))) b o.bodies h.bodies i)) in
    let at = found-in (λ p. same_name p.sig.name b.name) o.provides there.0 there.1 in
    let name : same_name b.name there.0.sig.name ≡ true = is-same b.name there.0.sig.name (sym (same-is there.0.sig.name b.name at.1)) in
    record {
      provided = there.0;
      provides = at.0;
      count = not-false _ (none-in (λ p. not (body_count o p.sig.name == wanted_bodies o p)) there.0 o.provides h.counts at.0);
      stands = filter-in (λ c. same_name c.name there.0.sig.name) b o.bodies i name;
      may = not-false _ (none-in (λ p. not (may_provide o.kind p.constraint)) there.0 o.provides
          (or_parts (list_any (λ p. not (may_provide o.kind p.constraint)) o.provides) _ k).0 at.0);
      same = name;
    }

-- a sporadic object has no bodies
aser-only : (c : Option Constraint) → may_provide kind.Sporadic c ≡ true → is_aser c ≡ true
aser-only None h = cc
aser-only (Some Aser) h = refl
aser-only (Some Hser) h = cc
aser-only (Some Pser) h = cc
aser-only (Some Paer) h = cc

no-cyclic : (c : Option Constraint) → may_provide kind.Cyclic c ≡ true → ⊥
no-cyclic None h = cc
no-cyclic (Some Aser) h = cc
no-cyclic (Some Hser) h = cc
no-cyclic (Some Pser) h = cc
no-cyclic (Some Paer) h = cc

-- what has bodies is passive or protected
serves : (o : Object) (b : Body) → Bodied o b → is_active o.kind ≡ false → (k : Kind) → o.kind ≡ k → (is_passive k || is_protected k) ≡ true
serves o b h idle kind.Passive e = refl
serves o b h idle kind.Protected e = refl
serves o b h idle kind.Active e = let z : true ≡ false = ap is_active (sym e) ∙ idle in cc
serves o b h idle kind.Cyclic e = absurd (no-cyclic h.provided.constraint (ap (λ k. may_provide k h.provided.constraint) (sym e) ∙ h.may))
serves o b h idle kind.Sporadic e =
    let asked : is_aser h.provided.constraint ≡ true
    = aser-only h.provided.constraint (ap (λ k. may_provide k h.provided.constraint) (sym e) ∙ h.may) in
    let request : is_request o h.provided ≡ true = ap₂ (λ k c. is_sporadic k && c) e asked in
    let wanted : wanted_bodies o h.provided ≡ 0 = rw request refl in
    let none : body_count o h.provided.sig.name ≡ 0 = eqb-true _ _ h.count ∙ wanted in
    absurd (some-length (filter (λ c. same_name c.name h.provided.sig.name) o.bodies) b h.stands none)

still : (k : Kind) → (is_passive k || is_protected k) ≡ true → is_sporadic k ≡ false
still kind.Passive h = refl
still kind.Protected h = refl
still kind.Active h = cc
still kind.Cyclic h = cc
still kind.Sporadic h = cc

named : (o : Object) (b : Body) (h : Bodied o b) → IsIn b o.bodies → is_sporadic o.kind ≡ false → body_named h.provided.sig.name o.bodies ≡ Some b
named o b h i idle =
    let wanted : wanted_bodies o h.provided ≡ 1 = rw idle refl in
    only-one (λ c. same_name c.name h.provided.sig.name) o.bodies b (eqb-true _ _ h.count ∙ wanted) i h.same

requested : (ps : List Provided) → has_request kind.Sporadic ps ≡ true → (sig : Signature) × (request_op ps ≡ Some sig)
requested [] h = cc
requested (p ∷ ps) h = (p.sig, refl)

-- an object with a thread is released by a timing
timed : (o : Object) (k : Kind) → has_thread k ≡ true → breaks_table true o ≡ false → o.kind ≡ k
    → (timing : Timing) × (timing_by k o ≡ Some timing)
timed o kind.Cyclic h r e = (Cyclic (attribute_or 0 Period o) (attribute_or 0 Offset o), refl)
timed o kind.Sporadic h r e =
    let right = not-false _ (or_parts (list_any (λ p. not (may_provide o.kind p.constraint)) o.provides) _ r).1 in
    let op = requested o.provides (ap (λ k. has_request k o.provides) (sym e) ∙ right) in (
      Sporadic op.0 (attribute_or 0 Separation o) (attribute ArrivalJitter o),
      ap (option_map (λ op. Sporadic op (attribute_or 0 Separation o) (attribute ArrivalJitter o))) op.1,
    )
timed o kind.Passive h r e = cc
timed o kind.Active h r e = cc
timed o kind.Protected h r e = cc

threaded : (o : Object) (b : Statements) → (not (has_thread o.kind) && has_block o.thread) ≡ false → o.thread ≡ Some b → has_thread o.kind ≡ true
threaded o b h e = by (has_thread o.kind) (ap (λ t. not (has_thread o.kind) && has_block t) (sym e) ∙ h)
  where
    by : (t : Bool) → (not t && true) ≡ false → t ≡ true
    by true k = refl
    by false k = cc

-- a part of either kind
either : {A : Type 0} (a b : Bool) → (a || b) ≡ true → (a ≡ true → A) → (b ≡ true → A) → A
either true b h f g = f refl
either false b h f g = g h

module _ (written x : Design) (met : AreMet written x) (w : Name → ℕ → ℕ) (sound : IsSound (reworked w (flat x))) where
  abbrev f : Flat
  f = reworked w (flat x)

  fits : (s : Standing) → IsIn s (terminals x) → Parted s.own
  fits s h =
      let t = terminal-object x s h in
      let P : Bool → Type 0 = λ b. misfits b s ≡ false in
      parted s.own (subst P t.1 (parts-fit written x met s t.0))

  table-right : (s : Standing) → IsIn s (terminals x) → breaks_table true s.own ≡ false
  table-right s h =
      let t = terminal-object x s h in
      let P : Bool → Type 0 = λ b. breaks_table b s.own ≡ false in
      subst P t.1 (or_parts (breaks_table (is_terminal s) s.own) _ (operations-right written x met s t.0)).0

  -- an operation of the changed flat design is within the greatest cost
  op-cheap : (os : List Operation) (e : Operation) → IsIn os (entry_ops f) → IsIn e os
      → nat_le (block_cost f.costs (flat_services f) e.block) tick_limit ≡ true
  op-cheap os e h k =
      all-in (λ (o : Operation). nat_le (block_cost f.costs (flat_services f) o.block) tick_limit) os e
      (all-in (λ ops. list_all (λ (o : Operation). nat_le (block_cost f.costs (flat_services f) o.block) tick_limit) ops) (entry_ops f) os sound.op_costs h)
      k

  pub body-within : (s : Standing) (b : Body) → IsIn s (terminals x) → IsIn b s.own.bodies
      → nat_le (block_cost f.costs (flat_services f) (reworked_block (w s.own.name) (resolved x b.block))) tick_limit ≡ true
  body-within s b h i =
      let o = s.own in
      let t = bodied o b (fits s h) (table-right s h) i in
      let kinds = serves o b t (not-active written x met s h) o.kind refl in
      let e : Operation = operation_by x t.provided.sig b in
      let stands : IsIn e (operations x o) = operation-of x o t.provided b t.provides (named o b t i (still o.kind kinds)) in
      let there : IsIn (reworked_op (w o.name) e) (map (reworked_op (w o.name)) (operations x o)) = in-map (reworked_op (w o.name)) e (operations x o) stands in
      let left : List (List Operation) = map (λ l. l.ops) f.passive in
      let right : List (List Operation) = map (λ g. g.ops) f.shared in
      either (is_passive o.kind) (is_protected o.kind) kinds
      (λ p. op-cheap (map (reworked_op (w o.name)) (operations x o)) (reworked_op (w o.name) e)
      (in-left _ left right (in-map (λ (l : Library). l.ops) (reworked_library w (library_by x o)) f.passive
      (in-map (reworked_library w) (library_by x o) (flat x).passive (library-of x s h p)))) there)
      (λ p. op-cheap (map (reworked_op (w o.name)) (operations x o)) (reworked_op (w o.name) e)
      (in-right _ left right (in-map (λ (g : Guarded). g.ops) (reworked_guarded w (guarded_by x o)) f.shared
      (in-map (reworked_guarded w) (guarded_by x o) (flat x).shared (guarded-of x s h p)))) there)

  pub thread-within : (s : Standing) (b : Statements) → IsIn s (terminals x) → s.own.thread ≡ Some b
      → nat_le (block_cost f.costs (flat_services f) (reworked_block (w s.own.name) (resolved x b)) + f.costs.finish) tick_limit ≡ true
  thread-within s b h e =
      let o = s.own in
      let k = threaded o b (fits s h).threads e in
      let t = timed o o.kind k (table-right s h) refl in
      all-in (λ u. nat_le (activation_cost f u) tick_limit) f.threads (reworked_thread w (thread_at x o t.0 b)) sound.thread_costs
      (in-map (reworked_thread w) (thread_at x o t.0 b) (flat x).threads (thread-of x s t.0 b h t.1 e))
