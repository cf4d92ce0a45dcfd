-- No operation of a program that meets the rules leads to itself by calls: a way from a passive operation stays among passive ones, and one that ends
-- in a protected unit stays among these.
use Rattle.std.specs.Prelude.{◌≡◌, true, false, ◌&&◌, List, [], ◌∷◌, map, filter, flat_map, refl}
use Rattle.std.specs.List.{list_any}
use Rattle.std.proofs.Common.{sym, ◌∙◌, ap, subst, inl, inr}
use Rattle.std.proofs.lemmas.Bool.{and_parts, true≢false}
use Rattle.seq_tree.specs.Names.{Name, same_name}
use Rattle.seq_tree.specs.Operations.{Operation}
use Rattle.seq_tree.specs.Calls.{same_op, block_calls}
use Rattle.seq_tree.specs.Rings.{LeadsTo}
use Rattle.seq_tree.specs.declared.tree.OpName.{OpName}
use Rattle.ada_tree.specs.Programs.{Form, Unit, Program, Passive, Shared, Cyclic, Sporadic}
use Rattle.ada_tree.specs.Uses.{passive_ops, shared_ops, is_confined, passive_named, is_empty, is_shared, is_shared_name, ops_of_shared}
use Rattle.ada_tree.specs.Uses.{called_units, CallsUnit}
use Rattle.ada_tree.specs.Uses as uses
use Rattle.ada_tree.specs.Rules.{Rings, At, MeetsRules}
use Rattle.ods_tree.specs.Services.{Service, Sort}
use Rattle.ods_tree.specs.Services as sort
use Rattle.analysis.specs.Sound.{name_of, Calls}
use Rattle.guarantee.specs.ResponseLaw.{program_services}
use Rattle.law_calls.specs.CallLaws.{HaveNoRing}
use Rattle.law_lists.proofs.Shared.Facts.{same-self, is-same}
use Rattle.law_lists.proofs.Shared.Lists.{IsIn, at-in, in-map, in-flat, in-some, in-filter, filter-in, any-in, any-at, place-of}
use Rattle.law_lists.proofs.Shared.Reaching.{among-is}
use Rattle.law_calls.proofs.Shared.Services.{IsOf, IsOffered, service-of, passive-body, confined-plain}
use Rattle.law_calls.proofs.Shared.UnitRules.{call-passive}
use Rattle.law_calls.proofs.Shared.Apart.{one-unit}
use Rattle.law_lists.proofs.Shared.Facts.{same-is}
use Rattle.seq_tree.proofs.Shared.Walks.{same_op-eq, same_op-refl}

-- a passive unit of this name
pub record IsPassive (p : Program) (name : Name) : Type 0 where
  pub unit : Unit
  pub among : IsIn unit p.units
  pub named : unit.name ≡ name
  pub confined : is_confined unit.form ≡ true

passive-confined : (f : Form) (o : Operation) → IsIn o (passive_ops f) → is_confined f ≡ true
passive-confined f o h = (passive-body f o h).1

pub named-passive : (p : Program) (c : OpName) → is_empty (passive_named p c) ≡ false → IsPassive p c.object
named-passive p c some = by (passive_named p c) some (λ o h. h)
  where
    by : (os : List Operation) → is_empty os ≡ false → ((o : Operation) → IsIn o os → IsIn o (passive_named p c)) → IsPassive p c.object
    by [] e inside = absurd (true≢false e)
    by (o ∷ os) e inside =
        let one = in-filter (λ (q : Operation). same_name q.sig.name c.op) o
        (flat_map (λ (u : Unit). passive_ops u.form) (filter (λ (u : Unit). same_name u.name c.object) p.units)) (inside o (inl refl)) in
        let two = in-some (λ (u : Unit). passive_ops u.form) (filter (λ (u : Unit). same_name u.name c.object) p.units) o one.0 in
        let three = in-filter (λ (u : Unit). same_name u.name c.object) two.0 p.units two.1 in
        record { unit = two.0; among = three.0; named = same-is two.0.name c.object three.1; confined = passive-confined two.0.form o two.2 }

module _ (p : Program) (rules : MeetsRules p) where
  abbrev ss : List Service
  ss = program_services p

  -- a call by the body of an operation
  record Stepped (c d : OpName) : Type 0 where
    service : Service
    offered : IsOffered p service
    named : name_of service ≡ c
    called : IsIn d (block_calls service.op.block)

  stepped : (c d : OpName) → Calls ss c d → Stepped c d
  stepped c d calls =
      let found = any-at (λ (s : Service). same_op (name_of s) c && list_any (same_op d) (block_calls s.op.block)) ss calls in
      let both = and_parts (same_op (name_of found.1) c) (list_any (same_op d) (block_calls found.1.op.block)) found.3 in
      record {
        service = found.1;
        offered = service-of p found.1 (at-in ss found.0 found.1 found.2);
        named = same_op-eq (name_of found.1) c both.0;
        called = among-is (block_calls found.1.op.block) d both.1;
      }

  unit-named : (c d : OpName) (s : Stepped c d) → s.offered.unit.name ≡ c.object
  unit-named c d s = s.offered.named ∙ ap (λ (n : OpName). n.object) s.named

  op-named : (c d : OpName) (s : Stepped c d) → s.service.op.sig.name ≡ c.op
  op-named c d s = ap (λ (n : OpName). n.op) s.named

  -- the operation of a passive unit is plain, and calls passive operations
  plain-of : (c d : OpName) → IsPassive p c.object → (s : Stepped c d) → s.service.sort ≡ sort.Plain
  plain-of c d passive s =
      let same = one-unit p rules s.offered.unit passive.unit s.offered.among passive.among (unit-named c d s ∙ sym passive.named) in
      confined-plain s.offered.unit.form s.service.sort s.service.op (ap (λ (u : Unit). is_confined u.form) same ∙ passive.confined) s.offered.does

  plain-next : (c d : OpName) (s : Stepped c d) → s.service.sort ≡ sort.Plain → IsPassive p d.object
  plain-next c d s plain =
      let in-ops : IsIn s.service.op (passive_ops s.offered.unit.form) = subst (λ x. IsOf x s.offered.unit.form s.service.op) plain s.offered.does in
      let body = passive-body s.offered.unit.form s.service.op in-ops in
      let at = place-of s.offered.unit p.units s.offered.among in
      named-passive p d (call-passive p rules at.0 s.offered.unit at.1 _ body.0 body.1 d s.called)

  plain-calls : (c d : OpName) (s : Stepped c d) → s.service.sort ≡ sort.Plain → uses.Calls p c d
  plain-calls c d s plain =
      let in-ops : IsIn s.service.op (passive_ops s.offered.unit.form) = subst (λ x. IsOf x s.offered.unit.form s.service.op) plain s.offered.does in
      let named : IsIn s.service.op (passive_named p c) =
      filter-in (λ (q : Operation). same_name q.sig.name c.op) s.service.op
      (flat_map (λ u. passive_ops u.form) (filter (λ u. same_name u.name c.object) p.units))
      (in-flat (λ (u : Unit). passive_ops u.form) s.offered.unit s.service.op (filter (λ u. same_name u.name c.object) p.units)
      (filter-in (λ (u : Unit). same_name u.name c.object) s.offered.unit p.units s.offered.among
      (is-same s.offered.unit.name c.object (unit-named c d s))) in-ops)
      (is-same s.service.op.sig.name c.op (op-named c d s)) in
      any-in (same_op d) d (flat_map (λ (q : Operation). block_calls q.block) (passive_named p c))
      (in-flat (λ (q : Operation). block_calls q.block) s.service.op d (passive_named p c) named s.called) (same_op-refl d)

  plain-way : (path : List OpName) (c to : OpName) → IsPassive p c.object → LeadsTo (Calls ss) c path to
      → LeadsTo (uses.Calls p) c path to × IsPassive p to.object
  plain-way [] c to passive way = let s = stepped c to way in let plain = plain-of c to passive s
      in (plain-calls c to s plain, plain-next c to s plain)
  plain-way (via ∷ path) c to passive way =
      let s = stepped c via way.0 in
      let plain = plain-of c via passive s in
      let rest = plain-way path via to (plain-next c via s plain) way.1 in
      ((plain-calls c via s plain, rest.0), rest.1)

  -- a protected unit of this name
  shared-form : (form : Form) (o : Operation) → IsIn o (shared_ops form) → is_shared form ≡ true
  shared-form (Passive ops) o h = absurd h
  shared-form (Shared ceiling vars ops) o h = refl
  shared-form (Cyclic priority offset period vars block) o h = absurd h
  shared-form (Sporadic priority ceiling op separation jitter external vars block) o h = absurd h

  shared-name : (u : Unit) (o : Operation) → IsIn u p.units → IsIn o (shared_ops u.form) → (name : Name) → u.name ≡ name
      → is_shared_name p name ≡ true
  shared-name u o among holds name named =
      any-in (λ (v : Unit). is_shared v.form && same_name v.name name) u p.units among
      (ap (λ t. t && same_name u.name name) (shared-form u.form o holds) ∙ is-same u.name name named)

  -- what leads on and isn't passive is protected
  protected-of : (c d : OpName) → (IsPassive p c.object → ⊥) → (s : Stepped c d) → IsIn s.service.op (shared_ops s.offered.unit.form)
  protected-of c d active s = by s.service.sort s.offered.does
    where
      by : (x : Sort) → IsOf x s.offered.unit.form s.service.op → IsIn s.service.op (shared_ops s.offered.unit.form)
      by sort.Plain h = absurd (active (record {
        unit = s.offered.unit;
        among = s.offered.among;
        named = unit-named c d s;
        confined = passive-confined s.offered.unit.form s.service.op h;
      }))
      by sort.Protected h = h
      by sort.Request h = absurd (subst (IsIn d) h.1 s.called)

  unit-step : (c d : OpName) (s : Stepped c d) → IsIn s.service.op (shared_ops s.offered.unit.form) → is_shared_name p d.object ≡ true
      → CallsUnit p c.object d.object
  unit-step c d s holds shared =
      let ops : IsIn s.service.op (ops_of_shared p c.object) =
      in-flat (λ (u : Unit). shared_ops u.form) s.offered.unit s.service.op (filter (λ u. same_name u.name c.object) p.units)
      (filter-in (λ (u : Unit). same_name u.name c.object) s.offered.unit p.units s.offered.among
      (is-same s.offered.unit.name c.object (unit-named c d s))) holds in
      let calls : IsIn d (flat_map (λ (q : Operation). block_calls q.block) (ops_of_shared p c.object))
      = in-flat (λ (q : Operation). block_calls q.block) s.service.op d (ops_of_shared p c.object) ops s.called in
      any-in (same_name d.object) d.object (called_units p c.object)
      (filter-in (is_shared_name p) d.object
      (map (λ (z : OpName). z.object) (flat_map (λ (q : Operation). block_calls q.block) (ops_of_shared p c.object)))
      (in-map (λ (z : OpName). z.object) d (flat_map (λ (q : Operation). block_calls q.block) (ops_of_shared p c.object)) calls) shared)
      (same-self d.object)

  first-shared : (path : List OpName) (c to : OpName) → (IsPassive p c.object → ⊥) → LeadsTo (Calls ss) c path to → is_shared_name p c.object ≡ true
  first-shared [] c to active way = let s = stepped c to way
      in shared-name s.offered.unit s.service.op s.offered.among (protected-of c to active s) c.object (unit-named c to s)
  first-shared (via ∷ path) c to active way =
      let s = stepped c via way.0 in shared-name s.offered.unit s.service.op s.offered.among (protected-of c via active s) c.object
      (unit-named c via s)

  -- a way that ends in a protected unit stays among these
  protected-way : (path : List OpName) (c to : OpName) → (IsPassive p to.object → ⊥) → is_shared_name p to.object ≡ true
      → LeadsTo (Calls ss) c path to
      → LeadsTo (CallsUnit p) c.object (map (λ z. z.object) path) to.object
  protected-way [] c to active shared way =
      let s = stepped c to way in unit-step c to s (protected-of c to (λ passive. active ((plain-way [] c to passive way).1)) s) shared
  protected-way (via ∷ path) c to active shared way =
      let s = stepped c via way.0 in
      let on : IsPassive p via.object → ⊥ = λ passive. active ((plain-way path via to passive way.1).1) in (
        unit-step c via s (protected-of c via (λ passive. active ((plain-way (via ∷ path) c to passive way).1)) s) (first-shared path via
            to on way.1),
        protected-way path via to active shared way.1,
      )

  -- no operation leads to itself
  first-unit : (path : List OpName) (c to : OpName) → LeadsTo (Calls ss) c path to → (u : Unit) × IsIn u p.units × (u.name ≡ c.object)
  first-unit [] c to way = let s = stepped c to way in (s.offered.unit, s.offered.among, unit-named c to s)
  first-unit (via ∷ path) c to way = let s = stepped c via way.0 in (s.offered.unit, s.offered.among, unit-named c via s)

  pub no-ring : HaveNoRing ss
  no-ring c ring =
      let first = first-unit ring.0 c c ring.1 in
      let at = place-of first.0 p.units first.1 in
      rules Rings (At at.0) (
        first.0,
        at.1,
        inr (
          map (λ z. z.object) ring.0,
          subst (λ n. LeadsTo (CallsUnit p) n (map (λ z. z.object) ring.0) n) (sym first.2)
              (protected-way ring.0 c c active (first-shared ring.0 c c active ring.1) ring.1),
        ),
      )
    where
      active : IsPassive p c.object → ⊥
      active passive =
          let at = place-of passive.unit p.units passive.among in
          let name : record { object = passive.unit.name; op = c.op } ≡ c = ap (λ n. let z : OpName = record { object = n; op = c.op }
          in z) passive.named in
          rules Rings (At at.0) (
            passive.unit,
            at.1,
            inl (
              c.op,
              (
                ring.0,
                subst (λ z. LeadsTo (uses.Calls p) z ring.0 z) (sym name) (plain-way ring.0 c
                    c passive ring.1).0,
              ),
            ),
          )
