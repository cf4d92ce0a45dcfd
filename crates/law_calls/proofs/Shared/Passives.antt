-- Passive operations call each other in no ring, and so no deeper than there are operations.
use Rattle.std.specs.Prelude.{◌≡◌, List, [], ◌∷◌, map, length, filter, flat_map, Option, Some, None, true}
use Rattle.std.proofs.Common.{sym, ◌∙◌, ap, subst, inl}
use Rattle.std.proofs.lemmas.Option.{none-some, same_Some}
use Rattle.seq_tree.specs.Names.{same_name}
use Rattle.seq_tree.specs.Operations.{Operation}
use Rattle.seq_tree.specs.Calls.{same_op, block_calls}
use Rattle.seq_tree.specs.Rings.{LeadsTo as RingLeads, IsOnRing}
use Rattle.seq_tree.specs.declared.tree.OpName.{OpName}
use Rattle.ada_tree.specs.Programs.{Unit, Program}
use Rattle.ada_tree.specs.Uses.{passive_ops, passive_named, Calls}
use Rattle.ada_tree.specs.Rules.{Rings, At, MeetsRules}
use Rattle.arrivals_tree.specs.Arriving.{Arrivals}
use Rattle.guarantee.specs.ResponseLaw.{program_services}
use Rattle.machine.specs.Systems.{System, CallTarget, Plain, Protected, Request, Unknown, system, callee}
use Rattle.law_lists.proofs.Shared.Lists.{IsIn, at-in, in-flat, in-map, any-in, filter-in}
use Rattle.law_calls.proofs.Shared.Systems.{library-at, LeadsToPlain, LeadsTo, leads-to}
use Rattle.law_calls.proofs.Shared.Apart.{units_apart}
use Rattle.law_lists.proofs.Shared.Depths.{Step, IsDeep, deep-all}
use Rattle.law_calls.proofs.Shared.Named.{ServedAs, served-as}
use Rattle.law_calls.proofs.Shared.Services.{named-is}
use Rattle.law_lists.proofs.Shared.Facts.{same-is}
use Rattle.analysis.specs.Sound.{name_of}
use Rattle.std.specs.List.{list_any}
use Rattle.seq_tree.proofs.Shared.Walks.{same_op-eq, same_op-refl}

-- the calls of the passive operation that a call leads to, where it leads to one
abbrev pub passive_by : CallTarget → Option (List OpName)
passive_by (Plain o) = Some (block_calls o.block)
passive_by (Protected object j g o) = None
passive_by (Request task) = None
passive_by Unknown = None

abbrev pub passive_calls : System → OpName → Option (List OpName)
passive_calls y c = passive_by (callee y c.object c.op)

module _ (p : Program) (a : Arrivals) where
  abbrev y : System
  y = system p a

  -- the passive operation that a call leads to is one of that name, and its calls are calls by the texts
  pub plain-named : (c : OpName) (o : Operation) → LeadsToPlain y c.object c.op o → IsIn o (passive_named p c)
  plain-named c o l =
      let found = library-at p a l.place l.library l.stands in
      let is = found.2 in
      let named : same_name found.1.name c.object ≡ true = ap (λ n. same_name n c.object) is.name ∙ l.named in
      filter-in (λ (q : Operation). same_name q.sig.name c.op) o (flat_map (λ u. passive_ops u.form)
      (filter (λ u. same_name u.name c.object) p.units))
      (in-flat (λ (u : Unit). passive_ops u.form) found.1 o (filter (λ u. same_name u.name c.object) p.units)
      (filter-in (λ (u : Unit). same_name u.name c.object) found.1 p.units (at-in p.units found.0 found.1 is.stands) named)
      (subst (λ f. IsIn o (passive_ops f)) (sym is.form) (at-in l.library.ops l.at o l.holds))) l.called

  pub step-calls : (c d : OpName) (o : Operation) → LeadsToPlain y c.object c.op o → IsIn d (block_calls o.block) → Calls p c d
  step-calls c d o l h =
      any-in (same_op d) d (flat_map (λ (q : Operation). block_calls q.block) (passive_named p c))
      (in-flat (λ (q : Operation). block_calls q.block) o d (passive_named p c) (plain-named c o l) h) (same_op-refl d)

  plain-at : (c : OpName) (cs : List OpName) → passive_calls y c ≡ Some cs → (o : Operation) × LeadsToPlain y c.object c.op o
      × (block_calls o.block ≡ cs)
  plain-at c cs e = by (callee y c.object c.op) e (leads-to y c.object c.op)
    where
      by : (k : CallTarget) → passive_by k ≡ Some cs → LeadsTo y c.object c.op k → (o : Operation) × LeadsToPlain y c.object c.op o
          × (block_calls o.block ≡ cs)
      by (Plain o) h l = (o, l, same_Some (block_calls o.block) cs h)
      by (Protected object j g o) h l = absurd (none-some cs h)
      by (Request task) h l = absurd (none-some cs h)
      by Unknown h l = absurd (none-some cs h)

  step : (c d : OpName) (cs : List OpName) → passive_calls y c ≡ Some cs → IsIn d cs → Calls p c d
  step c d cs e among = let l = plain-at c cs e in step-calls c d l.0 l.1 (subst (IsIn d) (sym l.2) among)

  -- a way among passive operations is one by the texts
  one-step : (c d : OpName) → Step (passive_calls y) c d → Calls p c d
  one-step c d s = step c d s.0 s.1 s.2

  way-leads : (c : OpName) (path : List OpName) (to : OpName) → RingLeads (Step (passive_calls y)) c path to → RingLeads (Calls p) c path to
  way-leads c [] to way = one-step c to way
  way-leads c (via ∷ path) to way = (one-step c via way.0, way-leads via path to way.1)

  way-first : (c : OpName) (path : List OpName) (to : OpName) → RingLeads (Step (passive_calls y)) c path to
      → (cs : List OpName) × (passive_calls y c ≡ Some cs)
  way-first c [] to way = (way.0, way.1)
  way-first c (via ∷ path) to way = (way.0.0, way.0.1)

  no-passive-ring : MeetsRules p → (c : OpName) → IsOnRing (Step (passive_calls y)) c → ⊥
  no-passive-ring meets c ring =
      let path = ring.0 in
      let way = ring.1 in
      let first = way-first c path c way in
      let l = plain-at c first.0 first.1 in
      let found = library-at p a l.1.place l.1.library l.1.stands in
      let name : record { object = found.1.name; op = c.op } ≡ c = ap (λ n. let z : OpName = record { object = n; op = c.op }
      in z) ((found.2).name ∙ same-is l.1.library.name c.object l.1.named) in
      meets Rings (At found.0) (
        found.1,
        (found.2).stands,
        inl (
          c.op,
          (
            path,
            subst (λ z. RingLeads
                (Calls p) z path z) (sym name) (way-leads c path c way),
          ),
        ),
      )

  -- a passive operation that a call leads to is one of the program
  there : MeetsRules p → (c : OpName) (cs : List OpName) → passive_calls y c ≡ Some cs
      → list_any (same_op c) (map name_of (program_services p)) ≡ true
  there meets c cs e = by (callee y c.object c.op) e (served-as p a (units_apart p meets) c.object c.op)
    where
      by : (k : CallTarget) → passive_by k ≡ Some cs → ServedAs p y c.object c.op k → list_any (same_op c) (map name_of (program_services p)) ≡ true
      by (Plain o) h s =
          let found = named-is (program_services p) c s.service s.found in
          any-in (same_op c) (name_of s.service) (map name_of (program_services p)) (in-map name_of s.service (program_services p) found.0)
          (ap (same_op c) found.1 ∙ same_op-refl c)
      by (Protected object j g o) h s = absurd (none-some cs h)
      by (Request task) h s = absurd (none-some cs h)
      by Unknown h s = absurd (none-some cs h)

  -- no call among passive operations is deeper than there are operations
  pub passive-deep : MeetsRules p → (c : OpName) → IsDeep (passive_calls y) (length (map name_of (program_services p))) c
  passive-deep meets c = deep-all (passive_calls y) same_op same_op-eq same_op-refl (map name_of (program_services p)) (there meets)
      (no-passive-ring meets) c
