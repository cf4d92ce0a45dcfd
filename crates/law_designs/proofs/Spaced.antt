-- Each thread of the flat design that requests a sporadic one has a period of at least its separation.
use Rattle.std.proofs.Common.{◌≡◌, ℕ, true, false, filter, nat_lt, nat_le, Some, refl, sym, ap, ◌∙◌, arith}
use Rattle.std.specs.List.{list_all}
use Rattle.ods_tree.specs.Attributes.{attribute_or}
use Rattle.ods_tree.specs.declared.design.AttrKey.TheVariants.{Separation}
use Rattle.ods_tree.specs.Designs.{Object, Design}
use Rattle.ods_tree.specs.Walk.{Standing, terminals}
use Rattle.ods_tree.specs.Flats.{Timing, Thread, period_of}
use Rattle.ods_tree.specs.Flattening.{timing_by, threads, flat}
use Rattle.ods_tree.specs.Services.{flat_services}
use Rattle.analysis.specs.Starts.{starters, can_request}
use Rattle.analysis.specs.Sound.{is_spaced}
use Rattle.design_rules.specs.Lookups.{has_thread, is_sporadic}
use Rattle.design_rules.specs.Rings.{thread_objects, can_start}
use Rattle.design_rules.specs.Separations.{spacing_by, spacing}
use Rattle.design_rules.specs.Rules.{AreMet}
use Rattle.law_designs.proofs.Shared.Lists.{all-from}
use Rattle.law_designs.proofs.Shared.Flattened.{ThreadFrom, thread-from, TimingOf, OfCyclic, OfSporadic, timing-of, timed-kind, terminal-object}
use Rattle.law_designs.proofs.Shared.ObjectRules.{separations-right}
use Rattle.law_designs.proofs.Shared.Blocks.{thread-needed}
use Rattle.law_designs.proofs.Shared.Starting.{can-same}
use Rattle.law_designs.proofs.Shared.Started.{service-count}
use Rattle.law_lists.proofs.Shared.Lists.{in-map, filter-in, in-filter, IsIn}

-- the period of a thread is the spacing of its object
period-spacing : (o : Object) (t : Timing) → timing_by o.kind o ≡ Some t → period_of t ≡ spacing o
period-spacing o t e = by (timing-of o t e)
  where
    by : TimingOf o t → period_of t ≡ spacing o
    by (OfCyclic g s) = ap period_of s ∙ ap (λ k. spacing_by k o) (sym g)
    by (OfSporadic sig g r s) = ap period_of s ∙ ap (λ k. spacing_by k o) (sym g)

not-below : (limit n : ℕ) → nat_lt n limit ≡ false → nat_le limit n ≡ true
not-below limit n h = grind arith

module _ (written x : Design) (met : AreMet written x) where
  thread-object : (t : Thread) → (r : ThreadFrom x t) → IsIn r.standing.own (thread_objects x)
  thread-object t r =
      in-map (λ (s : Standing). s.own) r.standing (filter (λ s. has_thread s.own.kind) (terminals x))
      (filter-in (λ s. has_thread s.own.kind) r.standing (terminals x) r.stands
      (timed-kind has_thread true r.standing.own r.timing refl refl r.timed))

  -- a starter of a sporadic object has a period of at least its separation
  starter-spaced : (to : Object) → IsIn to (thread_objects x) → is_sporadic to.kind ≡ true → (u : Thread) → ThreadFrom x u
      → can_request (flat_services (flat x)) to.name u.block ≡ true
      → nat_le (attribute_or 0 Separation to) (period_of u.timing) ≡ true
  starter-spaced to stands sort u r asks =
      let o = (terminal-object x r.standing r.stands).0 in
      let same = can-same written x met r.standing r.block to (service-count written x met) o r.runs
      (thread-needed written x met r.standing r.block o r.runs) sort in
      let starts : can_start x r.standing.own to ≡ true
      = sym same ∙ ap (λ (v : Thread). can_request (flat_services (flat x)) to.name v.block) (sym r.made) ∙ asks in
      let few = separations-right written x met r.standing.own to (thread-object u r) stands starts in
      let period : period_of u.timing ≡ spacing r.standing.own =
      ap (λ (v : Thread). period_of v.timing) r.made ∙ period-spacing r.standing.own r.timing r.timed in
      ap (nat_le (attribute_or 0 Separation to)) period ∙ not-below (attribute_or 0 Separation to) (spacing r.standing.own) few

  thread-spaced : (t : Thread) → ThreadFrom x t → is_spaced (flat x) t.name t.timing ≡ true
  thread-spaced t r = ap (λ (u : Thread). is_spaced (flat x) u.name u.timing) r.made ∙ by (timing-of own r.timing r.timed)
    where
      own : Object
      own = r.standing.own

      by : TimingOf own r.timing → is_spaced (flat x) own.name r.timing ≡ true
      by (OfCyclic e s) = ap (is_spaced (flat x) own.name) s
      by (OfSporadic sig e q s) =
          ap (is_spaced (flat x) own.name) s
          ∙ all-from (λ u. nat_le (attribute_or 0 Separation own) (period_of u.timing))
          (starters (flat_services (flat x)) own.name (threads x)) (λ u h.
          let i = in-filter (λ (v : Thread). can_request (flat_services (flat x)) own.name v.block) u (threads x) h in
          starter-spaced own (thread-object t r) (ap is_sporadic e) u (thread-from x u i.0) i.1)

  pub all-spaced : list_all (λ t. is_spaced (flat x) t.name t.timing) (threads x) ≡ true
  all-spaced = all-from (λ t. is_spaced (flat x) t.name t.timing) (threads x) (λ t h. thread-spaced t (thread-from x t h))
