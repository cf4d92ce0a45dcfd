-- The sections that a call leads to by calls that are made at all, one inside another, are among its sections.
use Rattle.std.specs.Prelude.{◌≡◌, ◌⊎◌, ℕ, zero, suc, true, List, [], ◌∷◌, map, length, Option, Some, None, ⊤, refl}
use Rattle.std.proofs.Common.{sym, ◌∙◌, ap, subst, inl, inr}
use Rattle.seq_tree.specs.Operations.{Operation}
use Rattle.seq_tree.specs.Calls.{same_op}
use Rattle.seq_tree.specs.Rings.{LeadsTo}
use Rattle.seq_tree.specs.declared.tree.Costs.{Costs}
use Rattle.seq_tree.specs.declared.tree.OpName.{OpName}
use Rattle.seq_tree.proofs.Shared.Walks.{Step, LeadOn, within, within-leads, same_op-eq, same_op-refl}
use Rattle.seq_tree.proofs.Shared.Walks as walks
use Rattle.ods_tree.specs.Services.{Service, Sort, service_named}
use Rattle.ods_tree.specs.Services as sort
use Rattle.analysis.specs.Sections.{Section, live_calls, section, sections_by, service_sections, sections_within}
use Rattle.analysis.specs.Sound.{name_of}
use Rattle.law_calls.specs.CallLaws.{HaveNoRing}
use Rattle.law_lists.proofs.Shared.Lists.{IsIn, in-map, in-flat, any-in}
use Rattle.law_lists.proofs.Shared.Reaching.{among-is, is-among, within-closed}
use Rattle.law_calls.proofs.Shared.Services.{named-is}
use Rattle.law_calls.proofs.Shared.Bodies.{sections-cover}

-- the calls of a protected body that are made at all
abbrev pub live_by : Sort → Operation → List OpName
live_by sort.Plain o = []
live_by sort.Protected o = live_calls o.block
live_by sort.Request o = []

abbrev pub live_in : Option Service → List OpName
live_in None = []
live_in (Some s) = live_by s.sort s.op

abbrev pub live_of : List Service → OpName → List OpName
live_of ss c = live_in (service_named ss c.object c.op)

-- an operation whose calls enter a section
abbrev pub EntersBy : Sort → Type 0
EntersBy sort.Plain = ⊥
EntersBy sort.Protected = ⊤
EntersBy sort.Request = ⊤

abbrev pub Enters : Option Service → Type 0
Enters None = ⊥
Enters (Some s) = EntersBy s.sort

module _ (ss : List Service) where
  lead : LeadOn (live_of ss) (map name_of ss)
  lead a b step = by (service_named ss a.object a.op) refl (among-is (live_of ss a) b step)
    where
      by : (o : Option Service) → service_named ss a.object a.op ≡ o → IsIn b (live_in o) → walks.IsIn (map name_of ss) a
      by None is h = absurd h
      by (Some s) is h = let named = named-is ss a s is
          in any-in (same_op a) (name_of s) (map name_of ss) (in-map name_of s ss named.0) (ap (same_op a) named.1 ∙ same_op-refl a)

  -- what a call leads to inside sections
  abbrev pub live_within : OpName → List OpName
  live_within = within (length (map name_of ss)) (live_of ss)

  pub live-itself : (c : OpName) → IsIn c (live_within c)
  live-itself c = by (length (map name_of ss))
    where
      by : (n : ℕ) → IsIn c (within n (live_of ss) c)
      by zero = inl refl
      by (suc n) = inl refl

  pub live-closed : (a b c : OpName) → IsIn b (live_within a) → IsIn c (live_of ss b) → IsIn c (live_within a)
  live-closed a b c h called = within-closed (live_of ss) (map name_of ss) lead a b c h called

  module _ (no_ring : HaveNoRing ss) (costs : Costs) where
    abbrev sections_of : OpName → List Section
    sections_of c = sections_within (length ss) costs ss c

    own-section : (c : OpName) → Enters (service_named ss c.object c.op) → IsIn (section costs ss c) (sections_of c)
    own-section c enters = subst (IsIn (section costs ss c)) (sym (sections-cover ss no_ring costs c)) (by (service_named ss c.object c.op) enters)
      where
        sorted : (s : Service) (x : Sort) → EntersBy x → IsIn (section costs ss c) (sections_by (section costs ss c) sections_of x s.op)
        sorted s sort.Plain h = absurd h
        sorted s sort.Protected h = inl refl
        sorted s sort.Request h = inl refl

        by : (o : Option Service) → Enters o → IsIn (section costs ss c) (service_sections (section costs ss c) sections_of o)
        by None h = absurd h
        by (Some s) h = sorted s s.sort h

    inner-section : (c d : OpName) (s : Section) → IsIn d (live_of ss c) → IsIn s (sections_of d) → IsIn s (sections_of c)
    inner-section c d s called among = subst (IsIn s) (sym (sections-cover ss no_ring costs c)) (by (service_named ss c.object c.op) called)
      where
        sorted : (z : Service) (x : Sort) → IsIn d (live_by x z.op) → IsIn s (sections_by (section costs ss c) sections_of x z.op)
        sorted z sort.Plain h = absurd h
        sorted z sort.Protected h = inr (in-flat sections_of d s (live_calls z.op.block) h among)
        sorted z sort.Request h = absurd h

        by : (o : Option Service) → IsIn d (live_in o) → IsIn s (service_sections (section costs ss c) sections_of o)
        by None h = absurd h
        by (Some z) h = sorted z z.sort h

    section-along : (path : List OpName) (c d : OpName) → LeadsTo (Step (live_of ss)) c path d → Enters (service_named ss d.object d.op)
        → IsIn (section costs ss d) (sections_of c)
    section-along [] c d way enters = inner-section c d (section costs ss d) (among-is (live_of ss c) d way) (own-section d enters)
    section-along (via ∷ path) c d way enters = inner-section c via (section costs ss d) (among-is (live_of ss c) via way.0)
        (section-along path via d way.1 enters)

    pub section-in : (c d : OpName) → IsIn d (live_within c) → Enters (service_named ss d.object d.op) → IsIn (section costs ss d) (sections_of c)
    section-in c d h enters = by (within-leads (length (map name_of ss)) (live_of ss) c d (is-among (live_within c) d h))
      where
        by : (same_op d c ≡ true) ⊎ ((path : List OpName) × LeadsTo (Step (live_of ss)) c path d) → IsIn (section costs ss d) (sections_of c)
        by (inl same) = subst (λ z. IsIn (section costs ss d) (sections_of z)) (same_op-eq d c same) (own-section d enters)
        by (inr way) = section-along way.0 c d way.1 enters
