-- Blocking and ceilings where a function gives each thread its level, by its place.
use Rattle.std.specs.Prelude.{◌≡◌, ◌⊎◌, ℕ, zero, suc, ◌+◌, ◌≤◌, ◌<◌, max, fold, nat_lt, nat_le, Bool, true, false, List, [], ◌∷◌, map, filter, zip}
use Rattle.std.specs.Prelude.{length, slice_get, Some, if◌then◌else◌, refl}
use Rattle.std.proofs.Common.{sym, ◌∙◌, ap, subst, arith, inl, inr, le_trans}
use Rattle.std.proofs.lemmas.Bool.{cases_lt, ltb-true, lt-ltb, leb-true}
use Rattle.seq_tree.specs.Names.{Name}
use Rattle.ods_tree.specs.Flats.{Guarded, Thread, Flat}
use Rattle.ods_tree.specs.Services.{flat_services}
use Rattle.analysis.specs.Ceilings.{uses_object, greatest_user, calls_from_inside, ceiling_within, ceiling}
use Rattle.analysis.specs.Sections.{Section, sections}
use Rattle.analysis.specs.Blocking.{lower_sections, blocking}
use Rattle.law_lists.proofs.Shared.Lists.{IsIn, in-map, in-flat, in-filter, filter-in, in-some}
use Rattle.law_designs.proofs.Shared.Lists.{from-map}
use Rattle.law_lists.proofs.Shared.Greatest.{at-least, at-most, fold-most}
use Rattle.law_orders.specs.Orders.{places_of}
use Rattle.law_orders.proofs.LevelPlaces.{zip-in, in-zip}

-- what the greatest reaches, one of them reaches
fold-some : (level b : ℕ) (ns : List ℕ) → level ≤ fold max b ns → (level ≤ b) ⊎ ((n : ℕ) × IsIn n ns × (level ≤ n))
fold-some level b [] h = inl h
fold-some level b (n ∷ ns) h = by (fold-some level (max b n) ns h)
  where
    own : (b < level) ⊎ (level ≤ b) → level ≤ max b n → (level ≤ b) ⊎ ((m : ℕ) × IsIn m (n ∷ ns) × (level ≤ m))
    own (inl less) k = inr (n, inl refl, omega (arith, less, k))
    own (inr more) k = inl more

    by : (level ≤ max b n) ⊎ ((m : ℕ) × IsIn m ns × (level ≤ m)) → (level ≤ b) ⊎ ((m : ℕ) × IsIn m (n ∷ ns) × (level ≤ m))
    by (inl k) = own (cases_lt b level) k
    by (inr r) = inr (r.0, inr r.1, r.2)

module _ (f : Flat) where
  -- the levels that a function gives places
  abbrev pub levels : (ℕ → ℕ) → List ℕ
  levels g = map g (places_of f)

  thread-in : (g : ℕ → ℕ) (u : Thread × ℕ) → IsIn u (zip f.threads (levels g)) → (k : ℕ) × (slice_get f.threads k ≡ Some u.0) × (u.1 ≡ g k)
  thread-in g u h = let r = zip-in g 0 f.threads u h in (r.0, r.1, r.2 ∙ (let z : 0 + r.0 ≡ r.0 = omega arith in ap g z))

  in-threads : (g : ℕ → ℕ) (k : ℕ) (t : Thread) → slice_get f.threads k ≡ Some t → IsIn (t, g k) (zip f.threads (levels g))
  in-threads g k t e =
      let z : 0 + k ≡ k = omega arith in subst (λ n. IsIn (t, g n) (zip f.threads (levels g))) z (in-zip g 0 f.threads k t e)

  -- where levels that reach one reach the other, so do ceilings
  module _ (g h : ℕ → ℕ) (level other : ℕ) (some : 2 ≤ level)
      (mono : (k : ℕ) (t : Thread) → slice_get f.threads k ≡ Some t → level ≤ g k → other ≤ h k) where
    user-mono : (name : Name) → level ≤ greatest_user f.threads (levels g) name → other ≤ greatest_user f.threads (levels h) name
    user-mono name reach = by (fold-some level 1 (map (λ (u : Thread × ℕ). u.1) (filter (λ (u : Thread × ℕ). uses_object name u.0) (zip f.threads (levels g)))) reach)
      where
        by : (level ≤ 1) ⊎ ((n : ℕ) × IsIn n (map (λ (u : Thread × ℕ). u.1) (filter (λ (u : Thread × ℕ). uses_object name u.0) (zip f.threads (levels g)))) × (level ≤ n))
            → other ≤ greatest_user f.threads (levels h) name
        by (inl low) = absurd (omega (arith, low, some))
        by (inr r) =
            let u = from-map (λ (u : Thread × ℕ). u.1) (filter (λ (u : Thread × ℕ). uses_object name u.0) (zip f.threads (levels g))) r.0 r.1 in
            let i = in-filter (λ (u : Thread × ℕ). uses_object name u.0) u.0 (zip f.threads (levels g)) u.1 in
            let k = thread-in g u.0 i.0 in
            let up : other ≤ h k.0 = mono k.0 u.0.0 k.1 (let a = u.2 in let b = k.2 in let c = r.2 in omega arith) in
            let among : h k.0 ≤ greatest_user f.threads (levels h) name =
            at-most 1 (map (λ (u : Thread × ℕ). u.1) (filter (λ (u : Thread × ℕ). uses_object name u.0) (zip f.threads (levels h)))) (h k.0)
            (in-map (λ (u : Thread × ℕ). u.1) (u.0.0, h k.0) (filter (λ (u : Thread × ℕ). uses_object name u.0) (zip f.threads (levels h)))
            (filter-in (λ (u : Thread × ℕ). uses_object name u.0) (u.0.0, h k.0) (zip f.threads (levels h)) (in-threads h k.0 u.0.0 k.1) i.1)) in
            le_trans up among

    within-mono : (d : ℕ) (name : Name) → level ≤ ceiling_within d f (levels g) name → other ≤ ceiling_within d f (levels h) name
    within-mono zero name reach = user-mono name reach
    within-mono (suc d) name reach =
        by (within-mono d) (fold-some level (greatest_user f.threads (levels g) name) (map (λ q. ceiling_within d f (levels g) q.name) (filter (calls_from_inside name) f.shared)) reach)
      where
        above : List ℕ
        above = map (λ q. ceiling_within d f (levels h) q.name) (filter (calls_from_inside name) f.shared)

        by : ((n : Name) → level ≤ ceiling_within d f (levels g) n → other ≤ ceiling_within d f (levels h) n)
            → (level ≤ greatest_user f.threads (levels g) name)
            ⊎ ((n : ℕ) × IsIn n (map (λ q. ceiling_within d f (levels g) q.name) (filter (calls_from_inside name) f.shared)) × (level ≤ n))
            → other ≤ ceiling_within (suc d) f (levels h) name
        by more (inl low) = le_trans (user-mono name low) (at-least (greatest_user f.threads (levels h) name)
            (map (λ q. ceiling_within d f (levels h) q.name) (filter (calls_from_inside name) f.shared)))
        by more (inr r) =
            let q = from-map (λ (q : Guarded). ceiling_within d f (levels g) q.name) (filter (calls_from_inside name) f.shared) r.0 r.1 in
            let up : other ≤ ceiling_within d f (levels h) q.0.name = more q.0.name (let a = q.2 in let c = r.2 in omega arith) in
            le_trans up (at-most (greatest_user f.threads (levels h) name)
            (map (λ q. ceiling_within d f (levels h) q.name) (filter (calls_from_inside name) f.shared)) (ceiling_within d f (levels h) q.0.name)
            (in-map (λ (q : Guarded). ceiling_within d f (levels h) q.name) q.0 (filter (calls_from_inside name) f.shared) q.1))

    pub ceiling-mono : (name : Name) → level ≤ ceiling f (levels g) name → other ≤ ceiling f (levels h) name
    ceiling-mono name reach = within-mono (length f.shared) name reach

  -- what no section counts more than, the blocking doesn't count more than
  pub blocking-most : (g : ℕ → ℕ) (level most : ℕ)
      → ((k : ℕ) (t : Thread) (z : Section) → slice_get f.threads k ≡ Some t → g k < level → IsIn z (sections f.costs (flat_services f) t.block)
      → level ≤ ceiling f (levels g) z.object → z.cost ≤ most)
      → blocking f (levels g) level ≤ most
  blocking-most g level most each =
      fold-most 0 most (map (λ (z : Section). z.cost) (filter (λ (z : Section). nat_le level (ceiling f (levels g) z.object)) (lower_sections f (levels g) level)))
      (omega arith) (λ n h.
      let z = from-map (λ (z : Section). z.cost) (filter (λ (z : Section). nat_le level (ceiling f (levels g) z.object)) (lower_sections f (levels g) level)) n h in
      let i = in-filter (λ (z : Section). nat_le level (ceiling f (levels g) z.object)) z.0 (lower_sections f (levels g) level) z.1 in
      let u = in-some (λ (u : Thread × ℕ). if nat_lt u.1 level then sections f.costs (flat_services f) u.0.block else []) (zip f.threads (levels g)) z.0 i.0 in
      let k = thread-in g u.0 u.1 in
      let s = split (nat_lt u.0.1 level) refl (sections f.costs (flat_services f) u.0.0.block) z.0 u.2 in
      let low : g k.0 < level = (let a = ltb-true u.0.1 level s.0 in let b = k.2 in omega arith) in
      let small = each k.0 u.0.0 z.0 k.1 low s.1 (leb-true level (ceiling f (levels g) z.0.object) i.1) in
      let same = z.2 in omega (arith, small, same))
    where
      split : {A : Type 0} {c : Bool} (b : Bool) → c ≡ b → (zs : List A) (z : A) → IsIn z (if c then zs else []) → (c ≡ true) × IsIn z zs
      split true e zs z h = (e, subst (λ x. IsIn z (if x then zs else [])) e h)
      split false e zs z h = absurd (subst (λ x. IsIn z (if x then zs else [])) e h)

  -- each section of a thread below, on what has a ceiling that reaches the level, counts
  pub blocking-counts : (g : ℕ → ℕ) (level k : ℕ) (t : Thread) (z : Section) → slice_get f.threads k ≡ Some t → g k < level
      → IsIn z (sections f.costs (flat_services f) t.block) → level ≤ ceiling f (levels g) z.object → z.cost ≤ blocking f (levels g) level
  blocking-counts g level k t z at low is reach =
      at-most 0 (map (λ (z : Section). z.cost) (filter (λ (z : Section). nat_le level (ceiling f (levels g) z.object)) (lower_sections f (levels g) level))) z.cost
      (in-map (λ (z : Section). z.cost) z (filter (λ (z : Section). nat_le level (ceiling f (levels g) z.object)) (lower_sections f (levels g) level))
      (filter-in (λ (z : Section). nat_le level (ceiling f (levels g) z.object)) z (lower_sections f (levels g) level)
      (in-flat (λ (u : Thread × ℕ). if nat_lt u.1 level then sections f.costs (flat_services f) u.0.block else []) (t, g k) z (zip f.threads (levels g))
      (in-threads g k t at)
      (subst (λ b. IsIn z (if b then sections f.costs (flat_services f) t.block else [])) (sym (lt-ltb (g k) level low)) is))
      (le-leb level (ceiling f (levels g) z.object) reach)))
    where
      le-leb : (a b : ℕ) → a ≤ b → nat_le a b ≡ true
      le-leb a b h = go (nat_le a b) refl
        where
          go : (x : Bool) → nat_le a b ≡ x → nat_le a b ≡ true
          go true e = e
          go false e = absurd (clash e)
            where
              clash : nat_le a b ≡ false → ⊥
              clash e = grind (arith, h)
