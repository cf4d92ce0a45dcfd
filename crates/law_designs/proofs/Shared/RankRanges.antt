-- The priorities and ceilings of a design by any ranking, as they are written, are 1 to 60, and no thread is above its control structure's ceiling.
use Rattle.std.proofs.Common.{◌≡◌, ℕ, zero, suc, ◌+◌, ◌-◌, ◌≤◌, Bool, true, false, not, ◌&&◌, ◌||◌, List, [], ◌∷◌, map, filter, zip, length, max}
use Rattle.std.proofs.Common.{min, nat_lt, nat_le, Option, Some, None, option_to_list, option_and_then, refl, sym, ap, subst, ◌∙◌, arith}
use Rattle.std.proofs.Common.{le_trans, inl, inr}
use Rattle.analysis.specs.Starts.{calls_object}
use Rattle.std.proofs.lemmas.Bool.{and_parts}
use Rattle.seq_tree.specs.Names.{Name}
use Rattle.ods_tree.specs.Designs.{Design}
use Rattle.ods_tree.specs.Walk.{only_if}
use Rattle.ods_tree.specs.Ticks.{stated_priorities, least_of, first_priority}
use Rattle.ods_tree.specs.Flats.{Guarded, Thread, Flat}
use Rattle.ods_tree.specs.Flattening.{threads, flat}
use Rattle.ods_tree.specs.declared.design.VersionTwo.{VersionTwo}
use Rattle.ada_tree.specs.Ranges.{is_outside}
use Rattle.analysis.specs.Priorities.{priorities_of}
use Rattle.analysis.specs.Ceilings.{uses_object, greatest_user, calls_from_inside, ceiling_within, ceiling, control_ceiling}
use Rattle.analysis.proofs.Shared.CeilingLaws.{ceiling-user}
use Rattle.guarantee.specs.Programs.{stated_ranks}
use Rattle.design_rules.specs.Broken.{V17Priorities}
use Rattle.design_rules.specs.Versions.{bad_tick, is_range, bad_priorities, bad_version, version_faults}
use Rattle.design_rules.specs.Budgets.{thread_limit}
use Rattle.design_rules.specs.Rings.{thread_objects}
use Rattle.design_rules.specs.Rules.{AreMet, Version}
use Rattle.law_designs.proofs.Shared.Lists.{from-map}
use Rattle.law_designs.proofs.Shared.ObjectRules.{none_listed, nothing_first, thread-count}
use Rattle.law_designs.proofs.Shared.Units.{from-zip}
use Rattle.law_designs.proofs.WellFormed.{threads-at-most}
use Rattle.law_designs.proofs.Shared.ProgramRanges.{AreRanked}
use Rattle.law_designs.specs.Rankings.{IsRanking, stated_by}
use Rattle.law_designs.proofs.Shared.PriorityPlaces.{deadline-ranking}
use Rattle.law_lists.proofs.Shared.Facts.{same-self}
use Rattle.law_lists.proofs.Shared.Greatest.{at-least, at-most, fold-most}
use Rattle.law_lists.proofs.Shared.Lists.{in-map, filter-in, in-filter, IsIn, place-of}

ranked-range : (f : Flat) (ps : List ℕ) → IsRanking f ps → (p : ℕ) → IsIn p ps → (1 ≤ p) × (p ≤ length f.threads)
ranked-range f ps ranking p h = let k = place-of p ps h in ranking.range k.0 p k.1

pub priority-range : (f : Flat) (p : ℕ) → IsIn p (priorities_of f) → (1 ≤ p) × (p ≤ length f.threads)
priority-range f = ranked-range f (priorities_of f) (deadline-ranking f)

module _ (f : Flat) (ps : List ℕ) (ranking : IsRanking f ps) where
  abbrev most : ℕ
  most = max 1 (length f.threads)

  user-range : (name : Name) → (1 ≤ greatest_user f.threads ps name) × (greatest_user f.threads ps name ≤ most)
  user-range name = (
    at-least 1 (map (λ (u : Thread × ℕ). u.1) (filter (λ (u : Thread × ℕ). uses_object name u.0) (zip f.threads ps))),
    fold-most 1 most (map (λ (u : Thread × ℕ). u.1) (filter (λ (u : Thread × ℕ). uses_object name u.0) (zip f.threads ps))) (omega arith) (λ n h.
        let r = from-map (λ (u : Thread × ℕ). u.1) (filter (λ (u : Thread × ℕ). uses_object name u.0) (zip f.threads ps)) n h in
        let q = ranked-range f ps ranking r.0.1
        (from-zip f.threads ps r.0 (in-filter (λ (u : Thread × ℕ). uses_object name u.0) r.0 (zip f.threads ps) r.1).0).1 in
        let e = r.2 in
        omega (arith, q.1, e)),
  )

  within-range : (d : ℕ) (name : Name) → ceiling_within d f ps name ≤ most
  within-range zero name = (user-range name).1
  within-range (suc d) name =
      fold-most (greatest_user f.threads ps name) most (map (λ g. ceiling_within d f ps g.name) (filter (calls_from_inside name) f.shared))
      (user-range name).1 (λ n h.
      let r = from-map (λ (g : Guarded). ceiling_within d f ps g.name) (filter (calls_from_inside name) f.shared) n h in
      let q = within-range d r.0.name in
      let e = r.2 in omega (arith, q, e))

  pub ranked-ceiling-range : (name : Name) → (1 ≤ ceiling f ps name) × (ceiling f ps name ≤ most)
  ranked-ceiling-range name = (le_trans (user-range name).0 (ceiling-user f ps name), within-range (length f.shared) name)

  own-priority : (t : Thread) (q : ℕ) → IsIn (t, q) (zip f.threads ps) → q ≤ ceiling f ps t.name
  own-priority t q h =
      let mine : uses_object t.name t ≡ true = ap (λ b. b || calls_object t.name t.block) (same-self t.name) in
      let a = at-most 1 (map (λ (u : Thread × ℕ). u.1) (filter (λ (u : Thread × ℕ). uses_object t.name u.0) (zip f.threads ps))) q
      (in-map (λ (u : Thread × ℕ). u.1) (t, q) (filter (λ (u : Thread × ℕ). uses_object t.name u.0) (zip f.threads ps))
      (filter-in (λ (u : Thread × ℕ). uses_object t.name u.0) (t, q) (zip f.threads ps) h mine)) in
      le_trans a (ceiling-user f ps t.name)

pub ceiling-range : (f : Flat) (name : Name) → (1 ≤ ceiling f (priorities_of f) name) × (ceiling f (priorities_of f) name ≤ max 1 (length f.threads))
ceiling-range f = ranked-ceiling-range f (priorities_of f) (deadline-ranking f)

-- pairs with what is computed of the first
zip-computed : {A : Type 0} (k : A → ℕ) (up : ℕ → ℕ) (xs : List A) (a : A) (n : ℕ) → IsIn (a, n) (zip xs (map up (map k xs))) → n ≡ up (k a)
zip-computed k up [] a n h = absurd h
zip-computed k up (x ∷ xs) a n (inl e) = ap (λ p. p.1) (sym e) ∙ ap (λ p. up (k p.0)) e
zip-computed k up (x ∷ xs) a n (inr h) = zip-computed k up xs a n h

zip-both : {A : Type 0} (k : A → ℕ) (up : ℕ → ℕ) (xs : List A) (qs : List ℕ) (a : A) (n : ℕ × ℕ)
    → IsIn (a, n) (zip xs (zip (map up qs) (map up (map k xs))))
    → (q : ℕ) × IsIn (a, q) (zip xs qs) × (n.0 ≡ up q) × (n.1 ≡ up (k a))
zip-both k up [] qs a n h = absurd h
zip-both k up (x ∷ xs) [] a n h = absurd h
zip-both k up (x ∷ xs) (q ∷ qs) a n (inl e) =
    (q, inl (ap (λ p. (p.0, q)) e), ap (λ p. p.1.0) (sym e), ap (λ p. p.1.1) (sym e) ∙ ap (λ p. up (k p.0)) e)
zip-both k up (x ∷ xs) (q ∷ qs) a n (inr h) = (let r = zip-both k up xs qs a n h in (r.0, inr r.1, r.2, r.3))

-- room for the priorities as they are written
limited : (r : Option (ℕ × ℕ)) (n : ℕ) → bad_priorities r ≡ [] → nat_lt (thread_limit r) n ≡ false → max 1 n + (least_of r - 1) ≤ 60
limited None n h k = (let q : n ≤ 30 = grind arith in omega (arith, q))
limited (Some range) n h k = by (is_range range) refl h
  where
    numbers : (a b : ℕ) → (nat_le 1 a && nat_le a b && nat_le b 60) ≡ true → nat_lt (min 30 (suc b - a)) n ≡ false → max 1 n + (a - 1) ≤ 60
    numbers a b e q =
        let two = and_parts (nat_le 1 a && nat_le a b) (nat_le b 60) e in
        let one = and_parts (nat_le 1 a) (nat_le a b) two.0 in
        let low : 1 ≤ a = (let z = one.0 in grind arith) in
        let mid : a ≤ b = (let z = one.1 in grind arith) in
        let high : b ≤ 60 = (let z = two.1 in grind arith) in
        let few : n ≤ min 30 (suc b - a) = (let z = q in grind arith) in
        omega (arith, low, mid, high, few)

    by : (t : Bool) → is_range range ≡ t → option_to_list (only_if (not (is_range range)) V17Priorities) ≡ [] → max 1 n + (range.0 - 1) ≤ 60
    by true e q = numbers range.0 range.1 e k
    by false e q = (let z : V17Priorities ∷ [] ≡ [] = sym (ap (λ b. option_to_list (only_if (not b) V17Priorities)) e) ∙ q in cc)

written-range : (n up : ℕ) → 1 ≤ n → n + up ≤ 60 → is_outside 1 60 (n + up) ≡ false
written-range n up h k = grind arith

not-below : (c q up : ℕ) → q ≤ c → nat_lt (c + up) (q + up) ≡ false
not-below c q up h = grind arith

module _ (written x : Design) (met : AreMet written x) (same : written.version ≡ x.version) where
  pub priorities-stated : bad_priorities (stated_priorities x) ≡ []
  priorities-stated = by written.version refl (none_listed (version_faults written) (met Version))
    where
      by : (v : Option VersionTwo) → written.version ≡ v → bad_version written.version written ≡ [] → bad_priorities (stated_priorities x) ≡ []
      by None e h = ap (λ v. bad_priorities (option_and_then (λ w. w.priorities) v)) (sym same ∙ e)
      by (Some v) e h =
          let P : Option VersionTwo → Type 0 = λ z. bad_version z written ≡ [] in
          ap (λ z. bad_priorities (option_and_then (λ w. w.priorities) z)) (sym same ∙ e)
          ∙ (nothing_first (bad_priorities v.priorities) _ (nothing_first (bad_tick v) _ (subst P e h)).1).0

  pub room : max 1 (length (threads x)) + (first_priority x - 1) ≤ 60
  room =
      let a = threads-at-most x in
      let b = limited (stated_priorities x) (length (thread_objects x)) priorities-stated (thread-count written x met) in
      omega (arith, a, b)

  -- the ranks of a design by a ranking are in their ranges
  pub ranked-stated : (ps : List ℕ) → IsRanking (flat x) ps → AreRanked (flat x) (stated_by x ps)
  ranked-stated ps ranking = record {
    shared = λ g c h.
        let e = zip-computed (λ (g : Guarded). ceiling (flat x) ps g.name) (λ n. n + (first_priority x - 1))
        (flat x).shared g c h in
        let q = ranked-ceiling-range (flat x) ps ranking g.name in
        let k = room in
        ap (is_outside 1 60) e ∙ written-range _ (first_priority x - 1) q.0 (omega (arith, q.1, k));
    threads = λ t n h.
        let z = zip-both (λ (t : Thread). control_ceiling (flat x) ps t.name t.timing) (λ n. n + (first_priority x - 1))
        (threads x) ps t n h in
        let q = ranked-range (flat x) ps ranking z.0 (from-zip (threads x) ps (t, z.0) z.1).1 in
        let k = room in
        ap (is_outside 1 60) z.2 ∙ written-range z.0 (first_priority x - 1) q.0 (omega (arith, q.1, k));
    obcs = λ t n op separation jitter h e.
        let z = zip-both (λ (t : Thread). control_ceiling (flat x) ps t.name t.timing) (λ n. n + (first_priority x - 1))
        (threads x) ps t n h in
        let c : n.1 ≡ ceiling (flat x) ps t.name + (first_priority x - 1) =
        z.3 ∙ ap (λ u. control_ceiling (flat x) ps t.name u + (first_priority x - 1)) e in
        let q = ranked-ceiling-range (flat x) ps ranking t.name in
        let o = own-priority (flat x) ps ranking t z.0 z.1 in
        let k = room in (
          ap (is_outside 1 60) c ∙ written-range _ (first_priority x - 1) q.0 (omega (arith, q.1, k)),
          ap (λ m. nat_lt m n.0) c ∙ ap (λ m. nat_lt (ceiling (flat x) ps t.name + (first_priority x - 1))
              m) z.2 ∙ not-below (ceiling (flat x) ps t.name) z.0 (first_priority x - 1) o,
        );
  }

  -- and so are those of deadline-monotonic priorities
  pub stated-ranked : AreRanked (flat x) (stated_ranks x)
  stated-ranked = ranked-stated (priorities_of (flat x)) (deadline-ranking (flat x))
