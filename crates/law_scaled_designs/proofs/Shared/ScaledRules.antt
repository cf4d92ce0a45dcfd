-- A scaled design in ticks, what runs of it, and that it meets the rules where the design does and no body or thread is too dear.
use Rattle.std.proofs.Common.{◌≡◌, ◌≤◌, ℕ, ◌*◌, Bool, true, false, not, List, [], ◌∷◌, ◌++◌, map, filter_map, slice_get, refl, ap, ap₂, ◌∙◌, sym, subst}
use Rattle.std.proofs.Common.{arith, Option, Some, None, inl, inr}
use Rattle.std.specs.Int.{div_ceil}
use Rattle.std.specs.List.{list_any, list_all, cons_option}
use Rattle.std.proofs.lemmas.Bool.{or_parts, and_parts, and_from}
use Rattle.std.specs.Prelude.{if◌then◌else◌, ◌||◌}
use Rattle.seq_tree.specs.Limits.{tick_limit, is_within}
use Rattle.seq_tree.specs.Names.{Name}
use Rattle.ods_tree.specs.Attributes.{has_key}
use Rattle.ods_tree.specs.Designs.{Object, Tree, Trees, Node, Empty, With, Design}
use Rattle.ods_tree.specs.Flats.{Flat}
use Rattle.ods_tree.specs.Flattening.{flat}
use Rattle.ods_tree.specs.Ticks.{count_in_ticks, attribute_in_ticks, object_in_ticks, tree_in_ticks, trees_in_ticks, tick_time, ticked, in_ticks}
use Rattle.ods_tree.specs.Walk.{Standing, objects, only_if}
use Rattle.ods_tree.specs.declared.design.Attr.{Attr}
use Rattle.ods_tree.specs.declared.design.AttrKey.TheVariants.{ThreadBudget}
use Rattle.ods_tree.specs.declared.design.TickUnit.{TickUnit}
use Rattle.ods_tree.specs.declared.design.VersionTwo.{VersionTwo}
use Rattle.ods_tree.proofs.Shared.TickLaws.{ticks-version}
use Rattle.rt_response.specs.declared.rows.Miss.{Miss}
use Rattle.rt_response.specs.Response.{Fits}
use Rattle.rt_response.specs.Rounds.{IsMiss}
use Rattle.analysis.specs.Sound.{IsSound}
use Rattle.analysis.specs.Tables.{table}
use Rattle.design_rules.specs.Broken.{Broken, V11, V17}
use Rattle.design_rules.specs.Numbers.{breaks_numbers, bad_costs, bad_numbers}
use Rattle.design_rules.specs.Rules.{Version, Clash, KeptName, Include, Operation, Fitting, Stranger, Absence, Use, CallRing, ObjectRing}
use Rattle.design_rules.specs.Rules.{StartRing, Source, Number, IdleActive, BodyFault, Budget, Size, Spacing, IsListed, Rule, Offends, IsFirst, AreMet, MeetsRules}
use Rattle.design_rules.specs.Rules.{IsFirstBroken}
use Rattle.design_rules.specs.Budgets.{bad_sizes}
use Rattle.design_rules.specs.Versions.{bad_tick, bad_priorities, misses_ticks, breaks_ticks, bad_version, version_faults}
use Rattle.law_lists.proofs.Shared.Lists.{IsIn, at-in}
use Rattle.law_designs.proofs.Shared.Lists.{none-told}
use Rattle.law_designs.proofs.Shared.ObjectRules.{none_listed, nothing_first, numbers-right}
use Rattle.law_designs.proofs.Shared.SoundDesigns.{flat-sound}
use Rattle.law_scaling.specs.Working.{reworked}
use Rattle.law_scaling.specs.Scaling.{scaled, scaled_ticks}
use Rattle.law_scaling.specs.Parts.{Part, first_dear}
use Rattle.law_scaling.specs.Holding.{Holds}
use Rattle.law_scaling.specs.Designs.{freed, reworked_object, reworked_tree, reworked_trees, reworked_design, scaled_design}
use Rattle.law_scaling.proofs.Shared.Cheap.{sound-cheap}
use Rattle.law_scaling.proofs.Shared.Designs.{standing, flat-same}
use Rattle.law_scaling.proofs.Shared.Holding.{holds-less}
use Rattle.law_scaling.proofs.Shared.Sound.{sound-still}
use Rattle.law_scaled_designs.specs.Laws.{IsBoundedDesign, IsLateDesign, IsDearDesign}
use Rattle.law_scaled_designs.proofs.Objects.{objects-same, clashes-same, kept-same, bad-includes-same, bad-operations-same, bad-fittings-same}
use Rattle.law_scaled_designs.proofs.Objects.{strangers-same, absent-same, forbidden-same, idle-same, bad-bodies-same}
use Rattle.law_scaled_designs.proofs.Callings.{ringed-op, ringed-object, ringed-thread, bad-sources-same, bad-separations-same}
use Rattle.law_scaled_designs.proofs.Numbers.{IsRanged, numbers-still}
use Rattle.law_scaled_designs.proofs.Sizes.{no-bad-budgets, no-bad-sizes, none-taken, size-told, TellsCost}

-- IN TICKS

-- an attribute is in ticks whether it is lifted before or behind that
attribute-again : (tick : ℕ) (a : Attr) → attribute_in_ticks tick (freed a) ≡ freed (attribute_in_ticks tick a)
attribute-again tick a = by (has_key ThreadBudget a)
  where
    lifted : Attr
    lifted = record { key = a.key; value = tick_limit; unit = None }

    by : (b : Bool) → attribute_in_ticks tick (if b then lifted else a) ≡ (if b then lifted else attribute_in_ticks tick a)
    by true = refl
    by false = refl

attributes-again : (tick : ℕ) (attrs : List Attr) → map (attribute_in_ticks tick) (map freed attrs) ≡ map freed (map (attribute_in_ticks tick) attrs)
attributes-again tick [] = refl
attributes-again tick (a ∷ attrs) = ap₂ (λ b bs. b ∷ bs) (attribute-again tick a) (attributes-again tick attrs)

module _ (w : Name → ℕ → ℕ) where
  object-again : (tick : ℕ) (o : Object) → object_in_ticks tick (reworked_object w o) ≡ reworked_object w (object_in_ticks tick o)
  object-again tick o = ap (λ bs. record (reworked_object w o) { attrs = bs }) (attributes-again tick o.attrs)

  mutual
    tree-again : (tick : ℕ) (t : Tree) → tree_in_ticks tick (reworked_tree w t) ≡ reworked_tree w (tree_in_ticks tick t)
    tree-again tick (Node own children) = ap₂ Node (object-again tick own) (trees-again tick children)

    trees-again : (tick : ℕ) (ts : Trees) → trees_in_ticks tick (reworked_trees w ts) ≡ reworked_trees w (trees_in_ticks tick ts)
    trees-again tick Empty = refl
    trees-again tick (With first rest) = ap₂ With (tree-again tick first) (trees-again tick rest)

  ticked-again : (v : Option VersionTwo) (x : Design) → ticked v (reworked_design w x) ≡ reworked_design w (ticked v x)
  ticked-again None x = refl
  ticked-again (Some v) x = ap (λ t. record (reworked_design w x) { root = t }) (tree-again (tick_time v) x.root)

  ticks-again : (x : Design) → in_ticks (reworked_design w x) ≡ reworked_design w (in_ticks x)
  ticks-again x = ticked-again x.version x

  -- THE VERSION

  -- a lifted attribute is a whole number of ticks, and others are what they were
  fits-still : (tick : ℕ) (attrs : List Attr) → list_any (λ a. misses_ticks tick a.value a.unit) attrs ≡ false
      → list_any (λ a. misses_ticks tick a.value a.unit) (map freed attrs) ≡ false
  fits-still tick [] h = refl
  fits-still tick (a ∷ attrs) h =
      let parts = or_parts (misses_ticks tick a.value a.unit) (list_any (λ a. misses_ticks tick a.value a.unit) attrs) h in
      ap₂ (λ b c. b || c) (by (has_key ThreadBudget a) parts.0) (fits-still tick attrs parts.1)
    where
      lifted : Attr
      lifted = record { key = a.key; value = tick_limit; unit = None }

      by : (b : Bool) → misses_ticks tick a.value a.unit ≡ false
          → misses_ticks tick (if b then lifted else a).value (if b then lifted else a).unit ≡ false
      by true k = refl
      by false k = k

  between-still : (x : Design) (tick : ℕ) → filter_map (λ s. only_if (breaks_ticks tick s.own) (V17 s.own.name)) (objects x) ≡ []
      → filter_map (λ s. only_if (breaks_ticks tick s.own) (V17 s.own.name)) (objects (reworked_design w x)) ≡ []
  between-still x tick h =
      ap (filter_map (λ s. only_if (breaks_ticks tick s.own) (V17 s.own.name))) (objects-same w x)
      ∙ none-taken (λ s. only_if (breaks_ticks tick s.own) (V17 s.own.name)) (standing w) (objects x)
      (λ s i. ap (λ b. only_if b (V17 s.own.name))
      (fits-still tick s.own.attrs (none-told (λ s. breaks_ticks tick s.own) (λ s. V17 s.own.name) (objects x) h s i)))

  version-still : (v : Option VersionTwo) (x : Design) → bad_version v x ≡ [] → bad_version v (reworked_design w x) ≡ []
  version-still None x h = refl
  version-still (Some v) x h =
      let first = nothing_first (bad_tick v) _ h in
      let second = nothing_first (bad_priorities v.priorities) _ first.1 in
      ap₂ (λ a b. a ++ b) first.0 (ap₂ (λ a b. a ++ b) second.0 (between-still x (tick_time v) second.1))

  -- THE RULES

  numbers-none : IsRanged w → (written x : Design) → AreMet written x → bad_numbers (reworked_design w x) ≡ []
  numbers-none ranged written x met =
      let costs : bad_costs x ≡ [] = (nothing_first (bad_costs x) _ (none_listed _ (met Number))).0 in
      ap₂ (λ a b. a ++ b) costs
      (ap (filter_map (λ s. only_if (breaks_numbers s) (V11 (Some s.own.name)))) (objects-same w x)
      ∙ none-taken (λ s. only_if (breaks_numbers s) (V11 (Some s.own.name))) (standing w) (objects x)
      (λ s i. ap (λ b. only_if b (V11 (Some s.own.name))) (numbers-still w ranged s (numbers-right written x met s i))))

  none-at : (all : List Broken) (place : ℕ) (told : Broken) → all ≡ [] → IsListed all place told → ⊥
  none-at [] place told e h = cc
  none-at (b ∷ bs) place told e h = cc

  moved : (all was : List Broken) (place : ℕ) (told : Broken) → all ≡ was → IsListed all place told → IsListed was place told
  moved all was place told e h = ap (λ xs. slice_get xs place) (sym e) ∙ h

  -- an offender is one of its sizes
  pub only-sizes : IsRanged w → (written x : Design) → AreMet written x → (rule : Rule) (place : ℕ) (told : Broken)
      → Offends (reworked_design w written) (reworked_design w x) rule place told → IsListed (bad_sizes (reworked_design w x)) place told
  only-sizes ranged written x met Version place told h = absurd (none-at (version_faults (reworked_design w written)) place told (version-still written.version written (none_listed (version_faults written) (met Version))) h)
  only-sizes ranged written x met Clash place told h = absurd (met Clash place told (moved _ _ place told (clashes-same w x) h))
  only-sizes ranged written x met KeptName place told h = absurd (met KeptName place told (moved _ _ place told (kept-same w x) h))
  only-sizes ranged written x met Include place told h = absurd (met Include place told (moved _ _ place told (bad-includes-same w x) h))
  only-sizes ranged written x met Operation place told h = absurd (met Operation place told (moved _ _ place told (bad-operations-same w x) h))
  only-sizes ranged written x met Fitting place told h = absurd (met Fitting place told (moved _ _ place told (bad-fittings-same w x) h))
  only-sizes ranged written x met Stranger place told h = absurd (met Stranger place told (moved _ _ place told (strangers-same w x) h))
  only-sizes ranged written x met Absence place told h = absurd (met Absence place told (moved _ _ place told (absent-same w x) h))
  only-sizes ranged written x met Use place told h = absurd (met Use place told (moved _ _ place told (forbidden-same w x) h))
  only-sizes ranged written x met CallRing place told h = absurd (met CallRing place told (ringed-op w x place told h))
  only-sizes ranged written x met ObjectRing place told h = absurd (met ObjectRing place told (ringed-object w x place told h))
  only-sizes ranged written x met StartRing place told h = absurd (met StartRing place told (ringed-thread w x place told h))
  only-sizes ranged written x met Source place told h = absurd (met Source place told (moved _ _ place told (bad-sources-same w x) h))
  only-sizes ranged written x met Number place told h = absurd (none-at _ place told (numbers-none ranged written x met) h)
  only-sizes ranged written x met IdleActive place told h = absurd (met IdleActive place told (moved _ _ place told (idle-same w x) h))
  only-sizes ranged written x met BodyFault place told h = absurd (met BodyFault place told (moved _ _ place told (bad-bodies-same w x) h))
  only-sizes ranged written x met Budget place told h = absurd (none-at _ place told (no-bad-budgets written x met w) h)
  only-sizes ranged written x met Size place told h = h
  only-sizes ranged written x met Spacing place told h = absurd (met Spacing place told (moved _ _ place told (bad-separations-same w x) h))

  pub met-still : IsRanged w → (written x : Design) → AreMet written x → first_dear (reworked w (flat x)) ≡ None
      → AreMet (reworked_design w written) (reworked_design w x)
  met-still ranged written x met cheap rule place told h =
      none-at (bad_sizes (reworked_design w x)) place told
      (no-bad-sizes written x met w (sound-still w (flat x) (flat-sound written x met) cheap)) (only-sizes ranged written x met rule place told h)

-- SCALED DESIGNS

pub scaled-ticks : (x : Design) (k : ℕ) → in_ticks (scaled_design k x) ≡ scaled_design k (in_ticks x)
scaled-ticks x k = ticks-again (λ name. scaled_ticks k) x

pub scaled-flat : (x : Design) (k : ℕ) → flat (in_ticks (scaled_design k x)) ≡ scaled k (flat (in_ticks x))
scaled-flat x k = ap flat (scaled-ticks x k) ∙ flat-same (λ name. scaled_ticks k) (in_ticks x)

-- ticks at one per mille or more stay within their range
up-to : (n : ℕ) → is_within 1 tick_limit n ≡ true → 1 ≤ n
up-to n h = grind (arith, h)

product-some : (n k : ℕ) → 1 ≤ n → 1 ≤ k → 1 ≤ n * k
product-some n k h i = grind (arith, h, i)

scaled-ranged : (k n : ℕ) → 1 ≤ k → is_within 1 tick_limit n ≡ true → is_within 1 tick_limit (scaled_ticks k n) ≡ true
scaled-ranged k n some h =
    let product : 1 ≤ n * k = product-some n k (up-to n h) some in
    let low : 1 ≤ scaled_ticks k n = omega (arith, product) in
    let high : scaled_ticks k n ≤ tick_limit = omega arith in
    grind (arith, low, high)

pub scaled-meets : (x : Design) (k : ℕ) → 1 ≤ k → MeetsRules x → first_dear (scaled k (flat (in_ticks x))) ≡ None → MeetsRules (scaled_design k x)
scaled-meets x k some met cheap =
    let P : Design → Type 0 = λ y. AreMet (scaled_design k x) y in
    subst P (sym (scaled-ticks x k))
    (met-still (λ name. scaled_ticks k) (λ name n h. scaled-ranged k n some h) x (in_ticks x) met cheap)

pub scaled-bounded : (x : Design) (j k : ℕ) → 1 ≤ j → j ≤ k → MeetsRules x → Holds (flat (in_ticks x)) k → IsBoundedDesign (scaled_design j x)
scaled-bounded x j k some less met holds =
    let here = holds-less None (flat (in_ticks x)) j k less holds in
    let F : Flat → Type 0 = λ f. Fits (table f).rows here.bounds in
    record {
      meets = scaled-meets x j some met here.cheap;
      bounds = here.bounds;
      fits = subst F (sym (scaled-flat x j)) here.fits;
    }

pub scaled-late : (x : Design) (k : ℕ) (miss : Miss) → 1 ≤ k → MeetsRules x → first_dear (scaled k (flat (in_ticks x))) ≡ None
    → IsMiss (table (scaled k (flat (in_ticks x)))).rows miss → IsLateDesign (scaled_design k x) miss
scaled-late x k miss some met cheap first =
    let M : Flat → Type 0 = λ f. IsMiss (table f).rows miss in
    record { meets = scaled-meets x k some met cheap; first = subst M (sym (scaled-flat x k)) first }

-- what a scaled design breaks first is that a body or a thread costs too much
told-first : (x : Design) (k : ℕ) → 1 ≤ k → MeetsRules x → (y : Design) → y ≡ scaled_design k (in_ticks x) → (told : Broken)
    → IsFirst (scaled_design k x) y told → TellsCost told
told-first x k some met y e told first =
    let w : Name → ℕ → ℕ = λ name. scaled_ticks k in
    let O : Design → Type 0 = λ z. Offends (scaled_design k x) z first.rule first.place told in
    let listed = only-sizes w (λ name n h. scaled-ranged k n some h) x (in_ticks x) met first.rule first.place told (subst O e first.offends) in
    size-told x (in_ticks x) met w told (at-in (bad_sizes (reworked_design w (in_ticks x))) first.place told listed)

pub scaled-dear : (x : Design) (k : ℕ) (part : Part) → 1 ≤ k → MeetsRules x → first_dear (scaled k (flat (in_ticks x))) ≡ Some part
    → IsDearDesign (scaled_design k x)
scaled-dear x k part some met dear =
    record {
      breaks = λ meets.
          let S : Flat → Type 0 = λ f. IsSound f in
          let none = sound-cheap (scaled k (flat (in_ticks x)))
          (subst S (scaled-flat x k) (flat-sound (scaled_design k x) (in_ticks (scaled_design k x)) meets)) in
          let both : None ≡ Some part = sym none ∙ dear in cc;
      told = λ told first. told-first x k some met (in_ticks (scaled_design k x)) (scaled-ticks x k) told first;
    }
