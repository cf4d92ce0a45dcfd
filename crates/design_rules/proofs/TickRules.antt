-- A design that meets the rules meets them in ticks too.
use Rattle.std.specs.Prelude.{◌≡◌, ℕ, false, List, [], ◌∷◌, ◌++◌, map, filter_map, slice_get, Option, Some, None, refl}
use Rattle.std.specs.List.{list_any}
use Rattle.std.proofs.Common.{sym, subst, ◌∙◌}
use Rattle.std.proofs.lemmas.List.Elements.{filter_map-append}
use Rattle.ods_tree.specs.Designs.{Object, Tree, Trees, Node, Empty, With, Design}
use Rattle.ods_tree.specs.Walk.{Standing, standings, inner_standings, roots, own_of, only_if}
use Rattle.ods_tree.specs.Ticks.{attribute_in_ticks, object_in_ticks, tree_in_ticks, trees_in_ticks, tick_time, ticked, in_ticks}
use Rattle.ods_tree.specs.declared.design.Attr.{Attr}
use Rattle.ods_tree.specs.declared.design.VersionTwo.{VersionTwo}
use Rattle.ods_tree.proofs.Shared.TickLaws.{ticks-version, ticks-again}
use Rattle.design_rules.specs.Broken.{Broken, V17}
use Rattle.design_rules.specs.Versions.{bad_tick, bad_priorities, misses_ticks, breaks_ticks, bad_version, version_faults}
use Rattle.design_rules.specs.Rules.{Version, Clash, KeptName, Include, Operation, Fitting, Stranger, Absence, Use, CallRing, ObjectRing}
use Rattle.design_rules.specs.Rules.{StartRing, Source, Number, IdleActive, BodyFault, Budget, Size, Spacing, AreMet, MeetsRules}

-- no attribute in ticks stands between ticks
none_between : (tick other : ℕ) (as' : List Attr) → list_any (λ a. misses_ticks other a.value a.unit) (map (attribute_in_ticks tick) as') ≡ false
none_between tick other [] = refl
none_between tick other (a ∷ as') = none_between tick other as'

abbrev between : ℕ → Standing → Option Broken
between tick s = only_if (breaks_ticks tick s.own) (V17 s.own.name)

-- nor does an object of a tree in ticks
mutual
  tree-fits : (tick : ℕ) (parent : Option Object) (siblings : List Object) (t : Tree)
      → filter_map (between tick) (standings parent siblings (tree_in_ticks tick t)) ≡ []
  tree-fits tick parent siblings (Node own children) =
      rw (none_between tick tick own.attrs) (trees-fit tick (Some (object_in_ticks tick own)) (roots (trees_in_ticks tick children)) children)

  trees-fit : (tick : ℕ) (parent : Option Object) (siblings : List Object) (ts : Trees)
      → filter_map (between tick) (inner_standings parent siblings (trees_in_ticks tick ts)) ≡ []
  trees-fit tick parent siblings Empty = refl
  trees-fit tick parent siblings (With first rest) =
      filter_map-append (between tick) (standings parent siblings (tree_in_ticks tick first))
      (inner_standings parent siblings (trees_in_ticks tick rest))
      ∙ rw (tree-fits tick parent siblings first) (trees-fit tick parent siblings rest)

nil-left : {A : Type 0} (xs ys : List A) → xs ++ ys ≡ [] → xs ≡ []
nil-left {A} [] ys e = refl
nil-left {A} (x ∷ xs) ys e = cc

nil-right : {A : Type 0} (xs ys : List A) → xs ++ ys ≡ [] → ys ≡ []
nil-right {A} [] ys e = e
nil-right {A} (x ∷ xs) ys e = cc

-- a version without faults has none in ticks
version-fits : (v : Option VersionTwo) (x : Design) → bad_version v x ≡ [] → bad_version v (ticked v x) ≡ []
version-fits None x e = refl
version-fits (Some v) x e =
    let tick : bad_tick v ≡ [] = nil-left (bad_tick v) _ e in
    let priorities : bad_priorities v.priorities ≡ [] = nil-left (bad_priorities v.priorities) _ (nil-right (bad_tick v) _ e) in
    rw tick (rw priorities (tree-fits (tick_time v) None (own_of (tree_in_ticks (tick_time v) x.root) ∷ []) x.root))

none-left : (xs : List Broken) → ((place : ℕ) (told : Broken) → slice_get xs place ≡ Some told → ⊥) → xs ≡ []
none-left [] none = refl
none-left (b ∷ bs) none = absurd (none 0 b refl)

none_at : (xs : List Broken) (place : ℕ) (told : Broken) → xs ≡ [] → slice_get xs place ≡ Some told → ⊥
none_at [] place told e h = cc
none_at (b ∷ bs) place told e h = cc

faults-in_ticks : (x : Design) → version_faults x ≡ [] → version_faults (in_ticks x) ≡ []
faults-in_ticks x e = rw (ticks-version x) (version-fits x.version x e)

-- what is met as written and in ticks is met in ticks alone
in-ticks : (x y : Design) → y ≡ in_ticks x → AreMet x y → AreMet y y
in-ticks x y same met Version place told h =
    none_at (version_faults y) place told (rw same (faults-in_ticks x (none-left (version_faults x) (met Version)))) h
in-ticks x y same met Clash place told h = met Clash place told h
in-ticks x y same met KeptName place told h = met KeptName place told h
in-ticks x y same met Include place told h = met Include place told h
in-ticks x y same met Operation place told h = met Operation place told h
in-ticks x y same met Fitting place told h = met Fitting place told h
in-ticks x y same met Stranger place told h = met Stranger place told h
in-ticks x y same met Absence place told h = met Absence place told h
in-ticks x y same met Use place told h = met Use place told h
in-ticks x y same met CallRing place told h = met CallRing place told h
in-ticks x y same met ObjectRing place told h = met ObjectRing place told h
in-ticks x y same met StartRing place told h = met StartRing place told h
in-ticks x y same met Source place told h = met Source place told h
in-ticks x y same met Number place told h = met Number place told h
in-ticks x y same met IdleActive place told h = met IdleActive place told h
in-ticks x y same met BodyFault place told h = met BodyFault place told h
in-ticks x y same met Budget place told h = met Budget place told h
in-ticks x y same met Size place told h = met Size place told h
in-ticks x y same met Spacing place told h = met Spacing place told h

pub meets-in_ticks : (x : Design) → MeetsRules x → MeetsRules (in_ticks x)
meets-in_ticks x met =
    let P : Design → Type 0 = λ y. AreMet (in_ticks x) y in subst P (sym (ticks-again x)) (in-ticks x (in_ticks x) refl met)
