-- The units of a program that meets the rules have different names.
use Rattle.std.specs.Prelude.{◌≡◌, ℕ, false, Some, map, take, flat_map, slice_get}
use Rattle.std.proofs.Common.{sym, ◌∙◌}
use Rattle.std.proofs.lemmas.List.Folds.{list_any-append}
use Rattle.seq_tree.specs.Names.{same_name}
use Rattle.ada_tree.specs.Programs.{Unit, Program}
use Rattle.ada_tree.specs.Naming.{breaks_naming, inner_names}
use Rattle.ada_tree.specs.Rules.{Naming, At, MeetsRules}
use Rattle.law_calls.proofs.Shared.UnitNames.{AreApart, apart, only-unit, unit-there}
use Rattle.std.proofs.lemmas.Bool.{false_from_ne_true, or_parts}
use Rattle.law_lists.proofs.Shared.Lists.{IsIn, place-of}
use Rattle.law_lists.proofs.Shared.Facts.{same-self, is-same}

module _ (p : Program) (rules : MeetsRules p) where
  naming : (i : ℕ) (u : Unit) → slice_get p.units i ≡ Some u → breaks_naming p i u ≡ false
  naming i u at = false_from_ne_true (breaks_naming p i u) (λ breaks. rules Naming (At i) (u, at, breaks))

  pub units_apart : AreApart p.units
  units_apart = apart p.units (λ i u at.
      (or_parts _ _ (sym (list_any-append (λ n. same_name n u.name) (map (λ v. v.name) (take i p.units))
      (flat_map (λ v. inner_names v.form) (take i p.units)))
      ∙ (or_parts _ _ (or_parts _ _ (or_parts _ _ (or_parts _ _ (or_parts _ _ (naming i u at)).0).0).0).0).0)).0)

-- units of one name are one
pub one-unit : (p : Program) → MeetsRules p → (u v : Unit) → IsIn u p.units → IsIn v p.units → u.name ≡ v.name → u ≡ v
one-unit p rules u v among among' same =
    let k = place-of u p.units among in
    let j = place-of v p.units among' in
    let h = unit-there p.units v.name (units_apart p rules) j.0 v j.1 (same-self v.name) in
    only-unit p.units v.name h k.0 u k.1 (is-same u.name v.name same) ∙ sym (only-unit p.units v.name h j.0 v j.1 (same-self v.name))
