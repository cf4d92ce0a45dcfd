use Rattle.std.proofs.Common.{◌≡◌, drop}
use Rattle.std.specs.List.{list_any}
use Rattle.design_rules.specs.Versions.{misses_ticks}
use Rattle.ods_forms.proofs.versions.any_misses.Given as goal

-- it is up to the attributes that are left
abbrev pub invariant-attrs : goal.invariant-attrs
invariant-attrs l = list_any (λ a. misses_ticks l.tick a.value a.unit) (drop l.attr-index l.attrs)
    ≡ list_any (λ a. misses_ticks l.tick a.value a.unit) l.attrs
