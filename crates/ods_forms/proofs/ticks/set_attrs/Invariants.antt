use Rattle.std.proofs.Common.{◌≡◌, ◌++◌, map, take, drop}
use Rattle.ods_forms.specs.Whole.{attribute_set}
use Rattle.ods_forms.proofs.ticks.set_attrs.Given as goal

-- those so far are in ticks
abbrev pub invariant-attrs : goal.invariant-attrs
invariant-attrs l = l.attrs ≡ map (attribute_set l.tick) (take l.place l.initial.attrs) ++ drop l.place l.initial.attrs
