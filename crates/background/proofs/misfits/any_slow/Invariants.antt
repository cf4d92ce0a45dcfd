use Rattle.std.proofs.Common.{◌≡◌, ◌&&◌, ◌==◌, drop}
use Rattle.std.specs.List.{list_any}
use Rattle.seq_tree.specs.Limits.{tick_limit}
use Rattle.ods_tree.specs.Attributes.{has_key}
use Rattle.ods_tree.specs.declared.design.AttrKey.TheVariants.{Deadline}
use Rattle.background.proofs.misfits.any_slow.Given as goal

-- it is up to those that are left
abbrev pub invariant-attrs : goal.invariant-attrs
invariant-attrs l =
    list_any (λ a. has_key Deadline a && a.value == tick_limit) (drop l.attr-index l.attrs)
    ≡ list_any (λ a. has_key Deadline a && a.value == tick_limit) l.attrs
