-- What the definitions of the order of rules and of what `check` answers hold of, and what breaks each alone.
use Rattle.std.proofs.Common.{◌≡◌, false, [], ◌∷◌, Some, None, refl}
use Rattle.std.specs.Prelude.{codes}
use Rattle.seq_tree.specs.Statements.{Work}
use Rattle.ods_tree.specs.Designs.{Tree}
use Rattle.ods_tree.proofs.Shared.Short.{pas, design}
use Rattle.design_rules.specs.Rules.{Clash, Spacing}
use Rattle.ods_rules.specs.Orders.{IsToldOf, limit, rule_of}
use Rattle.ods_rules.specs.Checks.{IsFirstTold}
use Rattle.ods_rules.specs.declared.verdict.Rule.TheVariants as order

abbrev passive : Tree
passive = pas (codes "p") (codes "f") (Work 3 ∷ [])

-- rules in order, and past the last
first_rule : limit (Some order.Clash) ≡ 1
first_rule = refl

past_last : limit None ≡ 19
past_last = refl

-- rules by their names
rule_first : rule_of order.Clash ≡ Clash
rule_first = refl

rule_last : rule_of order.Spacing ≡ Spacing
rule_last = refl

nothing_told_of : IsToldOf false None (design passive) → ⊥
nothing_told_of h = h

nothing_told_first : IsFirstTold false None (design passive) → ⊥
nothing_told_first h = h
