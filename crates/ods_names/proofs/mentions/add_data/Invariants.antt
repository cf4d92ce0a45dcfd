use Rattle.std.proofs.Common.{◌≡◌, ◌++◌, map, take}
use Rattle.design_rules.specs.Clashes as clashes
use Rattle.design_rules.specs.Clashes.{mention}
use Rattle.ods_names.specs.Mentions.{gathered}
use Rattle.ods_names.proofs.mentions.add_data.Given as goal

-- the names so far
abbrev pub invariant-vars : goal.invariant-vars
invariant-vars l = gathered l.source.index.now l.into.items ≡ gathered l.source.index.now l.initial.into.items
    ++ map (λ d. mention (clashes.Member l.place) d.name) (take l.datum-index l.vars)
