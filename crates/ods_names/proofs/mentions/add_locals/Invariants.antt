use Rattle.std.proofs.Common.{◌≡◌, ◌++◌, map, take}
use Rattle.design_rules.specs.Clashes as clashes
use Rattle.design_rules.specs.Clashes.{mention}
use Rattle.ods_names.specs.Mentions.{gathered}
use Rattle.ods_names.proofs.mentions.add_locals.Given as goal

-- the names so far
abbrev pub invariant-locals : goal.invariant-locals
invariant-locals l = gathered l.source.index.now l.into.items ≡ gathered l.source.index.now l.initial.into.items
    ++ map (λ d. mention (clashes.Local l.place l.body l.op) d.name) (take l.datum-index l.locals)
