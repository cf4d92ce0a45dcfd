use Rattle.std.proofs.Common.{◌≡◌, ◌++◌, map, take}
use Rattle.design_rules.specs.Clashes as clashes
use Rattle.design_rules.specs.Clashes.{mention}
use Rattle.ods_names.specs.Mentions.{gathered}
use Rattle.ods_names.proofs.mentions.add_params.Given as goal

-- the names so far
abbrev pub invariant-params : goal.invariant-params
invariant-params l = gathered l.source.index.now l.into.items ≡ gathered l.source.index.now l.initial.into.items
    ++ map (λ q. mention (clashes.Parameter l.place l.op l.bodied) q.name) (take l.param-index l.params)
