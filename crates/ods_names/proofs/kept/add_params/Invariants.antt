use Rattle.std.proofs.Common.{◌≡◌, ◌++◌, map, take}
use Rattle.ods_names.specs.NameLists.{names_of}
use Rattle.ods_names.proofs.kept.add_params.Given as goal

-- the names so far are those of the parameters so far
abbrev pub invariant-params : goal.invariant-params
invariant-params l = names_of l.names.items ≡ names_of l.initial.names.items ++ map (λ q. q.name) (take l.param-index l.params)
