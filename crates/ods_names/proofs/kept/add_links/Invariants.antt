use Rattle.std.proofs.Common.{◌≡◌, ◌++◌, flat_map, drop}
use Rattle.design_rules.specs.Words.{link_names}
use Rattle.ods_names.specs.NameLists.{names_of}
use Rattle.ods_names.proofs.kept.add_links.Given as goal

-- the names so far, and those of the links that are left
abbrev pub invariant-links : goal.invariant-links
invariant-links l = names_of l.names.items ++ flat_map link_names (drop l.link-index l.links)
    ≡ names_of l.initial.names.items ++ flat_map link_names l.links
