use Rattle.std.proofs.Common.{◌≡◌, ◌++◌, map, flat_map, drop}
use Rattle.std.specs.List.{enumerate_from}
use Rattle.design_rules.specs.Clashes.{object_mentions}
use Rattle.ods_names.specs.Mentions.{gathered}
use Rattle.ods_index.specs.Walking.{standing_of}
use Rattle.ods_names.proofs.mentions.add_objects.Given as goal

-- the names so far, and those of the objects that are left
abbrev pub invariant-objects : goal.invariant-objects
invariant-objects l =
    gathered l.source.index.now l.into.items ++ flat_map object_mentions (enumerate_from l.place (map standing_of (drop l.place l.objects)))
    ≡ gathered l.source.index.now l.initial.into.items ++ flat_map object_mentions (enumerate_from 0 (map standing_of l.objects))
