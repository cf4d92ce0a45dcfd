use Rattle.std.proofs.Common.{◌≡◌, ℕ, List, [], drop, map}
use Rattle.seq_tree.specs.Names.{Name}
use Rattle.design_rules.specs.Clashes.{Mention, clashes_after}
use Rattle.ods_index.specs.Judging.{head_of}
use Rattle.ods_names.specs.Mentions.{mention_of}
use Rattle.ods_names.specs.Taken.{Holds}
use Rattle.ods_names.proofs.clashes.judge_each.Given as goal

-- the sets are those of the names so far, and the first clash is that of the names that are left
abbrev pub invariant-mentions : goal.invariant-mentions
invariant-mentions l =
    (requests : ℕ → List Name) → Holds requests l.initial.taken [] → (earlier : List Mention) × Holds requests l.taken earlier
    × (head_of (clashes_after earlier (map (mention_of requests) (drop l.mention-index l.mentions)))
    ≡ head_of (clashes_after [] (map (mention_of requests) l.mentions)))
