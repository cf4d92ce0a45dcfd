use Rattle.std.proofs.Common.{◌≡◌, ◌≤◌, length, drop, option_and_then}
use Rattle.seq_tree.specs.Names.{Name}
use Rattle.ods_tree.specs.Links.{link_for}
use Rattle.ods_index.specs.Linked.{meaning_in}
use Rattle.ods_index.specs.Scoped.{meaning_at, scope_trees}
use Rattle.ods_index.proofs.links.meanings_of.Given as goal

-- what the links from this one on give
abbrev pub invariant-links : goal.invariant-links
invariant-links l =
    (l.place ≤ length l.links)
    × ((op : Name) → meaning_in l.meanings op
    ≡ option_and_then (λ to. meaning_at (scope_trees l.scopes) l.children to.object to.op) (link_for op (drop l.place l.links)))

-- the links that are left
abbrev pub decreases-links : goal.decreases-links
decreases-links l = l.place
