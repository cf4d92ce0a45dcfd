use Rattle.std.proofs.Common.{◌≡◌, ◌&&◌, drop, find, map}
use Rattle.ods_tree.specs.Trees.{flat_of, thread_of}
use Rattle.analysis.specs.Priorities.{priorities_of}
use Rattle.analysis.specs.Tables.{starter_of}
use Rattle.background_designs.specs.Misfits.{is_sporadic}
use Rattle.background.specs.Fronts.{first_started, is_row}
use Rattle.background.proofs.requests.first_started.Given as goal

-- the first is among those that are left
abbrev pub invariant-threads : goal.invariant-threads
invariant-threads l =
    find (λ t. is_sporadic t.timing && is_row l.row (starter_of (flat_of l.flat) (priorities_of (flat_of l.flat)) t.name t.timing))
    (map thread_of (drop l.place l.flat.threads.items)) ≡ first_started (flat_of l.flat) l.row
