use Rattle.std.proofs.Common.{◌≡◌, ℕ, ◌||◌, [], drop}
use Rattle.seq_tree.specs.Names.{Name}
use Rattle.ods_names.specs.Keys.{has_key}
use Rattle.ods_names.specs.Taken.{has_request}
use Rattle.ods_names.proofs.taken.request_table.Given as goal

-- the names so far, and those of the objects that are left
abbrev pub invariant-objects : goal.invariant-objects
invariant-objects l = (p : ℕ) (n : Name) → (has_key l.table p 0 [] n || has_request l.place (drop l.place l.objects) p n)
    ≡ has_request 0 l.objects p n
