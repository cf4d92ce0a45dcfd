use Rattle.std.proofs.Common.{◌≡◌, ℕ, ◌+◌, ◌||◌, ◌&&◌, false, not, drop, get_or, length, nat_lt}
use Rattle.std.specs.List.{count_by}
use Rattle.rings.specs.Graphs.{has_number}
use Rattle.rings.proofs.targets.mark_all.Given as goal

-- the nodes so far are marked, and taken up where they weren't
abbrev pub invariant-nodes : goal.invariant-nodes
invariant-nodes l =
    (length l.marks.items ≡ length l.initial.marks.items)
    × ((n : ℕ) → (get_or l.marks.items n false || (has_number (drop l.node-index l.nodes) n && nat_lt n (length l.initial.marks.items)))
    ≡ (get_or l.initial.marks.items n false || (has_number l.nodes n && nat_lt n (length l.initial.marks.items))))
    × ((n : ℕ) → has_number l.todo.items n
    ≡ (has_number l.initial.todo.items n || (get_or l.marks.items n false && not (get_or l.initial.marks.items n false))))
    × ((n : ℕ) → (get_or l.initial.marks.items n false && not (get_or l.marks.items n false)) ≡ false)
    × (count_by not l.marks.items + length l.todo.items ≡ count_by not l.initial.marks.items + length l.initial.todo.items)
