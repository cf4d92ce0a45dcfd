-- Examples: what the lists are after some calls, computed from the definitions alone.
use Rattle.std.specs.Prelude.{◌≡◌, [], ◌∷◌, Some, None, refl}
use Rattle.link_queue.specs.Queues.{after_due, at_head, at_tail, due, in_time, lowered, with_level}

-- tasks of one level: two come behind the others of it, and one before them
released_and_preempted : at_head (2, 2) (at_tail (1, 2) (at_tail (0, 2) [])) ≡ (2, 2) ∷ (0, 2) ∷ (1, 2) ∷ []
released_and_preempted = refl

-- the first task gets the level of another one, and goes before it; or a lower one, and goes behind it
raised : with_level 5 ((1, 3) ∷ (2, 3) ∷ (0, 1) ∷ []) ≡ (1, 5) ∷ (2, 3) ∷ (0, 1) ∷ []
raised = refl

lowered_to_equal : lowered 3 ((1, 5) ∷ (2, 3) ∷ (0, 1) ∷ []) ≡ (1, 3) ∷ (2, 3) ∷ (0, 1) ∷ []
lowered_to_equal = refl

lowered_below : lowered 1 ((1, 5) ∷ (2, 3) ∷ (0, 1) ∷ []) ≡ (2, 3) ∷ (1, 1) ∷ (0, 1) ∷ []
lowered_below = refl

-- tasks of one time wake in order of their numbers
by_time_and_task : in_time (2, 4) (in_time (0, 5) (in_time (1, 5) [])) ≡ (2, 4) ∷ (0, 5) ∷ (1, 5) ∷ []
by_time_and_task = refl

not_due : due 3 ((2, 4) ∷ (0, 5) ∷ []) ≡ None
not_due = refl

due_now : due 4 ((2, 4) ∷ (0, 5) ∷ []) ≡ Some 2
due_now = refl

left : after_due 4 ((2, 4) ∷ (0, 5) ∷ []) ≡ (0, 5) ∷ []
left = refl
