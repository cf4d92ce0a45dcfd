-- Examples of what stands behind a deed: a task enters an operation inside of another, while a second task is inside one of its own.
use Rattle.std.proofs.Common.{◌≡◌, List, [], ◌∷◌, drop, refl}
use Rattle.std.specs.Prelude.{true, false}
use Rattle.trace_tree.specs.declared.event.Event.{Event}
use Rattle.trace_tree.specs.declared.event.Event.TheVariants.{Enter, Leave, Print, Horizon}
use Rattle.trace_read.specs.Deeds.{from_exit, from_own, passed_in}

-- task 1 is inside unit 5 and there inside unit 7, and task 0 inside unit 6
abbrev es : List Event
es =
    Enter 0 1 5 0 [] ∷ Enter 1 0 6 0 [] ∷ Enter 2 1 7 0 [] ∷ Print 2 1 9 ∷ Leave 3 1 7 0 [] ∷ Leave 4 0 6 0 [] ∷ Leave 5 1 5 0 [] ∷ Horizon 6 ∷ []

-- the next deed of task 1 is its second entry, and that of task 0 its exit
next_of_one : from_own 1 (drop 1 es) ≡ drop 2 es
unfolding from_own
next_of_one = refl

next_of_other : from_own 0 (drop 2 es) ≡ drop 5 es
unfolding from_own
next_of_other = refl

none_left : from_own 0 (drop 6 es) ≡ []
unfolding from_own
none_left = refl

-- the exit from the operation outside is the second of task 1, and that from the one inside its first
exit_outside : from_exit 1 (drop 1 es) 0 ≡ drop 6 es
unfolding from_exit
exit_outside = refl

exit_inside : from_exit 1 (drop 3 es) 0 ≡ drop 4 es
unfolding from_exit
exit_inside = refl

exit_of_other : from_exit 0 (drop 2 es) 0 ≡ drop 5 es
unfolding from_exit
exit_of_other = refl

no_exit : from_exit 1 (drop 7 es) 0 ≡ []
unfolding from_exit
no_exit = refl

-- the unit inside is passed by its exit, and behind that no more
passed : passed_in 7 (drop 4 es) ≡ true
unfolding passed_in
passed = refl

passed_no_more : passed_in 7 (drop 5 es) ≡ false
unfolding passed_in
passed_no_more = refl
