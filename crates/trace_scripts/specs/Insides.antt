-- What is known of an entry into an operation from the events behind it: the script of what its thread does inside, and whether the object is
-- passed again. Of an operation that is entered inside the script has the entry and the exit.
use Rattle.std.specs.Prelude.{ℕ, zero, suc, Bool, true, false, List, [], ◌∷◌, ◌++◌, Option, Some, None}
use Rattle.seq_tree.specs.Runs as runs
use Rattle.ada_tree.specs.Programs.{Program}
use Rattle.trace_tree.specs.declared.event.Event as machine
use Rattle.trace_tree.specs.declared.event.Event.TheVariants as event
use Rattle.guarantee.specs.Events.{named_event}
use Rattle.law_traces.specs.Checks.{both}
use Rattle.law_traces.specs.Entries as entries
use Rattle.law_traces.specs.Entries.{Shown, no_entry}
use Rattle.trace_read.specs.Deeds.{part_of, passed_in}
use Rattle.trace_read.specs.declared.deeds.Part.{Part}
use Rattle.trace_read.specs.declared.deeds.Part.TheVariants.{Other, Plain, Opens, Closes}
use Rattle.trace_scripts.specs.Scripts.{action_by, shown_of}
use Rattle.trace_scripts.specs.declared.insides.Entry.{Entry}

-- the script with an event in front, inside so many operations more, from what is shown behind it inside so many
abbrev pub inside_by : Part → ℕ → Option runs.Action → (ℕ → Shown) → Shown
inside_by Other depth a more = more depth
inside_by Plain zero a more = both a (more zero)
inside_by Plain (suc depth) a more = more (suc depth)
inside_by Opens zero a more = both a (more 1)
inside_by Opens (suc depth) a more = more (suc (suc depth))
inside_by Closes zero a more = Some []
inside_by Closes (suc zero) a more = both a (more zero)
inside_by Closes (suc (suc depth)) a more = more (suc depth)

-- the script up to the exit, where the thread is inside so many operations more
unfoldable pub inside_from : Program → ℕ → List machine.Event → ℕ → Shown
inside_from p task [] depth = Some []
inside_from p task (e ∷ es) depth = inside_by (part_of task e) depth (action_by p (named_event p e)) (inside_from p task es)

-- two scripts one behind the other
abbrev pub joined : Shown → Shown → Shown
joined None more = None
joined (Some as') None = None
joined (Some as') (Some bs) = Some (as' ++ bs)

-- a script, and what is shown behind it where more may come
abbrev pub after_if : Bool → Shown → Shown → Shown
after_if true s more = joined s more
after_if false s more = s

-- what is known of an entry
abbrev pub entry_of : Program → List machine.Event → Entry → entries.Entry
entry_of p es e = record { script = shown_of p es e.script; again = e.again }

-- of an entry of a task into an operation of a unit, from the events behind it
abbrev pub known_from : Program → (task unit : ℕ) → List machine.Event → entries.Entry
known_from p task unit es = record { script = inside_from p task es 0; again = passed_in unit es }

-- of an event, and of each event of a trace
unfoldable pub entry_from : Program → machine.Event → List machine.Event → entries.Entry
entry_from p (event.Enter time task unit op values) es = known_from p task unit es
entry_from p (event.Release time task value) es = no_entry
entry_from p (event.Arrive time task value) es = no_entry
entry_from p (event.Leave time task unit op values) es = no_entry
entry_from p (event.Request time task target value) es = no_entry
entry_from p (event.Print time task value) es = no_entry
entry_from p (event.End time task used) es = no_entry
entry_from p (event.Stop time task unit priority ceiling) es = no_entry
entry_from p (event.Horizon time) es = no_entry

unfoldable pub entries_from : Program → List machine.Event → List entries.Entry
entries_from p [] = []
entries_from p (e ∷ es) = entry_from p e es ∷ entries_from p es
