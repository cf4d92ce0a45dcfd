-- The next release of a cyclic unit, where all before were as they should be.
-- Times are in ticks.
use Rattle.std.specs.Prelude.{ℕ, ◌+◌, ◌==◌, ◌&&◌, List, nat_le, slice_get, Option, Some, None, if◌then◌else◌}
use Rattle.seq_tree.specs.Lists.{change}
use Rattle.ada_tree.specs.Programs.{Program, Unit, Form, Passive, Shared, Cyclic, Sporadic}
use Rattle.trace_tree.specs.declared.event.Event.{Event}
use Rattle.trace_tree.specs.declared.event.Event.TheVariants.{Release}
use Rattle.law_walks.specs.Walks.{same_value}

-- the first release
abbrev pub first_release : Form → Option ℕ
first_release (Passive ops) = None
first_release (Shared ceiling vars ops) = None
first_release (Cyclic priority offset period vars block) = Some offset
first_release (Sporadic priority ceiling op separation jitter external vars block) = None

-- the release behind one at a time with a value
abbrev pub next_after : ℕ → ℕ → Option ℕ → ℕ → Option ℕ → Option ℕ
next_after period until None time value = None
next_after period until (Some next) time value = if nat_le next until && (time == next) && same_value value None then Some (next + period) else None

-- the releases that are next behind an event
abbrev pub nexts_by : ℕ → Form → List (Option ℕ) → ℕ → ℕ → Option ℕ → List (Option ℕ)
nexts_by until (Passive ops) nexts time task value = nexts
nexts_by until (Shared ceiling vars ops) nexts time task value = nexts
nexts_by until (Cyclic priority offset period vars block) nexts time task value = change task (λ next. next_after period until next time value) nexts
nexts_by until (Sporadic priority ceiling op separation jitter external vars block) nexts time task value = nexts

abbrev pub nexts_at : ℕ → Option Unit → List (Option ℕ) → ℕ → ℕ → Option ℕ → List (Option ℕ)
nexts_at until None nexts time task value = nexts
nexts_at until (Some u) nexts time task value = nexts_by until u.form nexts time task value

abbrev pub nexts_after : Program → ℕ → List (Option ℕ) → Event → List (Option ℕ)
nexts_after p until nexts (Release time task value) = nexts_at until (slice_get p.units task) nexts time task value
nexts_after p until nexts _ = nexts
