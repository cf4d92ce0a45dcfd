-- What is wrong with the version of a design: the time of a tick, the range of priorities, and times that are no whole number of ticks.
-- The ranges are this project's own.
use Rattle.std.specs.Prelude.{ℕ, ◌*◌, ◌/◌, ◌%◌, Bool, false, not, ◌&&◌, ◌||◌, ◌==◌, List, [], ◌++◌, filter_map, nat_lt, nat_le, Option, Some}
use Rattle.std.specs.Prelude.{None, option_to_list}
use Rattle.std.specs.List.{list_any}
use Rattle.seq_tree.specs.Limits.{tick_limit, is_within}
use Rattle.ods_tree.specs.Designs.{Object, Design}
use Rattle.ods_tree.specs.Walk.{objects, only_if}
use Rattle.ods_tree.specs.Ticks.{microseconds, tick_time}
use Rattle.ods_tree.specs.declared.design.TickUnit.{TickUnit}
use Rattle.ods_tree.specs.declared.design.VersionTwo.{VersionTwo}
use Rattle.design_rules.specs.Broken.{Broken, V17Tick, V17Priorities, V17}

-- a tick that isn't 1 to 1,000,000,000 microseconds
abbrev pub bad_tick : VersionTwo → List Broken
bad_tick v = option_to_list (only_if (not (is_within 1 tick_limit (tick_time v))) V17Tick)

-- whether priorities rise, or are one, from 1 to 60
abbrev pub is_range : ℕ × ℕ → Bool
is_range range = nat_le 1 range.0 && nat_le range.0 range.1 && nat_le range.1 60

-- priorities that don't
abbrev pub bad_priorities : Option (ℕ × ℕ) → List Broken
bad_priorities None = []
bad_priorities (Some range) = option_to_list (only_if (not (is_range range)) V17Priorities)

-- whether a number of a unit is no whole number of ticks of this many microseconds, or too many ticks
abbrev pub misses_ticks : ℕ → ℕ → Option TickUnit → Bool
misses_ticks tick n None = false
misses_ticks tick n (Some unit) =
    not ((n * microseconds unit) % tick == 0) || nat_lt 4294967295 ((n * microseconds unit) / tick)

-- whether an attribute of an object does
abbrev pub breaks_ticks : ℕ → Object → Bool
breaks_ticks tick o = list_any (λ a. misses_ticks tick a.value a.unit) o.attrs

-- what is wrong with a version: the tick, then the priorities, then the objects
abbrev pub bad_version : Option VersionTwo → Design → List Broken
bad_version None x = []
bad_version (Some v) x =
    bad_tick v ++ (bad_priorities v.priorities
    ++ filter_map (λ s. only_if (breaks_ticks (tick_time v) s.own) (V17 s.own.name)) (objects x))

-- what is wrong with the version of a design
abbrev pub version_faults : Design → List Broken
version_faults x = bad_version x.version x
