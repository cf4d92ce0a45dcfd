-- What is told of a text with background objects, by a run that never sees the design.
-- The text is read as an Ada program and run under any arrivals that are accepted for that program.
use Rattle.std.specs.Prelude.{ℕ, ◌≤◌, List, length}
use Rattle.seq_tree.specs.Limits.{ada_limit}
use Rattle.seq_tree.specs.Proper.{within_limits}
use Rattle.ods_tree.specs.Designs.{Design}
use Rattle.ods_tree.specs.Words.{is_design_name}
use Rattle.ods_tree.specs.Proper.{IsProperDesign}
use Rattle.ods_tree.specs.Reading.{Reads}
use Rattle.ods_tree.specs.Ticks.{in_ticks}
use Rattle.ada_tree.specs.Programs.{Program}
use Rattle.ada_tree.specs.Reading.{Accepts}
use Rattle.arrivals_tree.specs.Arriving.{Arrivals}
use Rattle.arrivals_tree.specs.Acceptance.{IsAccepted}
use Rattle.trace_tree.specs.declared.event.Event.{Event}
use Rattle.machine.specs.Meanings.{Meaning}
use Rattle.rt_response.specs.declared.rows.Bound.{Bound}
use Rattle.rt_response.specs.Response.{Fits}
use Rattle.guarantee.specs.Events.{named}
use Rattle.guarantee.specs.Arrivals.{named_arrivals}
use Rattle.background_designs.specs.Refusals.{IsBackgroundDesign}
use Rattle.background_designs.specs.Programs.{background_program, background_text, hard_rows}
use Rattle.background_designs.specs.Runs.{PermitsBackground}

-- what is told of a text that is accepted as the program of a design, by whatever program it is accepted as
abbrev pub BackgroundReplayIsRight : ℕ → Type 0
BackgroundReplayIsRight limit =
    (x : Design) (written : List ℕ) (v : List Bound) (p : Program) (r : Arrivals) (told : List Event)
    → IsProperDesign (within_limits is_design_name) x → IsBackgroundDesign x → Fits (hard_rows (in_ticks x)) v
    → Accepts written (background_program (in_ticks x)) → Accepts written p → IsAccepted limit p r → Meaning p r told
    → PermitsBackground (in_ticks x) v (named_arrivals p r) (named p told)

-- what is told of the text of a design, by whatever program it is accepted as
abbrev pub BackgroundTextReplaysRight : ℕ → Type 0
BackgroundTextReplaysRight limit =
    (x : Design) (bytes : List ℕ) (v : List Bound) (p : Program) (r : Arrivals) (told : List Event)
    → Reads bytes x → IsBackgroundDesign x → Fits (hard_rows (in_ticks x)) v → length (background_text (in_ticks x) v) ≤ ada_limit
    → Accepts (background_text (in_ticks x) v) p → IsAccepted limit p r → Meaning p r told
    → PermitsBackground (in_ticks x) v (named_arrivals p r) (named p told)
