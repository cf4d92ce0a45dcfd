-- What is told by the program that a text is accepted as, where the text is that of a design with background objects.
use Rattle.std.proofs.Common.{◌≡◌, ℕ, ◌≤◌, List, length, subst}
use Rattle.seq_tree.specs.Limits.{ada_limit}
use Rattle.seq_tree.specs.Proper.{within_limits}
use Rattle.ods_tree.specs.Designs.{Design}
use Rattle.ods_tree.specs.Words.{is_design_name}
use Rattle.ods_tree.specs.Proper.{IsProperDesign}
use Rattle.ods_tree.specs.Reading.{Reads}
use Rattle.ods_tree.specs.Spelling.{design_tokens}
use Rattle.seq_print.proofs.Shared.TokenForms.{tokens-readable}
use Rattle.ods_tree.specs.Ticks.{in_ticks}
use Rattle.ada_tree.specs.Programs.{Program}
use Rattle.ada_tree.specs.Reading.{Accepts}
use Rattle.arrivals_tree.specs.Arriving.{Arrivals}
use Rattle.arrivals_tree.specs.Acceptance.{IsAccepted}
use Rattle.trace_tree.specs.declared.event.Event.{Event}
use Rattle.machine.specs.Meanings.{Meaning}
use Rattle.rt_response.specs.declared.rows.Bound.{Bound}
use Rattle.rt_response.specs.Response.{Fits}
use Rattle.guarantee.specs.Events.{named}
use Rattle.guarantee.specs.Arrivals.{named_arrivals}
use Rattle.law_replays.proofs.Shared.OneProgram.{one_program}
use Rattle.background_designs.specs.Refusals.{IsBackgroundDesign}
use Rattle.background_designs.specs.Programs.{background_program, background_text, hard_rows}
use Rattle.background_designs.specs.Runs.{PermitsBackground}
use Rattle.law_backgrounds.proofs.Shared.BackgroundRuns.{permitted}
use Rattle.law_backgrounds.proofs.Shared.BackgroundTexts.{text-guaranteed}

pub right-replay : (limit : ℕ) (x : Design) (written : List ℕ) (v : List Bound) (p : Program) (r : Arrivals) (told : List Event)
    → IsProperDesign (within_limits is_design_name) x → IsBackgroundDesign x → Fits (hard_rows (in_ticks x)) v
    → Accepts written (background_program (in_ticks x)) → Accepts written p → IsAccepted limit p r → Meaning p r told
    → PermitsBackground (in_ticks x) v (named_arrivals p r) (named p told)
right-replay limit x written v p r told proper passes fits own accepts =
    let same : background_program (in_ticks x) ≡ p = one_program written (background_program (in_ticks x)) p own accepts in
    let P : Program → Type 0 = λ q. IsAccepted limit q r → Meaning q r told
    → PermitsBackground (in_ticks x) v (named_arrivals q r) (named q told) in
    subst P same (λ accepted means. permitted limit x proper passes v fits r accepted told means)

pub right-text : (limit : ℕ) (x : Design) (bytes : List ℕ) (v : List Bound) (p : Program) (r : Arrivals) (told : List Event) → Reads bytes x
    → IsBackgroundDesign x → Fits (hard_rows (in_ticks x)) v → length (background_text (in_ticks x) v) ≤ ada_limit
    → Accepts (background_text (in_ticks x) v) p → IsAccepted limit p r → Meaning p r told
    → PermitsBackground (in_ticks x) v (named_arrivals p r) (named p told)
right-text limit x bytes v p r told reads passes fits short =
    right-replay limit x (background_text (in_ticks x) v) v p r told reads.proper passes fits
    (text-guaranteed x reads.proper (tokens-readable bytes (design_tokens x) reads.spelled) passes v fits limit short).reads
