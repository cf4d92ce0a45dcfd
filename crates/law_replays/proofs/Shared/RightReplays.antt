-- What is told by the program that a text is accepted as, where the text is that of a design.
use Rattle.std.proofs.Common.{◌≡◌, ℕ, ◌≤◌, List, length, subst}
use Rattle.seq_tree.specs.Limits.{ada_limit}
use Rattle.seq_tree.specs.Proper.{within_limits}
use Rattle.ods_tree.specs.Designs.{Design}
use Rattle.ods_tree.specs.Flattening.{flat}
use Rattle.ods_tree.specs.Proper.{IsProperDesign}
use Rattle.ods_tree.specs.Reading.{Reads}
use Rattle.ods_tree.specs.Ticks.{in_ticks}
use Rattle.ods_tree.specs.Words.{is_design_name}
use Rattle.design_rules.specs.Rules.{MeetsRules}
use Rattle.ada_tree.specs.Programs.{Program}
use Rattle.ada_tree.specs.Reading.{Accepts}
use Rattle.arrivals_tree.specs.Arriving.{Arrivals}
use Rattle.arrivals_tree.specs.Acceptance.{IsAccepted}
use Rattle.trace_tree.specs.declared.event.Event.{Event}
use Rattle.machine.specs.Meanings.{Meaning}
use Rattle.rt_response.specs.declared.rows.Bound.{Bound}
use Rattle.rt_response.specs.Response.{Fits}
use Rattle.analysis.specs.Priorities.{priorities_of}
use Rattle.analysis.specs.Tables.{table_for, table}
use Rattle.guarantee.specs.Events.{named}
use Rattle.guarantee.specs.Arrivals.{named_arrivals}
use Rattle.guarantee.specs.Allowed.{Allows}
use Rattle.guarantee.specs.Bounded.{IsBounded}
use Rattle.guarantee.specs.Programs.{program, responses, text}
use Rattle.law_chain_bounds.specs.Served.{Serves, ServesBy}
use Rattle.law_chain_bounds.proofs.Shared.DesignService.{ranked-designs-serve}
use Rattle.law_designs.specs.Rankings.{IsRanking, program_by, responses_by}
use Rattle.law_designs.proofs.Shared.PriorityPlaces.{deadline-ranking}
use Rattle.law_runs.proofs.Shared.RankedRuns.{ranked-replays-are-right}
use Rattle.law_texts.specs.Ranked.{text_by}
use Rattle.law_texts.proofs.Shared.RankedTexts.{ranked-accepted}
use Rattle.law_texts.proofs.Shared.WrittenTexts.{text-accepted}
use Rattle.law_replays.proofs.Shared.OneProgram.{one_program}

-- a trace of a program under arrivals that a design allows, in ticks, within these bounds by a ranking
abbrev IsRightBy : Design → List ℕ → List Bound → Program → Arrivals → List Event → Type 0
IsRightBy x ps v p r told =
    Allows (in_ticks x) (named_arrivals p r) (named p told) × IsBounded (responses_by (flat (in_ticks x)) ps v) r.until (named p told)

-- within these bounds by deadline-monotonic priorities
abbrev IsRight : Design → List Bound → Program → Arrivals → List Event → Type 0
IsRight x v p r told = Allows (in_ticks x) (named_arrivals p r) (named p told) × IsBounded (responses (flat (in_ticks x)) v) r.until (named p told)

pub right-replay-by : (limit : ℕ) (x : Design) (ps : List ℕ) (written : List ℕ) (v : List Bound) (p : Program) (r : Arrivals) (told : List Event)
    → IsProperDesign (within_limits is_design_name) x
    → MeetsRules x → IsRanking (flat (in_ticks x)) ps → Fits (table_for (flat (in_ticks x)) ps).rows v → Accepts written (program_by (in_ticks x) ps)
    → Accepts written p → IsAccepted limit p r
    → Meaning p r told → IsRightBy x ps v p r told
right-replay-by limit x ps written v p r told proper meets ranking fits own accepts =
    let same : program_by (in_ticks x) ps ≡ p = one_program written (program_by (in_ticks x) ps) p own accepts in
    let P : Program → Type 0 = λ q. IsAccepted limit q r → Meaning q r told → IsRightBy x ps v q r told in
    subst P same (ranked-replays-are-right limit x ps v r told proper meets ranking fits)

pub right-replay : (limit : ℕ) (x : Design) (written : List ℕ) (v : List Bound) (p : Program) (r : Arrivals) (told : List Event)
    → IsProperDesign (within_limits is_design_name) x
    → MeetsRules x → Fits (table (flat (in_ticks x))).rows v → Accepts written (program (in_ticks x)) → Accepts written p → IsAccepted limit p r
    → Meaning p r told → IsRight x v p r told
right-replay limit x written v p r told proper meets fits own accepts =
    let f = flat (in_ticks x) in
    right-replay-by limit x (priorities_of f) written v p r told proper meets (deadline-ranking f) fits own accepts

pub served-replay-by : (limit : ℕ) (x : Design) (ps : List ℕ) (written : List ℕ) (v : List Bound) (p : Program) (r : Arrivals) (told : List Event)
    → IsProperDesign (within_limits is_design_name) x
    → MeetsRules x → IsRanking (flat (in_ticks x)) ps → Fits (table_for (flat (in_ticks x)) ps).rows v → Accepts written (program_by (in_ticks x) ps)
    → Accepts written p → IsAccepted limit p r
    → Meaning p r told → ServesBy (in_ticks x) ps v r.until (named p told)
served-replay-by limit x ps written v p r told proper meets ranking fits own accepts =
    let same : program_by (in_ticks x) ps ≡ p = one_program written (program_by (in_ticks x) ps) p own accepts in
    let P : Program → Type 0 = λ q. IsAccepted limit q r → Meaning q r told → ServesBy (in_ticks x) ps v r.until (named q told) in
    subst P same (ranked-designs-serve limit x ps v r told proper meets ranking fits)

pub served-replay : (limit : ℕ) (x : Design) (written : List ℕ) (v : List Bound) (p : Program) (r : Arrivals) (told : List Event)
    → IsProperDesign (within_limits is_design_name) x
    → MeetsRules x → Fits (table (flat (in_ticks x))).rows v → Accepts written (program (in_ticks x)) → Accepts written p → IsAccepted limit p r
    → Meaning p r told → Serves (in_ticks x) v r.until (named p told)
served-replay limit x written v p r told proper meets fits own accepts =
    let f = flat (in_ticks x) in
    served-replay-by limit x (priorities_of f) written v p r told proper meets (deadline-ranking f) fits own accepts

pub right-generated : (limit : ℕ) (x : Design) (bytes : List ℕ) (v : List Bound) (p : Program) (r : Arrivals) (told : List Event) → Reads bytes x
    → MeetsRules x
    → Fits (table (flat (in_ticks x))).rows v → length (text (in_ticks x) v) ≤ ada_limit → Accepts (text (in_ticks x) v) p → IsAccepted limit p r
    → Meaning p r told → IsRight x v p r told
right-generated limit x bytes v p r told reads meets fits short =
    right-replay limit x (text (in_ticks x) v) v p r told reads.proper meets fits (text-accepted x bytes reads meets v fits short)

-- the text of a design by a ranking
pub right-arranged : (limit : ℕ) (x : Design) (bytes : List ℕ) (ps : List ℕ) (v : List Bound) (p : Program) (r : Arrivals) (told : List Event)
    → Reads bytes x → MeetsRules x → IsRanking (flat (in_ticks x)) ps
    → Fits (table_for (flat (in_ticks x)) ps).rows v → length (text_by (in_ticks x) ps v) ≤ ada_limit → Accepts (text_by (in_ticks x) ps v) p
    → IsAccepted limit p r
    → Meaning p r told → IsRightBy x ps v p r told
right-arranged limit x bytes ps v p r told reads meets ranking fits short =
    right-replay-by limit x ps (text_by (in_ticks x) ps v) v p r told reads.proper meets ranking fits
    (ranked-accepted x bytes reads meets ps ranking v fits short)
