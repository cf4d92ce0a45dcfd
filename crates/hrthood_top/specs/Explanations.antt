-- The verb `explain`: what the bounds of a design are made up of, or what takes its threads over their limits.
-- The terms are those of the response equations (Audsley et al. 1993; Tindell, Burns and Wellings 1994); the lines are this project's own.
use Rattle.std.specs.Prelude.{◌≡◌, ℕ, ◌+◌, ◌-◌, ◌*◌, ◌&&◌, Bool, List, [], ◌∷◌, ◌++◌, codes, decimal, flat_map, is_some, nat_le, nat_lt}
use Rattle.std.specs.Prelude.{slice_get, take, Option, Some, None, if◌then◌else◌}
use Rattle.std.specs.List.{enumerate_from, list_all}
use Rattle.seq_tree.specs.Names.{Name}
use Rattle.ods_tree.specs.Designs as designs
use Rattle.ods_tree.specs.Flats.{Flat}
use Rattle.ods_tree.specs.Flattening.{flat}
use Rattle.ods_tree.specs.Ticks.{first_priority}
use Rattle.rt_response.specs.declared.rows.ThreadRow.{ThreadRow}
use Rattle.analysis.specs.Tables.{table}
use Rattle.design_bounds.specs.Rows.{ceiling_rows}
use Rattle.design_bounds.specs.declared.rows.CeilingRow.{CeilingRow}
use Rattle.late_response.specs.declared.reach.Reach.{Reach}
use Rattle.late_response.specs.declared.reach.Reach.TheVariants.{Solved, Beyond, Behind}
use Rattle.late_response.specs.Utilisation.{utilisation, IsPerMille}
use Rattle.explanation.specs.declared.delays.Delay.{Delay}
use Rattle.explanation.specs.declared.reasons.Blocker.{Blocker}
use Rattle.explanation.specs.declared.reasons.Late.{Late}
use Rattle.explanation.specs.declared.reasons.Reasons.{Reasons}
use Rattle.explanation.specs.declared.values.Value.{Value}
use Rattle.explanation.specs.Chains.{chain_jitter, chain_response}
use Rattle.explanation.specs.Delays.{delay_by}
use Rattle.explanation.specs.Findings.{IsFound}
use Rattle.explanation.specs.Threads.{chains, reasons_of}
use Rattle.explanation.specs.Values.{value_at}
use Rattle.bridge.specs.Taking.{IsTakenAs, RefusesTaking}
use Rattle.bridge.specs.declared.taking.Untaken.{Untaken}
use Rattle.hrthood_top.specs.Analyses.{labelled, ceiling_line}
use Rattle.hrthood_top.specs.Checks.{check_line, CanCheck}
use Rattle.hrthood_top.specs.Messages.{miss_text}
use Rattle.hrthood_top.specs.Verbs.{OfDesign, Verb, on_design}

-- NAMES AND NUMBERS OF A THREAD

-- the name of a thread, where there is one
abbrev pub name_in : Option Reasons → Name
name_in None = []
name_in (Some t) = t.name

-- that of the thread at a place
abbrev pub name_at : List Reasons → ℕ → Name
name_at ts place = name_in (slice_get ts place)

-- a thread behind a word, with its priority and its limits
abbrev pub limits_text : List ℕ → Reasons → List ℕ
limits_text word t =
    word ++ (t.name ++ (labelled (codes " priority ") t.priority ++ (labelled (codes " period ") t.row.period
    ++ labelled (codes " deadline ") t.row.deadline)))

-- its cost and its blocking
abbrev pub costs_text : ThreadRow → List ℕ
costs_text row = labelled (codes " cost ") row.cost ++ labelled (codes " blocking ") row.block

-- a jitter and a response time
abbrev pub value_text : Value → List ℕ
value_text v = labelled (codes " jitter ") v.jitter ++ labelled (codes " response ") v.response

-- a thread behind a word, and another one
abbrev pub pair_text : List ℕ → Name → Name → List ℕ
pair_text word name other = word ++ (name ++ (codes " by " ++ other))

-- THE LINES OF A THREAD

-- its bound, as `analyse` tells it
abbrev pub bound_line : Reasons → Value → List ℕ
bound_line t v =
    limits_text (codes "thread ") t ++ (labelled (codes " jitter ") v.jitter ++ (costs_text t.row ++ (labelled (codes " response ") v.response
    ++ codes "\n")))

-- what starts it, where a thread does: that thread, with its bound
abbrev pub started_by : Reasons → Name → Option Value → List ℕ
started_by t starter None = []
started_by t starter (Some v) = pair_text (codes "started ") t.name starter ++ (value_text v ++ codes "\n")

abbrev pub started_line : List Reasons → Reasons → Option ℕ → List ℕ
started_line ts t None = []
started_line ts t (Some place) = started_by t (name_at ts place) (value_at ts place)

-- what blocks it: the thread of lower priority, the operation of the object, and the ticks
abbrev pub section_text : Blocker → List ℕ
section_text b = codes " in " ++ (b.object ++ (codes "." ++ b.op))

abbrev pub blocked_line : Reasons → Option Blocker → List ℕ
blocked_line t None = []
blocked_line t (Some b) =
    pair_text (codes "blocked ") t.name b.thread ++ (section_text b ++ (labelled (codes " ticks ") t.row.block ++ codes "\n"))

-- what a thread of higher priority takes of a window of it
abbrev pub delay_text : ℕ → Delay → List ℕ
delay_text window d =
    labelled (codes " window ") window ++ (labelled (codes " activations ") d.activations ++ labelled (codes " ticks ") d.ticks)

abbrev pub delayed_line : Reasons → ℕ → Name → Delay → List ℕ
delayed_line t window other d = pair_text (codes "delayed ") t.name other ++ (delay_text window d ++ codes "\n")

abbrev pub delayed_lines : List Reasons → List Reasons → Reasons → ℕ → List ℕ
delayed_lines ts above t window = flat_map (λ o. delayed_line t window o.name (delay_by ts window o.row)) above

-- whether it keeps its limits
abbrev pub is_kept : ThreadRow → Value → Bool
is_kept row v = nat_le v.response row.deadline && nat_le (v.jitter + v.response) row.period

-- how far it is from its deadline and from its separation
abbrev pub margin_text : ℕ → ℕ → List ℕ
margin_text deadline separation = labelled (codes " deadline ") deadline ++ labelled (codes " separation ") separation

abbrev pub margin_line : List ℕ → Name → ℕ → ℕ → List ℕ
margin_line word name deadline separation = word ++ (name ++ (margin_text deadline separation ++ codes "\n"))

-- how far it is within them, or by how much it is over each
abbrev pub slack_line : Reasons → Value → List ℕ
slack_line t v =
    if is_kept t.row v then margin_line (codes "slack ") t.name (t.row.deadline - v.response) (t.row.period - (v.jitter + v.response))
    else margin_line (codes "late ") t.name (v.response - t.row.deadline) (v.jitter + v.response - t.row.period)

-- the value that is over ten times a limit, and the limit; the deadline first
abbrev pub over_text : ThreadRow → ℕ → ℕ → List ℕ
over_text row jitter response =
    if nat_lt (10 * row.deadline) response then labelled (codes " value ") response ++ labelled (codes " limit ") row.deadline
    else labelled (codes " value ") (jitter + response) ++ labelled (codes " limit ") row.period

-- a thread that is over ten times a limit in a round
abbrev pub beyond_line : Reasons → ℕ → ℕ → ℕ → List ℕ
beyond_line t round jitter response =
    limits_text (codes "beyond ") t ++ (costs_text t.row ++ (over_text t.row jitter response ++ (labelled (codes " round ") round ++ codes "\n")))

-- a thread that has no bound here since it needs that of another, which has none
abbrev pub behind_line : Reasons → Name → List ℕ
behind_line t other = limits_text (codes "behind ") t ++ (costs_text t.row ++ (codes " by " ++ (other ++ codes "\n")))

-- the lines of a thread whose bound is known: the terms of its response time, and its slack
abbrev pub bound_lines : List Reasons → List Reasons → Reasons → Value → List ℕ
bound_lines ts above t v =
    bound_line t v ++ (started_line ts t t.row.starter ++ (blocked_line t t.blocker ++ (delayed_lines ts above t v.response ++ slack_line t v)))

-- the lines of a thread, below these of higher priority
abbrev pub reach_lines : List Reasons → List Reasons → Reasons → Reach → List ℕ
reach_lines ts above t (Solved jitter response) = bound_lines ts above t (record { jitter = jitter; response = response })
reach_lines ts above t (Beyond round jitter response) = beyond_line t round jitter response ++ blocked_line t t.blocker
reach_lines ts above t (Behind starter) = behind_line t (name_at ts starter) ++ blocked_line t t.blocker

abbrev pub thread_lines : List Reasons → ℕ × Reasons → List ℕ
thread_lines ts x = reach_lines ts (take x.0 ts) x.1 x.1.reach

-- THE LINE OF A CHAIN

-- the names of threads, each behind a space
abbrev pub places_text : List Reasons → List ℕ → List ℕ
places_text ts places = flat_map (λ place. codes " " ++ name_at ts place) places

-- a chain of two threads or more, where all bounds are known: its last thread, with the jitter of the first and what the chain takes, and the
-- ones that lead to it
abbrev pub chain_text : List Reasons → ℕ → List ℕ → List ℕ
chain_text ts place starters =
    codes "chain " ++ (name_at ts place ++ (labelled (codes " jitter ") (chain_jitter ts (place ∷ starters))
    ++ (labelled (codes " response ") (chain_response ts (place ∷ starters)) ++ (codes " by" ++ (places_text ts starters ++ codes "\n")))))

abbrev pub chain_line : List Reasons → List ℕ → List ℕ
chain_line ts [] = []
chain_line ts (place ∷ []) = []
chain_line ts (place ∷ starter ∷ more) =
    if list_all (λ p. is_some (value_at ts p)) (place ∷ starter ∷ more) then chain_text ts place (starter ∷ more) else []

-- ALL LINES

-- the utilisation in per mille
abbrev pub utilisation_line : ℕ → List ℕ
utilisation_line n = labelled (codes "utilisation ") n ++ codes "\n"

-- the first value that is over its limit, where one is
abbrev pub late_line : Option Late → List ℕ
late_line None = []
late_line (Some late) = codes "miss " ++ miss_text late.thread late.miss

-- that value, the threads by priority, the chains and the ceilings
abbrev pub explained : Option Late → List Reasons → List (List ℕ) → List CeilingRow → List ℕ
explained late ts cs ceilings =
    late_line late ++ (flat_map (thread_lines ts) (enumerate_from 0 ts) ++ (flat_map (chain_line ts) cs ++ flat_map ceiling_line ceilings))

-- the utilisation in front of these lines where it is over 1000, so that no bounds can be, and else after them
abbrev pub with_utilisation : ℕ → List ℕ → List ℕ
with_utilisation n lines = if nat_lt 1000 n then utilisation_line n ++ lines else lines ++ utilisation_line n

-- the lines of a flat design whose least priority is written as this number
pub record IsToldOf (first : ℕ) (f : Flat) (lines : List ℕ) : Type 0 where
  pub late : Option Late
  pub found : List Reach
  pub per_mille : ℕ
  pub is_found : IsFound f found late
  pub is_per_mille : IsPerMille (utilisation (table f).rows) per_mille
  pub told : lines ≡ with_utilisation per_mille (explained late (reasons_of first f found) (chains (table f).rows) (ceiling_rows first f))

-- bytes of a design that meets the rules, and its lines
abbrev pub IsExplained : List ℕ → List ℕ → Type 0
IsExplained bytes lines = (x : designs.Design) × IsTakenAs bytes x × IsToldOf (first_priority x) (flat x) lines

-- what the verb makes of a design, with the refusals of `check`
abbrev pub of_explain : OfDesign
of_explain = record {
  Makes = IsExplained;
  Refusal = Untaken;
  Refuses = RefusesTaking;
  line = check_line;
  CanDo = CanCheck;
}

-- the verb
abbrev pub explains : List ℕ → Verb
explains = on_design of_explain
