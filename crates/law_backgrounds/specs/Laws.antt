-- What is promised of designs with background objects: their hard part is sound, their program can be read, and each of its runs is right.
-- Bounds are for the hard threads alone, with the sections of clients in their blocking (Sha, Rajkumar and Lehoczky 1990).
use Rattle.std.specs.Prelude.{◌≡◌, ◌↔◌, ℕ, ◌-◌, ◌≤◌, true, List, [], map, filter, flat_map, length, slice_get, Some, Ok}
use Rattle.seq_tree.specs.Limits.{ada_limit}
use Rattle.seq_tree.specs.Lexis.{tokens, plain}
use Rattle.seq_tree.specs.Proper.{within_limits}
use Rattle.ods_tree.specs.Designs.{Design}
use Rattle.ods_tree.specs.Words.{is_design_name}
use Rattle.ods_tree.specs.Proper.{IsProperDesign}
use Rattle.ods_tree.specs.Ticks.{in_ticks}
use Rattle.ods_tree.specs.Flattening.{flat}
use Rattle.ods_tree.specs.Flats.{Cyclic, Thread, Flat}
use Rattle.ods_tree.specs.Services.{flat_services}
use Rattle.ada_tree.specs.Programs.{Program}
use Rattle.ada_tree.specs.Spelling.{program_tokens}
use Rattle.ada_tree.specs.Rules as programs
use Rattle.design_rules.specs.Rings.{thread_objects, can_start}
use Rattle.design_rules.specs.Rules.{MeetsRules}
use Rattle.arrivals_tree.specs.Arriving.{Arrivals}
use Rattle.arrivals_tree.specs.Acceptance.{IsAccepted}
use Rattle.trace_tree.specs.declared.event.Event.{Event}
use Rattle.machine.specs.Meanings.{Meaning}
use Rattle.rt_response.specs.declared.rows.Bound.{Bound}
use Rattle.rt_response.specs.Response.{Fits}
use Rattle.rt_response.specs.Tables.{IsTable}
use Rattle.analysis.specs.Sound.{IsSound}
use Rattle.analysis.specs.Starts.{can_request}
use Rattle.analysis.specs.Priorities.{priorities_of}
use Rattle.analysis.specs.Tables.{table, starter_of}
use Rattle.guarantee.specs.Software.{Task}
use Rattle.guarantee.specs.Events.{named}
use Rattle.guarantee.specs.Arrivals.{named_arrivals, KeepsSeparations}
use Rattle.guarantee.specs.Programs.{text}
use Rattle.guarantee.specs.MachineLaw.{NeverStops, IsReadable}
use Rattle.law_releases.specs.Laws.{IsTask}
use Rattle.background_designs.specs.Clients.{clients}
use Rattle.background_designs.specs.HardParts.{hard_object, hard_part}
use Rattle.background_designs.specs.Misfits.{Misfit, A6, is_sporadic, slow_threads, requesting_clients}
use Rattle.background_designs.specs.Refusals.{Hard, Fault, Passes, IsBackgroundDesign, IsFirstFault}
use Rattle.background_designs.specs.Programs.{background_program, background_text, hard_rows}
use Rattle.background_designs.specs.Turns.{IsRestless}
use Rattle.background_designs.specs.Runs.{PermitsBackground, IsRightInBackground, IsGuaranteedInBackground}

-- in every run without a stop, each cyclic task of offset 0 and period 1 is released at 0, and again at each instant at which it ends
abbrev pub RestlessTasksReturnAtOnce : ℕ → Type 0
RestlessTasksReturnAtOnce limit =
    (p : Program) (r : Arrivals) (trace : List Event) (t : Task) → programs.MeetsRules p → IsAccepted limit p r → Meaning p r trace
    → NeverStops (named p trace) → IsTask p t → t.timing ≡ Cyclic 1 0 → IsRestless (named p trace) t.name

-- one fault of a design comes first, and none where the design passes all steps
abbrev pub FaultsAreOne : Type 0
FaultsAreOne = ((x : Design) (a b : Fault) → IsFirstFault x a → IsFirstFault x b → a ≡ b)
    × ((x : Design) (a : Fault) → IsFirstFault x a → IsBackgroundDesign x → ⊥)

-- the hard part of a design in ticks is in ticks
abbrev pub HardPartsAreInTicks : Type 0
HardPartsAreInTicks = (x : Design) → in_ticks (hard_part (in_ticks x)) ≡ hard_part (in_ticks x)

-- the flat design of the hard part is sound
abbrev pub HardPartsAreSound : Type 0
HardPartsAreSound = (x : Design) → IsBackgroundDesign x → IsSound (flat (hard_part (in_ticks x)))

-- in a sound flat design a thread can request a sporadic one exactly where its row is the starter of the other's
abbrev pub RequestsAreByRows : Type 0
RequestsAreByRows =
    (f : Flat) → IsSound f → (at q k : ℕ) (t s : Thread) → slice_get f.threads at ≡ Some t → slice_get (priorities_of f) at ≡ Some q
    → slice_get f.threads k ≡ Some s → is_sporadic s.timing ≡ true
    → (can_request (flat_services f) s.name t.block ≡ true) ↔ (starter_of f (priorities_of f) s.name s.timing ≡ Some (length (priorities_of f) - q))

-- the requests that clients can make, by the tree of the hard part: of each client, those of the sporadic objects that its thread can start
abbrev pub client_starts : Design → List Misfit
client_starts x =
    flat_map (λ c. map (λ t. A6 c.name t.name) (filter (can_start (hard_part x) (hard_object c)) (thread_objects (hard_part x)))) (clients x)

-- where requests by clients are tried, those of the flat design of the hard part are those of its tree
abbrev pub RequestsAreByTree : Type 0
RequestsAreByTree = (x : Design) → Passes x (in_ticks x) Hard → requesting_clients (in_ticks x) ≡ client_starts (in_ticks x)

-- the rows of the hard threads are a table of their own
abbrev pub HardRowsAreTables : Type 0
HardRowsAreTables =
    (x : Design) → IsProperDesign (within_limits is_design_name) x → IsBackgroundDesign x → IsTable (hard_rows (in_ticks x))

-- the program can be read
abbrev pub BackgroundProgramsAreReadable : Type 0
BackgroundProgramsAreReadable =
    (x : Design) → IsProperDesign (within_limits is_design_name) x → IsBackgroundDesign x → IsReadable (background_program (in_ticks x))

-- every run of the program is right, for all arrivals that keep the separations of the hard part
abbrev pub BackgroundDesignsAreRight : ℕ → Type 0
BackgroundDesignsAreRight limit =
    (x : Design) (v : List Bound) → IsProperDesign (within_limits is_design_name) x → IsBackgroundDesign x → Fits (hard_rows (in_ticks x)) v
    → (r : Arrivals) → KeepsSeparations limit (hard_part (in_ticks x)) (named_arrivals (background_program (in_ticks x)) r)
    → IsRightInBackground (in_ticks x) v r

-- what is told of the program under accepted arrivals is permitted
abbrev pub BackgroundReplaysAreRight : ℕ → Type 0
BackgroundReplaysAreRight limit =
    (x : Design) (v : List Bound) (r : Arrivals) (told : List Event) → IsProperDesign (within_limits is_design_name) x → IsBackgroundDesign x
    → Fits (hard_rows (in_ticks x)) v
    → IsAccepted limit (background_program (in_ticks x)) r → Meaning (background_program (in_ticks x)) r told
    → PermitsBackground (in_ticks x) v (named_arrivals (background_program (in_ticks x)) r) (named (background_program (in_ticks x)) told)

-- a text with the tokens of the program is guaranteed
abbrev pub BackgroundTokensAreGuaranteed : ℕ → Type 0
BackgroundTokensAreGuaranteed limit =
    (x : Design) (text : List ℕ) (v : List Bound) → IsProperDesign (within_limits is_design_name) x → IsBackgroundDesign x
    → Fits (hard_rows (in_ticks x)) v
    → length text ≤ ada_limit → plain (tokens text) ≡ Ok (program_tokens (background_program (in_ticks x)))
    → IsGuaranteedInBackground limit (in_ticks x) text v

-- a design that meets the rules has no background objects: its hard part, its rows and its text are its own
abbrev pub OwnTextsAreKept : Type 0
OwnTextsAreKept =
    (x : Design) (v : List Bound) → MeetsRules x
    → (hard_part (in_ticks x) ≡ in_ticks x) × (hard_rows (in_ticks x) ≡ (table (flat (in_ticks x))).rows)
    × (background_text (in_ticks x) v ≡ text (in_ticks x) v)

-- and it passes all steps where no thread has the deadline of clients
abbrev pub OwnDesignsPass : Type 0
OwnDesignsPass = (x : Design) → MeetsRules x → slow_threads (in_ticks x) ≡ [] → IsBackgroundDesign x
