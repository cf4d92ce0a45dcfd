-- The verb `sample`: the summary of what `verify` does of the design and the arrivals of a sample.
-- It reads no file and refuses nothing. The samples are this project's own.
use Rattle.std.specs.Prelude.{◌≡◌, ℕ, ◌<◌, List, [], length, take, Option, Some, ⊤}
use Rattle.ods_tree.specs.Flattening.{flat}
use Rattle.ods_tree.specs.Layout.{design_text}
use Rattle.ods_tree.specs.Ticks.{in_ticks, first_priority}
use Rattle.design_bounds.specs.Rows.{named_bounds}
use Rattle.bridge.specs.Delivers.{IsTextFor}
use Rattle.hood_io.specs.Sinks.{Appends}
use Rattle.trace_text.specs.declared.bound.NamedBound.{NamedBound}
use Rattle.trace_text.specs.Summaries.{summary}
use Rattle.sample_design.specs.Requests.{sample_arrivals}
use Rattle.sample_design.specs.Samples.{sample_design}
use Rattle.hrthood_top.specs.declared.status.Status.{Status}
use Rattle.hrthood_top.specs.declared.status.Status.TheVariants as status
use Rattle.hrthood_top.specs.Verbs.{Verb}
use Rattle.hrthood_top.specs.Verifies.{IsVerified}
use Rattle.hrthood_words.specs.Words.{Command, Sample}

-- the bounds of the text of a design, with the names of the threads
abbrev pub text_bounds : (design text : List ℕ) → IsTextFor design text → List NamedBound
text_bounds design text made = named_bounds (first_priority made.design) (flat (in_ticks made.design)) made.bounds

-- a design and an arrivals text are verified to something, of whose run this is the summary, with the bounds of its text
pub record IsSummary (design arrivals written : List ℕ) : Type 0 where
  pub verified : List ℕ
  pub run : IsVerified design arrivals verified
  pub whole : written ≡ summary run.replays.traces.program (text_bounds design run.text run.made) run.replays.told

-- the summary of the sample of so many threads
abbrev pub IsSummed : ℕ → List ℕ → Type 0
IsSummed n written = IsSummary (design_text (sample_design n)) (sample_arrivals n) written

-- how a sample of so many threads ends: its summary is written, or a proper front of it, or nothing for want of memory; it is never refused
abbrev pub SummaryEnds : ℕ → Status → Option (List ℕ) → Option (List ℕ) → Type 0
SummaryEnds n status.Done out out' = (text : List ℕ) × IsSummed n text × Appends out out' text
SummaryEnds n status.WriteFault out out' = (text : List ℕ) × IsSummed n text × (k : ℕ) × (k < length text) × Appends out out' (take k text)
SummaryEnds n status.NoMemory out out' = out' ≡ out
SummaryEnds n _ out out' = ⊥

-- so a command of a sample ends, whatever the shelf
abbrev pub EndsSample : Status → Option Command → Option (List ℕ) → Option (List ℕ) → Type 0
EndsSample ended (Some (Sample threads)) out out' = SummaryEnds threads ended out out'
EndsSample ended _ out out' = ⊤

-- the verb, which asks for nothing
abbrev pub samples : ℕ → Verb
samples n = record {
  files = [];
  Makes = λ texts written. IsSummed n written;
  Refusal = ⊥;
  Refuses = λ texts refusal. ⊥;
  line = λ refusal. [];
  Stop = ⊥;
  Stops = λ texts text stop. ⊥;
  stop_line = λ stop. [];
  CanDo = λ texts. ⊤;
}
