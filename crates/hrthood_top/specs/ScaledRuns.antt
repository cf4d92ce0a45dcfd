-- Two runs: the first reports the margin of a design, and the second makes the Ada text of that design with its `work` scaled.
-- What `scale` reports leads back to `generate`: up to the margin the scaled design is taken within the limit of its text, and at the next per
-- mille it is refused: with the value over its limit that was reported, or for the cost of a body or a thread. Where two of them get too dear at one
-- per mille, the line of this refusal may have the other one, since `generate` looks at them in the order of writing.
use Rattle.std.specs.Prelude.{◌≡◌, ◌≤◌, ℕ, suc, List, length, Option, Some, ⊤}
use Rattle.hood_io.specs.Causes.{Rose}
use Rattle.hood_io.specs.Shelves.{Told}
use Rattle.hood_io.specs.Sinks.{Appends}
use Rattle.seq_tree.specs.Names.{Name}
use Rattle.ods_tree.specs.Designs as designs
use Rattle.ods_tree.specs.Reading.{Reads}
use Rattle.design_rules.specs.Broken.{V15Cost}
use Rattle.ods_index.specs.Told.{told_of}
use Rattle.ods_index.specs.declared.broken.Broken as code
use Rattle.rt_response.specs.declared.rows.Miss as rows
use Rattle.law_scaling.specs.Designs.{scaled_design}
use Rattle.scaling.specs.declared.margin.Margin.{Margin}
use Rattle.scaling.specs.declared.margin.Next.TheVariants as next
use Rattle.bridge.specs.Delivers.{IsTextFor, HasLongText}
use Rattle.bridge.specs.declared.taking.Untaken.TheVariants.{Rule}
use Rattle.hrthood_words.specs.declared.verbs.DesignVerb.TheVariants.{Generate}
use Rattle.hrthood_words.specs.Words.{OnDesign, command_of}
use Rattle.hrthood_top.specs.declared.file_kind.FileKind.TheVariants.{Design}
use Rattle.hrthood_top.specs.declared.generate.GenerateRefusal.TheVariants.{Untaken, Long}
use Rattle.hrthood_top.specs.declared.status.Status.{Status}
use Rattle.hrthood_top.specs.declared.status.Status.TheVariants.{Done, Refused, Usage, ReadFault, WriteFault, NoMemory}
use Rattle.hrthood_top.specs.Ends.{Outside, Ends, TellsMessage}
use Rattle.hrthood_top.specs.Files.{limit_of}
use Rattle.hrthood_top.specs.Generates.{generate_line}
use Rattle.hrthood_top.specs.Messages.{miss_line}
use Rattle.hrthood_top.specs.Scales.{margin_lines}

-- however a run of `generate` ends that has these bytes, within the limit of its files, in a file of its shelf, it ends so
abbrev pub Generates : (bytes : List ℕ) → (Status → Outside → Outside → Type 0) → Type 0
Generates bytes EndsSo =
    (words : List (List ℕ)) (d : List ℕ) (u v : Outside) (s : Told) (status : Status)
    → command_of words ≡ Some (OnDesign Generate d) → Ends status (command_of words) u v → u.told ≡ Some s
    → s.files d ≡ Some bytes → length bytes ≤ limit_of Design → EndsSo status u v

-- with a text of the design, or since the text is too long
abbrev pub EndsWithText : (bytes : List ℕ) → Status → Outside → Outside → Type 0
EndsWithText bytes Done u v = (text : List ℕ) × Appends u.out v.out text × IsTextFor bytes text
EndsWithText bytes Refused u v = HasLongText bytes × TellsMessage u v (generate_line Long)
EndsWithText bytes ReadFault u v = Rose u.read_faults v.read_faults
EndsWithText bytes WriteFault u v = Rose u.write_faults v.write_faults
EndsWithText bytes NoMemory u v = ⊤
EndsWithText bytes Usage u v = ⊥

-- with the line of a value that is over its limit
abbrev pub EndsWithMiss : (thread : Name) (miss : rows.Miss) → Status → Outside → Outside → Type 0
EndsWithMiss thread miss Done u v = ⊥
EndsWithMiss thread miss Refused u v = TellsMessage u v (miss_line thread miss)
EndsWithMiss thread miss ReadFault u v = Rose u.read_faults v.read_faults
EndsWithMiss thread miss WriteFault u v = ⊥
EndsWithMiss thread miss NoMemory u v = ⊤
EndsWithMiss thread miss Usage u v = ⊥

-- with the line of a body or a thread that costs too much
abbrev pub EndsWithCost : Status → Outside → Outside → Type 0
EndsWithCost Done u v = ⊥
EndsWithCost Refused u v =
    (broken : code.Broken) × (object : Name) × (op : Option Name) × (told_of broken ≡ Some (V15Cost object op))
    × TellsMessage u v (generate_line (Untaken (Rule broken)))
EndsWithCost ReadFault u v = Rose u.read_faults v.read_faults
EndsWithCost WriteFault u v = ⊥
EndsWithCost NoMemory u v = ⊤
EndsWithCost Usage u v = ⊥

-- lines of a margin of the design in a file of a shelf, that lead back
pub record LeadsBack (t : Told) (d written : List ℕ) : Type 0 where
  pub bytes : List ℕ
  pub design_file : t.files d ≡ Some bytes
  pub design : designs.Design
  pub reads : Reads bytes design
  pub margin : Margin
  pub told : written ≡ margin_lines margin
  pub within : (k : ℕ) (more : List ℕ) → 1 ≤ k → k ≤ margin.per_mille → Reads more (scaled_design k design)
      → Generates more (EndsWithText more)
  pub beyond : (thread : Name) (miss : rows.Miss) (more : List ℕ) → margin.next ≡ next.Miss thread miss
      → Reads more (scaled_design (suc margin.per_mille) design) → Generates more (EndsWithMiss thread miss)
  pub dear : (name : Name) (part : Option Name) (more : List ℕ) → margin.next ≡ next.Cost name part
      → Reads more (scaled_design (suc margin.per_mille) design) → Generates more EndsWithCost
