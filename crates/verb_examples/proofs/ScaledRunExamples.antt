-- Examples: how a run of `generate` ends over the text of a scaled design, and lines of a margin that lead back to it. Each definition holds of all
-- its parts, and without one of them it doesn't.
use Rattle.std.specs.Prelude.{◌≡◌, ℕ, suc, ◌≤◌, List, [], length, codes, Option, Some, None, refl}
use Rattle.std.proofs.Common.{arith, lit≤}
use Rattle.seq_tree.specs.Names.{Name}
use Rattle.hood_io.specs.Shelves.{Told}
use Rattle.hood_io.specs.Sinks.{Appends}
use Rattle.ods_tree.specs.Designs as designs
use Rattle.ods_tree.specs.Reading.{Reads}
use Rattle.design_rules.specs.Broken.{V15Cost}
use Rattle.ods_index.specs.Told.{told_of}
use Rattle.ods_index.specs.declared.broken.Broken as code
use Rattle.rt_response.specs.declared.rows.Miss as rows
use Rattle.law_scaling.specs.Designs.{scaled_design}
use Rattle.scaling.specs.declared.margin.Margin.{Margin}
use Rattle.scaling.specs.declared.margin.Next.TheVariants as next
use Rattle.bridge.specs.Delivers.{IsTextFor, HasLongText}
use Rattle.bridge.specs.declared.taking.Untaken.TheVariants.{Rule}
use Rattle.hrthood_words.specs.declared.verbs.DesignVerb.TheVariants.{Generate}
use Rattle.hrthood_words.specs.Words.{OnDesign, command_of}
use Rattle.hrthood_top.specs.declared.file_kind.FileKind.TheVariants.{Design}
use Rattle.hrthood_top.specs.declared.generate.GenerateRefusal.TheVariants.{Untaken, Long}
use Rattle.hrthood_top.specs.declared.status.Status.{Status}
use Rattle.hrthood_top.specs.declared.status.Status.TheVariants.{Done, Refused, Usage, ReadFault, WriteFault, NoMemory}
use Rattle.hrthood_top.specs.Ends.{Outside, Ends, TellsMessage}
use Rattle.hrthood_top.specs.Files.{limit_of}
use Rattle.hrthood_top.specs.Generates.{generate_line}
use Rattle.hrthood_top.specs.Messages.{miss_line}
use Rattle.hrthood_top.specs.Scales.{margin_lines}
use Rattle.hrthood_top.specs.ScaledRuns.{Generates, EndsWithText, EndsWithMiss, EndsWithCost, LeadsBack}
use Rattle.verb_examples.proofs.EndExamples.{start, shelf, bare}

-- WITH A TEXT
module _ (bytes : List ℕ) (u v : Outside) where
  text_made : (text : List ℕ) → Appends u.out v.out text → IsTextFor bytes text → EndsWithText bytes Done u v
  text_made text out made = (text, out, made)

  not_written : ((text : List ℕ) → Appends u.out v.out text → ⊥) → EndsWithText bytes Done u v → ⊥
  not_written never h = never h.0 h.1

  not_made : ((text : List ℕ) → Appends u.out v.out text → IsTextFor bytes text → ⊥) → EndsWithText bytes Done u v → ⊥
  not_made never h = never h.0 h.1 h.2

  too_long : HasLongText bytes → TellsMessage u v (generate_line Long) → EndsWithText bytes Refused u v
  too_long long tells = (long, tells)

  refused_short : ¬ HasLongText bytes → EndsWithText bytes Refused u v → ⊥
  refused_short never h = never h.0

  not_told : ¬ TellsMessage u v (generate_line Long) → EndsWithText bytes Refused u v → ⊥
  not_told never h = never h.1

  never_usage : EndsWithText bytes Usage u v → ⊥
  never_usage h = h

module _ (bytes : List ℕ) where
  read_fault : EndsWithText bytes ReadFault start (record start { read_faults = 1 })
  read_fault = lit≤ tt

  read_well : EndsWithText bytes ReadFault start start → ⊥
  read_well h = omega (arith, h)

  write_fault : EndsWithText bytes WriteFault start (record start { write_faults = 1 })
  write_fault = lit≤ tt

  written_well : EndsWithText bytes WriteFault start (record start { read_faults = 1 }) → ⊥
  written_well h = omega (arith, h)

  no_memory : EndsWithText bytes NoMemory start start
  no_memory = tt

-- WITH A VALUE OVER ITS LIMIT
module _ (thread : Name) (miss : rows.Miss) (u v : Outside) where
  missed : TellsMessage u v (miss_line thread miss) → EndsWithMiss thread miss Refused u v
  missed tells = tells

  other_miss : ¬ TellsMessage u v (miss_line thread miss) → EndsWithMiss thread miss Refused u v → ⊥
  other_miss never h = never h

  miss_never_done : EndsWithMiss thread miss Done u v → ⊥
  miss_never_done h = h

  -- nothing is written, so that no write fails
  miss_never_cut : EndsWithMiss thread miss WriteFault u v → ⊥
  miss_never_cut h = h

  miss_never_usage : EndsWithMiss thread miss Usage u v → ⊥
  miss_never_usage h = h

  miss_no_memory : EndsWithMiss thread miss NoMemory u v
  miss_no_memory = tt

module _ (thread : Name) (miss : rows.Miss) where
  miss_unread : EndsWithMiss thread miss ReadFault start (record start { read_faults = 1 })
  miss_unread = lit≤ tt

  miss_read : EndsWithMiss thread miss ReadFault start start → ⊥
  miss_read h = omega (arith, h)

-- WITH A COST
module _ (u v : Outside) where
  dear : (broken : code.Broken) (object : Name) (op : Option Name) → told_of broken ≡ Some (V15Cost object op)
      → TellsMessage u v (generate_line (Untaken (Rule broken))) → EndsWithCost Refused u v
  dear broken object op told tells = (broken, object, op, told, tells)

  other_rule : ((broken : code.Broken) (object : Name) (op : Option Name) → told_of broken ≡ Some (V15Cost object op) → ⊥)
      → EndsWithCost Refused u v → ⊥
  other_rule never h = never h.0 h.1 h.2 h.3

  other_line : ((broken : code.Broken) → TellsMessage u v (generate_line (Untaken (Rule broken))) → ⊥) → EndsWithCost Refused u v → ⊥
  other_line never h = never h.0 h.4

  dear_never_done : EndsWithCost Done u v → ⊥
  dear_never_done h = h

  dear_never_cut : EndsWithCost WriteFault u v → ⊥
  dear_never_cut h = h

  dear_never_usage : EndsWithCost Usage u v → ⊥
  dear_never_usage h = h

  dear_no_memory : EndsWithCost NoMemory u v
  dear_no_memory = tt

dear_unread : EndsWithCost ReadFault start (record start { read_faults = 1 })
dear_unread = lit≤ tt

dear_read : EndsWithCost ReadFault start start → ⊥
dear_read h = omega (arith, h)

-- EVERY RUN OVER THE FILE ENDS SO
module _ (bytes : List ℕ) (EndsSo : Status → Outside → Outside → Type 0) (words : List (List ℕ)) (d : List ℕ) (u v : Outside) (s : Told)
    (command : command_of words ≡ Some (OnDesign Generate d)) (told : u.told ≡ Some s) (one : s.files d ≡ Some bytes)
    (short : length bytes ≤ limit_of Design) where
  ends_so : (status : Status) → Ends status (command_of words) u v → Generates bytes EndsSo → EndsSo status u v
  ends_so status e h = h words d u v s status command e told one short

  not_where_one_ends_otherwise : (status : Status) → Ends status (command_of words) u v → (EndsSo status u v → ⊥) → Generates bytes EndsSo → ⊥
  not_where_one_ends_otherwise status e never h = never (h words d u v s status command e told one short)

-- LINES THAT LEAD BACK
module _ (written : List ℕ) (x : designs.Design) (m : Margin) where
  abbrev Within : Type 0
  Within = (k : ℕ) (more : List ℕ) → 1 ≤ k → k ≤ m.per_mille → Reads more (scaled_design k x) → Generates more (EndsWithText more)

  abbrev Beyond : Type 0
  Beyond = (thread : Name) (miss : rows.Miss) (more : List ℕ) → m.next ≡ next.Miss thread miss → Reads more (scaled_design (suc m.per_mille) x)
      → Generates more (EndsWithMiss thread miss)

  abbrev Dear : Type 0
  Dear = (name : Name) (part : Option Name) (more : List ℕ) → m.next ≡ next.Cost name part → Reads more (scaled_design (suc m.per_mille) x)
      → Generates more EndsWithCost

  leads_back : Reads (codes "ab") x → written ≡ margin_lines m → Within → Beyond → Dear
      → LeadsBack (shelf (codes "ab") (codes "c") []) (codes "d") written
  leads_back r t a b c = record {
    bytes = codes "ab";
    design_file = refl;
    design = x;
    reads = r;
    margin = m;
    told = t;
    within = a;
    beyond = b;
    dear = c;
  }

module _ (d written : List ℕ) where
  no_design_file : LeadsBack (bare []) d written → ⊥
  no_design_file h = absurd (cc h.design_file)

  module _ (t : Told) where
    unread : ((bytes : List ℕ) (x : designs.Design) → t.files d ≡ Some bytes → Reads bytes x → ⊥) → LeadsBack t d written → ⊥
    unread never h = never h.bytes h.design h.design_file h.reads

    other_lines : ((m : Margin) → written ≡ margin_lines m → ⊥) → LeadsBack t d written → ⊥
    other_lines never h = never h.margin h.told

    not_within : ((x : designs.Design) (m : Margin) → written ≡ margin_lines m
        → ((k : ℕ) (more : List ℕ) → 1 ≤ k → k ≤ m.per_mille → Reads more (scaled_design k x) → Generates more (EndsWithText more)) → ⊥)
        → LeadsBack t d written → ⊥
    not_within never h = never h.design h.margin h.told h.within

    not_beyond : ((x : designs.Design) (m : Margin) → written ≡ margin_lines m
        → ((thread : Name) (miss : rows.Miss) (more : List ℕ) → m.next ≡ next.Miss thread miss → Reads more (scaled_design (suc m.per_mille) x)
        → Generates more (EndsWithMiss thread miss)) → ⊥) → LeadsBack t d written → ⊥
    not_beyond never h = never h.design h.margin h.told h.beyond

    not_dear : ((x : designs.Design) (m : Margin) → written ≡ margin_lines m
        → ((name : Name) (part : Option Name) (more : List ℕ) → m.next ≡ next.Cost name part → Reads more (scaled_design (suc m.per_mille) x)
        → Generates more EndsWithCost) → ⊥) → LeadsBack t d written → ⊥
    not_dear never h = never h.design h.margin h.told h.dear
