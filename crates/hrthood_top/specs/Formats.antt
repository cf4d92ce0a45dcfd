-- The verb `format`: the text of a design, printed again. The rules are not checked.
-- The layout is this project's own.
use Rattle.std.specs.Prelude.{◌≡◌, ℕ, ◌≤◌, List, length}
use Rattle.seq_tree.specs.Limits.{text_limit}
use Rattle.ods_tree.specs.Designs as designs
use Rattle.ods_tree.specs.Layout.{design_text}
use Rattle.ods_tree.specs.Reading.{Reads}
use Rattle.ods_read.specs.Answers.{Faults}
use Rattle.hrthood_top.specs.declared.file_kind.FileKind.TheVariants.{Design}
use Rattle.hrthood_top.specs.declared.format.FormatRefusal.{FormatRefusal}
use Rattle.hrthood_top.specs.declared.format.FormatRefusal.TheVariants.{Text}
use Rattle.hrthood_top.specs.Messages.{text_line}
use Rattle.hrthood_top.specs.Verbs.{OfDesign, Verb, on_design}

-- bytes of a design, and its text as it is laid out, which reads as the same design within the limit of bytes
pub record IsFormatted (bytes text : List ℕ) : Type 0 where
  pub design : designs.Design
  pub reads : Reads bytes design
  pub text_is : text ≡ design_text design
  pub again : length text ≤ text_limit → Reads text design

-- why a design is not printed
abbrev pub RefusesFormat : List ℕ → FormatRefusal → Type 0
RefusesFormat bytes (Text fault) = Faults bytes fault

-- the line that tells it
abbrev pub format_line : FormatRefusal → List ℕ
format_line (Text fault) = text_line Design fault

-- what the verb makes of a design; all bytes of a design can be printed
abbrev pub of_format : OfDesign
of_format = record {
  Makes = IsFormatted;
  Refusal = FormatRefusal;
  Refuses = RefusesFormat;
  line = format_line;
  CanDo = λ bytes. (x : designs.Design) × Reads bytes x;
}

-- the verb
abbrev pub formats : List ℕ → Verb
formats = on_design of_format
