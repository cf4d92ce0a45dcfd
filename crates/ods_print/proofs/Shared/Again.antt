-- The text of a design that was read reads as the same design again, within the limit of bytes.
use Rattle.std.proofs.Common.{ℕ, ◌≤◌, List, length}
use Rattle.seq_tree.specs.Limits.{text_limit}
use Rattle.ods_tree.specs.Designs.{Design}
use Rattle.ods_tree.specs.Layout.{design_text}
use Rattle.ods_tree.specs.Reading.{Reads}
use Rattle.ods_tree.specs.Spelling.{design_lines, design_tokens}
use Rattle.seq_print.proofs.Shared.BackLaws.{read-whole}
use Rattle.seq_print.proofs.Shared.TokenForms.{tokens-readable}
use Rattle.ods_print.proofs.Shared.PartLaws.{gives-lines, ready-lines}
use Rattle.ods_print.proofs.Shared.SoundLines.{design-sound}

pub reads-again : (text : List ℕ) (x : Design) → Reads text x → length (design_text x) ≤ text_limit → Reads (design_text x) x
reads-again text x r within = record {
  within = within;
  proper = r.proper;
  spelled = read-whole _ _ (gives-lines (design_lines x) (ready-lines (design_lines x) (design-sound x)
      (tokens-readable text (design_tokens x) r.spelled)));
}
