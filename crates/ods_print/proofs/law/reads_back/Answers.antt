use Rattle.ods_tree.specs.Spelling.{design_lines, design_tokens}
use Rattle.seq_print.proofs.Shared.BackLaws.{read-whole}
use Rattle.seq_print.proofs.Shared.TokenForms.{tokens-readable}
use Rattle.ods_print.proofs.Shared.PartLaws.{gives-lines, ready-lines}
use Rattle.ods_print.proofs.Shared.SoundLines.{design-sound}
use Rattle.ods_print.proofs.law.reads_back.Goals as goal

pub returns : goal.returns
returns c = record {
  reads = λ x proper ok within. record {
    within = within;
    proper = proper;
    spelled = read-whole _ _ (gives-lines (design_lines x) (ready-lines (design_lines x) (design-sound x) ok));
  };
  writable = λ text x r. tokens-readable text (design_tokens x) r.spelled;
}
