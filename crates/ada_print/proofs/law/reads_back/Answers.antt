use Rattle.std.proofs.Common.{[], refl}
use Rattle.ada_tree.specs.Spelling.{program_lines, program_tokens}
use Rattle.seq_print.proofs.Shared.BackLaws.{reads-back}
use Rattle.seq_print.proofs.Shared.TokenForms.{tokens-readable}
use Rattle.ada_print.proofs.Shared.ApartLines.{program-ok}
use Rattle.ada_print.proofs.law.reads_back.Goals as goal

pub returns : goal.returns
returns c = record {
  reads = λ p proper ok within. record { within = within; proper = proper; spelled = reads-back (program_lines p) [] (program-ok p ok) refl };
  tokens = λ p comments ok are. reads-back (program_lines p) comments (program-ok p ok) are;
  writable = λ text p r. tokens-readable text (program_tokens p) r.spelled;
}
