use Rattle.seq_print.proofs.Shared.TokenForms.{tokens-readable}
use Rattle.seq_print.proofs.law.tokens_are_readable.Goals as goal

pub returns : goal.returns
returns c text found e = tokens-readable text found e
