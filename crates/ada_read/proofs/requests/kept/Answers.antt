use Rattle.std.proofs.Common.{List, [], ◌∷◌, subst}
use Rattle.seq_tree.specs.declared.tree.Param.{Param}
use Rattle.ada_tree.specs.Spelling.{kept_token}
use Rattle.token_read.specs.Ahead.{ahead}
use Rattle.token_read.specs.Readers.{phrase_at}
use Rattle.seq_read.specs.Halts.{Gives}
use Rattle.ada_read.specs.FixedTexts.{fixed_tokens}
use Rattle.ada_read.proofs.RequestLaws.{none-left}
use Rattle.ada_read.proofs.requests.kept.Goals as goal

pub returns-in-None : goal.returns-in-None
unfolding fixed_tokens
returns-in-None c =
    let P : List Param → Type 0 = λ ps. Gives (λ r. (tt, ahead r)) c.fixed.result (phrase_at (kept_token ps ∷ []) (ahead c.args.tokens)) in
    subst P (none-left c.args.params.now c.in-None.ensures.cases) c.fixed.ensures
