use Rattle.std.proofs.Common.{List, subst}
use Rattle.seq_tree.specs.declared.tree.Param.{Param}
use Rattle.ada_tree.specs.Spelling.{request_token}
use Rattle.token_read.specs.Ahead.{ahead}
use Rattle.token_read.specs.Readers.{fixed_at}
use Rattle.seq_read.specs.Halts.{Gives}
use Rattle.ada_read.proofs.RequestLaws.{none-left}
use Rattle.ada_read.proofs.requests.requested.Goals as goal

pub returns-in-None : goal.returns-in-None
returns-in-None c =
    let P : List Param → Type 0 = λ ps. Gives (λ r. (tt, ahead r)) c.word.result (fixed_at (request_token ps) (ahead c.args.tokens)) in
    subst P (none-left c.args.params.now c.in-None.ensures.cases) c.word.ensures.gives
