use Rattle.std.proofs.Common.{◌≡◌, drop}
use Rattle.token_read.specs.Ahead.{ahead}
use Rattle.token_read.specs.Readers.{phrase_at}
use Rattle.ada_read.specs.FixedTexts.{rest_tokens}
use Rattle.ada_read.proofs.renamings.same_rest.Given as goal

-- what is left is to be the parameters that are left
abbrev pub invariant-params : goal.invariant-params
invariant-params l = phrase_at (rest_tokens (drop l.param-index l.params)) (ahead l.rest) ≡ phrase_at (rest_tokens l.params) (ahead l.fn.tokens)
