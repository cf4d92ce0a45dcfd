use Rattle.std.proofs.Common.{sym, ◌∙◌, arith}
use Rattle.token_read.proofs.Shared.TokenSteps.{tokens-turn, tokens-over}
use Rattle.token_read.proofs.lexer.tokens.Goals as goal

pub tokens-preserved : goal.tokens-preserved
tokens-preserved c = record {
  fits = (omega arith, omega arith);
  read = tokens-turn c.tokens.place _ _ _ _ _ _ _ _ _ c.in-Some.ensures.cases.0 c.in_ok-token.ensures.front c.in_ok-token.ensures.len.0
      c.split_at.ensures.front c.split_at.ensures.back c.place_past-place.ensures.past c.in_ok-add.ensures.ok
      ∙ c.tokens.invariant.read;
}

pub returns : goal.returns
returns c = sym c.tokens.invariant.read ∙ tokens-over _ _ _ c.in_default.ensures.cases
