use Rattle.std.proofs.Common.{ℕ, ◌++◌, [], option_map, refl, sym, ◌∙◌, arith, length-append}
use Rattle.std.proofs.lemmas.Result.{err_from_is_err_and}
use Rattle.seq_tree.specs.Lexis.{with_token}
use Rattle.token_read.specs.Behind.{behind}
use Rattle.token_read.specs.Lexemes.{token_of}
use Rattle.token_read.proofs.Shared.TokenSteps.{tokens-over, tokens-start, tokens-turn, with_front-none}
use Rattle.token_read.proofs.Shared.BehindSteps.{fault-told, length-seen, seen-one, whole-found}
use Rattle.token_read.proofs.tokens_left.count_with_places.Goals as goal

pub tokens-init : goal.tokens-init
tokens-init c = record {
  fits = (omega arith, omega arith);
  within = omega arith;
  read = ([], refl, with_front-none _ ∙ tokens-start c.args.bytes.now);
}

pub returns-in_err-token-clause-gives : goal.returns-in_err-token-clause-gives
returns-in_err-token-clause-gives c =
    let p = err_from_is_err_and c.from_residual.result c.from_residual.ensures.1 in
    rw (p.1, p.2)
    (fault-told {X = ℕ} (λ _. behind c.args.bytes.now) c.tokens.place _ _ _ c.tokens.invariant.read.0 c.args.bytes.now c.in-Some.ensures.cases.0
    c.tokens.invariant.read.2 c.in_err-token.field-0.0 c.in_err-token.ensures.front)

pub tokens-preserved : goal.tokens-preserved
tokens-preserved c =
    let found = c.tokens.invariant.read.0 in
    let here = with_token (option_map token_of c.in_ok-token.field-0.token) c.tokens.place [] in
    let count = length-append found here in
    let one = length-seen c.in_ok-token.field-0.token c.tokens.place in
    record {
      fits = (omega arith, omega arith);
      within = omega (
        arith,
        seen-one c.in_ok-token.field-0.token,
        c.more-count.ensures,
        c.in_ok-token.ensures.len.0,
        c.split_at.ensures.back_len,
        c.tokens.invariant.within,
      );
      read = (
        found ++ here,
        (omega (arith, count, one, c.tokens.invariant.read.1)),
        tokens-turn c.tokens.place _ found _ _ _ _ _ _ _ c.in-Some.ensures.cases.0 c.in_ok-token.ensures.front c.in_ok-token.ensures.len.0
            c.split_at.ensures.front c.split_at.ensures.back c.place_past-place.ensures.past refl
            ∙ c.tokens.invariant.read.2,
      );
    }

pub returns-clause-gives : goal.returns-clause-gives
returns-clause-gives c =
    let found = c.tokens.invariant.read.0 in
    (whole-found c.args.bytes.now found (sym c.tokens.invariant.read.2 ∙ tokens-over c.tokens.place found c.tokens.left.now
    c.in_default.ensures.cases)).0

pub returns-clause-counts : goal.returns-clause-counts
returns-clause-counts c =
    let found = c.tokens.invariant.read.0 in
    c.tokens.invariant.read.1 ∙ (whole-found c.args.bytes.now found
    (sym c.tokens.invariant.read.2 ∙ tokens-over c.tokens.place found c.tokens.left.now c.in_default.ensures.cases)).1

pub returns-clause-whole : goal.returns-clause-whole
returns-clause-whole c =
    let found = c.tokens.invariant.read.0 in
    (whole-found c.args.bytes.now found (sym c.tokens.invariant.read.2 ∙ tokens-over c.tokens.place found c.tokens.left.now
    c.in_default.ensures.cases)).2
