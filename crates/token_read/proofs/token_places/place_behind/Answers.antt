use Rattle.std.proofs.Common.{arith, sym, ◌∙◌, ap}
use Rattle.token_read.specs.Fronts.{front_view}
use Rattle.token_read.specs.Places.{passed}
use Rattle.token_read.proofs.Shared.BehindSteps.{fault-some}
use Rattle.token_read.proofs.PlaceWalk.{place_past-parts, some-seen, walk-ends, walk-fault, walk-here, walk-turn}
use Rattle.token_read.proofs.token_places.place_behind.Goals as goal

pub returns-in_default-front_of : goal.returns-in_default-front_of
returns-in_default-front_of c found e =
    let fault = fault-some front_view c.in_default-front_of.field-0 _ c.in_default-front_of.ensures.front c.in_default-front_of.ensures.ample in
    absurd (walk-fault c.tokens.place _ _ _ c.args.bytes.now c.tokens.others c.args.before found fault.0 c.in-Some.ensures.cases.0 fault.1
    c.tokens.invariant.walk e)

pub returns-in_default-passed : goal.returns-in_default-passed
returns-in_default-passed c found e =
    let none = ap (passed c.tokens.others) (some-seen c.in-Ok.field-0.token ∙ sym c.is_some.ensures) ∙ sym c.passed.ensures ∙
    c.in_default-passed.is in
    walk-here c.tokens.place _ _ _ (front_view c.in-Ok.field-0) c.in-Some.ensures.cases.0 c.in-Ok.ensures.front c.in-Ok.ensures.len.0 c.args.bytes.now
    c.tokens.others c.args.before found none c.tokens.invariant.walk e

pub tokens-preserved : goal.tokens-preserved
tokens-preserved c =
    let next = ap (passed c.tokens.others) (some-seen c.in-Ok.field-0.token ∙ sym c.is_some.ensures) ∙ sym c.passed.ensures ∙ c.in-Some-passed.is in
    record {
      fits = (omega arith, omega arith);
      past = place_past-parts c.tokens.place _ c.tokens.left.now _ _ _ c.split_at.ensures.front c.split_at.ensures.back
          c.place_past-place.ensures.past ∙ c.tokens.invariant.past;
      walk = walk-turn c.tokens.place _ _ _ (front_view c.in-Ok.field-0) c.in-Some.ensures.cases.0 c.in-Ok.ensures.front c.in-Ok.ensures.len.0 _ _ _
          c.args.bytes.now c.tokens.others _ next c.split_at.ensures.front c.split_at.ensures.back c.place_past-place.ensures.past
          ∙ c.tokens.invariant.walk;
    }

pub returns : goal.returns
returns c found e =
    walk-ends c.tokens.place c.tokens.left.now c.args.bytes.now c.tokens.others c.args.before found c.in_default.ensures.cases c.tokens.invariant.past
    c.tokens.invariant.walk e
