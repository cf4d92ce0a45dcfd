use Rattle.std.proofs.Common.{rules, ◌≡◌, [], ◌∷◌, Err, refl}
use Rattle.ods_names.specs.Mentions.{mention_of}
use Rattle.ods_names.proofs.TakenLaws.{clash_told, clash_passed, clash_end}
use Rattle.ods_names.proofs.clashes.judge_each.Goals as goal

pub mentions-init : goal.mentions-init
mentions-init c = λ requests h. ([], h, refl)

pub mentions-preserved : goal.mentions-preserved
mentions-preserved c = λ requests h.
    let before = c.mentions.invariant requests h in (
      mention_of requests c.mention-item.result ∷ before.0,
      c.in_ok-judge_one.ensures.added requests before.0 before.1,
      clash_passed (mention_of requests) c.args.mentions.now c.mentions.mention-index c.mention-item.result before.0 _
          c.mentions-test.true c.mention-item.is before.2 (c.in_ok-judge_one.ensures.told requests before.0 before.1),
    )

pub returns-in_err-judge_one : goal.returns-in_err-judge_one
returns-in_err-judge_one c = λ requests h.
    let e = c.in_err-judge_one.field-0.0 in
    let before = c.mentions.invariant requests h in
    let result : c.from_residual.result ≡ Err e = search rules in
    rw result (clash_told (mention_of requests) c.args.mentions.now c.mentions.mention-index c.mention-item.result before.0 _ e
    c.mentions-test.true c.mention-item.is before.2 (c.in_err-judge_one.ensures.told requests before.0 before.1))

pub returns : goal.returns
returns c = λ requests h.
    let before = c.mentions.invariant requests h in
    clash_end (mention_of requests) c.args.mentions.now c.mentions.mention-index before.0 _ c.mentions-test.false before.2
