use Rattle.std.proofs.Common.{◌≡◌, ◌∷◌, ◌+◌, [], List, fold, max, min, map, drop, ap, sym, ◌∙◌}
use Rattle.std.proofs.lemmas.List.{drop_all}
use Rattle.seq_tree.proofs.Shared.LoopSteps.{drop_step}
use Rattle.ods_tree.specs.Trees.{design_of}
use Rattle.ods_calls.specs.Requested.{block_count, greatest_count, held_count, held_of}
use Rattle.ods_calls.specs.declared.bodies.Body.{Body}
use Rattle.ods_index.specs.declared.required.Required.{Required}
use Rattle.ods_calls.proofs.RequestLaws.{greatest-more, greatest-all}
use Rattle.ods_calls.proofs.requests.greatest_of.Goals as goal

pub bodies-preserved : goal.bodies-preserved
bodies-preserved c = λ inner knows.
    let x = design_of c.args.links.now.design.now in
    let count = held_count x c.args.target.now inner in
    let bodies = c.args.bodies.now in
    let rest = map held_of (drop (c.bodies.body-index + 1) bodies) in
    let step : drop c.bodies.body-index bodies ≡ c.body-item.result
    ∷ drop (c.bodies.body-index + 1) bodies = drop_step bodies c.bodies.body-index c.body-item.result c.bodies-test.true c.body-item.is in
    let was = c.bodies.invariant inner knows in
    let counted : c.in_ok-count.count ≡ min 2 (count (held_of c.body-item.result)) =
    c.in_ok-count.ensures inner knows
    ∙ ap (λ (r : Required). min 2 (block_count x c.args.target.now inner r.ops.now (held_of c.body-item.result).block)) c.deref.ensures in
    greatest-more count (held_of c.body-item.result) rest c.bodies.greatest c.in_ok-count.count c.max-greatest.result
    (min 2 (greatest_count x c.args.target.now inner (map held_of bodies)))
    c.max-greatest.ensures counted was.0
    (ap (λ (bs : List Body). min 2 (fold max c.bodies.greatest (map count (map held_of bs)))) (sym step) ∙ was.1)

pub returns : goal.returns
returns c = λ inner knows.
    let count = held_count (design_of c.args.links.now.design.now) c.args.target.now inner in
    let left : drop c.bodies.body-index c.args.bodies.now ≡ [] = drop_all c.bodies.body-index c.args.bodies.now c.bodies-test.false in
    let was = c.bodies.invariant inner knows in
    greatest-all c.bodies.greatest _ was.0
    (ap (λ (bs : List Body). min 2 (fold max c.bodies.greatest (map count (map held_of bs)))) (sym left) ∙ was.1)
