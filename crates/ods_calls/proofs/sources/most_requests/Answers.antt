use Rattle.std.proofs.Common.{◌≡◌, ◌∷◌, ◌+◌, [], List, fold, length, map, drop, ap, sym, ◌∙◌}
use Rattle.std.proofs.lemmas.List.{drop_all}
use Rattle.std.specs.Prelude.{max, min}
use Rattle.seq_tree.proofs.Shared.LoopSteps.{drop_step}
use Rattle.ods_tree.specs.Trees.{design_of}
use Rattle.design_rules.specs.Rings.{terminal_ops}
use Rattle.design_rules.specs.Sources.{requests_by, starts_within}
use Rattle.ods_calls.specs.Reaching.{reacher_of}
use Rattle.ods_calls.specs.declared.reacher.Reacher.{Reacher}
use Rattle.ods_calls.proofs.RequestLaws.{greatest-all, greatest-more}
use Rattle.ods_calls.proofs.sources.most_requests.Goals as goal

pub reachers-preserved : goal.reachers-preserved
reachers-preserved c =
    let x = design_of c.args.links.now.design.now in
    let count = requests_by x c.args.target.now in
    let reachers = c.args.reachers.now in
    let rest = map reacher_of (drop (c.reachers.reacher-index + 1) reachers) in
    let step : drop c.reachers.reacher-index reachers ≡ c.reacher-item.result
    ∷ drop (c.reachers.reacher-index + 1) reachers = drop_step reachers c.reachers.reacher-index c.reacher-item.result c.reachers-test.true
    c.reacher-item.is in
    greatest-more count (reacher_of c.reacher-item.result) rest c.reachers.greatest c.in_ok-count.count c.max-greatest.result
    (min 2 (fold max 0 (map count (map reacher_of reachers))))
    c.max-greatest.ensures (c.in_ok-count.ensures (starts_within (length (terminal_ops x)) x c.args.target.now) c.requires) c.reachers.invariant.0
    (ap (λ (rs : List Reacher). min 2 (fold max c.reachers.greatest (map count (map reacher_of rs)))) (sym step) ∙ c.reachers.invariant.1)

pub returns : goal.returns
returns c =
    let count = requests_by (design_of c.args.links.now.design.now) c.args.target.now in
    let left : drop c.reachers.reacher-index c.args.reachers.now ≡ [] = drop_all c.reachers.reacher-index c.args.reachers.now c.reachers-test.false in
    greatest-all c.reachers.greatest _ c.reachers.invariant.0
    (ap (λ (rs : List Reacher). min 2 (fold max c.reachers.greatest (map count (map reacher_of rs)))) (sym left) ∙ c.reachers.invariant.1)
