use Rattle.std.proofs.Common.{◌≡◌, ◌∙◌, List, filter, map, ap, subst}
use Rattle.ods_tree.specs.Trees.{design_of}
use Rattle.ods_tree.specs.declared.design.Node.{out-Node}
use Rattle.design_rules.specs.Rings.{thread_objects}
use Rattle.ods_index.specs.Judging.{Tells}
use Rattle.ods_calls.specs.Reaching.{reacher_of}
use Rattle.ods_calls.specs.Spotted.{spot_in}
use Rattle.ods_calls.specs.Spreading.{reaches}
use Rattle.ods_calls.specs.Starting.{Thread}
use Rattle.ods_index.specs.Walking.{object_of}
use Rattle.ods_calls.specs.declared.reacher.Reacher.{Reacher}
use Rattle.ods_calls.proofs.SourceLaws.{fault-counted, own-name, start-counted}
use Rattle.ods_calls.proofs.sources.Requests.counted_fits.Goals as goal

pub reachers_of-requires-clause-at : goal.reachers_of-requires-clause-at
reachers_of-requires-clause-at c =
    ap (λ n. spot_in c.args.self.now.shown.starts.spots (Thread n)) (own-name c.args.node.now) ∙ c.requires.at

pub source_count-sources-requires-clause-all : goal.source_count-sources-requires-clause-all
source_count-sources-requires-clause-all c =
    let x = design_of c.args.self.now.shown.starts.links.now.design.now in
    ap (λ (rs : List Reacher). map reacher_of rs) c.as_slice.ensures.value ∙ c.in_ok-reachers.ensures
    ∙ ap (λ n. filter (λ o. reaches x o n) (thread_objects x)) (own-name c.args.node.now)

pub returns : goal.returns
returns c =
    let x = design_of c.args.self.now.shown.starts.links.now.design.now in
    let o = object_of c.args.node.now in
    let name = (out-Node c.args.node.now).name in
    let all : map reacher_of c.as_slice-2.result.now ≡ filter (λ f. reaches x f name) (thread_objects x) =
    ap (λ (rs : List Reacher). map reacher_of rs) c.as_slice-2.ensures.value ∙ c.in_ok-reachers.ensures in
    let starts = c.in_ok-starts.ensures ∙ start-counted x o name (map reacher_of c.as_slice-2.result.now) all (own-name c.args.node.now) in
    subst (λ w. Tells c.counts_fit.result w)
    (fault-counted x o c.source_count-sources.result c.in_ok-starts.starts c.requires.sporadic c.source_count-sources.ensures starts)
    c.counts_fit.ensures
