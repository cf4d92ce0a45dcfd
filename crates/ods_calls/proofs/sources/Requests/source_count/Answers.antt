use Rattle.std.proofs.Common.{◌≡◌, ◌+◌, ◌≤◌, List, filter, length, arith, ap, sym, ◌∙◌}
use Rattle.std.proofs.lemmas.List.{length-map}
use Rattle.ods_tree.specs.Designs.{Object}
use Rattle.ods_tree.specs.Trees.{design_of}
use Rattle.design_rules.specs.Rings.{can_start, thread_objects}
use Rattle.ods_calls.specs.Reaching.{reacher_of}
use Rattle.ods_calls.specs.Spreading.{reaches}
use Rattle.ods_index.specs.Walking.{object_of}
use Rattle.ods_calls.proofs.SourceLaws.{filter-shorter, starters-counted}
use Rattle.ods_calls.proofs.sources.Requests.source_count.Goals as goal

pub sum_of-requires : goal.sum_of-requires
sum_of-requires c =
    let x = design_of c.args.self.now.shown.starts.links.now.design.now in
    let o = object_of c.args.node.now in
    let all : length c.args.reachers.now ≡ length (filter (λ f. reaches x f o.name) (thread_objects x)) =
    sym (length-map c.args.reachers.now reacher_of) ∙ ap (λ (os : List Object). length os) c.requires.all in
    let few : length (filter (λ f. reaches x f o.name) (thread_objects x)) ≤ length (thread_objects x) =
    filter-shorter (λ f. reaches x f o.name) (thread_objects x) in
    omega (arith, c.outside_count-outside.ensures.one, all, few, c.requires.right.shown.few)

pub returns : goal.returns
returns c =
    let x = design_of c.args.self.now.shown.starts.links.now.design.now in
    let o = object_of c.args.node.now in
    let all : length c.args.reachers.now ≡ length (filter (λ f. can_start x f o) (thread_objects x)) =
    sym (length-map c.args.reachers.now reacher_of) ∙ ap (λ (os : List Object). length os) c.requires.all
    ∙ starters-counted x o (thread_objects x) c.requires.sporadic in
    c.sum_of.ensures ∙ ap (λ n. n + c.outside_count-outside.result) all
    ∙ ap (λ n. length (filter (λ f. can_start x f o) (thread_objects x)) + n) c.outside_count-outside.ensures.count
