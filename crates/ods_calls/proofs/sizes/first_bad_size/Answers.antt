use Rattle.std.proofs.Common.{List, None, ◌≡◌, map, length, ap, sym, ◌∙◌}
use Rattle.std.proofs.lemmas.List.{length-map}
use Rattle.ods_tree.specs.Ticks.{stated_priorities}
use Rattle.ods_tree.specs.Trees.{design_of}
use Rattle.ods_tree.specs.Walk.{objects}
use Rattle.design_rules.specs.Broken.{V15Threads}
use Rattle.design_rules.specs.Budgets.{over_limit, thread_limit}
use Rattle.ods_calls.specs.Costed.{threads_among}
use Rattle.ods_index.specs.Judging.{head_of}
use Rattle.ods_index.specs.Walking.{standing_of}
use Rattle.ods_index.specs.declared.walk.Standing.{Standing}
use Rattle.ods_calls.proofs.SizeSteps.{sizes-told}
use Rattle.ods_calls.proofs.sizes.first_bad_size.Goals as goal

pub returns : goal.returns
returns c =
    let x = design_of c.args.index.now.design.now in
    let items = c.as_slice-objects.result.now in
    let all : map standing_of items ≡ objects x = ap (λ (vs : List Standing). map standing_of vs) c.as_slice-objects.ensures.value
    ∙ c.requires.indexed.walked in
    let count = length (threads_among (map standing_of items)) in
    let limit : thread_limit (stated_priorities x)
    ≡ c.thread_limit-limit.result = sym (c.thread_limit-limit.ensures ∙ ap thread_limit c.priorities_of.ensures) in
    let threads : head_of (over_limit (thread_limit (stated_priorities x)) count (V15Threads count)) ≡ None =
    ap (λ k. head_of (over_limit k count (V15Threads count))) limit ∙ c.in_ok-threads_fit.ensures in
    sizes-told x (design_of c.args.priced.now.links.now.design.now) (map standing_of items) (length items) c.costs_fit.result c.requires.same all
    (sym (length-map items standing_of)) threads c.in_ok-count_fits.ensures c.costs_fit.ensures
