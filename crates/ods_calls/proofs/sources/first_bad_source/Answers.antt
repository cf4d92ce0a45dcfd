use Rattle.std.proofs.Common.{rules, arith, ◌≡◌, ◌∙◌, true, false, Bor, List, filter, map, ap, sym, subst}
use Rattle.std.specs.Prelude.{filter_map}
use Rattle.ods_tree.specs.Designs.{Object}
use Rattle.ods_tree.specs.Trees.{design_of}
use Rattle.ods_tree.specs.Walk.{is_terminal, objects}
use Rattle.ods_tree.specs.declared.design.Design as code
use Rattle.ods_tree.specs.declared.design.Node.{Node}
use Rattle.design_rules.specs.Lookups.{has_thread}
use Rattle.design_rules.specs.Rings.{thread_objects}
use Rattle.design_rules.specs.Rules.{Fitting}
use Rattle.design_rules.specs.Sources.{bad_sources}
use Rattle.ods_index.specs.Judging.{Tells, head_of}
use Rattle.ods_calls.specs.Reaching.{thread_of}
use Rattle.ods_calls.specs.Requested.{source_fault}
use Rattle.ods_index.specs.Walking.{standing_of}
use Rattle.ods_index.specs.declared.walk.Standing.{Standing}
use Rattle.ods_calls.proofs.SourceLaws.{none-sporadic}
use Rattle.ods_calls.proofs.sources.first_bad_source.Goals as goal

pub returns-then-not-any_sporadic : goal.returns-then-not-any_sporadic
returns-then-not-any_sporadic c =
    let y = design_of c.args.index.now.design.now in
    let walked : map standing_of c.as_slice.result.now ≡ objects y =
    ap (λ (ss : List Standing). map standing_of ss) c.as_slice.ensures.value ∙ c.requires.indexed.walked in
    let threads : map thread_of c.as_slice-2.result.now ≡ thread_objects y =
    ap (λ (ts : List (Bor Node)). map thread_of ts) c.as_slice-2.ensures.value ∙ c.in_ok-threads.ensures
    ∙ ap (λ ss. map (λ s. s.own) (filter (λ s. has_thread s.own.kind) (filter is_terminal ss))) walked in
    let none : c.any_sporadic.result ≡ false = search rules in
    ap head_of (ap (filter_map (source_fault y)) (sym threads)
    ∙ none-sporadic y (map thread_of c.as_slice-2.result.now) (sym c.any_sporadic.ensures ∙ none))

pub returns-then-all_right : goal.returns-then-all_right
returns-then-all_right c =
    let x = design_of c.in_ok-shown.shown.starts.links.now.design.now in
    let y = design_of c.args.index.now.design.now in
    let yes : c.all_right.result ≡ true = search rules in
    let all : filter_map (source_fault x) (map thread_of c.in_ok-shown.shown.threads.items) ≡ bad_sources y =
    ap (λ (os : List Object). filter_map (source_fault x) os) c.in_ok-shown.ensures.right.threads
    ∙ ap (λ (d : code.Design). filter_map (source_fault (design_of d)) (thread_objects (design_of d))) c.in_ok-shown.ensures.same in
    ap head_of (sym all ∙ c.all_right.ensures yes)

pub new-requires-clause-fits : goal.new-requires-clause-fits
new-requires-clause-fits c = c.requires.before Fitting (omega arith)

pub returns : goal.returns
returns c =
    let x = design_of c.in_ok-requests.requests.shown.starts.links.now.design.now in
    let y = design_of c.args.index.now.design.now in
    let same = c.in_ok-requests.ensures.same ∙ c.in_ok-shown.ensures.same in
    let all : filter_map (source_fault x) (map thread_of c.as_slice-3.result.now) ≡ bad_sources y =
    ap (λ (ts : List (Bor Node)). filter_map (source_fault x) (map thread_of ts)) c.as_slice-3.ensures.value
    ∙ ap (λ (os : List Object). filter_map (source_fault x) os) c.in_ok-requests.ensures.right.shown.threads
    ∙ ap (λ (d : code.Design). filter_map (source_fault (design_of d)) (thread_objects (design_of d))) same in
    subst (λ w. Tells c.targets_fit.result (head_of w)) all c.targets_fit.ensures
