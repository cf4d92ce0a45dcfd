use Rattle.std.proofs.Common.{rules, arith, ◌≡◌, false, Bor, List, filter, flat_map, map, ap, sym, subst, ◌∙◌}
use Rattle.std.specs.Prelude.{filter_map, nat_lt}
use Rattle.std.specs.List.{list_any}
use Rattle.ods_tree.specs.Designs.{Object}
use Rattle.ods_tree.specs.Trees.{design_of}
use Rattle.ods_tree.specs.Walk.{is_terminal}
use Rattle.ods_tree.specs.declared.design.Node.{Node}
use Rattle.design_rules.specs.Lookups.{has_thread}
use Rattle.design_rules.specs.Rings.{thread_objects}
use Rattle.design_rules.specs.Rules.{Fitting}
use Rattle.design_rules.specs.Separations.{bad_separations, spacing}
use Rattle.ods_index.specs.Judging.{Tells, head_of}
use Rattle.ods_calls.specs.Spacings.{greatest_separation, spaced}
use Rattle.ods_calls.specs.Spreading.{reaches}
use Rattle.ods_index.specs.Walking.{object_of, standing_of}
use Rattle.ods_calls.proofs.SpacingLaws.{none-closer}
use Rattle.ods_calls.proofs.separations.first_bad_spacing.Goals as goal

pub starters_fit-requires-clause-greatest : goal.starters_fit-requires-clause-greatest
starters_fit-requires-clause-greatest c = c.greatest_separation-greatest.ensures

pub new-requires-clause-fits : goal.new-requires-clause-fits
new-requires-clause-fits c = c.requires.before Fitting (omega arith)

pub returns-then-not-any_closer : goal.returns-then-not-any_closer
returns-then-not-any_closer c =
    let y = design_of c.args.index.now.design.now in
    let threads : List Object = map (λ t. object_of t.now) c.as_slice-threads.result.now in
    let same : threads ≡ thread_objects y =
    ap (map (λ (t : Bor Node). object_of t.now)) c.as_slice-threads.ensures.value ∙ c.in_ok-nodes.ensures
    ∙ ap (λ ss. map (λ s. s.own) (filter (λ s. has_thread s.own.kind) (filter is_terminal ss)))
    (ap (map standing_of) c.as_slice.ensures.value ∙ c.requires.indexed.walked) in
    let none : c.any_closer.result ≡ false = search rules in
    let greatest : list_any (λ f. nat_lt (spacing f) (greatest_separation threads)) threads ≡ false =
    ap (λ n. list_any (λ f. nat_lt (spacing f) n) threads) (sym c.greatest_separation-greatest.ensures) ∙ sym c.any_closer.ensures ∙ none in
    ap head_of (ap (λ (ts : List Object). flat_map (λ f. filter_map (spaced (reaches y f) f) ts) ts) (sym same) ∙ none-closer y threads threads
    greatest)

pub returns : goal.returns
returns c =
    let y = design_of c.args.index.now.design.now in
    let threads : List Object = map (λ t. object_of t.now) c.as_slice-threads.result.now in
    let same : threads ≡ thread_objects y =
    ap (map (λ (t : Bor Node). object_of t.now)) c.as_slice-threads.ensures.value ∙ c.in_ok-nodes.ensures
    ∙ ap (λ ss. map (λ s. s.own) (filter (λ s. has_thread s.own.kind) (filter is_terminal ss)))
    (ap (map standing_of) c.as_slice.ensures.value ∙ c.requires.indexed.walked) in
    let all : flat_map (λ f. filter_map (spaced (reaches (design_of c.in_ok-starts.starts.links.now.design.now) f) f) threads) threads
    ≡ bad_separations y =
    ap (λ d. flat_map (λ f. filter_map (spaced (reaches (design_of d) f) f) threads) threads) c.in_ok-starts.ensures
    ∙ ap (λ (ts : List Object). flat_map (λ f. filter_map (spaced (reaches y f) f) ts) ts) same in
    subst (λ w. Tells c.starters_fit.result (head_of w)) all c.starters_fit.ensures
