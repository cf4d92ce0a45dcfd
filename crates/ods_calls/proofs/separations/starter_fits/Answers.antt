use Rattle.std.proofs.Common.{rules, ◌≡◌, ◌≤◌, ◌∙◌, Bool, false, List, get_or, map, ap, arith, subst}
use Rattle.seq_tree.specs.Names.{Name}
use Rattle.ods_tree.specs.Designs.{Object}
use Rattle.ods_tree.specs.Trees.{design_of}
use Rattle.ods_index.specs.Judging.{Tells, head_of}
use Rattle.ods_calls.specs.Spotted.{marked, spot_in}
use Rattle.ods_calls.specs.Spreading.{reaches}
use Rattle.ods_calls.specs.Starting.{Thread}
use Rattle.ods_calls.proofs.Items.{In}
use Rattle.ods_calls.proofs.StartReach.{thread-placed}
use Rattle.ods_index.specs.Walking.{object_of}
use Rattle.design_rules.specs.Separations.{spacing}
use Rattle.ods_calls.specs.Spacings.{greatest_separation}
use Rattle.ods_calls.proofs.SpacingLaws.{none-spaced, spaced-same}
use Rattle.ods_calls.proofs.separations.starter_fits.Goals as goal

pub returns : goal.returns
returns c =
    let starts = c.args.starts.now in
    let x = design_of starts.links.now.design.now in
    let from = object_of c.args.from.now in
    let os = map (λ t. object_of t.now) c.args.threads.now in
    let reach : Name → Bool = λ n. marked c.as_slice.result.now (spot_in starts.spots (Thread n)) in
    let same : (t : Object) → In t os → reach t.name ≡ reaches x from t.name =
    λ t h. let P : List Object → Type 0 = λ l. In t l in
    let p = thread-placed x t (subst P c.requires.all h) in
    let at = starts.placed (Thread t.name) ∙ p.1 in
    ap (marked c.as_slice.result.now) at ∙ ap (λ marks. get_or marks p.0 false) c.as_slice.ensures.value ∙ c.in_ok-reached.ensures t.name p.0 at in
    subst (λ w. Tells c.targets_fit.result (head_of w)) (spaced-same reach (reaches x from) from os same) c.targets_fit.ensures

pub returns-then-greatest-spacing : goal.returns-then-greatest-spacing
returns-then-greatest-spacing c =
    let x = design_of c.args.starts.now.links.now.design.now in
    let from = object_of c.args.from.now in
    let threads = map (λ t. object_of t.now) c.args.threads.now in
    let far : c.args.greatest ≤ c.spacing.result = search rules in
    let most : greatest_separation threads ≤ spacing from = omega (arith, far, c.requires.greatest, c.spacing.ensures) in
    ap head_of (none-spaced (reaches x from) from threads most)
