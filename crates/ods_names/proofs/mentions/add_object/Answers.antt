use Rattle.std.proofs.Common.{◌≡◌, [], ◌∷◌, ◌++◌, List, OnOk, flat_map, map, ap, sym, subst, ◌∙◌}
use Rattle.std.specs.List.{enumerate_from}
use Rattle.ods_tree.specs.Trees.{body_of, provided_of}
use Rattle.design_rules.specs.Clashes.{Mention, Single, Member, body_mentions, mention, operation_mentions, thread_mentions}
use Rattle.ods_names.specs.Mentions.{gathered}
use Rattle.ods_index.specs.Walking.{object_of}
use Rattle.ods_names.proofs.MentionSteps.{object_joined}
use Rattle.ods_names.proofs.Shared.NeedSteps.{own_name}
use Rattle.ods_index.proofs.Shared.WalkSteps.{own_fields}
use Rattle.ods_names.proofs.mentions.add_object.Goals as goal

pub returns : goal.returns
returns c =
    let place = c.args.place in
    let node = c.args.standing.now.node.now in
    let o = object_of node in
    let i = c.args.source.index.now in
    let old = gathered i c.args.into.now.items in
    let one = gathered i c.add.new.into.items in
    let two = gathered i c.add_operations.new.into.items in
    let three = gathered i c.add_data.new.into.items in
    let four = gathered i c.add_bodies.new.into.items in
    let named : one ≡ old ++ mention Single o.name ∷ [] = c.in_ok-add.ensures ∙ ap (λ n. old ++ mention Single n ∷ []) (sym (own_name node)) in
    let provided : two ≡ one ++ flat_map (operation_mentions place o) o.provides =
    c.in_ok-add_operations.ensures ∙ ap (λ ps. one ++ flat_map (operation_mentions place o) (map provided_of ps)) c.as_slice-2.ensures.value
    ∙ ap (λ x. one ++ flat_map (operation_mentions place o) x.provides) (sym (own_fields node)) in
    let kept : three ≡ two ++ map (λ d. mention (Member place) d.name) o.vars =
    c.in_ok-add_data.ensures ∙ ap (λ vs. two ++ map (λ d. mention (Member place) d.name) vs) c.as_slice-3.ensures.value
    ∙ ap (λ x. two ++ map (λ d. mention (Member place) d.name) x.vars) (sym (own_fields node)) in
    let bodied : four ≡ three ++ flat_map (body_mentions place) (enumerate_from 0 o.bodies) =
    c.in_ok-add_bodies.ensures ∙ ap (λ bs. three ++ flat_map (body_mentions place) (enumerate_from 0 (map body_of bs))) c.as_slice-4.ensures.value
    ∙ ap (λ x. three ++ flat_map (body_mentions place) (enumerate_from 0 x.bodies)) (sym (own_fields node)) in
    let P : List Mention → Type 0 = λ ms. OnOk c.add_thread.result (gathered i c.add_thread.new.into.items ≡ ms) in
    subst P (object_joined old one two three four _ _ _ _ (thread_mentions place o o.thread) named provided kept bodied) c.add_thread.ensures
