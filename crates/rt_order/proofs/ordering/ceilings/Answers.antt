use Rattle.std.proofs.Common.{◌≡◌, ◌-◌, length, map, option_map, ap, sym, ◌∙◌}
use Rattle.std.proofs.lemmas.List.{length-map}
use Rattle.ods_tree.specs.Trees.{flat_of}
use Rattle.rt_order.specs.Comers.{comers_of}
use Rattle.rt_order.specs.Kept.{users_of}
use Rattle.rt_order.specs.Rises.{ceilings_within, comers, control_by, greatest}
use Rattle.rt_order.proofs.Shared.CeilingSteps.{ranks-are}
use Rattle.rt_order.proofs.ordering.ceilings.Goals as goal

pub returns : goal.returns
returns c =
    let s = c.args.sharing.now in
    let ps = c.args.threads.items in
    let kept = c.in_ok-comers.comers.items in
    let cs = map comers_of kept in
    let below = c.in_ok-below.below.items in
    let come : cs ≡ map (comers ps) (map users_of s.objects.items) =
    c.in_ok-comers.ensures ∙ ap (λ us. map (comers c.as_slice-2.result.now) (map users_of us)) c.as_slice.ensures.value
    ∙ ap (λ qs. map (comers qs) (map users_of s.objects.items)) c.as_slice-2.ensures.value in
    let low : below ≡ ceilings_within (length kept - 1) cs =
    c.in_ok-below.ensures ∙ ap (λ xs. ceilings_within (length xs - 1) (map comers_of xs)) c.as_slice-3.ensures.value in
    let rise : c.in_ok-shared.shared.items ≡ map (greatest below) cs =
    c.in_ok-shared.ensures ∙ ap (λ xs. map (greatest c.as_slice-5.result.now) (map comers_of xs)) c.as_slice-4.ensures.value
    ∙ ap (λ v. map (greatest v) cs) c.as_slice-5.ensures.value in
    let control : c.in_ok-obcs.obcs.items ≡ map (control_by below ps) (map (option_map users_of) s.controls.items) =
    c.in_ok-obcs.ensures
    ∙ ap (λ us. map (control_by c.as_slice-8.result.now c.as_slice-7.result.now) (map (option_map users_of) us)) c.as_slice-6.ensures.value
    ∙ ap (λ qs. map (control_by c.as_slice-8.result.now qs) (map (option_map users_of) s.controls.items)) c.as_slice-7.ensures.value
    ∙ ap (λ v. map (control_by v ps) (map (option_map users_of) s.controls.items)) c.as_slice-8.ensures.value in
    ranks-are (flat_of s.flat.now) ps (map users_of s.objects.items) (map (option_map users_of) s.controls.items) cs (length kept) below
    c.in_ok-shared.shared.items c.in_ok-obcs.obcs.items s.objects_are s.controls_are come (sym (length-map kept comers_of)) low rise control
