use Rattle.std.proofs.Common.{Some, ◌++◌, [], refl, sym, ap, ◌∙◌, append-nil}
use Rattle.std.specs.List.{cons_option}
use Rattle.ods_tree.specs.Trees.{flat_of, thread_of}
use Rattle.hrthood_top.proofs.SearchSteps.{name-there, no-name}
use Rattle.hrthood_top.proofs.thread_names.add_name.Goals as goal

pub returns-in-None : goal.returns-in-None
returns-in-None c =
    let ts = c.args.flat.now.threads.items in
    let none = no-name thread_of ts (flat_of c.args.flat.now) c.args.place refl (rw c.deref.ensures.value at c.in-None.ensures.lookup) in
    sym (ap (λ o. c.args.into.now.items ++ cons_option o []) none ∙ append-nil c.args.into.now.items)

pub returns-in_ok-push-in-Some : goal.returns-in_ok-push-in-Some
returns-in_ok-push-in-Some c =
    let ts = c.args.flat.now.threads.items in
    let there = name-there thread_of ts (flat_of c.args.flat.now) c.args.place c.in-Some.thread refl
    (rw c.deref.ensures.value at c.in-Some.ensures.lookup) in
    c.in_ok-push-in-Some.ensures.items
    ∙ ap (λ n. c.args.into.now.items ++ cons_option (Some n) []) c.in_ok-copy-in-Some.ensures
    ∙ sym (ap (λ o. c.args.into.now.items ++ cons_option o []) there)
