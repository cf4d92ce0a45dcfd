use Rattle.std.proofs.Common.{◌≡◌, ◌++◌, map, flat_map, ap, ◌∙◌, append_assoc}
use Rattle.ods_tree.specs.Trees.{flat_of, guarded_of, library_of, thread_of}
use Rattle.call_graph.specs.Entries.{entry_at}
use Rattle.rt_block.specs.Entries.{asked_entries, plain_entries, protected_entries}
use Rattle.rt_block.proofs.EntryLaws.{entries-are}
use Rattle.rt_block.proofs.services.services_of.Goals as goal

pub returns : goal.returns
returns c =
    let f = flat_of c.args.flat.now in
    let ls = flat_map plain_entries f.passive in
    let gs = flat_map protected_entries f.shared in
    let first : map entry_at c.add_libraries.new.into.items ≡ ls =
    c.in_ok-add_libraries.ensures ∙ ap (λ xs. map entry_at xs ++ flat_map plain_entries (map library_of c.as_slice.result.now)) c.new-services.ensures.items
    ∙ ap (λ xs. flat_map plain_entries (map library_of xs)) c.as_slice.ensures.value in
    let second : map entry_at c.add_shared.new.into.items ≡ ls ++ gs =
    c.in_ok-add_shared.ensures ∙ ap (λ es. es ++ flat_map protected_entries (map guarded_of c.as_slice-2.result.now)) first
    ∙ ap (λ xs. ls ++ flat_map protected_entries (map guarded_of xs)) c.as_slice-2.ensures.value in
    c.in_ok-add_requests.ensures ∙ ap (λ es. es ++ flat_map asked_entries (map thread_of c.as_slice-3.result.now)) second
    ∙ ap (λ xs. (ls ++ gs) ++ flat_map asked_entries (map thread_of xs)) c.as_slice-3.ensures.value
    ∙ append_assoc ls gs (flat_map asked_entries f.threads) ∙ entries-are f
