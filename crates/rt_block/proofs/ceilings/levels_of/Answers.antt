use Rattle.std.proofs.Common.{◌≡◌, ◌++◌, ℕ, List, map, zip, flat_map, ap, sym, ◌∙◌, append_assoc}
use Rattle.ods_tree.specs.Flats.{Guarded, Thread}
use Rattle.ods_tree.specs.Trees.{flat_of, guarded_of, library_of, thread_of}
use Rattle.analysis.specs.Ceilings.{Ranks, ceiling, control_ceiling}
use Rattle.rt_block.specs.Ceilings.{asked_ceiling, entry_ceilings, for_each}
use Rattle.rt_block.proofs.EntryLaws.{ceilings-are}
use Rattle.rt_block.proofs.ceilings.levels_of.Goals as goal

pub returns-clause-levels : goal.returns-clause-levels
returns-clause-levels c =
    let f = flat_of c.args.flat.now in
    let r = c.args.order.now in
    let ps = r.threads.items in
    let ls = flat_map (λ l. for_each 0 l.ops) f.passive in
    let gs : List Guarded → List ℕ → List ℕ = λ xs cs. flat_map (λ g. for_each g.1 g.0.ops) (zip xs cs) in
    let ts : List Thread → List ℕ → List ℕ = λ xs cs. flat_map (λ t. asked_ceiling t.0.timing t.1) (zip xs cs) in
    let shared = map (λ (g : Guarded). ceiling f ps g.name) f.shared in
    let obcs = map (λ (t : Thread). control_ceiling f ps t.name t.timing) f.threads in
    let first : c.add_libraries.new.into.items ≡ ls =
    c.in_ok-add_libraries.ensures
    ∙ ap (λ xs. xs ++ flat_map (λ l. for_each 0 l.ops) (map library_of c.as_slice.result.now)) c.new-ceilings.ensures.items
    ∙ ap (λ xs. flat_map (λ l. for_each 0 l.ops) (map library_of xs)) c.as_slice.ensures.value in
    let second : c.add_shared.new.into.items ≡ ls ++ gs f.shared shared =
    c.in_ok-add_shared.ensures ∙ ap (λ xs. xs ++ gs (map guarded_of c.as_slice-2.result.now) c.as_slice-3.result.now) first
    ∙ ap (λ xs. ls ++ gs (map guarded_of xs) c.as_slice-3.result.now) c.as_slice-2.ensures.value
    ∙ ap (λ cs. ls ++ gs f.shared cs) (c.as_slice-3.ensures.value ∙ ap (λ (x : Ranks). x.shared) c.requires) in
    c.in_ok-add_controls.ensures ∙ ap (λ xs. xs ++ ts (map thread_of c.as_slice-4.result.now) c.as_slice-5.result.now) second
    ∙ ap (λ xs. (ls ++ gs f.shared shared) ++ ts (map thread_of xs) c.as_slice-5.result.now) c.as_slice-4.ensures.value
    ∙ ap (λ cs. (ls ++ gs f.shared shared) ++ ts f.threads cs) (c.as_slice-5.ensures.value ∙ ap (λ (x : Ranks). x.obcs) c.requires)
    ∙ append_assoc ls (gs f.shared shared) (ts f.threads obcs)
    ∙ ceilings-are f ps ∙ ap (entry_ceilings f) (sym c.as_slice-6.ensures.value)
