use Rattle.std.proofs.Common.{◌≡◌, ◌++◌, map, flat_map, ap, ◌∙◌, append_assoc}
use Rattle.ods_tree.specs.Trees.{guarded_of, library_of}
use Rattle.rt_block.specs.Bases.{thread_cost}
use Rattle.rt_block.specs.Known.{design}
use Rattle.rt_block.specs.PartCosts.{body_cost}
use Rattle.rt_block.proofs.RowLaws.{base-costs}
use Rattle.rt_block.proofs.parts.part_costs.Goals as goal

pub returns : goal.returns
returns c =
    let facts = c.args.facts.now in
    let f = design facts.operations in
    let ls = flat_map (λ l. map (body_cost f) l.ops) f.passive in
    let gs = flat_map (λ g. map (body_cost f) g.ops) f.shared in
    let first : c.add_libraries.new.into.items ≡ ls =
    c.in_ok-add_libraries.ensures
    ∙ ap (λ xs. xs ++ flat_map (λ l. map (body_cost f) l.ops) (map library_of c.as_slice.result.now)) c.new-costs.ensures.items
    ∙ ap (λ xs. flat_map (λ l. map (body_cost f) l.ops) (map library_of xs)) c.as_slice.ensures.value in
    let second : c.add_shared.new.into.items ≡ ls ++ gs =
    c.in_ok-add_shared.ensures
    ∙ ap (λ xs. xs ++ flat_map (λ g. map (body_cost f) g.ops) (map guarded_of c.as_slice-2.result.now)) first
    ∙ ap (λ xs. ls ++ flat_map (λ g. map (body_cost f) g.ops) (map guarded_of xs)) c.as_slice-2.ensures.value in
    c.in_ok-add_threads.ensures
    ∙ ap (λ xs. xs ++ map (λ b. b.cost) c.as_slice-3.result.now) second
    ∙ ap (λ xs. (ls ++ gs) ++ map (λ b. b.cost) xs) c.as_slice-3.ensures.value
    ∙ ap (λ xs. (ls ++ gs) ++ xs) (base-costs f facts.bases.items facts.based)
    ∙ append_assoc ls gs (map (thread_cost f) f.threads)
