use Rattle.std.proofs.Common.{◌∙◌, ◌≡◌, sym, ap, length, map, None}
use Rattle.std.specs.Prelude.{replicate}
use Rattle.std.proofs.lemmas.List.{length-map}
use Rattle.ada_tree.specs.Trees.{unit_of}
use Rattle.trace_text.specs.declared.tally.Tally.{Tally}
use Rattle.trace_text.proofs.TallyLaws.{tallies-nothing}
use Rattle.trace_text.proofs.summary.Summary.new.Goals as goal

pub returns : goal.returns
returns c =
    let us = c.args.program.now.units.items in
    let nothing : Tally = record { releases = 0; ends = 0; greatest = 0; waiting = None } in
    let made : c.in_ok-tasks.tasks.items
    ≡ replicate (length us) nothing = rw (c.in_ok-tasks.ensures.items_if_clones_equal (λ y h. h), c.empty.ensures 0, c.len.ensures)
    (ap (λ n. replicate n nothing) c.args.program.now.units.ok.0) in
    let all = made ∙ ap (λ n. replicate n nothing) (sym (length-map us unit_of)) ∙ sym (tallies-nothing 0 (length (map unit_of us))) in
    λ i. record { tasks = all i; lines = 0 }
