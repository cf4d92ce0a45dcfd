use Rattle.std.proofs.Common.{◌≡◌, ◌∙◌, ap, ◌++◌, map, length}
use Rattle.ada_tree.specs.Trees.{unit_of}
use Rattle.trace_text.specs.Summaries.{count_line}
use Rattle.trace_text.specs.Tallies.{Tallies, tally_lines, tallies}
use Rattle.trace_text.proofs.TallyLaws.{lines-are}
use Rattle.trace_text.proofs.summary.Summary.text.Goals as goal

pub returns : goal.returns
returns c told h =
    let us = map unit_of c.args.program.now.units.items in
    let units : map unit_of c.as_slice.result.now ≡ us = ap (map unit_of) c.as_slice.ensures.value in
    let kept : Tallies = record { tasks = c.as_slice-2.result.now; lines = c.self.inside.lines } in
    let same : kept ≡ tallies (length us) told = (λ i. record { tasks = c.as_slice-2.ensures.value i; lines = c.self.inside.lines })
    ∙ c.self.view_is ∙ h in
    c.in_ok-text.ensures
    ∙ ap (λ vs. tally_lines c.args.bounds.now vs kept.tasks ++ count_line kept.lines) units
    ∙ ap (λ t. tally_lines c.args.bounds.now us t.tasks ++ count_line t.lines) same
    ∙ ap (λ xs. xs ++ count_line (tallies (length us) told).lines) (lines-are c.args.bounds.now 0 us told)
