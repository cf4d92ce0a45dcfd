use Rattle.std.proofs.Common.{◌≡◌, ◌+◌, ◌++◌, map, drop, length, flat_map}
use Rattle.ada_tree.specs.Trees.{program_of}
use Rattle.arrivals_tree.specs.ArrivalTexts.{work_tokens, work_of}
use Rattle.arrivals_tree.specs.FirstWrong.{wrong_work}
use Rattle.arrivals_read.specs.Found.{durations_of}
use Rattle.arrivals_read.specs.Texts.{work_text}
use Rattle.arrivals_read.proofs.items.works.Given as goal

-- what is wrong is wrong with those that are left, and what is said is what was listed and what these say
abbrev pub invariant-works : goal.invariant-works
invariant-works l =
    let p = program_of l.units.program.now in
    let rest = map work_text (drop l.item-index l.items) in
    let all = map work_text l.items in
    (wrong_work p l.before rest ≡ wrong_work p 3 all)
    × (map durations_of l.lists.items ++ map (work_of p) rest ≡ map (work_of p) all)
    × (l.before + length (flat_map work_tokens rest) ≡ 3 + length (flat_map work_tokens all))
