use Rattle.std.proofs.Common.{◌≡◌, ◌+◌, ◌++◌, [], map, drop, length, flat_map}
use Rattle.ada_tree.specs.Trees.{program_of}
use Rattle.arrivals_tree.specs.ArrivalTexts.{request_tokens, request_of}
use Rattle.arrivals_tree.specs.FirstWrong.{wrong_request}
use Rattle.arrivals_read.specs.Checked.{IsSized, IsOf}
use Rattle.arrivals_read.specs.Texts.{request_text}
use Rattle.arrivals_read.proofs.items.requests.Given as goal

-- what is kept is that of the requests so far; what is wrong is wrong with those that are left; what is said is what was listed and
-- what these say
abbrev pub invariant-requests : goal.invariant-requests
invariant-requests l =
    let p = program_of l.units.program.now in
    let rest = map request_text (drop l.item-index l.items) in
    let all = map request_text l.items in
    IsSized p l.seen × IsOf p l.arrivals.items l.seen
    × (wrong_request p l.arrivals.items l.before rest ≡ wrong_request p [] l.start all)
    × (l.arrivals.items ++ map (request_of p) rest ≡ map (request_of p) all)
    × (l.before + length (flat_map request_tokens rest) ≡ l.start + length (flat_map request_tokens all))
