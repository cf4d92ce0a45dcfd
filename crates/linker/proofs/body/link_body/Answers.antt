use Rattle.std.proofs.Common.{◌≡◌, ◌+◌, arith}
use Rattle.seq_tree.specs.Trees.{block_of}
use Rattle.law_flat_code.specs.Codes.{block_size}
use Rattle.linker.specs.Standing.{lists_of}
use Rattle.linker.proofs.Bodying.{links_body}
use Rattle.linker.proofs.LinkSteps.{if_ok}
use Rattle.linker.proofs.body.link_body.Goals as goal

pub returns : goal.returns
returns g c =
    let b = block_of c.args.block.now in
    let counted : c.in_ok-count.count ≡ block_size b + 1 = omega (arith, c.in_ok-count.ensures, c.in_ok-lines.ensures) in
    if_ok c.link_block.result _ _
    (λ start h. links_body (g.C.Calls.leads c.args.calls.now) c.args.scope.now c.in_ok-count.count c.in_ok-end.end c.in_ok-at.at start
    (lists_of c.args.code.now) (lists_of c.make_room.new.code) (lists_of c.fill.new.code) (lists_of c.link_block.new.code) c.args.last b counted
    c.in_ok-end.ensures.room c.in_ok-end.ensures.end c.in_ok-at.ensures c.in_ok-fill.ensures h) c.link_block.ensures.links
