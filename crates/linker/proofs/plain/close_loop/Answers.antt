use Rattle.std.proofs.Common.{◌≡◌, cond, sym, subst, arith}
use Rattle.std.specs.Prelude.{nat_le}
use Rattle.linker.specs.Linking.{Fills}
use Rattle.linker.specs.Standing.{lists_of}
use Rattle.law_flat_code.specs.Codes.{next_slot}
use Rattle.linker.specs.declared.code.Ins.TheVariants as ins
use Rattle.linker.proofs.Linkages.{links_for}
use Rattle.linker.proofs.plain.close_loop.Goals as goal

pub returns : goal.returns
returns c = λ leads name scope out next body from counts before block.
    let a = c.args in
    let same : next ≡ c.in_ok-next.next = omega (arith, before, c.in_ok-next.ensures) in
    let d = lists_of c.fill.new.code in
    let f = lists_of c.fill-2.new.code in
    let ends : Fills next (ins.Next (next_slot scope) a.high a.start) (lists_of a.code.now) d =
    subst (λ z. Fills next (ins.Next z a.high a.start) (lists_of a.code.now) d) counts
    (subst (λ z. Fills z (ins.Next a.counter a.high a.start) (lists_of a.code.now) d) (sym same) c.in_ok-fill.ensures) in
    let begins : Fills c.in_ok-at.at (cond (nat_le a.low a.high) (ins.Begin (next_slot scope) a.low) (ins.Jump a.end)) d f =
    subst (λ z. Fills c.in_ok-at.at (cond (nat_le a.low a.high) (ins.Begin z a.low) (ins.Jump a.end)) d f) counts
    (subst (λ z. Fills c.in_ok-at.at z d f) c.first_turn.ensures c.in_ok-fill-2.ensures) in
    links_for leads scope out a.end next a.start c.in_ok-at.at a.low a.high from (lists_of a.code.now) d f name body block before ends
    c.in_ok-at.ensures begins
