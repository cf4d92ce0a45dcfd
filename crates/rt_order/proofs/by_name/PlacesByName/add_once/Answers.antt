use Rattle.std.proofs.Common.{◌++◌, ap, sym, ◌∙◌}
use Rattle.name_sets.specs.Sets.{has}
use Rattle.rt_order.specs.ByNames.{places_at}
use Rattle.rt_order.specs.Numbers.{place_if}
use Rattle.rt_order.proofs.NameLaws.{fresh, marked-known, marked-new, stale}
use Rattle.rt_order.proofs.by_name.PlacesByName.add_once.Goals as goal

pub returns-in_ok-add-2-clause-marked : goal.returns-in_ok-add-2-clause-marked
returns-in_ok-add-2-clause-marked c = λ before marked n.
    let name = c.args.name.now in
    let seen = c.args.seen.now in
    marked-new name n (has seen) c.args.place (before n) (places_at c.args.self.now n) (places_at c.add-then-branch.new.self n)
    (fresh (has seen name) c.in_ok-add.field-0 c.in_ok-add.ensures.new c.if-branch.true) (marked n) (c.in_ok-add-2.ensures n)
    ∙ ap (λ b. before n ++ place_if b c.args.place) (sym (c.in_ok-add.ensures.added n))

pub returns-else-branch-clause-marked : goal.returns-else-branch-clause-marked
returns-else-branch-clause-marked c = λ before marked n.
    let name = c.args.name.now in
    let seen = c.args.seen.now in
    marked-known name n (has seen) c.args.place (before n) (places_at c.args.self.now n)
    (stale (has seen name) c.in_ok-add.field-0 c.in_ok-add.ensures.new c.if-branch.false) (marked n)
    ∙ ap (λ b. before n ++ place_if b c.args.place) (sym (c.in_ok-add.ensures.added n))
