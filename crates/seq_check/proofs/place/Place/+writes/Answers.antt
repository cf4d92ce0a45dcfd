use Rattle.std.proofs.Common.{rules, ◌≡◌, sym, refl}
use Rattle.seq_tree.specs.Faults.{within_loop}
use Rattle.seq_check.specs.declared.place.Place.{the_lemmas}
use Rattle.seq_check.specs.Places.{place_of}
use Rattle.seq_check.proofs.PlaceLaws.{named_inside}
use Rattle.seq_check.proofs.place.Place.+writes.Goals as goal

pub returns-then-not-same_name : goal.returns-then-not-same_name
returns-then-not-same_name t c =
    let opened : place_of c.args.self.now ≡ within_loop (place_of c.in-Loop.outer.now) c.in-Loop.own.now = search (rules, the_lemmas) in
    rw (opened, named_inside c.in-Loop.own.now c.args.name.now, sym c.if-not-same_name.ensures) c.writes-then-not-same_name.ensures

pub returns-else-not-same_name : goal.returns-else-not-same_name
returns-else-not-same_name t c =
    let opened : place_of c.args.self.now ≡ within_loop (place_of c.in-Loop.outer.now) c.in-Loop.own.now = search (rules, the_lemmas) in
    rw (opened, named_inside c.in-Loop.own.now c.args.name.now, sym c.if-not-same_name.ensures, c.if-not-same_name.false) refl
