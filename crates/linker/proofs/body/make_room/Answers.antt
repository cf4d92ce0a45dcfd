use Rattle.std.proofs.Common.{◌-◌, refl, subst, arith}
use Rattle.linker.specs.Bodies.{Roomed}
use Rattle.linker.specs.Standing.{lists_of}
use Rattle.linker.specs.declared.code.Ins.TheVariants as ins
use Rattle.linker.proofs.Bodying.{roomed_none, roomed_one}
use Rattle.linker.proofs.body.make_room.Goals as goal

pub places-init : goal.places-init
places-init c = record { within = omega arith; room = roomed_none (lists_of c.args.code.now) _ _ (omega arith) c.reserve.ensures.items refl refl }

pub places-preserved : goal.places-preserved
places-preserved c =
    let i = c.places.invariant in record {
      within = omega (arith, i.within);
      room = roomed_one (c.args.count - c.places.left) _ ins.Null (lists_of c.args.code.now) (lists_of c.places.code) _ i.room
          c.in_ok-push.ensures.items refl refl (omega (arith, i.within, c.places-test.true));
    }

pub returns-clause-room : goal.returns-clause-room
returns-clause-room c =
    subst (λ n. Roomed n (lists_of c.args.code.now) (lists_of c.places.code)) (omega (arith, c.places-test.false)) c.places.invariant.room
