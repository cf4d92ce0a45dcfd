use Rattle.std.proofs.Common.{refl}
use Rattle.seq_tree.specs.Statements.{Null}
use Rattle.linker.specs.Standing.{lists_of}
use Rattle.linker.specs.declared.code.Ins.TheVariants as ins
use Rattle.linker.proofs.Keeping.{added_none}
use Rattle.linker.proofs.Linkages.{one_instruction}
use Rattle.linker.proofs.plain.link_null.Goals as goal

pub returns : goal.returns
returns c = λ leads scope out. one_instruction leads scope out c.in_ok-at.at c.args.end ins.Null (lists_of c.args.code.now) (lists_of c.args.code.now)
    (lists_of c.fill.new.code) Null (added_none (lists_of c.args.code.now)) c.in_ok-fill.ensures c.in_ok-at.ensures refl (λ later h g l. h)
