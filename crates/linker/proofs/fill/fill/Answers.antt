use Rattle.std.proofs.Common.{refl, ◌∙◌, arith}
use Rattle.linker.specs.Standing.{lists_of}
use Rattle.linker.proofs.Keeping.{fills_set}
use Rattle.linker.proofs.fill.fill.Goals as goal

pub returns-then-at-len : goal.returns-then-at-len
returns-then-at-len c =
    fills_set (lists_of c.args.code.now) _ c.args.at c.args.ins
    (omega (arith, c.if-at-len.true, c.len.ensures ∙ c.args.code.now.ins.ok.0)) refl refl refl
