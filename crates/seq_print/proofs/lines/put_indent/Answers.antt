use Rattle.std.proofs.Common.{ℕ, List, subst, ◌∙◌}
use Rattle.seq_print.specs.Printing.{Prints}
use Rattle.seq_print.proofs.Indents.{indent}
use Rattle.seq_print.proofs.lines.put_indent.Goals as goal

pub returns : goal.returns
returns c =
    let P : List ℕ → Type 0 = λ spaces. Prints c.put.result c.args.into.now.items c.put.new.into.items spaces in
    subst P (c.split_at.ensures.front ∙ indent c.args.level c.min.result c.min.ensures) c.put.ensures
