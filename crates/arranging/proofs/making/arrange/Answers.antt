use Rattle.std.proofs.Common.{arith}
use Rattle.ods_tree.specs.Trees.{flat_of}
use Rattle.arranging.proofs.ArrangedTexts.{short-of, long-of}
use Rattle.arranging.proofs.making.arrange.Goals as goal

pub returns-then-len-gt-MOST_BYTES : goal.returns-then-len-gt-MOST_BYTES
returns-then-len-gt-MOST_BYTES c =
    long-of c.args.first (flat_of c.args.flat.now) c.in_ok-found.found c.in_ok-text.text.items c.in_ok-found.ensures c.in_ok-text.ensures
    (omega (arith, c.len.ensures, c.if-len-gt-MOST_BYTES.true))

pub returns : goal.returns
returns c =
    short-of c.args.first (flat_of c.args.flat.now) c.in_ok-found.found c.in_ok-text.text.items c.in_ok-found.ensures c.in_ok-text.ensures
    (omega (arith, c.len.ensures, c.if-len-gt-MOST_BYTES.false))
