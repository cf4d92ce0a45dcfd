use Rattle.std.proofs.Common.{◌-◌, List, sym, ap, ◌∙◌, subst, arith}
use Rattle.seq_tree.specs.Trees.{expression_of}
use Rattle.seq_tree.specs.declared.token.Token.{Token}
use Rattle.token_read.specs.Ahead.{ahead}
use Rattle.token_read.specs.Words.{bare}
use Rattle.seq_read.specs.declared.names.Text.TheVariants.{Plain}
use Rattle.seq_read.specs.Names.{may_name}
use Rattle.seq_read.specs.Halts.{Stops}
use Rattle.seq_read.specs.Expressions.{expression_at}
use Rattle.seq_read.proofs.FrontSteps.{expression-answered, expression-told, bare_behind, bare_length}
use Rattle.seq_read.proofs.fronts.read_expr.Goals as goal

pub returns-in-Ok : goal.returns-in-Ok
returns-in-Ok c =
    let here = c.listed-here.ensures ∙ bare_behind c.args.from c.args.tokens.now _ c.split_at.ensures.back in
    let read = ap (expression_at (may_name Plain) 32 (64 - c.args.depth)) (sym here) ∙ c.in-Ok.ensures in
    let x = expression-answered c.args.depth (omega arith) c.args.from (bare c.args.tokens.now) (omega (arith, bare_length c.args.tokens.now))
    (expression_of c.in-Ok.expr) (ahead c.in-Ok.rest) read in
    (x.0, (omega (arith, x.1, bare_length c.args.tokens.now)), x.2, x.3)

pub returns-in-Err : goal.returns-in-Err
returns-in-Err c =
    let here = c.listed-here.ensures ∙ bare_behind c.args.from c.args.tokens.now _ c.split_at.ensures.back in
    let P : List Token → Type 0 = λ ts. Stops c.in-Err.halt (expression_at (may_name Plain) 32 (64 - c.args.depth) ts) in
    let told = expression-told c.args.depth (omega arith) c.args.from (bare c.args.tokens.now) (omega (arith, bare_length c.args.tokens.now))
    c.in-Err.halt (subst P here c.in-Err.ensures) in
    rw (c.told.ensures, ← bare_length c.args.tokens.now) told
