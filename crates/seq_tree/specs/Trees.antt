-- The trees that the values of the program stand for: what is left when capacities and boxes are forgotten.
-- Each contract that speaks of an expression, a block or an operation speaks of its tree.
use Rattle.std.specs.Prelude.{List, [], ◌∷◌, map, Option, Some, None, box_value}
use Rattle.seq_tree.specs.Expressions.{Expression, Number, Variable, Paren, Not, Binary}
use Rattle.seq_tree.specs.Statements.{Statement, Statements, Branches, Null, Assign, If, For, ExitWhen, Call, Work, Put, End, Then, Nothing}
use Rattle.seq_tree.specs.Statements.{Else, When}
use Rattle.seq_tree.specs.Operations.{Signature, Operation, Offer}
use Rattle.seq_tree.specs.declared.tree.Expr.{Expr, fold-Expr}
use Rattle.seq_tree.specs.declared.tree.Expr.TheOpen.{Expr-F}
use Rattle.seq_tree.specs.declared.tree.Expr.TheOpen as expr
use Rattle.seq_tree.specs.declared.tree.Arm.{Arm, fold-Arm}
use Rattle.seq_tree.specs.declared.tree.Block.{Block, fold-Block}
use Rattle.seq_tree.specs.declared.tree.Stmt.{Stmt, fold-Stmt}
use Rattle.seq_tree.specs.declared.tree.Stmt.TheOpen.{Arm-F, Stmt-F, Block-F}
use Rattle.seq_tree.specs.declared.tree.Stmt.TheOpen as stmt
use Rattle.seq_tree.specs.declared.tree.OpSig.{OpSig}
use Rattle.seq_tree.specs.declared.tree.OpText.{OpText}
use Rattle.seq_tree.specs.declared.tree.Callable.{Callable}

-- the tree of an expression, from those of its parts
abbrev pub expression_layer : Expr-F Expression → Expression
expression_layer (expr.Number n) = Number n
expression_layer (expr.Variable name) = Variable name
expression_layer (expr.Paren e) = Paren (box_value e)
expression_layer (expr.Not e) = Not (box_value e)
expression_layer (expr.Binary op left right) = Binary op (box_value left) (box_value right)

-- the tree of an expression
abbrev pub expression_of : Expr → Expression
expression_of = fold-Expr Expression expression_layer

-- the statements in a list, one after another
abbrev pub statements_of : List Statement → Statements
statements_of [] = End
statements_of (s ∷ ss) = Then s (statements_of ss)

-- an `else` or its absence
abbrev pub otherwise : Option Statements → Branches
otherwise None = Nothing
otherwise (Some block) = Else block

-- the branches of an `if`
abbrev pub branches_of : List (Expression × Statements) → Branches → Branches
branches_of [] others = others
branches_of (arm ∷ arms) others = When arm.0 arm.1 (branches_of arms others)

-- the tree of an arm, from those of its parts
abbrev pub arm_layer : Arm-F Statement (Expression × Statements) Statements → Expression × Statements
arm_layer a = (expression_of a.cond, a.block)

-- the tree of a statement, from those of its parts
abbrev pub statement_layer : Stmt-F Statement (Expression × Statements) Statements → Statement
statement_layer stmt.Null = Null
statement_layer (stmt.Assign target value) = Assign target (expression_of value)
statement_layer (stmt.If arms other) = If (branches_of (box_value arms).items (otherwise other))
statement_layer (stmt.For name low high body) = For name low high body
statement_layer (stmt.ExitWhen condition) = ExitWhen (expression_of condition)
statement_layer (stmt.Call object op actuals) = Call object op (map expression_of actuals.items)
statement_layer (stmt.Work ticks) = Work ticks
statement_layer (stmt.Put value) = Put (expression_of value)

-- the tree of a block, from those of its parts
abbrev pub block_layer : Block-F Statement (Expression × Statements) Statements → Statements
block_layer b = statements_of b.stmts.items

-- the tree of a block
abbrev pub block_of : Block → Statements
block_of = fold-Block Statement (Expression × Statements) Statements statement_layer arm_layer block_layer

-- the tree of a statement
abbrev pub statement_of : Stmt → Statement
statement_of = fold-Stmt Statement (Expression × Statements) Statements statement_layer arm_layer block_layer

-- the tree of an arm: its condition and its block
abbrev pub arm_of : Arm → Expression × Statements
arm_of = fold-Arm Statement (Expression × Statements) Statements statement_layer arm_layer block_layer

-- the tree of a head
abbrev pub signature_of : OpSig → Signature
signature_of s = record { name = s.name; params = s.params.items }

-- the tree of an operation
abbrev pub operation_of : OpText → Operation
operation_of o = record { sig = signature_of o.sig; locals = o.locals.items; block = block_of o.block }

-- the tree of what may be called
abbrev pub offer_of : Callable → Offer
offer_of c = record { object = c.object; sig = signature_of c.sig }
