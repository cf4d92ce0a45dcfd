-- The trees of what the code puts together, by their parts: of a block, of an arm, and of the statements with parts.
use Rattle.std.specs.Prelude.{◌≡◌, ℕ, Option, Some, None, Vec, map, option_map, Box}
use Rattle.std.specs.declared.alloc.Global.{Global}
use Rattle.seq_tree.specs.Names.{Name}
use Rattle.seq_tree.specs.Expressions.{Expression}
use Rattle.seq_tree.specs.Statements.{Statement, Statements, If, For, Call, Work}
use Rattle.seq_tree.specs.Trees.{arm_layer, arm_of, block_layer, block_of, branches_of, expression_of, otherwise, statement_layer, statement_of}
use Rattle.seq_tree.specs.Trees.{statements_of}
use Rattle.seq_tree.specs.declared.tree.Arm.{Arm, fold-roll-Arm}
use Rattle.seq_tree.specs.declared.tree.Block.{Block, Block-F, roll-Block, fold-roll-Block}
use Rattle.seq_tree.specs.declared.tree.Expr.{Expr}
use Rattle.seq_tree.specs.declared.tree.Stmt.{roll-Stmt, fold-roll-Stmt}
use Rattle.seq_tree.specs.declared.tree.Stmt.TheOpen as layer
use Rattle.seq_tree.specs.declared.tree.Stmt.TheVariants as stmt

-- a block that is put together
pub block_of_roll : (x : Block-F _ _ _) → block_of (roll-Block x) ≡ statements_of (map statement_of x.stmts.items)
block_of_roll x = fold-roll-Block Statement (Expression × Statements) Statements statement_layer arm_layer block_layer x

-- a block that is taken apart
pub block-tree : (b : Block) → block_of b ≡ statements_of (map statement_of b.stmts.items)
block-tree b = block_of_roll (record { stmts = b.stmts })

pub arm-tree : (a : Arm) → arm_of a ≡ (expression_of a.cond, block_of a.block)
arm-tree a = fold-roll-Arm Statement (Expression × Statements) Statements statement_layer arm_layer block_layer
    (record { cond = a.cond; block = a.block })

pub if-tree : (arms : Box (Vec Arm Global) Global) (other : Option Block) → statement_of (stmt.If arms other)
    ≡ If (branches_of (map arm_of arms.value.items) (otherwise (option_map block_of other)))
unfolding roll-Stmt denote.Hole.Carrier.roll
if-tree arms None = fold-roll-Stmt Statement (Expression × Statements) Statements statement_layer arm_layer block_layer (layer.If arms None)
if-tree arms (Some block) = fold-roll-Stmt Statement (Expression × Statements) Statements statement_layer arm_layer block_layer
    (layer.If arms (Some block))

pub for-tree : (name : Name) (low high : ℕ) (body : Block) → statement_of (stmt.For name low high body) ≡ For name low high (block_of body)
unfolding roll-Stmt denote.Hole.Carrier.roll
for-tree name low high body = fold-roll-Stmt Statement (Expression × Statements) Statements statement_layer arm_layer block_layer
    (layer.For name low high body)

pub call-tree : (object op : Name) (actuals : Vec Expr Global) → statement_of (stmt.Call object op actuals)
    ≡ Call object op (map expression_of actuals.items)
unfolding roll-Stmt denote.Hole.Carrier.roll
call-tree object op actuals = fold-roll-Stmt Statement (Expression × Statements) Statements statement_layer arm_layer block_layer
    (layer.Call object op actuals)

pub work-tree : (ticks : ℕ) → statement_of (stmt.Work ticks) ≡ Work ticks
unfolding roll-Stmt denote.Hole.Carrier.roll
work-tree ticks = fold-roll-Stmt Statement (Expression × Statements) Statements statement_layer arm_layer block_layer (layer.Work ticks)
