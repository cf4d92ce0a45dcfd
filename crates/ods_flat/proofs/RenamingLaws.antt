-- Lists of statements and branches whose calls are read by links.
use Rattle.std.specs.Prelude.{Box}
use Rattle.std.proofs.Common.{◌≡◌, List, [], ◌∷◌, map, Option, Some, None, option_map, Vec, refl, ap, sym, ◌∙◌}
use Rattle.std.specs.declared.alloc.Global.{Global}
use Rattle.seq_tree.specs.Expressions.{Expression}
use Rattle.seq_tree.specs.Statements.{Statement, Statements, Then, When, If}
use Rattle.seq_tree.specs.Trees.{arm_of, block_of, branches_of, otherwise, statement_of, statements_of}
use Rattle.seq_tree.specs.declared.tree.Arm.{Arm}
use Rattle.seq_tree.specs.declared.tree.Block.{Block}
use Rattle.seq_tree.specs.declared.tree.OpName.{OpName}
use Rattle.seq_tree.specs.declared.tree.Stmt.TheVariants as stmt
use Rattle.seq_tree.proofs.Shared.TreeForms.{if-tree}
use Rattle.ods_tree.specs.Links.{renamed, renamed_statement, renamed_branches}
use Rattle.ods_flat.specs.Renaming.{renamed_arm}

-- statement by statement
pub renamed-list : (means : OpName → OpName) (ss : List Statement) → statements_of (map (renamed_statement means) ss)
    ≡ renamed means (statements_of ss)
renamed-list means [] = refl
renamed-list means (s ∷ ss) = ap (Then (renamed_statement means s)) (renamed-list means ss)

renamed-else : (means : OpName → OpName) (o : Option Statements) → otherwise (option_map (renamed means) o) ≡ renamed_branches means (otherwise o)
renamed-else means None = refl
renamed-else means (Some b) = refl

-- arm by arm
pub renamed-arms : (means : OpName → OpName) (arms : List (Expression × Statements)) (o : Option Statements)
    → branches_of (map (renamed_arm means) arms) (otherwise (option_map (renamed means) o)) ≡ renamed_branches means (branches_of arms (otherwise o))
renamed-arms means [] o = renamed-else means o
renamed-arms means (a ∷ arms) o = ap (When a.0 (renamed means a.1)) (renamed-arms means arms o)

-- an `if` of such arms and such an `else`
pub if-renamed : (means : OpName → OpName) (arms : Box (Vec Arm Global) Global) (other : Option Block) (old : List (Expression × Statements))
    (o : Option Statements) (s : Statement)
    → map arm_of arms.value.items ≡ map (renamed_arm means) old → option_map block_of other ≡ option_map (renamed means) o
    → s ≡ If (branches_of old (otherwise o))
    → statement_of (stmt.If arms other) ≡ renamed_statement means s
if-renamed means arms other old o s armed elsed is =
    if-tree arms other
    ∙ ap (λ l. If (branches_of l (otherwise (option_map block_of other)))) armed
    ∙ ap (λ u. If (branches_of (map (renamed_arm means) old) (otherwise u))) elsed
    ∙ ap If (renamed-arms means old o)
    ∙ ap (renamed_statement means) (sym is)

pub ruleset renaming_laws = (renamed-list, renamed-arms)
