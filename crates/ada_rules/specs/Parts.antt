-- What the rules read of a block besides its calls: where its loops begin and end, and its works, in order.
-- The statements are those of the trees.
use Rattle.std.specs.Prelude.{ℕ, List, [], ◌∷◌, ◌++◌}
use Rattle.seq_tree.specs.Names.{Name}
use Rattle.seq_tree.specs.Expressions.{Expression}
use Rattle.seq_tree.specs.Statements.{Statement, Statements, Branches, If, For, Work, End, Then, Nothing, Else, When}
use Rattle.seq_tree.specs.Trees.{block_of}
use Rattle.ada_tree.specs.Bodies.{Body}
use Rattle.ada_rules.specs.declared.parts.Part as code
use Rattle.ada_rules.specs.declared.parts.Part.TheVariants as code_part
use Rattle.ada_rules.specs.declared.parts.BodyView.{BodyView}

-- a part of a block
pub data Part : Type 0 where
  LoopStart : (name : Name) → Part
  LoopEnd : Part
  Worked : (ticks : ℕ) → Part

-- the part that a part of the code stands for
abbrev pub part_of : code.Part → Part
part_of (code_part.Loop name) = LoopStart name.now
part_of code_part.LoopEnd = LoopEnd
part_of (code_part.Work ticks) = Worked ticks

-- the body that a body of the code stands for
abbrev pub body_of : BodyView → Body
body_of b = record { params = b.params.now; locals = b.locals.now; block = block_of b.block.now }

-- the parts of a statement, of statements and of branches
abbrev mutual
  pub statement_parts : Statement → List Part
  statement_parts (For name low high body) = LoopStart name ∷ (block_parts body ++ LoopEnd ∷ [])
  statement_parts (If branches) = branch_parts branches
  statement_parts (Work ticks) = Worked ticks ∷ []
  statement_parts _ = []

  pub block_parts : Statements → List Part
  block_parts End = []
  block_parts (Then first rest) = statement_parts first ++ block_parts rest

  pub branch_parts : Branches → List Part
  branch_parts Nothing = []
  branch_parts (Else block) = block_parts block
  branch_parts (When condition block others) = block_parts block ++ branch_parts others

-- the parts of the blocks of arms
abbrev pub arms_parts : List (Expression × Statements) → List Part
arms_parts [] = []
arms_parts (arm ∷ arms) = block_parts arm.1 ++ arms_parts arms

-- the names of the loops among parts
abbrev pub loops_in : List Part → List Name
loops_in [] = []
loops_in (LoopStart name ∷ ps) = name ∷ loops_in ps
loops_in (LoopEnd ∷ ps) = loops_in ps
loops_in (Worked ticks ∷ ps) = loops_in ps

-- the numbers of works among parts
abbrev pub works_in : List Part → List ℕ
works_in [] = []
works_in (LoopStart name ∷ ps) = works_in ps
works_in (LoopEnd ∷ ps) = works_in ps
works_in (Worked ticks ∷ ps) = ticks ∷ works_in ps
