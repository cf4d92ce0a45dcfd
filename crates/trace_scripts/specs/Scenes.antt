-- A program with what its calls may lead to, and what the walk of a block along a script answers.
use Rattle.std.specs.Prelude.{◌≡◌, ℕ, ◌≤◌, Bool, true, false, Option, Some, None, ⊤}
use Rattle.seq_tree.specs.Limits.{tick_limit}
use Rattle.seq_tree.specs.Lists.{Each}
use Rattle.seq_tree.specs.Names.{Name}
use Rattle.seq_tree.specs.Runs.{Path, Callee}
use Rattle.seq_tree.specs.Variables.{Variables}
use Rattle.seq_tree.specs.Statements.{Statements}
use Rattle.ada_tree.specs.Programs.{Program, Form, Passive, Shared, Cyclic, Sporadic}
use Rattle.ada_tree.specs.Rules.{MeetsRules}
use Rattle.ada_tree.specs.Trees.{program_of}
use Rattle.guarantee.specs.Software.{Software, program_software, leads_to}
use Rattle.seq_eval.specs.Bounds.{most_ticks}
use Rattle.seq_eval.specs.Calls.{calls_in}
use Rattle.trace_scripts.specs.declared.walks.Scene.{Scene}
use Rattle.trace_scripts.specs.declared.walks.Walked.{Walked}
use Rattle.trace_scripts.specs.declared.walks.Walked.TheVariants.{Ran, Begun, Astray}

abbrev pub program_in : Scene → Program
program_in s = program_of s.program.now

abbrev pub software_of : Scene → Software
software_of s = program_software (program_in s)

-- what calls lead to
abbrev pub calls_of : Scene → Name → Name → Callee
calls_of s = calls_in s.calls.now

-- a fact of the blocks of threads and of the operations of objects
abbrev pub AllBlocks : (Statements → Type 0) → Form → Type 0
AllBlocks P (Passive ops) = ⊤
AllBlocks P (Shared ceiling vars ops) = Each (λ o. P o.block) ops
AllBlocks P (Cyclic priority offset period vars block) = P block
AllBlocks P (Sporadic priority ceiling op separation jitter external vars block) = P block

abbrev pub AllIn : (Statements → Type 0) → Program → Type 0
AllIn P p = Each (λ u. AllBlocks P u.form) p.units

-- a program that meets its rules, whose calls lead where the table says, and whose blocks are not too dear
pub record IsScene (s : Scene) : Type 0 where
  pub rules : MeetsRules (program_in s)
  pub calls : calls_of s ≡ leads_to (software_of s)
  pub ticks : AllIn (λ b. (depth : ℕ) → most_ticks (program_in s).costs (calls_of s) depth b ≤ tick_limit) (program_in s)

-- what the answer means, by the run that the script shows and whether it begins one
abbrev pub IsWalk : Option Path → Bool → Walked → Variables → Type 0
IsWalk (Some p) begins (Ran low high) after = (begins ≡ true) × (after ≡ p.vars) × (low ≡ p.low) × (high ≡ p.high)
IsWalk None begins Begun after = begins ≡ true
IsWalk None begins Astray after = begins ≡ false
IsWalk _ begins answer after = ⊥
