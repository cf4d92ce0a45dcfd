-- The answer for the first of two faults, the faults of an `if`, and what an answer says.
use Rattle.std.proofs.Common.{◌≡◌, List, [], ◌∷◌, Option, Some, None, Ok, Err, refl, ap, ◌∙◌}
use Rattle.seq_tree.specs.Expressions.{Expression}
use Rattle.seq_tree.specs.Statements.{Statements, Branches, If, Nothing}
use Rattle.seq_tree.specs.Faults.{Scope, block_fault, branches_fault, conditions, expressions_fault, or_else, statement_fault}
use Rattle.seq_tree.specs.Faults as faults
use Rattle.seq_tree.specs.Trees.{branches_of}
use Rattle.seq_check.specs.Answers.{Says, answer_of}
use Rattle.seq_check.specs.declared.fault.BodyFault.{BodyFault}

-- an earlier fault is told
pub answer_first : (a b : Option faults.BodyFault) (e : BodyFault) → answer_of a ≡ Err e → answer_of (or_else a b) ≡ Err e
answer_first None b e h = absurd (cc)
answer_first (Some fault) b e h = h

-- where there is none, a later one is
pub answer_later : (a b : Option faults.BodyFault) (u : Unit {0}) → answer_of a ≡ Ok u → answer_of (or_else a b) ≡ answer_of b
answer_later None b u h = refl
answer_later (Some fault) b u h = absurd (cc)

or_else_assoc : (a b c : Option faults.BodyFault) → or_else a (or_else b c) ≡ or_else (or_else a b) c
or_else_assoc None b c = refl
or_else_assoc (Some fault) b c = refl

-- the faults of an `else` come after those of the arms
else_later : (c : Scope) (arms : List (Expression × Statements)) (others : Branches)
    → branches_fault c (branches_of arms others) ≡ or_else (branches_fault c (branches_of arms Nothing)) (branches_fault c others)
else_later c [] others = refl
else_later c (arm ∷ arms) others =
    ap (or_else (block_fault c arm.1)) (else_later c arms others) ∙ or_else_assoc (block_fault c arm.1) (branches_fault c (branches_of arms Nothing))
    (branches_fault c others)

-- an `if` whose conditions have no fault has the first one of its arms
pub if_arms : (c : Scope) (arms : List (Expression × Statements)) (others : Branches) (u : Unit {0}) (e : BodyFault) →
    answer_of (expressions_fault c (conditions (branches_of arms others))) ≡ Ok u → answer_of (branches_fault c (branches_of arms Nothing)) ≡ Err e →
    answer_of (statement_fault c (If (branches_of arms others))) ≡ Err e
if_arms c arms others u e fine told =
    answer_later (expressions_fault c (conditions (branches_of arms others))) (branches_fault c (branches_of arms others)) u fine
    ∙ ap answer_of (else_later c arms others) ∙ answer_first (branches_fault c (branches_of arms Nothing)) (branches_fault c others) e told

-- where there is none either, it has that of its `else`
pub if_other : (c : Scope) (arms : List (Expression × Statements)) (others : Branches) (u v : Unit {0}) →
    answer_of (expressions_fault c (conditions (branches_of arms others))) ≡ Ok u → answer_of (branches_fault c (branches_of arms Nothing)) ≡ Ok v →
    answer_of (statement_fault c (If (branches_of arms others))) ≡ answer_of (branches_fault c others)
if_other c arms others u v fine passed =
    answer_later (expressions_fault c (conditions (branches_of arms others))) (branches_fault c (branches_of arms others)) u fine
    ∙ ap answer_of (else_later c arms others) ∙ answer_later (branches_fault c (branches_of arms Nothing)) (branches_fault c others) v passed

-- what an answer says
pub says_answer : (o : Option faults.BodyFault) → Says (answer_of o) o
says_answer None = refl
says_answer (Some faults.Unknown) = refl
says_answer (Some faults.Missorted) = refl
says_answer (Some faults.Divisor) = refl
says_answer (Some faults.Exit) = refl
says_answer (Some faults.Assigned) = refl
says_answer (Some faults.Actual) = refl
says_answer (Some faults.Count) = refl

pub ruleset fault_laws = (answer_first, answer_later, says_answer)
