-- What the rules of a program say of its blocks: exits stand in loops, and calls are those of the block.
use Rattle.std.specs.Prelude.{◌≡◌, ◌==◌, not, Bool, true, false, nat_le, [], ◌∷◌, None, if◌then◌else◌, refl}
use Rattle.std.proofs.Common.{sym, subst, arith, inl}
use Rattle.seq_tree.specs.Names.{Name}
use Rattle.seq_tree.specs.Statements.{Statement, Statements, Branches, Null, Assign, If, For, ExitWhen, Call, Work, Put, End, Then, Nothing}
use Rattle.seq_tree.specs.Statements.{Else, When}
use Rattle.seq_tree.specs.Faults.{Scope, Exit, fault_if, within_loop, statement_fault, block_fault, branches_fault, expressions_fault, condition}
use Rattle.seq_tree.specs.Faults.{conditions}
use Rattle.seq_tree.specs.Calls.{block_calls}
use Rattle.seq_tree.specs.Dearest.{turn_count}
use Rattle.seq_tree.specs.declared.tree.OpName.{OpName}
use Rattle.analysis.specs.Sections.{live_statement, live_calls, live_branches}
use Rattle.law_lists.proofs.Shared.Facts.{or_else-none, not-fault}
use Rattle.law_lists.proofs.Shared.Lists.{IsIn, in-left, in-right}
use Rattle.law_calls.proofs.Shared.Live.{live-in}
use Rattle.law_ceilings.specs.Bodies.{Where, StatementFits, BlockFits, BranchesFit}

-- blocks without a fault, whose calls outside loops of no turn may be made
module _ (May : Name → Name → Type 0) where
  mutual
    statement-fits : (c : Scope) (s : Statement) → statement_fault c s ≡ None → ((x : OpName) → IsIn x (live_statement s) → May x.object x.op)
        → StatementFits May c.in_loop s
    statement-fits c Null e calls = tt
    statement-fits c (Assign target v) e calls = tt
    statement-fits c (If branches) e calls
        = branches-fit c branches (or_else-none (expressions_fault c (conditions branches)) (branches_fault c branches) e).1 calls
    statement-fits c (For name low high body) e calls = turns (nat_le low high) refl (λ k. live-fits (within_loop c name) body e k)
      where
        turns : (b : Bool) → nat_le low high ≡ b → (((x : OpName) → IsIn x (live_calls body) → May x.object x.op) → BlockFits May true body)
            → Where b (BlockFits May true body)
        turns true h fits =
            let some : (turn_count low high == 0) ≡ false = grind arith in
            fits (λ x k. calls x (subst (λ b. IsIn x (if b then [] else live_calls body)) (sym some) k))
        turns false h fits = tt
    statement-fits c (ExitWhen v) e calls
        = not-fault c.in_loop Exit (or_else-none (expressions_fault c (condition v ∷ [])) (fault_if (not c.in_loop) Exit) e).1
    statement-fits c (Call object op actuals) e calls = calls (record { object = object; op = op }) (inl refl)
    statement-fits c (Work ticks) e calls = tt
    statement-fits c (Put v) e calls = tt

    pub live-fits : (c : Scope) (b : Statements) → block_fault c b ≡ None → ((x : OpName) → IsIn x (live_calls b) → May x.object x.op)
        → BlockFits May c.in_loop b
    live-fits c End e calls = tt
    live-fits c (Then first rest) e calls =
        let parts = or_else-none (statement_fault c first) (block_fault c rest) e in (
          statement-fits c first parts.0 (λ x h. calls x (in-left x (live_statement first) (live_calls rest) h)),
          live-fits c rest parts.1 (λ x h. calls x (in-right x (live_statement first) (live_calls rest) h)),
        )

    branches-fit : (c : Scope) (b : Branches) → branches_fault c b ≡ None → ((x : OpName) → IsIn x (live_branches b) → May x.object x.op)
        → BranchesFit May c.in_loop b
    branches-fit c Nothing e calls = tt
    branches-fit c (Else block) e calls = live-fits c block e calls
    branches-fit c (When v block others) e calls =
        let parts = or_else-none (block_fault c block) (branches_fault c others) e in (
          live-fits c block parts.0 (λ x h. calls x (in-left x (live_calls block) (live_branches others) h)),
          branches-fit c others parts.1 (λ x h. calls x (in-right x (live_calls block) (live_branches others) h)),
        )

  -- where all its calls may be made
  pub block-fits : (c : Scope) (b : Statements) → block_fault c b ≡ None → ((x : OpName) → IsIn x (block_calls b) → May x.object x.op)
      → BlockFits May c.in_loop b
  block-fits c b e calls = live-fits c b e (λ x h. calls x (live-in b x h))
