-- Blocks that may be walked, with a weaker fact of their calls: so calls may go deeper than they need.
use Rattle.std.proofs.Common.{ℕ, zero, suc, ◌≤◌, Bool, true, false, arith}
use Rattle.seq_tree.specs.Names.{Name}
use Rattle.seq_tree.specs.Statements.{Statement, Statements, Branches, Null, Assign, If, For, ExitWhen, Call, Work, Put, End, Then, Nothing}
use Rattle.seq_tree.specs.Statements.{Else, When}
use Rattle.seq_tree.specs.Operations.{Operation}
use Rattle.seq_tree.specs.Runs.{Callee, Plain, Protected, Asked, Unknown}
use Rattle.law_walks.specs.Fit.{MayStatement, MayBlock, MayBranches, Leads, MayCall, MayRun}

-- good calls, with a weaker fact
mutual
  may-statement : (Good Weak : Name → Name → Type 0) → ((object op : Name) → Good object op → Weak object op) → (within : Bool) (s : Statement)
      → MayStatement Good within s → MayStatement Weak within s
  may-statement Good Weak to within Null f = tt
  may-statement Good Weak to within (Assign target e) f = tt
  may-statement Good Weak to within (If branches) f = may-branches Good Weak to within branches f
  may-statement Good Weak to within (For name low high b) f = may-block Good Weak to true b f
  may-statement Good Weak to within (ExitWhen condition) f = f
  may-statement Good Weak to within (Call object op actuals) f = to object op f
  may-statement Good Weak to within (Work ticks) f = tt
  may-statement Good Weak to within (Put e) f = tt

  pub may-block : (Good Weak : Name → Name → Type 0) → ((object op : Name) → Good object op → Weak object op) → (within : Bool) (b : Statements)
      → MayBlock Good within b → MayBlock Weak within b
  may-block Good Weak to within End f = tt
  may-block Good Weak to within (Then first rest) f = (may-statement Good Weak to within first f.0, may-block Good Weak to within rest f.1)

  may-branches : (Good Weak : Name → Name → Type 0) → ((object op : Name) → Good object op → Weak object op) → (within : Bool) (b : Branches)
      → MayBranches Good within b → MayBranches Weak within b
  may-branches Good Weak to within Nothing f = tt
  may-branches Good Weak to within (Else block) f = may-block Good Weak to within block f
  may-branches Good Weak to within (When condition block others) f
      = (may-block Good Weak to within block f.0, may-branches Good Weak to within others f.1)

pub leads-map : (Fact Weak : Operation → Type 0) → ((o : Operation) → Fact o → Weak o) → (c : Callee) → Leads Fact c → Leads Weak c
leads-map Fact Weak to (Plain o) h = to o h
leads-map Fact Weak to (Protected params) h = tt
leads-map Fact Weak to Asked h = tt
leads-map Fact Weak to Unknown h = h

-- calls may go deeper
call-deeper : (calls : Name → Name → Callee) (n m : ℕ) → n ≤ m → (object op : Name) → MayCall calls n object op → MayCall calls m object op
call-deeper calls zero zero le object op h = h
call-deeper calls zero (suc m) le object op h = leads-map _ _ (λ o none. absurd none) (calls object op) h
call-deeper calls (suc n) zero le object op h = absurd (omega (arith, le))
call-deeper calls (suc n) (suc m) le object op h =
    leads-map _ _ (λ o. may-block (MayCall calls n) (MayCall calls m) (call-deeper calls n m (omega (arith, le))) false o.block) (calls object op) h

-- a block that may be walked with calls so deep may be with deeper ones
pub run-deeper : (calls : Name → Name → Callee) (n m : ℕ) → n ≤ m → (b : Statements) → MayRun calls n b → MayRun calls m b
run-deeper calls n m le b = may-block (MayCall calls n) (MayCall calls m) (call-deeper calls n m le) false b
