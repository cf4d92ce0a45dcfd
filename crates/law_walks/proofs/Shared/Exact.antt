-- Walks are exact: of statements, blocks, branches and calls, by induction on the depth of calls and on the block.
use Rattle.std.proofs.Common.{◌≡◌, ℕ, zero, suc, ◌+◌, ◌*◌, Bool, true, false, List, [], ◌∷◌, ◌++◌, length, refl, sym, ap, ◌∙◌}
use Rattle.grammar.specs.Reading.{Reads, Joined, then_at, pure_at, token_at}
use Rattle.grammar.proofs.Shared.Laws.{reads-then, reads-token, reads-same, reads-map, IsToken}
use Rattle.grammar.proofs.Shared.Whole.{whole-found, whole-only, whole-fault}
use Rattle.seq_tree.specs.Names.{Name}
use Rattle.seq_tree.specs.Expressions.{Expression}
use Rattle.seq_tree.specs.Statements.{Statement, Statements, Branches, Null, Assign, If, For, ExitWhen, Call, Work, Put, End, Then, Nothing}
use Rattle.seq_tree.specs.Statements.{Else, When}
use Rattle.seq_tree.specs.Operations.{Operation, out_names}
use Rattle.seq_tree.specs.Variables.{Variables, write, opened, targets}
use Rattle.seq_tree.specs.Values.{value, holds, handed}
use Rattle.seq_tree.specs.Dearest.{turn_count}
use Rattle.seq_tree.specs.Runs.{Action, Path, Setting, Callee, Plain, Protected, Asked, Unknown, silent, joined, turned, Followed, Turns, Called}
use Rattle.seq_tree.specs.Runs.{RunStatement, RunBlock, RunBranch, RunBody, Run, request_value}
use Rattle.seq_tree.specs.Runs as runs
use Rattle.seq_tree.specs.declared.tree.Costs.{Costs}
use Rattle.seq_tree.specs.declared.tree.OpName.{OpName}
use Rattle.law_walks.specs.Walks.{Walk, Guide, called_at, statement_at, block_at, branches_at, body_at, walk_at, telling, passed, returned, after_at}
use Rattle.law_walks.specs.Walks.{sees_entry, sees_leave, sees_request, sees_print}
use Rattle.law_walks.specs.Fit.{MayStatement, MayBlock, MayBranches, MayCall, MayRun, Leads}
use Rattle.law_walks.specs.Laws.{Tells}
use Rattle.law_walks.proofs.Shared.Bodies.{AnyBody, with_bodies, body_of, run_of, run_any, block_any}
use Rattle.law_walks.proofs.Shared.Deeper.{leads-map, may-block}
use Rattle.law_walks.proofs.Equals.{entry-one, entry-self, leave-one, leave-self, request-one, request-self, print-one, print-self}
use Rattle.law_walks.proofs.Steps.{Does, Any, Walks, Behind, walks-given, walks-after, walks-then, walks-turns, walks-chosen, walks-action}

-- the actions of a way through a call of a protected operation
abbrev Passes : Costs → OpName → List ℕ → List Name → ℕ → Variables → Path → Type 0
Passes costs name values stores count vars p = (results : List ℕ) × (length results ≡ count) × (p ≡ passed costs name values stores vars results)

-- some results
abbrev some_results : ℕ → List ℕ
some_results zero = []
some_results (suc n) = 0 ∷ some_results n

some-length : (n : ℕ) → length (some_results n) ≡ n
some-length zero = refl
some-length (suc n) = ap suc (some-length n)

-- a call of a protected operation: its entry, and an exit from it
walks-passed : (costs : Costs) (name : OpName) (values : List ℕ) (stores : List Name) (count : ℕ) (vars : Variables)
    → Walks (Passes costs name values stores count vars)
    (then_at (token_at (sees_entry name values)) (λ e. then_at (token_at (sees_leave name count))
    (λ results. pure_at (passed costs name values stores vars results))))
walks-passed costs name values stores count vars =
    reads-same (Joined Entry (λ a. Left)) (Does (Passes costs name values stores count vars)) Any whole to back
    (reads-then Entry (λ a. Left) (λ b o. Unit {0}) Any (token_at (sees_entry name values)) (λ a. leave)
    (reads-token (sees_entry name values) (runs.Enter name values) (runs.Enter name values) (entry-self name values)) (λ a. left)
    (λ a b back rest h stop. tt))
  where
    Entry : Action → List Action → Type 0
    Entry = IsToken (sees_entry name values)

    -- the exit, as what is left of the way's script
    Left : Path → List Action → Type 0
    Left p text = (results : List ℕ) × (length results ≡ count) × (p ≡ passed costs name values stores vars results)
        × (text ≡ runs.Leave name results ∷ [])

    leave : Walk
    leave = then_at (token_at (sees_leave name count)) (λ results. pure_at (passed costs name values stores vars results))

    whole : Walk
    whole = then_at (token_at (sees_entry name values)) (λ a. leave)

    left : Reads Left Any leave
    left = reads-map (IsToken (sees_leave name count)) Left (λ b o. Unit {0}) Any (token_at (sees_leave name count))
        (passed costs name values stores vars)
        (reads-token (sees_leave name count) (some_results count) (runs.Leave name (some_results count))
        (leave-self name count (some_results count) (some-length count)))
        (λ results text h.
        let one = leave-one name count h.token results h.seen in (results, one.1, refl, h.whole ∙ ap (λ x. x ∷ []) one.0))
        (λ p text h. (h.0, record { token = runs.Leave name h.0; seen = leave-self name count h.0 h.1; whole = h.3 }, sym h.2))
        (λ b o h. tt) (λ b o h. tt)

    to : (p : Path) (text : List Action) → Joined Entry (λ a. Left) p text → Does (Passes costs name values stores count vars) p text
    to p text j =
        let results : List ℕ = j.after.0 in (
          (results, j.after.1, j.after.2),
          j.whole ∙ ap (λ t. t ++ j.back) (j.before.whole ∙ ap (λ x. x ∷ []) (entry-one name values j.before.token j.a j.before.seen).0)
              ∙ ap (λ t. runs.Enter name values ∷ t) j.after.3 ∙ sym (ap (λ r. r.script) j.after.2),
        )

    back : (p : Path) (text : List Action) → Does (Passes costs name values stores count vars) p text → Joined Entry (λ a. Left) p text
    back p text h =
        record {
          a = runs.Enter name values;
          front = runs.Enter name values ∷ [];
          back = runs.Leave name h.0.0 ∷ [];
          before = record { token = runs.Enter name values; seen = entry-self name values; whole = refl };
          after = (h.0.0, h.0.1, h.0.2, refl);
          whole = h.1 ∙ ap (λ r. r.script) h.0.2;
        }

-- the way through the body of a passive operation, as a way through its call
walks-returned : (costs : Costs) (o : Operation) (actuals : List Expression) (vars : Variables) (Body : Path → Type 0) (body : Walk)
    → Walks Body body
    → Walks (λ p. (b : Path) × Body b × (p ≡ returned costs o actuals vars b)) (then_at body (λ b. pure_at (returned costs o actuals vars b)))
walks-returned costs o actuals vars Body body one =
    reads-map (Does Body) (Does (λ p. (b : Path) × Body b × (p ≡ returned costs o actuals vars b))) Any Any body (returned costs o actuals vars) one
    (λ b text h. ((b, h.0, refl), h.1)) (λ p text h. (h.0.0, (h.0.1, h.1 ∙ ap (λ r. r.script) h.0.2), sym h.0.2)) (λ b o h. tt) (λ b o h. tt)

module _ (costs : Costs) (calls : Name → Name → Callee) where
  -- ways however deep their calls are
  abbrev any : Setting
  any = with_bodies costs calls (AnyBody costs calls)

  abbrev guide : (Operation → Variables → Walk) → Guide
  guide body = record { costs = costs; callee = calls; body = body }

  -- a call, where the body that it leads to is walked
  walks-called : (body : Operation → Variables → Walk) (name : OpName) (c : Callee) (actuals : List Expression) (vars : Variables)
      → Leads (λ o. (w : Variables) → Walks (AnyBody costs calls o w) (body o w)) c
      → Walks (Called any name c actuals vars) (called_at (guide body) name c actuals vars)
  walks-called body name (Plain o) actuals vars one =
      walks-returned costs o actuals vars (AnyBody costs calls o (opened o (handed o.sig.params actuals vars)))
      (body o (opened o (handed o.sig.params actuals vars))) (one (opened o (handed o.sig.params actuals vars)))
  walks-called body name (Protected params) actuals vars one =
      walks-passed costs name (handed params actuals vars) (targets params actuals) (length (out_names params)) vars
  walks-called body name Asked actuals vars one =
      walks-action (sees_request name (request_value actuals vars)) (runs.Request name (request_value actuals vars))
      (telling (costs.call + 2 * costs.assign) vars (runs.Request name (request_value actuals vars))) refl
      (request-one name (request_value actuals vars)) (request-self name (request_value actuals vars))
  walks-called body name Unknown actuals vars one = absurd one

  -- calls that are walked
  abbrev AreWalked : (Operation → Variables → Walk) → Name → Name → Type 0
  AreWalked body object op = Leads (λ o. (w : Variables) → Walks (AnyBody costs calls o w) (body o w)) (calls object op)

  -- a condition that takes its ticks, and what follows it
  tested : (p : Path) → p.script ≡ [] → (Next : Path → Type 0) (next : Walk) → Walks Next next → Walks (Followed false p Next) (after_at false p next)
  tested p quiet Next next one =
      reads-same (Behind false p Next) (Does (Followed false p Next)) Any (after_at false p next)
      (λ q text h. (h.0, sym (h.1 ∙ ap (λ t. t ++ text) quiet))) (λ q text h. (h.0, sym h.1 ∙ sym (ap (λ t. t ++ text) quiet)))
      (walks-after false p Next next one)

  module _ (body : Operation → Variables → Walk) where
    mutual
      walks-statement : (within : Bool) (s : Statement) → MayStatement (AreWalked body) within s → (vars : Variables)
          → Walks (RunStatement any s vars) (statement_at (guide body) s vars)
      walks-statement within Null f vars = walks-given (silent costs.nothing vars) refl
      walks-statement within (Assign target e) f vars = walks-given (silent costs.assign (write target (value e vars) vars)) refl
      walks-statement within (If branches) f vars = walks-branches within branches f vars
      walks-statement within (For name low high b) f vars =
          walks-turns (turn_count low high) low costs.turn name (RunBlock any b) (block_at (guide body) b) (walks-block true b f) vars
      walks-statement within (ExitWhen condition) f vars =
          walks-given (record (silent costs.test vars) { left = holds condition vars }) refl
      walks-statement within (Call object op actuals) f vars =
          walks-called body (record { object = object; op = op }) (calls object op) actuals vars f
      walks-statement within (Work ticks) f vars = walks-given (record (silent 1 vars) { high = ticks }) refl
      walks-statement within (Put e) f vars =
          walks-action (sees_print (value e vars)) (runs.Print (value e vars)) (telling costs.put vars (runs.Print (value e vars))) refl
          (print-one (value e vars)) (print-self (value e vars))

      walks-block : (within : Bool) (b : Statements) → MayBlock (AreWalked body) within b → (vars : Variables)
          → Walks (RunBlock any b vars) (block_at (guide body) b vars)
      walks-block within End f vars = walks-given (silent 0 vars) refl
      walks-block within (Then first rest) f vars =
          walks-then (λ q. q) (λ q. refl) (RunStatement any first vars) (statement_at (guide body) first vars) (λ q. RunBlock any rest q.vars)
          (λ q. block_at (guide body) rest q.vars) (walks-statement within first f.0 vars) (λ q. walks-block within rest f.1 q.vars)

      walks-branches : (within : Bool) (b : Branches) → MayBranches (AreWalked body) within b → (vars : Variables)
          → Walks (RunBranch any b vars) (branches_at (guide body) b vars)
      walks-branches within Nothing f vars = walks-given (silent 0 vars) refl
      walks-branches within (Else block) f vars = walks-block within block f vars
      walks-branches within (When condition block others) f vars =
          tested (silent costs.test vars) refl _ _ (walks-chosen (holds condition vars) _ _ _ _ (walks-block within block f.0 vars)
          (walks-branches within others f.1 vars))

  -- the way through a body is one through its block
  walks-body : (depth : ℕ) (o : Operation) → MayBlock (AreWalked (body_at costs calls depth)) false o.block → (vars : Variables)
      → Walks (AnyBody costs calls o vars) (body_at costs calls (suc depth) o vars)
  walks-body depth o f vars =
      reads-same (Does (RunBlock any o.block vars)) (Does (AnyBody costs calls o vars)) Any (body_at costs calls (suc depth) o vars)
      (λ p text h. (body_of costs calls o vars p h.0, h.1)) (λ p text h. (block_any costs calls o vars p h.0, h.1))
      (walks-block (body_at costs calls depth) false o.block f vars)

  walked : (depth : ℕ) (object op : Name) → MayCall calls depth object op → AreWalked (body_at costs calls depth) object op
  walked zero object op h = leads-map _ _ (λ o none. absurd none) (calls object op) h
  walked (suc depth) object op h =
      leads-map _ _ (λ o may vars. walks-body depth o (may-block (MayCall calls depth) (AreWalked (body_at costs calls depth)) (walked depth) false o.block
      may) vars) (calls object op) h

  -- no way leaves a loop where there is none
  stays-followed : (b : Bool) (first : Path) (Next : Path → Type 0) (p : Path) → first.left ≡ false → ((q : Path) → Next q → q.left ≡ false)
      → Followed b first Next p → p.left ≡ false
  stays-followed true first Next p e next h = ap (λ r. r.left) h ∙ e
  stays-followed false first Next p e next h = ap (λ r. r.left) h.2 ∙ next h.0 h.1

  stays-chosen : (b : Bool) (First Second : Path → Type 0) (p : Path) → ((q : Path) → First q → q.left ≡ false)
      → ((q : Path) → Second q → q.left ≡ false)
      → runs.Chosen b First Second p → p.left ≡ false
  stays-chosen true First Second p one two h = one p h
  stays-chosen false First Second p one two h = two p h

  stays-turns : (n at turn : ℕ) (name : Name) (Body : Variables → Path → Type 0) (vars : Variables) (p : Path) → Turns n at turn name Body vars p
      → p.left ≡ false
  stays-turns zero at turn name Body vars p h = ap (λ r. r.left) h
  stays-turns (suc n) at turn name Body vars p h =
      stays-followed h.0.left (turned turn h.0) _ p refl (λ q i. stays-turns n (suc at) turn name Body _ q i) h.2

  stays-called : (name : OpName) (c : Callee) (actuals : List Expression) (vars : Variables) (p : Path) → Called any name c actuals vars p
      → p.left ≡ false
  stays-called name (Plain o) actuals vars p h = ap (λ r. r.left) h.2
  stays-called name (Protected params) actuals vars p h = ap (λ r. r.left) h.2
  stays-called name Asked actuals vars p h = ap (λ r. r.left) h
  stays-called name Unknown actuals vars p h = absurd h

  mutual
    stays-statement : (Good : Name → Name → Type 0) (s : Statement) → MayStatement Good false s → (vars : Variables) (p : Path)
        → RunStatement any s vars p → p.left ≡ false
    stays-statement Good Null f vars p h = ap (λ r. r.left) h
    stays-statement Good (Assign target e) f vars p h = ap (λ r. r.left) h
    stays-statement Good (If branches) f vars p h = stays-branches Good branches f vars p h
    stays-statement Good (For name low high b) f vars p h =
        stays-turns (turn_count low high) low costs.turn name (RunBlock any b) vars p h
    stays-statement Good (ExitWhen condition) f vars p h = cc
    stays-statement Good (Call object op actuals) f vars p h =
        stays-called (record { object = object; op = op }) (calls object op) actuals vars p h
    stays-statement Good (Work ticks) f vars p h = ap (λ r. r.left) h
    stays-statement Good (Put e) f vars p h = ap (λ r. r.left) h

    pub stays-block : (Good : Name → Name → Type 0) (b : Statements) → MayBlock Good false b → (vars : Variables) (p : Path)
        → RunBlock any b vars p → p.left ≡ false
    stays-block Good End f vars p h = ap (λ r. r.left) h
    stays-block Good (Then first rest) f vars p h =
        stays-followed h.0.left h.0 (RunBlock any rest h.0.vars) p (stays-statement Good first f.0 vars h.0 h.1)
        (λ q i. stays-block Good rest f.1 h.0.vars q i) h.2

    stays-branches : (Good : Name → Name → Type 0) (b : Branches) → MayBranches Good false b → (vars : Variables) (p : Path)
        → RunBranch any b vars p → p.left ≡ false
    stays-branches Good Nothing f vars p h = ap (λ r. r.left) h
    stays-branches Good (Else block) f vars p h = stays-block Good block f vars p h
    stays-branches Good (When condition block others) f vars p h =
        ap (λ r. r.left) h.2 ∙ stays-chosen (holds condition vars) _ _ h.0 (λ q i. stays-block Good block f.0 vars q i)
        (λ q i. stays-branches Good others f.1 vars q i) h.1

  -- the walk of a block takes the scripts of its runs
  pub walks-runs : (depth : ℕ) (b : Statements) → MayRun calls depth b → (vars : Variables)
      → Walks (Run costs calls b vars) (walk_at costs calls depth b vars)
  walks-runs depth b may vars =
      reads-same (Does (RunBlock any b vars)) (Does (Run costs calls b vars)) Any (walk_at costs calls depth b vars)
      (λ p text h. (run_of costs calls b vars p h.0 (stays-block (MayCall calls depth) b may vars p h.0), h.1))
      (λ p text h. (run_any costs calls b vars p h.0, h.1))
      (walks-block (body_at costs calls depth) false b
      (may-block (MayCall calls depth) (AreWalked (body_at costs calls depth)) (walked depth) false b may) vars)

  pub tells : (depth : ℕ) (b : Statements) (vars : Variables) (script : List Action) → MayRun calls depth b → Tells costs calls depth b vars script
  tells depth b vars script may =
      let one = walks-runs depth b may vars in
      record {
        found = λ p e. whole-found (Does (Run costs calls b vars)) Any (walk_at costs calls depth b vars) one (λ p. tt) script p e;
        only = λ p g. whole-only (Does (Run costs calls b vars)) Any (walk_at costs calls depth b vars) one (λ p. tt) script p g;
        fault = λ halt e. whole-fault (Does (Run costs calls b vars)) Any (walk_at costs calls depth b vars) one (λ p. tt) script halt e;
      }
