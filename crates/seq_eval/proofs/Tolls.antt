-- What is left to do takes no more ticks than its dearest path, and each step takes its own part of it. With a part for the step itself, this
-- is what a step brings the end nearer by.
use Rattle.std.proofs.Common.{◌≡◌, ℕ, zero, suc, ◌+◌, ◌-◌, ◌*◌, ◌≤◌, ◌<◌, max, Bool, true, false, List, [], ◌∷◌, length, Option, Some, None, Ok, Err}
use Rattle.std.proofs.Common.{refl, ap, ◌∙◌, arith, cond}
use Rattle.std.specs.Prelude.{is_some, nat_le, nat_lt}
use Rattle.std.proofs.Math.Nat.{suc-mul}
use Rattle.std.proofs.lemmas.Bool.{leb-true, ltb-true}
use Rattle.seq_tree.specs.Names.{Name}
use Rattle.seq_tree.specs.Expressions.{Expression}
use Rattle.seq_tree.specs.Expressions as expression
use Rattle.seq_tree.specs.Statements.{Statement, Statements, Branches, Null, Assign, If, For, ExitWhen, Call, Work, Put, End, Then, Nothing}
use Rattle.seq_tree.specs.Statements.{Else, When}
use Rattle.seq_tree.specs.Operations.{out_names}
use Rattle.seq_tree.specs.Values.{value, holds, handed}
use Rattle.seq_tree.specs.Variables.{targets}
use Rattle.seq_tree.specs.Dearest.{dearest_statement, dearest_branch, turn_count}
use Rattle.seq_tree.specs.Runs.{Action, Callee, Plain, Protected, Asked, Unknown, request_value}
use Rattle.seq_tree.specs.declared.tree.Costs.{Costs}
use Rattle.seq_tree.specs.declared.tree.OpName.{OpName}
use Rattle.law_walks.specs.Walks.{sees_entry, sees_leave, sees_print, sees_request}
use Rattle.seq_eval.specs.Bounds.{block_ticks, callee_ticks, called_ticks, most_ticks}
use Rattle.seq_eval.specs.Stepping.{Doing, Rest, Arms, Turned, Returned, State, Step, spent, to_do, turning, turned_over, told_by}
use Rattle.seq_eval.specs.Stepping.{left_by, stored_by, called, begun, branched, done, passed_over, step_by, step}
use Rattle.seq_eval.proofs.Meaning.{backs}

module _ (costs : Costs) (calls : Name → Name → Callee) (each : ℕ) where
  -- the toll of statements, where each step adds something and calls add this much
  abbrev mutual
    pub toll_statement : (Name → Name → ℕ) → Statement → ℕ
    toll_statement within Null = each + costs.nothing
    toll_statement within (Assign target e) = each + costs.assign
    toll_statement within (If branches) = each + toll_branches within branches
    toll_statement within (For name low high body) = each + turn_count low high * (each + each + costs.turn + toll_block within body)
    toll_statement within (ExitWhen condition) = each + costs.test
    toll_statement within (Call object op actuals) = each + (costs.call + within object op)
    toll_statement within (Work ticks) = each + max 1 ticks
    toll_statement within (Put e) = each + costs.put

    pub toll_block : (Name → Name → ℕ) → Statements → ℕ
    toll_block within End = each
    toll_block within (Then first more) = toll_statement within first + toll_block within more

    pub toll_branches : (Name → Name → ℕ) → Branches → ℕ
    toll_branches within Nothing = each
    toll_branches within (Else block) = each + toll_block within block
    toll_branches within (When condition block others) = each + (costs.test + max (toll_block within block) (toll_branches within others))

  abbrev pub toll_callee : (Statements → ℕ) → Callee → ℕ
  toll_callee toll (Plain o) = each + toll o.block
  toll_callee toll (Protected params) = 0
  toll_callee toll Asked = 2 * costs.assign
  toll_callee toll Unknown = 0

  abbrev pub toll_called : ℕ → Name → Name → ℕ
  toll_called zero object op = 0
  toll_called (suc n) object op = toll_callee (toll_block (toll_called n)) (calls object op)

  module _ (deepest : ℕ) where
    -- the toll of what is to do where these bodies are under way
    abbrev pub toll_doing : ℕ → Doing → ℕ
    toll_doing n (Rest block) = toll_block (toll_called (deepest - n)) block
    toll_doing n (Arms branches) = toll_branches (toll_called (deepest - n)) branches
    toll_doing n (Turned name at last body) =
        each + (costs.turn + (last - at) * (each + each + costs.turn + toll_block (toll_called (deepest - n)) body))
    toll_doing n (Returned o actuals vars) = each

    abbrev pub toll : List Doing → ℕ
    toll [] = 0
    toll (d ∷ ds) = toll_doing (backs ds) d + toll ds

  -- every block has a toll for its end
  pub block-some : (within : Name → Name → ℕ) (b : Statements) → each ≤ toll_block within b
  block-some within End = omega arith
  block-some within (Then first more) = let e = block-some within more in omega (arith, e)

  branches-some : (within : Name → Name → ℕ) (b : Branches) → each ≤ toll_branches within b
  branches-some within Nothing = omega arith
  branches-some within (Else block) = omega arith
  branches-some within (When condition block others) = omega arith

-- a step from a state whose toll was this much: it takes its ticks, and a part for itself
pub record Pays (costs : Costs) (calls : Name → Name → Callee) (each deepest before low-before high-before : ℕ) (t : State) : Type 0 where
  pub less : ℕ
  pub more : ℕ
  pub low : t.low ≡ low-before + less
  pub high : t.high ≡ high-before + more
  pub low-paid : toll costs calls each deepest t.doings + less + each ≤ before
  pub high-paid : toll costs calls each deepest t.doings + more + each ≤ before

abbrev pub PaysStep : Costs → (Name → Name → Callee) → ℕ → ℕ → ℕ → ℕ → ℕ → Step → Type 0
PaysStep costs calls each deepest before low high (Ok t) = Pays costs calls each deepest before low high t
PaysStep costs calls each deepest before low high (Err left) = Unit {0}

module _ (costs : Costs) (calls : Name → Name → Callee) (each deepest : ℕ) where
  abbrev tolls : List Doing → ℕ
  tolls = toll costs calls each deepest

  abbrev Paying : ℕ → State → State → Type 0
  Paying before s t = Pays costs calls each deepest before s.low s.high t

  -- a step that takes this many ticks
  takes : (before l h : ℕ) (s t : State) → t.low ≡ s.low + l → t.high ≡ s.high + h → tolls t.doings + l + each ≤ before
      → tolls t.doings + h + each ≤ before
      → Paying before s t
  takes before l h s t e f g i = record { less = l; more = h; low = e; high = f; low-paid = g; high-paid = i }

  -- the next action has to be one of these
  told-pays : (before : ℕ) (sees : Action → Bool) (script : List Action) (s : State) (next : State → Step)
      → ((us : List Action) → PaysStep costs calls each deepest before s.low s.high (next (record s { script = us })))
      → PaysStep costs calls each deepest before s.low s.high (told_by sees script s next)
  told-pays before sees [] s next h = tt
  told-pays before sees (a ∷ us) s next h = by (sees a)
    where
      by : (b : Bool) → PaysStep costs calls each deepest before s.low s.high (cond b (next (record s { script = us })) (Err (suc (length us))))
      by true = h us
      by false = tt

  left-pays : (before : ℕ) (s t : State) (name : OpName) (count : ℕ) (stores : List Name) (us : List Action) → t.low ≡ s.low → t.high ≡ s.high
      → tolls t.doings + costs.call + each ≤ before
      → PaysStep costs calls each deepest before s.low s.high (left_by costs name count stores us t)
  left-pays before s t name count stores [] e f g = tt
  left-pays before s t name count stores (a ∷ us) e f g = by (sees_leave name count a)
    where
      by : (o : Option (List ℕ)) → PaysStep costs calls each deepest before s.low s.high (stored_by costs stores o us t)
      by None = tt
      by (Some results) = takes before costs.call costs.call s _ (omega (arith, e)) (omega (arith, f)) g g

  -- a call, its toll on top of what is left to do
  called-pays : (s : State) (name : OpName) (c : Callee) (actuals : List Expression) (before : ℕ) → backs s.doings < deepest
      → before ≡ each + (costs.call
      + toll_callee costs calls each (toll_block costs calls each (toll_called costs calls each (deepest - suc (backs s.doings)))) c) + tolls s.doings
      → PaysStep costs calls each deepest before s.low s.high (called costs name c actuals s)
  called-pays s name (Plain o) actuals before within e =
      takes before costs.call costs.call s _ refl refl (omega (arith, e)) (omega (arith, e))
  called-pays s name (Protected params) actuals before within e =
      told-pays before (λ a. is_some (sees_entry name (handed params actuals s.vars) a)) s.script s
      (λ t. left_by costs name (length (out_names params)) (targets params actuals) t.script t)
      (λ us. left-pays before s (record s { script = us }) name (length (out_names params)) (targets params actuals) us refl refl (omega (arith, e)))
  called-pays s name Asked actuals before within e =
      told-pays before (λ a. is_some (sees_request name (request_value actuals s.vars) a)) s.script s
      (λ t. Ok (spent (costs.call + 2 * costs.assign) (costs.call + 2 * costs.assign) t))
      (λ us. takes before (costs.call + 2 * costs.assign) (costs.call + 2 * costs.assign) s _ refl refl (omega (arith, e)) (omega (arith, e)))
  called-pays s name Unknown actuals before within e = tt

  deeper : (n : ℕ) → n < deepest → deepest - n ≡ suc (deepest - suc n)
  deeper n within = omega (arith, within)

  called-toll : (n : ℕ) (object op : Name) → n < deepest
      → toll_called costs calls each (deepest - n) object op
      ≡ toll_callee costs calls each (toll_block costs calls each (toll_called costs calls each (deepest - suc n))) (calls object op)
  called-toll n object op within = ap (λ k. toll_called costs calls each k object op) (deeper n within)

  -- one turn more
  one-turn : (m n x : ℕ) → n ≡ suc m → n * x ≡ m * x + x
  one-turn m n x e = ap (λ k. k * x) e ∙ suc-mul m x

  -- some turns begin, where no ticks were taken
  turning-pays : (s t : State) (name : Name) (at last n : ℕ) (body : Statements) (before l : ℕ) → t.low ≡ s.low + l → t.high ≡ s.high + l
      → n ≡ suc (last - at)
      → before ≡ each + (l + n * (each + each + costs.turn + toll_block costs calls each (toll_called costs calls each
      (deepest - backs t.doings)) body))
      + tolls t.doings
      → Paying before s (turning name at last body t)
  turning-pays s t name at last n body before l e f count g =
      let inside : ℕ = toll_block costs calls each (toll_called costs calls each (deepest - backs t.doings)) body in
      let one = one-turn (last - at) n (each + each + costs.turn + inside) count in
      takes before l l s _ e f (omega (arith, g, one)) (omega (arith, g, one))

  -- no turn begins
  resting-pays : (s t : State) (before more l : ℕ) → t.low ≡ s.low + l → t.high ≡ s.high + l → before ≡ each + (l + more) + tolls t.doings
      → Paying before s t
  resting-pays s t before more l e f g = takes before l l s t e f (omega (arith, g)) (omega (arith, g))

  loop-pays : (s : State) (name : Name) (at last : ℕ) (body : Statements) (before : ℕ) (b : Bool) → nat_le at last ≡ b
      → before ≡ toll_statement costs calls each (toll_called costs calls each (deepest - backs s.doings)) (For name at last body) + tolls s.doings
      → Paying before s (cond b (turning name at last body s) s)
  loop-pays s name at last body before true some e =
      let l : at ≤ last = leb-true at last some in
      let zero-low : s.low ≡ s.low + 0 = omega arith in let zero-high : s.high ≡ s.high + 0 = omega arith in
      turning-pays s s name at last (turn_count at last) body before 0 zero-low zero-high (omega (arith, l)) (omega (arith, e))
  loop-pays s name at last body before false none e =
      let zero-low : s.low ≡ s.low + 0 = omega arith in let zero-high : s.high ≡ s.high + 0 = omega arith in
      resting-pays s s before (turn_count at last * (each + each + costs.turn
      + toll_block costs calls each (toll_called costs calls each (deepest - backs s.doings)) body)) 0 zero-low zero-high (omega (arith, e))

  -- a statement, its toll on top of what is left to do
  begun-pays : (s : State) (st : Statement) (before : ℕ) → backs s.doings < deepest
      → before ≡ toll_statement costs calls each (toll_called costs calls each (deepest - backs s.doings)) st + tolls s.doings
      → PaysStep costs calls each deepest before s.low s.high (begun costs calls st s)
  begun-pays s Null before within e = takes before costs.nothing costs.nothing s _ refl refl (omega (arith, e)) (omega (arith, e))
  begun-pays s (Assign target v) before within e = takes before costs.assign costs.assign s _ refl refl (omega (arith, e)) (omega (arith, e))
  begun-pays s (If branches) before within e = takes before 0 0 s _ (omega arith) (omega arith) (omega (arith, e)) (omega (arith, e))
  begun-pays s (For name at last body) before within e = loop-pays s name at last body before (nat_le at last) refl e
  begun-pays s (ExitWhen condition) before within e = takes before costs.test costs.test s _ refl refl (omega (arith, e)) (omega (arith, e))
  begun-pays s (Call object op actuals) before within e =
      called-pays s (record { object = object; op = op }) (calls object op) actuals before within
      (e ∙ ap (λ n. each + (costs.call + n) + tolls s.doings) (called-toll (backs s.doings) object op within))
  begun-pays s (Work ticks) before within e = takes before 1 ticks s _ refl refl (omega (arith, e)) (omega (arith, e))
  begun-pays s (Put v) before within e =
      told-pays before (λ a. is_some (sees_print (value v s.vars) a)) s.script s (λ t. Ok (spent costs.put costs.put t))
      (λ us. takes before costs.put costs.put s _ refl refl (omega (arith, e)) (omega (arith, e)))

  chosen-pays : (s : State) (block : Statements) (others : Branches) (before : ℕ) (b : Bool)
      → before ≡ toll_doing costs calls each deepest (backs s.doings) (Arms (When (expression.Number 0) block others)) + tolls s.doings
      → Paying before s (spent costs.test costs.test (to_do (cond b (Rest block) (Arms others)) s))
  chosen-pays s block others before true e = takes before costs.test costs.test s _ refl refl (omega (arith, e)) (omega (arith, e))
  chosen-pays s block others before false e = takes before costs.test costs.test s _ refl refl (omega (arith, e)) (omega (arith, e))

  branched-pays : (s : State) (branches : Branches) (before : ℕ)
      → before ≡ toll_doing costs calls each deepest (backs s.doings) (Arms branches) + tolls s.doings → Paying before s (branched costs branches s)
  branched-pays s Nothing before e = takes before 0 0 s _ (omega arith) (omega arith) (omega (arith, e)) (omega (arith, e))
  branched-pays s (Else block) before e = takes before 0 0 s _ (omega arith) (omega arith) (omega (arith, e)) (omega (arith, e))
  branched-pays s (When condition block others) before e = chosen-pays s block others before (holds condition s.vars) e

  turned-pays : (s : State) (name : Name) (at last : ℕ) (body : Statements) (before : ℕ) (b : Bool) → nat_lt at last ≡ b
      → before ≡ toll_doing costs calls each deepest (backs s.doings) (Turned name at last body) + tolls s.doings
      → Paying before s (cond b (turning name (at + 1) last body (turned_over costs s)) (turned_over costs s))
  turned-pays s name at last body before true some e =
      let l : at < last = ltb-true at last some in
      turning-pays s (turned_over costs s) name (at + 1) last (last - at) body before costs.turn refl refl (omega (arith, l)) e
  turned-pays s name at last body before false none e = resting-pays s (turned_over costs s) before _ costs.turn refl refl e

  done-pays : (d : Doing) (s : State) → backs s.doings < deepest
      → PaysStep costs calls each deepest (tolls (d ∷ s.doings)) s.low s.high (done costs calls d s)
  done-pays (Rest End) s within = takes _ 0 0 s _ (omega arith) (omega arith) (omega arith) (omega arith)
  done-pays (Rest (Then first more)) s within = begun-pays (to_do (Rest more) s) first _ within (omega arith)
  done-pays (Arms branches) s within = branched-pays s branches _ refl
  done-pays (Turned name at last body) s within = turned-pays s name at last body _ (nat_lt at last) refl refl
  done-pays (Returned o actuals vars) s within = takes _ 0 0 s _ (omega arith) (omega arith) (omega arith) (omega arith)

  over-pays : (d : Doing) (s : State) → Paying (tolls (d ∷ s.doings)) s (passed_over costs d s)
  over-pays (Rest block) s =
      let some = block-some costs calls each (toll_called costs calls each (deepest - backs s.doings)) block in
      takes _ 0 0 s _ (omega arith) (omega arith) (omega (arith, some)) (omega (arith, some))
  over-pays (Arms branches) s =
      let some = branches-some costs calls each (toll_called costs calls each (deepest - backs s.doings)) branches in
      takes _ 0 0 s _ (omega arith) (omega arith) (omega (arith, some)) (omega (arith, some))
  over-pays (Turned name at last body) s = takes _ costs.turn costs.turn s _ refl refl (omega arith) (omega arith)
  over-pays (Returned o actuals vars) s = takes _ 0 0 s _ (omega arith) (omega arith) (omega arith) (omega arith)

  by-pays : (leaving : Bool) (d : Doing) (s : State) → backs s.doings < deepest
      → PaysStep costs calls each deepest (tolls (d ∷ s.doings)) s.low s.high (step_by leaving costs calls d s)
  by-pays true d s within = over-pays d s
  by-pays false d s within = done-pays d s within

  -- a step pays for its ticks and for itself
  pub step-pays : (d : Doing) (s : State) → backs s.doings < deepest
      → PaysStep costs calls each deepest (tolls (d ∷ s.doings)) s.low s.high (step costs calls d s)
  step-pays d s within = by-pays s.leaving d s within

-- without a part for steps, the toll is the dearest path
module _ (costs : Costs) (calls : Name → Name → Callee) where
  mutual
    dearest-statement : (within other : Name → Name → ℕ) → ((object op : Name) → within object op ≡ other object op) → (s : Statement)
        → toll_statement costs calls 0 within s ≡ dearest_statement (record { costs = costs; work = max 1; called = other }) s
    dearest-statement within other same Null = omega arith
    dearest-statement within other same (Assign target e) = omega arith
    dearest-statement within other same (If branches) = let e = dearest-branches within other same branches in omega (arith, e)
    dearest-statement within other same (For name low high body) =
        let e = dearest-block within other same body in
        let one : 0 + 0 + costs.turn + toll_block costs calls 0 within body ≡ costs.turn + block_ticks costs other body = omega (arith, e) in
        let all = ap (λ n. turn_count low high * n) one in omega (arith, all)
    dearest-statement within other same (ExitWhen condition) = omega arith
    dearest-statement within other same (Call object op actuals) = let e = same object op in omega (arith, e)
    dearest-statement within other same (Work ticks) = omega arith
    dearest-statement within other same (Put e) = omega arith

    dearest-block : (within other : Name → Name → ℕ) → ((object op : Name) → within object op ≡ other object op) → (b : Statements)
        → toll_block costs calls 0 within b ≡ block_ticks costs other b
    dearest-block within other same End = refl
    dearest-block within other same (Then first more) =
        let e = dearest-statement within other same first in let f = dearest-block within other same more in omega (arith, e, f)

    dearest-branches : (within other : Name → Name → ℕ) → ((object op : Name) → within object op ≡ other object op) → (b : Branches)
        → toll_branches costs calls 0 within b ≡ dearest_branch (record { costs = costs; work = max 1; called = other }) b
    dearest-branches within other same Nothing = refl
    dearest-branches within other same (Else block) = let e = dearest-block within other same block in omega (arith, e)
    dearest-branches within other same (When condition block others) =
        let e = dearest-block within other same block in let f = dearest-branches within other same others in omega (arith, e, f)

  callee-toll : (toll ticks : Statements → ℕ) → ((b : Statements) → toll b ≡ ticks b) → (c : Callee)
      → toll_callee costs calls 0 toll c ≡ callee_ticks costs ticks c
  callee-toll toll ticks same (Plain o) = let e = same o.block in omega (arith, e)
  callee-toll toll ticks same (Protected params) = refl
  callee-toll toll ticks same Asked = refl
  callee-toll toll ticks same Unknown = refl

  called-ticks : (n : ℕ) (object op : Name) → toll_called costs calls 0 n object op ≡ called_ticks costs calls n object op
  called-ticks zero object op = refl
  called-ticks (suc n) object op =
      callee-toll (toll_block costs calls 0 (toll_called costs calls 0 n)) (block_ticks costs (called_ticks costs calls n))
      (dearest-block (toll_called costs calls 0 n) (called_ticks costs calls n) (called-ticks n)) (calls object op)

  -- at first the toll is that of the block
  pub first-toll : (deepest : ℕ) (b : Statements) → toll costs calls 0 deepest (Rest b ∷ []) ≡ most_ticks costs calls deepest b
  first-toll deepest b =
      let none : deepest - 0 ≡ deepest = omega arith in
      let e = dearest-block (toll_called costs calls 0 (deepest - 0)) (called_ticks costs calls (deepest - 0)) (called-ticks (deepest - 0)) b in
      let f = ap (λ n. most_ticks costs calls n b) none in omega (arith, e, f)
