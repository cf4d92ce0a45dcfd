-- Which piece an act comes from, and the laws of what a task does from its pieces on, by the act.
use Rattle.std.specs.Prelude.{◌≡◌, ℕ, ◌+◌, Bool, true, false, List, ◌∷◌, ◌++◌, drop, Option, if◌then◌else◌, refl}
use Rattle.std.proofs.Common.{sym, ◌∙◌, ap, subst}
use Rattle.seq_tree.specs.Names.{Name}
use Rattle.seq_tree.specs.Expressions.{Expression}
use Rattle.seq_tree.specs.Operations.{Operation}
use Rattle.seq_tree.specs.Variables.{Variables, kept, reads}
use Rattle.seq_tree.specs.Values.{value, holds, handed}
use Rattle.seq_tree.specs.Runs.{Path}
use Rattle.seq_tree.specs.declared.tree.Datum.{Datum}
use Rattle.machine.specs.Systems.{System, ProtectedUnit, CallTarget, Plain, Protected, Request, Unknown, callee}
use Rattle.machine.specs.Pieces.{Piece, Idle, Store, Leaving, Calling, Working, Printing, Testing, Turning, Turned, Returning, Closing, Keeping}
use Rattle.machine.specs.Pieces.{Opening, Requested, Finishing, after_loop}
use Rattle.machine.specs.Deeds.{Act, Silent, Print, Enter, Leave, Ended, Finish, PieceOutcome, deed, done, called}
use Rattle.guarantee.specs.Steps.{Step}
use Rattle.guarantee.specs.Events as events
use Rattle.law_tasks.proofs.Shared.Courses.{Course, IsApt, IsTicks, FitPieces}
use Rattle.law_tasks.proofs.Shared.Ways.{Claim, Ahead, Passes}
use Rattle.law_tasks.proofs.Shared.Aheads.{is_quiet, ahead_print, ahead_ended, ahead_leave}
use Rattle.law_tasks.proofs.Shared.Entries.{ahead_enter, enters}
use Rattle.std.proofs.lemmas.Bool.{true≢false}

-- the act of an exit is silent
silent_if : (b : Bool) (vars vars' : Variables) (ps ps' : List Piece) → (if b then deed Silent vars ps else deed Silent vars' ps').act ≡ Silent
silent_if true vars vars' ps ps' = refl
silent_if false vars vars' ps ps' = refl

-- where an act comes from
pub data Source (y : System) (vars : Variables) : Piece → Act → Type 0 where
  From_quiet : {x : Piece} {a : Act} → is_quiet a ≡ true → Source y vars x a
  From_put : (e : Expression) → Source y vars (Printing e) (Print (value e vars))
  From_entry : (unit op : Name) (actuals : List Expression) (object k : ℕ) (g : ProtectedUnit) (o : Operation)
      → callee y unit op ≡ Protected object k g o
      → Source y vars (Calling unit op actuals) (Enter object k (handed o.sig.params actuals vars))
  From_leave : (object op : ℕ) (data' : List Datum) (outs stores : List Name) (caller : Variables)
      → Source y vars (Closing object op data' outs stores caller) (Leave object op (reads outs vars) (kept data' vars))
  From_ended : (task : ℕ) (v : Option ℕ) → Source y vars (Requested task v) (Ended task v)
  From_finish : Source y vars Finishing Finish

source_call : (y : System) (vars : Variables) (unit op : Name) (actuals : List Expression) (rest : List Piece) (k : CallTarget) → callee y unit op ≡ k
    → Source y vars (Calling unit op actuals) ((called k actuals vars rest).act)
source_call y vars unit op actuals rest (Plain o) leads = From_quiet refl
source_call y vars unit op actuals rest (Protected object k g o) leads = From_entry unit op actuals object k g o leads
source_call y vars unit op actuals rest (Request task) leads = From_quiet refl
source_call y vars unit op actuals rest Unknown leads = From_quiet refl

pub source : (y : System) (x : Piece) (vars : Variables) (rest : List Piece) → Source y vars x ((done y x vars rest).act)
source y Idle vars rest = From_quiet refl
source y (Store target v) vars rest = From_quiet refl
source y (Leaving condition) vars rest = From_quiet (ap is_quiet (silent_if (holds condition vars) (drop 1 vars) vars (after_loop rest) rest))
source y (Calling unit op actuals) vars rest = source_call y vars unit op actuals rest (callee y unit op) refl
source y (Working ticks) vars rest = From_quiet refl
source y (Printing v) vars rest = From_put v
source y (Testing condition block others) vars rest = From_quiet refl
source y (Turning name at last body) vars rest = From_quiet refl
source y (Turned name at last body) vars rest = From_quiet refl
source y (Returning outs stores caller) vars rest = From_quiet refl
source y (Closing object op data' outs stores caller) vars rest = From_leave object op data' outs stores caller
source y (Keeping task v) vars rest = From_quiet refl
source y (Opening task) vars rest = From_quiet refl
source y (Requested task v) vars rest = From_ended task v
source y Finishing vars rest = From_finish

-- two acts that differ
apart : (a b : Act) → is_quiet a ≡ true → a ≡ b → is_quiet b ≡ false → ⊥
apart a b e same f = true≢false (sym e ∙ ap is_quiet same ∙ f)

module _ (c : Course) (apt : IsApt c) (Over : Claim) where
  abbrev after : Piece → Variables → List Piece → PieceOutcome
  after x vars rest = done c.system x vars rest

  print_by : (x : Piece) (a : Act) (vars : Variables) (rest : List Piece) (s : Step) (ss : List Step) (n ticks v : ℕ) → Source c.system vars x a
      → a ≡ Print v
      → IsTicks c.system.costs x n → s.deed ≡ events.Print v
      → Ahead c Over ((after x vars rest).vars) ((after x vars rest).pieces) ss ticks → Ahead c Over vars (x ∷ rest) (s ∷ ss) (n + ticks)
  print_by x a vars rest s ss n ticks v (From_quiet quiet) e legit told h = absurd (apart a (Print v) quiet e refl)
  print_by x a vars rest s ss n ticks v (From_put d) e legit told h =
      let same : v ≡ value d vars = cc in
      ahead_print c Over d rest vars s ss n ticks legit (told ∙ ap events.Print same) h
  print_by x a vars rest s ss n ticks v (From_entry unit op actuals object k g o leads) e legit told h = absurd cc
  print_by x a vars rest s ss n ticks v (From_leave object op data' outs stores caller) e legit told h = absurd cc
  print_by x a vars rest s ss n ticks v (From_ended task w) e legit told h = absurd cc
  print_by x a vars rest s ss n ticks v From_finish e legit told h = absurd cc

  pub act_print : (x : Piece) (vars : Variables) (rest : List Piece) (s : Step) (ss : List Step) (n ticks v : ℕ) → IsTicks c.system.costs x n
      → (after x vars rest).act ≡ Print v → s.deed ≡ events.Print v
      → Ahead c Over ((after x vars rest).vars) ((after x vars rest).pieces) ss ticks → Ahead c Over vars (x ∷ rest) (s ∷ ss) (n + ticks)
  act_print x vars rest s ss n ticks v legit e told h
      = print_by x ((after x vars rest).act) vars rest s ss n ticks v (source c.system x vars rest) e legit told h

  ended_by : (x : Piece) (a : Act) (vars : Variables) (rest : List Piece) (s : Step) (ss : List Step) (n ticks task : ℕ) (v : Option ℕ)
      → Source c.system vars x a → a ≡ Ended task v
      → IsTicks c.system.costs x n → s.deed ≡ events.Request ((c.request_name task).object) v
      → Ahead c Over ((after x vars rest).vars) ((after x vars rest).pieces) ss ticks → Ahead c Over vars (x ∷ rest) (s ∷ ss) (n + ticks)
  ended_by x a vars rest s ss n ticks task v (From_quiet quiet) e legit told h = absurd (apart a (Ended task v) quiet e refl)
  ended_by x a vars rest s ss n ticks task v (From_put d) e legit told h = absurd cc
  ended_by x a vars rest s ss n ticks task v (From_entry unit op actuals object k g o leads) e legit told h = absurd cc
  ended_by x a vars rest s ss n ticks task v (From_leave object op data' outs stores caller) e legit told h = absurd cc
  ended_by x a vars rest s ss n ticks task v (From_ended k w) e legit told h =
      let same : k ≡ task = cc in
      let same' : w ≡ v = cc in
      ahead_ended c Over k w rest vars s ss n ticks legit (told ∙ ap (λ t. events.Request ((c.request_name t).object) v) (sym same) ∙ ap
      (events.Request ((c.request_name k).object)) (sym same')) h
  ended_by x a vars rest s ss n ticks task v From_finish e legit told h = absurd cc

  pub act_ended : (x : Piece) (vars : Variables) (rest : List Piece) (s : Step) (ss : List Step) (n ticks task : ℕ) (v : Option ℕ)
      → IsTicks c.system.costs x n
      → (after x vars rest).act ≡ Ended task v → s.deed ≡ events.Request ((c.request_name task).object) v
      → Ahead c Over ((after x vars rest).vars) ((after x vars rest).pieces) ss ticks → Ahead c Over vars (x ∷ rest) (s ∷ ss) (n + ticks)
  act_ended x vars rest s ss n ticks task v legit e told h
      = ended_by x ((after x vars rest).act) vars rest s ss n ticks task v (source c.system x vars rest) e legit told h

  leave_by : (x : Piece) (a : Act) (vars : Variables) (rest : List Piece) (s : Step) (ss : List Step) (n ticks object op : ℕ) (values : List ℕ)
      (data' : Variables) → Source c.system vars x a → a ≡ Leave object op values data'
      → IsTicks c.system.costs x n → s.deed ≡ events.Leave (c.op_name object op) values → s.body.vars ≡ vars
      → Ahead c Over ((after x vars rest).vars) ((after x vars rest).pieces) ss ticks → Ahead c Over vars (x ∷ rest) (s ∷ ss) (n + ticks)
  leave_by x a vars rest s ss n ticks object op values data' (From_quiet quiet) e legit told same h
      = absurd (apart a (Leave object op values data') quiet e refl)
  leave_by x a vars rest s ss n ticks object op values data' (From_put d) e legit told same h = absurd cc
  leave_by x a vars rest s ss n ticks object op values data' (From_entry unit name actuals k j g o leads) e legit told same h = absurd cc
  leave_by x a vars rest s ss n ticks object op values data' (From_leave k j vars' outs stores caller) e legit told same h =
      let same_object : k ≡ object = cc in
      let same_op : j ≡ op = cc in
      let same_values : reads outs vars ≡ values = cc in
      ahead_leave c Over k j vars' outs stores caller rest vars s ss n ticks legit
      (told ∙ ap (λ m. events.Leave (c.op_name m op) values) (sym same_object) ∙ ap (λ m. events.Leave (c.op_name k m) values) (sym same_op) ∙ ap
      (events.Leave (c.op_name k j)) (sym same_values)) same h
  leave_by x a vars rest s ss n ticks object op values data' (From_ended task w) e legit told same h = absurd cc
  leave_by x a vars rest s ss n ticks object op values data' From_finish e legit told same h = absurd cc

  pub act_leave : (x : Piece) (vars : Variables) (rest : List Piece) (s : Step) (ss : List Step) (n ticks object op : ℕ) (values : List ℕ)
      (data' : Variables) → IsTicks c.system.costs x n
      → (after x vars rest).act ≡ Leave object op values data' → s.deed ≡ events.Leave (c.op_name object op) values → s.body.vars ≡ vars
      → Ahead c Over ((after x vars rest).vars) ((after x vars rest).pieces) ss ticks → Ahead c Over vars (x ∷ rest) (s ∷ ss) (n + ticks)
  act_leave x vars rest s ss n ticks object op values data' legit e told same h =
      leave_by x ((after x vars rest).act) vars rest s ss n ticks object op values data' (source c.system x vars rest) e legit told same h

  -- an entry, with the call that it comes from
  pub record Enters (x : Piece) (vars : Variables) (rest : List Piece) (time ticks object op : ℕ) (values : List ℕ) (data' : Variables)
      (ss : List Step) : Type 0 where
    pub unit : Name
    pub name : Name
    pub guarded : ProtectedUnit
    pub operation : Operation
    pub leads : callee c.system unit name ≡ Protected object op guarded operation
    pub body : Path
    pub ahead : (n : ℕ) → IsTicks c.system.costs x n → Ahead c Over vars (x ∷ rest) (enters time (c.op_name object op) values body ∷ ss) (n + ticks)
    pub passes : Passes c operation data' values (c.op_name object op) ss body

  enter_at : (vars : Variables) (rest : List Piece) (time ticks object op k j : ℕ) (values : List ℕ) (data' : Variables) (ss : List Step)
      (unit name : Name) (actuals : List Expression) (g : ProtectedUnit) (o : Operation)
      → callee c.system unit name ≡ Protected k j g o → k ≡ object → j ≡ op → handed o.sig.params actuals vars ≡ values
      → FitPieces c.Good (Calling unit name actuals ∷ rest)
      → Ahead c Over ((called (Protected k j g o) actuals vars rest).vars ++ data') ((called (Protected k j g o) actuals vars rest).pieces) ss ticks
      → Enters (Calling unit name actuals) vars rest time ticks object op values data' ss
  enter_at vars rest time ticks object op k j values data' ss unit name actuals g o leads same_object same_op same_values fit h =
      let found = ahead_enter c apt Over unit name actuals rest vars k j g o leads data' time ticks ss fit h in
      let E : ℕ → ℕ → List ℕ → Type 0 = λ a b vs. Enters (Calling unit name actuals) vars rest time ticks a b vs data' ss in
      let here : E k j (handed o.sig.params actuals vars) = record {
        unit = unit;
        name = name;
        guarded = g;
        operation = o;
        leads = leads;
        body = found.0;
        ahead = found.1;
        passes = found.2;
      } in
      subst (λ vs. E object op vs) same_values (subst (λ b. E object b (handed o.sig.params actuals vars)) same_op
      (subst (λ a. E a j (handed o.sig.params actuals vars)) same_object here))

  enter_by : (x : Piece) (a : Act) (vars : Variables) (rest : List Piece) (time ticks object op : ℕ) (values : List ℕ) (data' : Variables)
      (ss : List Step) → Source c.system vars x a → a ≡ Enter object op values
      → FitPieces c.Good (x ∷ rest) → Ahead c Over ((after x vars rest).vars ++ data') ((after x vars rest).pieces) ss ticks
      → Enters x vars rest time ticks object op values data' ss
  enter_by x a vars rest time ticks object op values data' ss (From_quiet quiet) e fit h = absurd (apart a (Enter object op values) quiet e refl)
  enter_by x a vars rest time ticks object op values data' ss (From_put d) e fit h = absurd cc
  enter_by x a vars rest time ticks object op values data' ss (From_entry unit name actuals k j g o leads) e fit h =
      let same_object : k ≡ object = cc in
      let same_op : j ≡ op = cc in
      let same_values : handed o.sig.params actuals vars ≡ values = cc in
      enter_at vars rest time ticks object op k j values data' ss unit name actuals g o leads same_object same_op same_values fit
      (subst (λ t. Ahead c Over ((called t actuals vars rest).vars ++ data') ((called t actuals vars rest).pieces) ss ticks) leads h)
  enter_by x a vars rest time ticks object op values data' ss (From_leave k j vars' outs stores caller) e fit h = absurd cc
  enter_by x a vars rest time ticks object op values data' ss (From_ended task w) e fit h = absurd cc
  enter_by x a vars rest time ticks object op values data' ss From_finish e fit h = absurd cc

  pub act_enter : (x : Piece) (vars : Variables) (rest : List Piece) (time ticks object op : ℕ) (values : List ℕ) (data' : Variables) (ss : List Step)
      → FitPieces c.Good (x ∷ rest)
      → (after x vars rest).act ≡ Enter object op values → Ahead c Over ((after x vars rest).vars ++ data') ((after x vars rest).pieces) ss ticks
      → Enters x vars rest time ticks object op values data' ss
  act_enter x vars rest time ticks object op values data' ss fit e h
      = enter_by x ((after x vars rest).act) vars rest time ticks object op values data' ss (source c.system x vars rest) e fit h
