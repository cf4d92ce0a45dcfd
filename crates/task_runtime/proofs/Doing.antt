-- What the first piece of a task at work is to others: what it reaches, which task it concerns, and how many sections the task is inside after it.
use Rattle.std.proofs.Common.{◌≡◌, ◌<◌, ◌≤◌, ℕ, suc, Bool, true, false, List, ◌∷◌, Option, Some, None, refl, ap, sym, subst, ◌∙◌, arith}
use Rattle.std.specs.Prelude.{drop, if◌then◌else◌, nat_le}
use Rattle.std.proofs.lemmas.Option.{same_Some}
use Rattle.seq_tree.specs.Names.{Name}
use Rattle.seq_tree.specs.Expressions.{Expression}
use Rattle.seq_tree.specs.Statements.{Branches, Statements, Nothing, Else, When}
use Rattle.seq_tree.specs.Values.{handed, holds}
use Rattle.seq_tree.specs.Variables.{Variables, kept, reads}
use Rattle.seq_tree.specs.declared.tree.Costs.{Costs}
use Rattle.ada_tree.specs.Ranges.{costs_break}
use Rattle.machine.specs.Systems.{System, CallTarget, Plain, Protected, Request, Unknown, callee}
use Rattle.machine.specs.Pieces as pieces
use Rattle.machine.specs.Pieces.{Piece, after_loop, branch_pieces}
use Rattle.machine.specs.Deeds as deeds
use Rattle.machine.specs.Deeds.{called, done}
use Rattle.linker.specs.Callees.{OpBody}
use Rattle.linker.specs.declared.code.Ins.TheVariants as ins
use Rattle.linker.specs.declared.program.LinkedUnits.{LinkedUnits}
use Rattle.task_runtime.specs.Callable.{CallsAlike, op_name}
use Rattle.task_runtime.specs.Doing.{Does, IsAmong, is_own}
use Rattle.task_runtime.specs.Effort.{IsLong, effort, ends_among, first_ticks, sections_among}
use Rattle.task_runtime.specs.Works.{StaysInside}
use Rattle.task_runtime.specs.Written.{reserve, system_of}
use Rattle.task_runtime.proofs.Shared.Doings.{request-at}
use Rattle.task_runtime.proofs.Shared.Sections.{sections-pieces}
use Rattle.task_runtime.proofs.Shared.Starting.{some-effort, ticking}
use Rattle.task_runtime.specs.Doings.{HasNoOwner, IsAsk, IsDeed, IsEntry}
use Rattle.task_runtime.specs.Lefts.{pieces_left}
use Rattle.task_runtime.specs.Sounds.{IsAtWork, IsBodyOf, owner_of}
use Rattle.task_runtime.specs.Tasks.{IsActOf}
use Rattle.task_runtime.specs.declared.piece.Deed.{Deed}
use Rattle.task_runtime.specs.declared.piece.Deed.TheVariants as to
use Rattle.task_runtime.specs.declared.piece.Piece as piece
use Rattle.task_runtime.specs.declared.piece.Piece.TheVariants as is
use Rattle.task_runtime.specs.declared.progress.Progress.{Progress}
use Rattle.task_runtime.specs.declared.stack.Stack.{Stack}
use Rattle.task_runtime.proofs.Firsts.{StandsFor}
use Rattle.task_runtime.proofs.Starting.{calm, few_left}

no_owner : (o : ℕ × ℕ) → Some o ≡ None → ⊥
no_owner o h = cc

some_owner : (o : ℕ × ℕ) → None ≡ Some o → ⊥
some_owner o h = cc

-- a call of an operation that no protected object has
own_call : (k : CallTarget) (b : OpBody) → IsBodyOf k b → b.owner ≡ None → (actuals : List Expression) (vs : Variables) (rest : List Piece)
    → is_own (called k actuals vs rest).act ≡ true
own_call (Plain o) b h none actuals vs rest = refl
own_call (Protected object op g o) b h none actuals vs rest = absurd (no_owner (object, op) (sym (ap (λ z. z.owner) h) ∙ none))
own_call (Request task) b h none actuals vs rest = absurd h
own_call Unknown b h none actuals vs rest = absurd h

owners_parts : (a b x z : ℕ) → ◌≡◌ {A = Option (ℕ × ℕ)} (Some (a, b)) (Some (x, z)) → (a ≡ x) × (b ≡ z)
owners_parts a b x z h = let e : ◌≡◌ {A = ℕ × ℕ} (a, b) (x, z) = same_Some (a, b) (x, z) h in (ap (λ (o : ℕ × ℕ). o.0) e, ap (λ (o : ℕ × ℕ). o.1) e)

-- one that an object has
enter_call : (k : CallTarget) (b : OpBody) → IsBodyOf k b → (object op : ℕ) → b.owner ≡ Some (object, op) → (actuals : List Expression)
    (vs : Variables) (rest : List Piece) → (values : List ℕ) × ((called k actuals vs rest).act ≡ deeds.Enter object op values)
enter_call (Plain o) b h object op owner actuals vs rest = absurd (some_owner (object, op) (sym (ap (λ z. z.owner) h) ∙ owner))
enter_call (Protected object' op' g o) b h object op owner actuals vs rest =
    let e = owners_parts object' op' object op (sym (ap (λ z. z.owner) h) ∙ owner) in
    let values = handed o.sig.params actuals vs in
    (values, ap (λ z. deeds.Enter z op' values) e.0 ∙ ap (λ z. deeds.Enter object z values) e.1)
enter_call (Request task) b h object op owner actuals vs rest = absurd h
enter_call Unknown b h object op owner actuals vs rest = absurd h

leaving_own : (b : Bool) (vs : Variables) (rest : List Piece)
    → is_own (if b then deeds.deed deeds.Silent (drop 1 vs) (after_loop rest) else deeds.deed deeds.Silent vs rest).act ≡ true
leaving_own true vs rest = refl
leaving_own false vs rest = refl

module _ (c : LinkedUnits) (s : Stack) (y : System) (alike : CallsAlike y (system_of s.thread)) (vs : Variables) where
  own_as : (q : piece.Piece) (m : Piece) (rest : List Piece) → StandsFor c s q m rest → IsDeed c s q to.Own → is_own (done y m vs rest).act ≡ true
  own_as (is.Here ins.Null) m rest st d = subst (λ z. is_own (done y z vs rest).act ≡ true) (sym st) refl
  own_as (is.Here (ins.Work ticks)) m rest st d = subst (λ z. is_own (done y z vs rest).act ≡ true) (sym st.0) refl
  own_as (is.Here (ins.Assign slot v)) m rest st d = subst (λ z. is_own (done y z vs rest).act ≡ true) (sym st.2) refl
  own_as (is.Here (ins.Put v)) m rest st d = subst (λ z. is_own (done y z vs rest).act ≡ true) (sym st.1) refl
  own_as (is.Here (ins.Test v other)) m rest st d = subst (λ z. is_own (done y z vs rest).act ≡ true) (sym st.3) refl
  own_as (is.Here (ins.Exit v to')) m rest st d =
      subst (λ z. is_own (done y z vs rest).act ≡ true) (sym st.1) (leaving_own (holds st.0 vs) vs rest)
  own_as (is.Here (ins.Jump to')) m rest st d = absurd st
  own_as (is.Here (ins.Begin counter low)) m rest st d = subst (λ z. is_own (done y z vs rest).act ≡ true) (sym st.4) refl
  own_as (is.Here (ins.Next counter last start)) m rest st d = subst (λ z. is_own (done y z vs rest).act ≡ true) (sym st.4) refl
  own_as (is.Here (ins.Call place first outs)) m rest st d =
      subst (λ z. is_own (done y z vs rest).act ≡ true) (sym st.4)
      (subst (λ k. is_own (called k st.2 vs rest).act ≡ true) (sym (alike st.0 st.1))
      (own_call (callee (system_of s.thread) st.0 st.1) st.3 st.5 (subst HasNoOwner st.6 d) st.2 vs rest))
  own_as (is.Here (ins.Request task v)) m rest st d = absurd d
  own_as (is.Here ins.Nowhere) m rest st d =
      subst (λ z. is_own (done y z vs rest).act ≡ true) (sym st.3)
      (subst (λ k. is_own (called k st.2 vs rest).act ≡ true) (sym (alike st.0 st.1 ∙ st.4)) refl)
  own_as (is.Here ins.Return) m rest st d = subst (λ z. is_own (done y z vs rest).act ≡ true) (sym st.3) refl
  own_as (is.Here ins.Finish) m rest st d = subst (λ z. is_own (done y z vs rest).act ≡ true) (sym st.0) refl
  own_as (is.Turn counter start) m rest st d = subst (λ z. is_own (done y z vs rest).act ≡ true) (sym st.4) refl
  own_as is.Close m rest st d = absurd d
  own_as (is.Keep q) m rest st d = subst (λ z. is_own (done y z vs rest).act ≡ true) (sym st.0) refl
  own_as (is.Open q) m rest st d = subst (λ z. is_own (done y z vs rest).act ≡ true) (sym st.0) refl
  own_as (is.Requested q) m rest st d = subst (λ z. is_own (done y z vs rest).act ≡ true) (sym st.0) refl

  enter_as : (q : piece.Piece) (m : Piece) (rest : List Piece) → StandsFor c s q m rest → (object op : ℕ) → IsEntry c q object op
      → (values : List ℕ) × ((done y m vs rest).act ≡ deeds.Enter object op values)
  enter_as (is.Here ins.Null) m rest st object op e = absurd e
  enter_as (is.Here (ins.Work ticks)) m rest st object op e = absurd e
  enter_as (is.Here (ins.Assign slot v)) m rest st object op e = absurd e
  enter_as (is.Here (ins.Put v)) m rest st object op e = absurd e
  enter_as (is.Here (ins.Test v other)) m rest st object op e = absurd e
  enter_as (is.Here (ins.Exit v to')) m rest st object op e = absurd e
  enter_as (is.Here (ins.Jump to')) m rest st object op e = absurd e
  enter_as (is.Here (ins.Begin counter low)) m rest st object op e = absurd e
  enter_as (is.Here (ins.Next counter last start)) m rest st object op e = absurd e
  enter_as (is.Here (ins.Call place first outs)) m rest st object op e =
      let k = same_Some st.3 e.0 (sym st.6 ∙ e.1) in
      let h = enter_call (callee (system_of s.thread) st.0 st.1) st.3 st.5 object op (ap (λ z. z.owner) k ∙ e.2) st.2 vs rest in
      (h.0, ap (λ z. (done y z vs rest).act) st.4 ∙ ap (λ k. (called k st.2 vs rest).act) (alike st.0 st.1) ∙ h.1)
  enter_as (is.Here (ins.Request task v)) m rest st object op e = absurd e
  enter_as (is.Here ins.Nowhere) m rest st object op e = absurd e
  enter_as (is.Here ins.Return) m rest st object op e = absurd e
  enter_as (is.Here ins.Finish) m rest st object op e = absurd e
  enter_as (is.Turn counter start) m rest st object op e = absurd e
  enter_as is.Close m rest st object op e = absurd e
  enter_as (is.Keep q) m rest st object op e = absurd e
  enter_as (is.Open q) m rest st object op e = absurd e
  enter_as (is.Requested q) m rest st object op e = absurd e

  leave_as : (m : Piece) (rest : List Piece) → StandsFor c s is.Close m rest → (object op : ℕ) → owner_of s ≡ Some (object, op)
      → (values : List ℕ) × (data' : Variables) × ((done y m vs rest).act ≡ deeds.Leave object op values data')
  leave_as m rest st object op owner =
      let e = owners_parts st.0 st.1 object op (sym st.7 ∙ owner) in (
        reads st.3 vs,
        kept st.2 vs,
        ap (λ z. (done y z vs rest).act) st.6
            ∙ ap (λ z. deeds.Leave z st.1 (reads st.3 vs) (kept st.2 vs)) e.0 ∙ ap (λ z. deeds.Leave object z (reads st.3 vs) (kept st.2 vs)) e.1,
      )

  ask_as : (q : piece.Piece) (m : Piece) (rest : List Piece) → StandsFor c s q m rest → (task : ℕ) → IsAsk q task
      → (done y m vs rest).act ≡ deeds.Ask task
  ask_as (is.Here ins.Null) m rest st task e = absurd e
  ask_as (is.Here (ins.Work ticks)) m rest st task e = absurd e
  ask_as (is.Here (ins.Assign slot v)) m rest st task e = absurd e
  ask_as (is.Here (ins.Put v)) m rest st task e = absurd e
  ask_as (is.Here (ins.Test v other)) m rest st task e = absurd e
  ask_as (is.Here (ins.Exit v to')) m rest st task e = absurd e
  ask_as (is.Here (ins.Jump to')) m rest st task e = absurd e
  ask_as (is.Here (ins.Begin counter low)) m rest st task e = absurd e
  ask_as (is.Here (ins.Next counter last start)) m rest st task e = absurd e
  ask_as (is.Here (ins.Call place first outs)) m rest st task e = absurd e
  ask_as (is.Here (ins.Request task' v)) m rest st task e =
      ap (λ z. (done y z vs rest).act) st.3 ∙ ap (λ k. (called k st.2 vs rest).act) (alike st.0 st.1 ∙ st.4) ∙ ap deeds.Ask e
  ask_as (is.Here ins.Nowhere) m rest st task e = absurd e
  ask_as (is.Here ins.Return) m rest st task e = absurd e
  ask_as (is.Here ins.Finish) m rest st task e = absurd e
  ask_as (is.Turn counter start) m rest st task e = absurd e
  ask_as is.Close m rest st task e = absurd e
  ask_as (is.Keep q) m rest st task e = absurd e
  ask_as (is.Open q) m rest st task e = absurd e
  ask_as (is.Requested q) m rest st task e = absurd e

  -- the act of the first piece, by what it reaches
  pub acts_as : (q : piece.Piece) (m : Piece) (rest : List Piece) → StandsFor c s q m rest → (reached : Deed) → IsDeed c s q reached
      → IsActOf reached (done y m vs rest).act
  acts_as q m rest st to.Own d = own_as q m rest st d
  acts_as q m rest st (to.Enter e) d = enter_as q m rest st e.object e.place d
  acts_as q m rest st (to.Leave e) d = leave_as m rest (subst (λ z. StandsFor c s z m rest) d.0 st) e.object e.place d.1
  acts_as q m rest st (to.Ask task) d = ask_as q m rest st task d

-- the task that the act of the first piece concerns is one of the tasks
called_among : (z : System) (unit op : Name) (k : CallTarget) (actuals : List Expression) (vs : Variables) (rest : List Piece) → callee z unit op ≡ k
    → IsAmong z (called k actuals vs rest).act
called_among z unit op (Plain o) actuals vs rest e = tt
called_among z unit op (Protected object place g o) actuals vs rest e = tt
called_among z unit op (Request task) actuals vs rest e = request-at z (op_name unit op) task e
called_among z unit op Unknown actuals vs rest e = tt

leaving_among : (z : System) (b : Bool) (vs : Variables) (rest : List Piece)
    → IsAmong z (if b then deeds.deed deeds.Silent (drop 1 vs) (after_loop rest) else deeds.deed deeds.Silent vs rest).act
leaving_among z true vs rest = tt
leaving_among z false vs rest = tt

module _ (c : LinkedUnits) (s : Stack) (vs : Variables) where
  abbrev z : System
  z = system_of s.thread

  among_as : (q : piece.Piece) (m : Piece) (rest : List Piece) → StandsFor c s q m rest → IsAmong z (done z m vs rest).act
  among_as (is.Here ins.Null) m rest st = subst (λ k. IsAmong z (done z k vs rest).act) (sym st) tt
  among_as (is.Here (ins.Work ticks)) m rest st = subst (λ k. IsAmong z (done z k vs rest).act) (sym st.0) tt
  among_as (is.Here (ins.Assign slot v)) m rest st = subst (λ k. IsAmong z (done z k vs rest).act) (sym st.2) tt
  among_as (is.Here (ins.Put v)) m rest st = subst (λ k. IsAmong z (done z k vs rest).act) (sym st.1) tt
  among_as (is.Here (ins.Test v other)) m rest st = subst (λ k. IsAmong z (done z k vs rest).act) (sym st.3) tt
  among_as (is.Here (ins.Exit v to')) m rest st =
      subst (λ k. IsAmong z (done z k vs rest).act) (sym st.1) (leaving_among z (holds st.0 vs) vs rest)
  among_as (is.Here (ins.Jump to')) m rest st = absurd st
  among_as (is.Here (ins.Begin counter low)) m rest st = subst (λ k. IsAmong z (done z k vs rest).act) (sym st.4) tt
  among_as (is.Here (ins.Next counter last start)) m rest st = subst (λ k. IsAmong z (done z k vs rest).act) (sym st.4) tt
  among_as (is.Here (ins.Call place first outs)) m rest st =
      subst (λ k. IsAmong z (done z k vs rest).act) (sym st.4) (called_among z st.0 st.1 (callee z st.0 st.1) st.2 vs rest refl)
  among_as (is.Here (ins.Request task v)) m rest st =
      subst (λ k. IsAmong z (done z k vs rest).act) (sym st.3) (called_among z st.0 st.1 (callee z st.0 st.1) st.2 vs rest refl)
  among_as (is.Here ins.Nowhere) m rest st =
      subst (λ k. IsAmong z (done z k vs rest).act) (sym st.3) (called_among z st.0 st.1 (callee z st.0 st.1) st.2 vs rest refl)
  among_as (is.Here ins.Return) m rest st = subst (λ k. IsAmong z (done z k vs rest).act) (sym st.3) tt
  among_as (is.Here ins.Finish) m rest st = subst (λ k. IsAmong z (done z k vs rest).act) (sym st.0) tt
  among_as (is.Turn counter start) m rest st = subst (λ k. IsAmong z (done z k vs rest).act) (sym st.4) tt
  among_as is.Close m rest st = subst (λ k. IsAmong z (done z k vs rest).act) (sym st.6) tt
  among_as (is.Keep q) m rest st = subst (λ k. IsAmong z (done z k vs rest).act) (sym st.0) st.1
  among_as (is.Open q) m rest st = subst (λ k. IsAmong z (done z k vs rest).act) (sym st.0) st.1
  among_as (is.Requested q) m rest st = subst (λ k. IsAmong z (done z k vs rest).act) (sym st.0) st.1

  pub is_among : (q : piece.Piece) (m : Piece) (rest : List Piece) (act : deeds.Act) (vs' : Variables) (ps : List Piece) → StandsFor c s q m rest
      → Does z m vs rest act vs' ps → IsAmong z act
  is_among q m rest act vs' ps st does =
      subst (λ d. IsAmong z d.act) (does z (λ unit op. refl)) (among_as q m rest st)

-- what a piece does to the sections
branches_sections : (bs : Branches) (rest : List Piece) → sections_among (branch_pieces bs rest) ≡ sections_among rest
branches_sections Nothing rest = refl
branches_sections (Else block) rest = sections-pieces block rest
branches_sections (When condition block others) rest = refl

called_inside : (k : CallTarget) (unit op : Name) (actuals : List Expression) (vs : Variables) (rest : List Piece)
    → StaysInside (called k actuals vs rest).act (sections_among (pieces.Calling unit op actuals ∷ rest))
    (sections_among (called k actuals vs rest).pieces)
called_inside (Plain o) unit op actuals vs rest = sections-pieces o.block _
called_inside (Protected object place g o) unit op actuals vs rest = sections-pieces o.block _
called_inside (Request task) unit op actuals vs rest = refl
called_inside Unknown unit op actuals vs rest = refl

leaving_inside : (b : Bool) (vs : Variables) (rest : List Piece) → sections_among (after_loop rest) ≡ sections_among rest
    → StaysInside (if b then deeds.deed deeds.Silent (drop 1 vs) (after_loop rest) else deeds.deed deeds.Silent vs rest).act (sections_among rest)
    (sections_among (if b then deeds.deed deeds.Silent (drop 1 vs) (after_loop rest) else deeds.deed deeds.Silent vs rest).pieces)
leaving_inside true vs rest h = h
leaving_inside false vs rest h = refl

testing_inside : (b : Bool) (block : Statements) (others : Branches) (rest : List Piece)
    → sections_among (if b then pieces.pieces block rest else branch_pieces others rest) ≡ sections_among rest
testing_inside true block others rest = sections-pieces block rest
testing_inside false block others rest = branches_sections others rest

turned_inside : (b : Bool) (name : Name) (at last : ℕ) (body : Statements) (rest : List Piece)
    → sections_among (if b then pieces.Turning name at last body ∷ rest else rest) ≡ sections_among rest
turned_inside true name at last body rest = refl
turned_inside false name at last body rest = refl

module _ (c : LinkedUnits) (s : Stack) (vs : Variables) where
  abbrev Inside : Piece → List Piece → Type 0
  Inside m rest = StaysInside (done (system_of s.thread) m vs rest).act (sections_among (m ∷ rest))
      (sections_among (done (system_of s.thread) m vs rest).pieces)

  inside_as : (q : piece.Piece) (m : Piece) (rest : List Piece) → StandsFor c s q m rest → Inside m rest
  inside_as (is.Here ins.Null) m rest st = subst (λ k. Inside k rest) (sym st) refl
  inside_as (is.Here (ins.Work ticks)) m rest st = subst (λ k. Inside k rest) (sym st.0) refl
  inside_as (is.Here (ins.Assign slot v)) m rest st = subst (λ k. Inside k rest) (sym st.2) refl
  inside_as (is.Here (ins.Put v)) m rest st = subst (λ k. Inside k rest) (sym st.1) refl
  inside_as (is.Here (ins.Test v other)) m rest st = subst (λ k. Inside k rest) (sym st.3) (testing_inside (holds st.0 vs) st.1 st.2 rest)
  inside_as (is.Here (ins.Exit v to')) m rest st = subst (λ k. Inside k rest) (sym st.1) (leaving_inside (holds st.0 vs) vs rest st.2)
  inside_as (is.Here (ins.Jump to')) m rest st = absurd st
  inside_as (is.Here (ins.Begin counter low)) m rest st = subst (λ k. Inside k rest) (sym st.4) (sections-pieces st.3 _)
  inside_as (is.Here (ins.Next counter last start)) m rest st =
      subst (λ k. Inside k rest) (sym st.4) (turned_inside (nat_le (suc st.1) st.2) st.0 (suc st.1) st.2 st.3 rest)
  inside_as (is.Here (ins.Call place first outs)) m rest st = subst (λ k. Inside k rest) (sym st.4) (called_inside (callee
      (system_of s.thread) st.0 st.1) st.0 st.1 st.2 vs rest)
  inside_as (is.Here (ins.Request task v)) m rest st = subst (λ k. Inside k rest) (sym st.3) (called_inside (callee
      (system_of s.thread) st.0 st.1) st.0 st.1 st.2 vs rest)
  inside_as (is.Here ins.Nowhere) m rest st = subst (λ k. Inside k rest) (sym st.3) (called_inside (callee
      (system_of s.thread) st.0 st.1) st.0 st.1 st.2 vs rest)
  inside_as (is.Here ins.Return) m rest st = subst (λ k. Inside k rest) (sym st.3) refl
  inside_as (is.Here ins.Finish) m rest st = subst (λ k. Inside k rest) (sym st.0) (sym (ap sections_among st.1))
  inside_as (is.Turn counter start) m rest st = subst (λ k. Inside k rest) (sym st.4) (sections-pieces st.3 _)
  inside_as is.Close m rest st = subst (λ k. Inside k rest) (sym st.6) refl
  inside_as (is.Keep q) m rest st = subst (λ k. Inside k rest) (sym st.0) refl
  inside_as (is.Open q) m rest st = subst (λ k. Inside k rest) (sym st.0) refl
  inside_as (is.Requested q) m rest st = subst (λ k. Inside k rest) (sym st.0) refl

  pub stays_inside : (q : piece.Piece) (m : Piece) (rest was : List Piece) (act : deeds.Act) (vs' : Variables) (ps : List Piece)
      → StandsFor c s q m rest → was ≡ m ∷ rest → Does (system_of s.thread) m vs rest act vs' ps
      → StaysInside act (sections_among was) (sections_among ps)
  stays_inside q m rest was act vs' ps st is' does =
      subst (λ xs. StaysInside act (sections_among xs) (sections_among ps)) (sym is')
      (subst (λ d. StaysInside d.act (sections_among (m ∷ rest)) (sections_among d.pieces)) (does (system_of s.thread) (λ unit op. refl))
      (inside_as q m rest st))

-- fewer effects may follow
turned_ends : (b : Bool) (name : Name) (at last : ℕ) (body : Statements) (rest : List Piece)
    → ends_among (if b then pieces.Turning name at last body ∷ rest else rest) ≡ ends_among rest
turned_ends true name at last body rest = refl
turned_ends false name at last body rest = refl

effort_falls : (most : ℕ) (z : System) (p : Piece) (vs vs' : Variables) (ps ps' : List Piece) (act : deeds.Act) → Does z p vs ps act vs' ps'
    → effort most ps' ≤ ends_among ps' → ends_among ps' < most → effort most ps' < effort most (p ∷ ps)
effort_falls most z pieces.Idle vs vs' ps ps' act does still few = omega (arith, still, few)
effort_falls most z (pieces.Store target e) vs vs' ps ps' act does still few = omega (arith, still, few)
effort_falls most z (pieces.Leaving condition) vs vs' ps ps' act does still few = omega (arith, still, few)
effort_falls most z (pieces.Calling unit op actuals) vs vs' ps ps' act does still few = omega (arith, still, few)
effort_falls most z (pieces.Working ticks) vs vs' ps ps' act does still few = omega (arith, still, few)
effort_falls most z (pieces.Printing e) vs vs' ps ps' act does still few = omega (arith, still, few)
effort_falls most z (pieces.Testing condition block others) vs vs' ps ps' act does still few = omega (arith, still, few)
effort_falls most z (pieces.Turning name at last body) vs vs' ps ps' act does still few = omega (arith, still, few)
effort_falls most z (pieces.Turned name at last body) vs vs' ps ps' act does still few =
    let same : ends_among ps' ≡ ends_among ps = sym (ap (λ d. ends_among d.pieces) (does z (λ unit op. refl)))
    ∙ turned_ends (nat_le (suc at) last) name (suc at) last body ps in
    omega (arith, still, same)
effort_falls most z (pieces.Returning outs stores caller) vs vs' ps ps' act does still few =
    let same : ends_among ps' ≡ ends_among ps = sym (ap (λ d. ends_among d.pieces) (does z (λ unit op. refl))) in
    omega (arith, still, same)
effort_falls most z (pieces.Closing object op vars outs stores caller) vs vs' ps ps' act does still few =
    let same : ends_among ps' ≡ ends_among ps = sym (ap (λ d. ends_among d.pieces) (does z (λ unit op. refl))) in
    omega (arith, still, same)
effort_falls most z (pieces.Keeping task v) vs vs' ps ps' act does still few = omega (arith, still, few)
effort_falls most z (pieces.Opening task) vs vs' ps ps' act does still few = omega (arith, still, few)
effort_falls most z (pieces.Requested task v) vs vs' ps ps' act does still few =
    let same : ends_among ps' ≡ ends_among ps = sym (ap (λ d. ends_among d.pieces) (does z (λ unit op. refl))) in
    omega (arith, still, same)
effort_falls most z pieces.Finishing vs vs' ps ps' act does still few = omega (arith, still, few)

pub falls_on : (c : LinkedUnits) (p p' : Progress) → IsAtWork c p' → p'.stack.thread ≡ p.stack.thread → (costs : Costs) (d : Option ℕ)
    → costs_break costs ≡ false → IsLong d → (m : Piece) (vs vs' : Variables) (rest : List Piece) (act : deeds.Act) → pieces_left p ≡ m ∷ rest
    → Does (system_of p.stack.thread) m vs rest act vs' (pieces_left p')
    → (ticks : ℕ) → ticks ≡ first_ticks costs d (pieces_left p')
    → (most : ℕ) → reserve p.stack.thread ≤ most → (0 < effort most (pieces_left p))
    × (ticks ≡ 0 → effort most (pieces_left p') < effort most (pieces_left p))
falls_on c p p' h same costs d breaks long m vs vs' rest act was does ticks starts most enough =
    let few : ends_among (pieces_left p') < most = (let f = few_left c p' h in let e = ap reserve same in omega (arith, f, e, enough)) in (
      subst (λ ps. 0 < effort most ps) (sym was) (some-effort most m rest (omega (arith, few))),
      λ none. subst (λ ps. effort most (pieces_left p') < effort most ps) (sym was)
          (effort_falls most (system_of p.stack.thread) m vs vs' rest (pieces_left p') act does
          (calm c p' h costs d most (ticking costs breaks) long (sym starts ∙ none)) few),
    )
