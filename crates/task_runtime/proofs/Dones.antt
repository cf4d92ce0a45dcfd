-- What a task has done whose call has begun or ended, as the definitions have it.
use Rattle.std.proofs.Common.{◌≡◌, ℕ, List, [], ◌∷◌, ◌++◌, Option, Some, None, length, refl, ap, sym, subst, ◌∙◌, append-nil}
use Rattle.std.proofs.lemmas.Option.{same_Some}
use Rattle.seq_tree.specs.Names.{Name}
use Rattle.seq_tree.specs.Expressions.{Expression}
use Rattle.seq_tree.specs.Operations.{out_names}
use Rattle.seq_tree.specs.Values.{handed}
use Rattle.seq_tree.specs.Variables.{Variables, kept, opened, reads, stored, targets}
use Rattle.machine.specs.Deeds as deeds
use Rattle.machine.specs.Deeds.{deed}
use Rattle.machine.specs.Pieces.{Piece, Calling, Closing, Returning, pieces}
use Rattle.machine.specs.Systems.{System, CallTarget, Plain, Protected, Request, Unknown, callee}
use Rattle.linker.specs.Callees.{OpBody}
use Rattle.linker.specs.declared.program.LinkedUnits.{LinkedUnits}
use Rattle.task_runtime.specs.Doing.{Does}
use Rattle.task_runtime.specs.Written.{system_of}
use Rattle.task_runtime.proofs.Shared.Doings.{does-enter, does-plain}
use Rattle.task_runtime.specs.Bodies.{ended, ended_by}
use Rattle.task_runtime.specs.Doings.{DoesFirst, EntersFirst, HasNoOwner, owner_at}
use Rattle.task_runtime.specs.Goings.{HasCalled, HasReturned}
use Rattle.task_runtime.specs.Lefts.{pieces_left, vars_left}
use Rattle.task_runtime.specs.Sounds.{IsBodyOf, IsFull, owner_of}
use Rattle.task_runtime.specs.declared.progress.Progress.{Progress}

no_owner : (o : ℕ × ℕ) → Some o ≡ None → ⊥
no_owner o h = cc

some_owner : (o : ℕ × ℕ) → None ≡ Some o → ⊥
some_owner o h = cc

-- a call that enters no protected object
module _ (z : System) (unit op : Name) (actuals : List Expression) (vs now : Variables) (rest ps : List Piece) where
  plain_done : (k : CallTarget) (b : OpBody) → callee z unit op ≡ k → IsBodyOf k b → b.owner ≡ None
      → now ≡ opened b.op (handed b.op.sig.params actuals vs) → ps ≡ pieces b.op.block (ended b actuals vs ∷ rest)
      → Does z (Calling unit op actuals) vs rest deeds.Silent now ps
  plain_done (Plain o) b is h none vars left =
      does-plain z unit op actuals vs rest o now ps is (vars ∙ ap (λ d. opened d.op (handed d.op.sig.params actuals vs)) h)
      (left ∙ ap (λ d. pieces d.op.block (ended d actuals vs ∷ rest)) h)
  plain_done (Protected object place g o) b is h none vars left = absurd (no_owner (object, place) (sym (ap (λ d. d.owner) h) ∙ none))
  plain_done (Request task) b is h none vars left = absurd h
  plain_done Unknown b is h none vars left = absurd h

  -- one that enters an object
  enter_done : (k : CallTarget) (b : OpBody) (object place : ℕ) (values : List ℕ) (lent : Variables) → callee z unit op ≡ k → IsBodyOf k b
      → b.owner ≡ Some (object, place) → IsFull k actuals
      → (length actuals ≡ length b.op.sig.params → values ≡ handed b.op.sig.params actuals vs)
      → now ≡ opened b.op (handed b.op.sig.params actuals vs) ++ lent → ps ≡ pieces b.op.block (ended b actuals vs ∷ rest)
      → (vars : Variables) × Does z (Calling unit op actuals) vs rest (deeds.Enter object place values) vars ps × (now ≡ vars ++ lent)
  enter_done (Plain o) b object place values lent is h owner full hand vars left =
      absurd (some_owner (object, place) (sym (ap (λ d. d.owner) h) ∙ owner))
  enter_done (Protected object' place' g o) b object place values lent is h owner full hand vars left =
      let e = same_Some (object', place') (object, place) (sym (ap (λ d. d.owner) h) ∙ owner) in
      let is' : callee z unit op ≡ Protected object place g o =
      is ∙ ap (λ (w : ℕ × ℕ). Protected w.0 w.1 g o) e in
      let left' : ps ≡ pieces o.block (Closing object place g.vars (out_names o.sig.params) (targets o.sig.params actuals) vs ∷ rest) =
      left ∙ ap (λ d. pieces d.op.block (ended d actuals vs ∷ rest)) h
      ∙ ap (λ (w : ℕ × ℕ). pieces o.block (Closing w.0 w.1 g.vars (out_names o.sig.params) (targets o.sig.params actuals) vs ∷ rest)) e in
      does-enter z unit op actuals vs rest object place g o values lent now ps is'
      (hand (full ∙ ap (λ d. length d.op.sig.params) (sym h)) ∙ ap (λ d. handed d.op.sig.params actuals vs) h)
      (vars ∙ ap (λ d. opened d.op (handed d.op.sig.params actuals vs) ++ lent) h) left'
  enter_done (Request task) b object place values lent is h owner full hand vars left = absurd h
  enter_done Unknown b object place values lent is h owner full hand vars left = absurd h

bare_owner : (o : Option OpBody) (b : OpBody) → o ≡ Some b → HasNoOwner o → b.owner ≡ None
bare_owner o b e h = subst HasNoOwner e h

module _ (c : LinkedUnits) (p p' : Progress) (place : ℕ) (values : List ℕ) where
  pub called_outside : HasCalled c p place [] values p' → HasNoOwner (owner_at c place)
      → DoesFirst (system_of p.stack.thread) (pieces_left p) (vars_left p) deeds.Silent (vars_left p') (pieces_left p')
  called_outside h none = record {
    piece = Calling h.unit h.op h.actuals;
    rest = h.rest;
    first = h.first;
    does = plain_done (system_of p.stack.thread) h.unit h.op h.actuals (vars_left p) (vars_left p') h.rest (pieces_left p')
        (callee (system_of p.stack.thread) h.unit h.op) h.body refl h.is_body (bare_owner (owner_at c place) h.body h.there none)
        (h.vars ∙ append-nil (opened h.body.op (handed h.body.op.sig.params h.actuals (vars_left p)))) h.pieces';
  }

  pub called_inside : (lent : Variables) (h : HasCalled c p place lent values p') (object op : ℕ) (b : OpBody) → owner_at c place ≡ Some b
      → b.owner ≡ Some (object, op) → IsFull (callee (system_of p.stack.thread) h.unit h.op) h.actuals
      → EntersFirst (system_of p.stack.thread) (pieces_left p) (vars_left p) object op values lent (vars_left p') (pieces_left p')
  called_inside lent h object op b there owner full =
      let same : b ≡ h.body = same_Some b h.body (sym there ∙ h.there) in
      let e = enter_done (system_of p.stack.thread) h.unit h.op h.actuals (vars_left p) (vars_left p') h.rest (pieces_left p')
      (callee (system_of p.stack.thread) h.unit h.op) h.body object op values lent refl h.is_body (ap (λ d. d.owner) (sym same) ∙ owner) full
      h.values' h.vars h.pieces' in
      (e.0, record { piece = Calling h.unit h.op h.actuals; rest = h.rest; first = h.first; does = e.1 }, e.2)

-- a body that has ended
module _ (c : LinkedUnits) (p p' : Progress) (values : List ℕ) (h : HasReturned c p values p') where
  abbrev outs : List Name
  outs = out_names h.body.op.sig.params

  abbrev goals : List Name
  goals = targets h.body.op.sig.params h.actuals

  vars_now : stored goals (reads outs (vars_left p)) h.caller ≡ vars_left p'
  vars_now = ap (λ ws. stored goals ws h.caller) (sym h.values') ∙ sym h.vars

  pub returned_outside : owner_of p.stack ≡ None
      → DoesFirst (system_of p.stack.thread) (pieces_left p) (vars_left p) deeds.Silent (vars_left p') (pieces_left p')
  returned_outside none = record {
    piece = Returning outs goals h.caller;
    rest = h.rest;
    first = h.first ∙ ap (λ o. ended_by o h.body.vars h.body.op h.actuals h.caller ∷ h.rest) (sym h.owner ∙ none);
    does = λ z alike. ap (λ vs. deed deeds.Silent vs h.rest) vars_now ∙ ap (deed deeds.Silent (vars_left p')) (sym h.pieces');
  }

  pub returned_inside : (object op : ℕ) (data' : Variables) → owner_of p.stack ≡ Some (object, op) → data' ≡ kept h.body.vars (vars_left p)
      → DoesFirst (system_of p.stack.thread) (pieces_left p) (vars_left p) (deeds.Leave object op values data') (vars_left p') (pieces_left p')
  returned_inside object op data' owner keeps = record {
    piece = Closing object op h.body.vars outs goals h.caller;
    rest = h.rest;
    first = h.first ∙ ap (λ o. ended_by o h.body.vars h.body.op h.actuals h.caller ∷ h.rest) (sym h.owner ∙ owner);
    does = λ z alike. ap (λ vs. deed (deeds.Leave object op (reads outs (vars_left p)) (kept h.body.vars (vars_left p))) vs h.rest) vars_now
        ∙ ap (λ ws. deed (deeds.Leave object op ws (kept h.body.vars (vars_left p))) (vars_left p') h.rest) (sym h.values')
        ∙ ap (λ ds. deed (deeds.Leave object op values ds) (vars_left p') h.rest) (sym keeps)
        ∙ ap (deed (deeds.Leave object op values data') (vars_left p')) (sym h.pieces');
  }
