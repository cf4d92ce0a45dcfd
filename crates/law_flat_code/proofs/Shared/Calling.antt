-- Calls, requests, and the ends of bodies and of activations.
use Rattle.std.proofs.Common.{◌≡◌, ℕ, zero, suc, ◌+◌, List, ◌∷◌, refl, sym, subst}
use Rattle.seq_tree.specs.Names.{Name}
use Rattle.seq_tree.specs.Expressions.{Expression}
use Rattle.seq_tree.specs.Operations.{Operation}
use Rattle.seq_tree.specs.Variables.{Variables}
use Rattle.machine.specs.Systems.{System, CallTarget, ProtectedUnit, Plain, Protected, Request, Unknown, callee}
use Rattle.machine.specs.Pieces.{Piece}
use Rattle.machine.specs.Pieces as piece
use Rattle.machine.specs.Deeds.{called}
use Rattle.law_flat_code.specs.Codes.{Code, BodyStands, block_size}
use Rattle.law_flat_code.specs.Aheads.{Ahead, Context, in_call}
use Rattle.law_flat_code.specs.Steps.{Calls, Finishes, GoesPast, IsPart, IsReturn, Passes, Returns}
use Rattle.law_flat_code.proofs.Shared.Entering.{entered_block}

pub calls_enter : (y : System) (code : Code) (out : Context) (pc start : ℕ) (inner : Variables) (object op : Name) (actuals : List Expression)
    (o : Operation) (vars : Variables) (rest : List Piece) → callee y object op ≡ Plain o → BodyStands code inner start o.block
    → Ahead code out (piece.Calling object op actuals ∷ rest) pc → Calls y code out pc start inner object op actuals vars rest
calls_enter y code out pc start inner object op actuals o vars rest e body h =
    let within = in_call out (suc h.1) inner in
    let P : CallTarget → Type 0 = λ z. Ahead code within ((called z actuals vars rest).pieces) start in record {
      jumps = h.0;
      place = h.1;
      there = h.2;
      is = h.3.0;
      ahead = subst P (sym e)
          (entered_block o.block code within start _ body.0 (zero, start + block_size o.block, refl, (body.1, out, suc h.1, refl, h.3.1)));
    }

pub sections_enter : (y : System) (code : Code) (out : Context) (pc start : ℕ) (inner : Variables) (object op : Name) (actuals : List Expression)
    (at place : ℕ) (g : ProtectedUnit) (o : Operation) (vars : Variables) (rest : List Piece) → callee y object op ≡ Protected at place g o
    → BodyStands code inner start o.block → Ahead code out (piece.Calling object op actuals ∷ rest) pc
    → Calls y code out pc start inner object op actuals vars rest
sections_enter y code out pc start inner object op actuals at place g o vars rest e body h =
    let within = in_call out (suc h.1) inner in
    let P : CallTarget → Type 0 = λ z. Ahead code within ((called z actuals vars rest).pieces) start in record {
      jumps = h.0;
      place = h.1;
      there = h.2;
      is = h.3.0;
      ahead = subst P (sym e)
          (entered_block o.block code within start _ body.0 (zero, start + block_size o.block, refl, (body.1, out, suc h.1, refl, h.3.1)));
    }

pub requests_go_on : (y : System) (code : Code) (out : Context) (pc task : ℕ) (object op : Name) (actuals : List Expression) (vars : Variables)
    (rest : List Piece) → callee y object op ≡ Request task → Ahead code out (piece.Calling object op actuals ∷ rest) pc
    → GoesPast y code out pc object op actuals vars rest
requests_go_on y code out pc task object op actuals vars rest e h =
    let P : CallTarget → Type 0 = λ z. Ahead code out ((called z actuals vars rest).pieces) (suc h.1) in record {
      jumps = h.0;
      place = h.1;
      there = h.2;
      is = h.3.0;
      ahead = subst P (sym e)
          (zero, suc h.1, refl, (zero, suc h.1, refl, (zero, suc h.1, refl, h.3.1)));
    }

pub unknown_goes_on : (y : System) (code : Code) (out : Context) (pc : ℕ) (object op : Name) (actuals : List Expression) (vars : Variables)
    (rest : List Piece) → callee y object op ≡ Unknown → Ahead code out (piece.Calling object op actuals ∷ rest) pc
    → GoesPast y code out pc object op actuals vars rest
unknown_goes_on y code out pc object op actuals vars rest e h =
    let P : CallTarget → Type 0 = λ z. Ahead code out ((called z actuals vars rest).pieces) (suc h.1) in record {
      jumps = h.0;
      place = h.1;
      there = h.2;
      is = h.3.0;
      ahead = subst P (sym e) h.3.1;
    }

pub parts_pass : (y : System) (code : Code) (out : Context) (pc : ℕ) (p : Piece) (vars : Variables) (rest : List Piece) → IsPart p
    → Ahead code out (p ∷ rest) pc → Passes y code out pc p vars rest
parts_pass y code out pc (piece.Keeping task v) vars rest is h = record { jumps = h.0; place = h.1; there = h.2; ahead = h.3 }
parts_pass y code out pc (piece.Opening task) vars rest is h = record { jumps = h.0; place = h.1; there = h.2; ahead = h.3 }
parts_pass y code out pc (piece.Requested task v) vars rest is h = record { jumps = h.0; place = h.1; there = h.2; ahead = h.3 }
parts_pass y code out pc piece.Idle vars rest is h = absurd is
parts_pass y code out pc (piece.Store target e) vars rest is h = absurd is
parts_pass y code out pc (piece.Leaving c) vars rest is h = absurd is
parts_pass y code out pc (piece.Working n) vars rest is h = absurd is
parts_pass y code out pc (piece.Printing e) vars rest is h = absurd is
parts_pass y code out pc (piece.Testing c block others) vars rest is h = absurd is
parts_pass y code out pc (piece.Turning name at last body) vars rest is h = absurd is
parts_pass y code out pc (piece.Calling object op actuals) vars rest is h = absurd is
parts_pass y code out pc (piece.Turned name at last body) vars rest is h = absurd is
parts_pass y code out pc (piece.Returning outs stores caller) vars rest is h = absurd is
parts_pass y code out pc (piece.Closing object op vs outs stores caller) vars rest is h = absurd is
parts_pass y code out pc piece.Finishing vars rest is h = absurd is

pub bodies_return : (y : System) (code : Code) (out : Context) (pc : ℕ) (p : Piece) (vars : Variables) (rest : List Piece) → IsReturn p
    → Ahead code out (p ∷ rest) pc → Returns y code out pc p vars rest
bodies_return y code out pc (piece.Returning outs stores caller) vars rest is h = let s = h.3 in
    record { jumps = h.0; place = h.1; there = h.2; is = s.0; back = s.2; out = s.1; backs = s.3; ahead = s.4 }
bodies_return y code out pc (piece.Closing object op vs outs stores caller) vars rest is h = let s = h.3 in
    record { jumps = h.0; place = h.1; there = h.2; is = s.0; back = s.2; out = s.1; backs = s.3; ahead = s.4 }
bodies_return y code out pc piece.Idle vars rest is h = absurd is
bodies_return y code out pc (piece.Store target e) vars rest is h = absurd is
bodies_return y code out pc (piece.Leaving c) vars rest is h = absurd is
bodies_return y code out pc (piece.Working n) vars rest is h = absurd is
bodies_return y code out pc (piece.Printing e) vars rest is h = absurd is
bodies_return y code out pc (piece.Testing c block others) vars rest is h = absurd is
bodies_return y code out pc (piece.Turning name at last body) vars rest is h = absurd is
bodies_return y code out pc (piece.Calling object op actuals) vars rest is h = absurd is
bodies_return y code out pc (piece.Turned name at last body) vars rest is h = absurd is
bodies_return y code out pc (piece.Keeping task v) vars rest is h = absurd is
bodies_return y code out pc (piece.Opening task) vars rest is h = absurd is
bodies_return y code out pc (piece.Requested task v) vars rest is h = absurd is
bodies_return y code out pc piece.Finishing vars rest is h = absurd is

pub activations_finish : (code : Code) (out : Context) (pc : ℕ) (rest : List Piece) → Ahead code out (piece.Finishing ∷ rest) pc
    → Finishes code out pc
activations_finish code out pc rest h = record { jumps = h.0; place = h.1; there = h.2; is = h.3.0 }
