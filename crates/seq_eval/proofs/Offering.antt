-- What calls lead to: one operation more in front of those that are there.
use Rattle.std.proofs.Common.{◌≡◌, ℕ, ◌+◌, ◌-◌, ◌≤◌, ◌<◌, Bool, true, false, List, ◌∷◌, length, drop, get_or, map, find, zip, cond, refl, ap, sym}
use Rattle.std.proofs.Common.{◌∙◌, arith, Option, Some, None}
use Rattle.seq_tree.specs.Calls.{same_op}
use Rattle.seq_tree.specs.Names.{Name}
use Rattle.seq_tree.specs.Operations.{Operation, Offer}
use Rattle.seq_tree.specs.Runs.{Callee, Plain, Protected, Asked, Unknown}
use Rattle.seq_tree.specs.Trees.{offer_of, operation_of}
use Rattle.seq_tree.specs.declared.tree.Callable.{Callable}
use Rattle.seq_tree.specs.declared.tree.OpName.{OpName}
use Rattle.seq_tree.specs.declared.tree.OpText.{OpText}
use Rattle.seq_tree.proofs.Shared.LoopSteps.{drop_step}
use Rattle.seq_eval.specs.Following.{callee_by, is_offered, is_plain}
use Rattle.seq_eval.specs.Calls.{callee_of, first_callee}
use Rattle.seq_eval.specs.declared.calls.Target.{Target}

-- one in front of others
in_front : {A : Type 0} (b : Bool) (f : A → Callee) (a : A) (t : Target) (now : Option Target) (others : Option A) (rest : Callee)
    → callee_of (Some t) ≡ f a → callee_of now ≡ first_callee f others rest
    → callee_of (cond b (Some t) now) ≡ first_callee f (cond b (Some a) others) rest
in_front true f a t now others rest e was = e
in_front false f a t now others rest e was = was

one_on : (at : ℕ) → 0 < at → (at - 1) + 1 ≡ at
one_on at some = omega (arith, some)

-- one of those that may be called
pub offer-added : (f : Offer → Callee) (offers : List Callable) (at : ℕ) (o : Callable) (n : OpName) (t : Target) (now old new : Option Target)
    → 0 < at → at ≤ length offers → o ≡ get_or offers (at - 1) o → callee_of (Some t) ≡ f (offer_of o)
    → callee_of now ≡ first_callee f (find (is_offered n.object n.op) (map offer_of (drop at offers))) (callee_of old)
    → new ≡ cond (same_op (record { object = o.object; op = o.sig.name }) n) (Some t) now
    → callee_of new ≡ first_callee f (find (is_offered n.object n.op) (map offer_of (drop (at - 1) offers))) (callee_of old)
offer-added f offers at o n t now old new some within is means was made =
    ap callee_of made
    ∙ in_front (same_op (record { object = o.object; op = o.sig.name }) n) f (offer_of o) t now
    (find (is_offered n.object n.op) (map offer_of (drop at offers))) (callee_of old) means was
    ∙ ap (λ k. first_callee f (find (is_offered n.object n.op) (offer_of o ∷ map offer_of (drop k offers))) (callee_of old)) (sym (one_on at some))
    ∙ ap (λ os. first_callee f (find (is_offered n.object n.op) (map offer_of os)) (callee_of old))
    (sym (drop_step offers (at - 1) o (omega (arith, some, within)) is))

-- one of the passive operations
pub plain-added : (owners : List Name) (passive : List OpText) (at : ℕ) (owner : Name) (o : OpText) (n : OpName) (t : Target)
    (now old new : Option Target) → length owners ≡ length passive
    → 0 < at → at ≤ length passive → owner ≡ get_or owners (at - 1) owner → o ≡ get_or passive (at - 1) o
    → callee_of (Some t) ≡ Plain (operation_of o)
    → callee_of now ≡ first_callee (λ p. Plain p.1) (find (is_plain n.object n.op) (zip (drop at owners) (map operation_of (drop at passive))))
    (callee_of old)
    → new ≡ cond (same_op (record { object = owner; op = o.sig.name }) n) (Some t) now
    → callee_of new ≡ first_callee (λ p. Plain p.1) (find (is_plain n.object n.op) (zip (drop (at - 1) owners) (map operation_of (drop
    (at - 1) passive))))
    (callee_of old)
plain-added owners passive at owner o n t now old new even some within is-owner is means was made =
    let test = is_plain n.object n.op in
    ap callee_of made
    ∙ in_front (same_op (record { object = owner; op = o.sig.name }) n) (λ p. Plain p.1) (owner, operation_of o) t now
    (find test (zip (drop at owners) (map operation_of (drop at passive)))) (callee_of old) means was
    ∙ ap (λ k. first_callee (λ p. Plain p.1) (find test ((owner, operation_of o) ∷ zip (drop k owners) (map operation_of (drop k passive))))
    (callee_of old))
    (sym (one_on at some))
    ∙ ap (λ os. first_callee (λ p. Plain p.1) (find test (zip os (operation_of o ∷ map operation_of (drop ((at - 1) + 1) passive)))) (callee_of old))
    (sym (drop_step owners (at - 1) owner (omega (arith, some, within, even)) is-owner))
    ∙ ap (λ os. first_callee (λ p. Plain p.1) (find test (zip (drop (at - 1) owners) (map operation_of os))) (callee_of old))
    (sym (drop_step passive (at - 1) o (omega (arith, some, within)) is))

-- the three lists
pub by-lists : (plain : Option (Name × Operation)) (shared request : Option Offer)
    → first_callee (λ o. Plain o.1) plain (first_callee (λ o. Protected o.sig.params) shared (first_callee (λ o. Asked) request Unknown))
    ≡ callee_by plain shared request
by-lists (Some o) shared request = refl
by-lists None (Some o) request = refl
by-lists None None (Some o) = refl
by-lists None None None = refl
