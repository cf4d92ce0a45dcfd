-- The blocks of a flat design: each is a written block of a terminal object with its calls read by what they mean, and each call is one
-- of an operation that its object requires.
use Rattle.std.proofs.Common.{◌≡◌, true, List, find, length, Option, Some, None, option_map, option_and_then, refl, sym, ap, subst, ◌∙◌}
use Rattle.std.proofs.lemmas.Bool.{and_parts}
use Rattle.seq_tree.specs.Names.{same_name}
use Rattle.seq_tree.specs.Statements.{Statements}
use Rattle.seq_tree.specs.Operations.{Signature, Operation, Offer}
use Rattle.seq_tree.specs.Calls.{block_calls}
use Rattle.seq_tree.specs.Faults.{Scope, block_fault}
use Rattle.seq_tree.specs.declared.tree.OpName.{OpName}
use Rattle.ods_tree.specs.Designs.{Provided, Body, Object, Design}
use Rattle.ods_tree.specs.Walk.{Standing, objects, terminals}
use Rattle.ods_tree.specs.Links.{resolved}
use Rattle.ods_tree.specs.Flats.{Thread}
use Rattle.ods_tree.specs.Flattening.{operations, threads}
use Rattle.ods_tree.specs.Sound.{Counted, counted_calls}
use Rattle.design_rules.specs.Lookups.{provided_named, operation_named, object_named}
use Rattle.design_rules.specs.Bodies.{offers}
use Rattle.design_rules.specs.Rules.{AreMet}
use Rattle.law_designs.proofs.Shared.Lists.{from-map}
use Rattle.law_designs.proofs.Renaming.{offers_it}
use Rattle.law_designs.proofs.Shapes.{counted_name, Right, calls-counted, calls-right}
use Rattle.law_designs.proofs.Shared.Flattened.{operation-from, thread-from, terminal-object}
use Rattle.law_designs.proofs.Shared.ObjectRules.{body-right, thread-right, operations-right, parts-fit, not-active, no-clash}
use Rattle.law_designs.proofs.Shared.Served.{Kept}
use Rattle.law_lists.proofs.Shared.Facts.{same-is}
use Rattle.law_lists.proofs.Shared.Lists.{IsIn, in-made, found-in}

-- an operation that an object requires, and that is there
pub record Needed (x : Design) (o : Object) (name : OpName) : Type 0 where
  pub provided : Provided
  pub needs : IsIn name o.needs
  pub there : operation_named x name ≡ Some provided

-- what is offered in an object is what it requires
pub record NeededOffer (x : Design) (o : Object) (name : OpName) (off : Offer) : Type 0 where
  pub needed : Needed x o name
  pub sig : off.sig ≡ needed.provided.sig

provided-name : (x : Design) (n : OpName) (p : Provided) → operation_named x n ≡ Some p → p.sig.name ≡ n.op
provided-name x n p = by (object_named x n.object)
  where
    by : (s : Option Standing) → option_and_then (λ (t : Standing). provided_named n.op t.own.provides) s ≡ Some p → p.sig.name ≡ n.op
    by None e = (let z : None ≡ Some p = e in cc)
    by (Some s) e = same-is p.sig.name n.op (found-in (λ q. same_name q.sig.name n.op) s.own.provides p e).1

pub needed-offer : (x : Design) (o : Object) (name : OpName) (off : Offer) → find (offers_it name) (offers x o) ≡ Some off → NeededOffer x o name off
needed-offer x o name off e =
    let at = found-in (offers_it name) (offers x o) off e in
    let r = in-made (λ n. option_map (λ p. record { object = n.object; sig = p.sig }) (operation_named x n)) o.needs off at.0 in
    by r.0 r.1 (and_parts (same_name off.object name.object) (same_name off.sig.name name.op) at.1) (operation_named x r.0) refl r.2
  where
    by : (n : OpName) → IsIn n o.needs → (same_name off.object name.object ≡ true) × (same_name off.sig.name name.op ≡ true) → (p : Option Provided)
        → operation_named x n ≡ p
        → option_map (λ q. record { object = n.object; sig = q.sig }) p ≡ Some off → NeededOffer x o name off
    by n h both None k f = (let z : None ≡ Some off = f in cc)
    by n h both (Some p) k f =
        let off-is : record { object = n.object; sig = p.sig } ≡ off
        = (let z : Some (record { object = n.object; sig = p.sig }) ≡ Some off = f in cc) in
        let object : n.object ≡ name.object = ap (λ (z : Offer). z.object) off-is ∙ same-is off.object name.object both.0 in
        let op : n.op ≡ name.op = sym (provided-name x n p k) ∙ ap (λ (z : Offer). z.sig.name) off-is ∙ same-is off.sig.name name.op both.1 in
        let same : n ≡ name = ap (λ z. record { object = z; op = n.op }) object ∙ ap (λ z. record { object = name.object; op = z }) op in
        let P : OpName → Type 0 = λ z. IsIn z o.needs in
        record {
          needed = record { provided = p; needs = subst P same h; there = ap (operation_named x) (sym same) ∙ k };
          sig = ap (λ (z : Offer). z.sig) (sym off-is);
        }

-- a counted call of what an object requires
pub record NeededCall (x : Design) (o : Object) (k : Counted) : Type 0 where
  pub needed : Needed x o (counted_name k)
  pub count : length needed.provided.sig.params ≡ k.count

-- a written block of an object, each of whose calls is required
abbrev pub AreNeeded : Design → Object → Statements → Type 0
AreNeeded x o b = (k : Counted) → IsIn k (counted_calls b) → NeededCall x o k

pub needed-calls : (x : Design) (o : Object) (c : Scope) (b : Statements) → c.calls ≡ offers x o → block_fault c b ≡ None → AreNeeded x o b
needed-calls x o c b e h k j =
    let r : Right c.calls k = calls-right c b h k j in
    let n = needed-offer x o (counted_name k) r.offer (ap (find (offers_it (counted_name k))) (sym e) ∙ r.found) in
    record { needed = n.needed; count = ap (λ (g : Signature). length g.params) (sym n.sig) ∙ r.count }

-- each plain call of such a block is required
pub needed-call : (x : Design) (o : Object) (b : Statements) → AreNeeded x o b → (name : OpName) → IsIn name (block_calls b) → Needed x o name
needed-call x o b h name j =
    let P : List OpName → Type 0 = λ z. IsIn name z in
    let r = from-map counted_name (counted_calls b) name (subst P (calls-counted b) j) in
    let Q : OpName → Type 0 = λ z. Needed x o z in subst Q (sym r.2) (h r.0 r.1).needed

module _ (written x : Design) (met : AreMet written x) where
  pub kept : Kept x
  kept = record {
    apart = no-clash written x met;
    fit = parts-fit written x met;
    right = operations-right written x met;
    idle = not-active written x met;
  }

  pub body-needed : (s : Standing) (b : Body) → IsIn s (objects x) → IsIn b s.own.bodies → AreNeeded x s.own b.block
  body-needed s b h j = needed-calls x s.own _ b.block refl (body-right written x met s b h j)

  pub thread-needed : (s : Standing) (b : Statements) → IsIn s (objects x) → s.own.thread ≡ Some b → AreNeeded x s.own b
  thread-needed s b h e = needed-calls x s.own _ b refl (thread-right written x met s b h e)

  -- a block of a flat design by the block that is written
  pub record Written (b : Statements) : Type 0 where
    pub standing : Standing
    pub stands : IsIn standing (terminals x)
    pub block : Statements
    pub means : b ≡ resolved x block
    pub needed : AreNeeded x standing.own block

  pub operation-written : (s : Standing) (e : Operation) → IsIn s (terminals x) → IsIn e (operations x s.own) → Written e.block
  operation-written s e h j =
      let r = operation-from x s.own e j in
      record {
        standing = s;
        stands = h;
        block = r.body.block;
        means = ap (λ (c : Operation). c.block) r.made;
        needed = body-needed s r.body (terminal-object x s h).0 (found-in (λ b. same_name b.name r.provided.sig.name) s.own.bodies r.body r.named).0;
      }

  pub thread-written : (t : Thread) → IsIn t (threads x) → Written t.block
  thread-written t h =
      let r = thread-from x t h in
      record {
        standing = r.standing;
        stands = r.stands;
        block = r.block;
        means = ap (λ (u : Thread). u.block) r.made;
        needed = thread-needed r.standing r.block (terminal-object x r.standing r.stands).0 r.runs;
      }
