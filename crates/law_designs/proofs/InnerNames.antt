-- No name inside an object is the name of an object.
use Rattle.std.proofs.Common.{◌≡◌, ℕ, Bool, true, [], refl, ap, inl, inr, List}
use Rattle.std.specs.List.{enumerate_from}
use Rattle.seq_tree.specs.Names.{Name}
use Rattle.ods_tree.specs.Designs.{Design}
use Rattle.ods_tree.specs.Walk.{Standing, objects}
use Rattle.design_rules.specs.Clashes.{Role, Single, Member, Parameter, Local, Loop, Mention, excludes, mention, object_mentions, mentions, clashes}
use Rattle.law_designs.proofs.Shared.Lists.{placed}
use Rattle.law_designs.proofs.Shared.ObjectNames.{inner_mentions, pair-free}
use Rattle.law_lists.proofs.Shared.Lists.{in-flat, IsIn}

-- a role of a name inside an object
abbrev pub IsInner : Role → Type 0
IsInner r = (excludes r Single ≡ true) × (excludes Single r ≡ true) × (r ≡ Single → ⊥)

pub member-inner : (p : ℕ) → IsInner (Member p)
member-inner p = (refl, refl, λ e. cc)

pub parameter-inner : (p : ℕ) (op : Name) (bodied : Bool) → IsInner (Parameter p op bodied)
parameter-inner p op bodied = (refl, refl, λ e. cc)

pub local-inner : (p b : ℕ) (op : Name) → IsInner (Local p b op)
local-inner p b op = (refl, refl, λ e. cc)

pub loop-inner : (p b : ℕ) (ops : List Name) → IsInner (Loop p b ops)
loop-inner p b ops = (refl, refl, λ e. cc)

pub inner-apart : (x : Design) → clashes x ≡ [] → (k : ℕ) (s : Standing) → IsIn (k, s) (enumerate_from 0 (objects x)) → (m : Mention)
    → IsIn m (inner_mentions (k, s)) → IsInner m.role
    → (t : Standing) → IsIn t (objects x) → m.name ≡ t.own.name → ⊥
inner-apart x clash k s h m j inner t i same =
    let p = placed 0 (objects x) t i in
    pair-free [] (mentions x) m (mention Single t.own.name) clash
    (inr (in-flat object_mentions (k, s) m (enumerate_from 0 (objects x)) h (inr j)))
    (inr (in-flat object_mentions (p.0, t) (mention Single t.own.name) (enumerate_from 0 (objects x)) p.1 (inl refl)))
    inner.0 inner.1 (λ e. inner.2 (ap (λ (z : Mention). z.role) e)) same
