-- The names and numbers of the hard part can be read where those of the design can, and so can those of its raised program.
use Rattle.seq_tree.specs.declared.tree.Param.{Param}
use Rattle.std.proofs.Common.{◌≡◌, ◌∙◌, arith, ℕ, ◌≤◌, Bool, true, false, map, max, refl, sym, ap, subst, inl, inr, if◌then◌else◌}
use Rattle.seq_tree.specs.Names.{Name}
use Rattle.ods_tree.specs.Designs.{Provided, Object, Design}
use Rattle.ods_tree.specs.Walk.{Standing, objects}
use Rattle.ada_tree.specs.Programs.{Form, Unit, Passive, Shared, Cyclic, Sporadic}
use Rattle.ada_print.specs.Writable.{is_word, is_number}
use Rattle.law_designs.proofs.Shared.Lists.{from-map}
use Rattle.law_lists.proofs.Shared.Lists.{IsIn}
use Rattle.law_texts.proofs.Shared.LegibleObjects.{IsLegibleObject}
use Rattle.law_texts.proofs.Shared.LegibleUnits.{IsLegibleForm, IsLegibleUnit}
use Rattle.background_designs.specs.Clients.{is_client, is_server}
use Rattle.background_designs.specs.HardParts.{soft_operation, soft_object, cyclic_client, protected_server, hard_object, hard_part}
use Rattle.law_backgrounds.proofs.Shared.ProperHard.{HardOf, hard-from}
use Rattle.law_backgrounds.proofs.Shared.Lifts.{unless, lift_form, lift_unit}

-- an object with softer operations, and as a hard one
module _ (o : Object) (h : IsLegibleObject o) where
  soft-ops : (p : Provided) → IsIn p (map soft_operation o.provides) → is_word p.sig.name ≡ true
  soft-ops p i = let r = from-map soft_operation o.provides p i in ap (λ (z : Provided). is_word z.sig.name) r.2 ∙ h.ops r.0 r.1

  soft-params : (p : Provided) (q : Param) → IsIn p (map soft_operation o.provides) → IsIn q p.sig.params → is_word q.name ≡ true
  soft-params p q i j =
      let r = from-map soft_operation o.provides p i in
      let P : Provided → Type 0 = λ z. IsIn q z.sig.params in h.params r.0 q r.1 (subst P r.2 j)

  soft-legible : IsLegibleObject (soft_object o)
  soft-legible = record {
    name = h.name;
    ops = soft-ops;
    params = soft-params;
    vars = h.vars;
    locals = h.locals;
    blocks = h.blocks;
    thread = h.thread;
  }

  hard-legible : IsLegibleObject (hard_object o)
  hard-legible = client (is_client o)
    where
      server : (b : Bool) → IsLegibleObject (if b then protected_server o else soft_object o)
      server true = record {
        name = h.name;
        ops = soft-ops;
        params = soft-params;
        vars = h.vars;
        locals = h.locals;
        blocks = h.blocks;
        thread = h.thread;
      }
      server false = soft-legible

      client : (b : Bool) → IsLegibleObject (if b then cyclic_client o else (if is_server o then protected_server o else soft_object o))
      client true = record {
        name = h.name;
        ops = soft-ops;
        params = soft-params;
        vars = h.vars;
        locals = h.locals;
        blocks = h.blocks;
        thread = h.thread;
      }
      client false = server (is_server o)

pub hard-are-legible : (x : Design) → ((s : Standing) → IsIn s (objects x) → IsLegibleObject s.own) → (s : Standing) → IsIn s (objects (hard_part x))
    → IsLegibleObject s.own
hard-are-legible x h s i = let f = hard-from x s i in by f.0.own s.own (h f.0 f.1) f.2
  where
    by : (o q : Object) → IsLegibleObject o → HardOf o q → IsLegibleObject q
    by o q k (inl e) = subst IsLegibleObject (sym e) (hard-legible o k)
    by o q k (inr e) = subst IsLegibleObject (sym e) (soft-legible o k)

-- raised numbers
raised-number : (m n : ℕ) → m ≤ 60 → is_number n ≡ true → is_number (max m n) ≡ true
raised-number m n l h = grind arith

unless-number : (b : Bool) (a n : ℕ) → is_number a ≡ true → is_number n ≡ true → is_number (unless b a n) ≡ true
unless-number true a n h k = h
unless-number false a n h k = k

lift-form : (m : ℕ) (b : Bool) (f : Form) → m ≤ 60 → IsLegibleForm f → IsLegibleForm (lift_form m b f)
lift-form m b (Passive ops) l h = h
lift-form m b (Shared ceiling vars ops) l h = (raised-number m ceiling l h.0, h.1, h.2)
lift-form m b (Cyclic priority offset period vars block) l h =
    (raised-number m priority l h.0, unless-number b 0 offset refl h.1, unless-number b 1 period refl h.2, h.3, h.4)
lift-form m b (Sporadic priority ceiling op separation jitter external vars block) l h =
    (raised-number m priority l h.0, raised-number m ceiling l h.1, h.2, h.3, h.4, h.5, h.6, h.7)

pub lift-legible : (m : ℕ) (e : Name → Bool) (u : Unit) → m ≤ 60 → IsLegibleUnit u → IsLegibleUnit (lift_unit m e u)
lift-legible m e u l h = record { name = h.name; form = lift-form m (e u.name) u.form l h.form }
