-- The names of units and of their operations, by the objects that they are from.
use Rattle.std.proofs.Common.{◌≡◌, inl, inr, ℕ, true, List, [], ◌∷◌, map, zip, Some, refl, sym, ap, subst, ◌∙◌}
use Rattle.std.specs.List.{list_all}
use Rattle.seq_tree.specs.Lists.{Each}
use Rattle.seq_tree.specs.Operations.{Signature, Operation}
use Rattle.seq_print.specs.Readable.{is_readable}
use Rattle.seq_print.proofs.Shared.TokenForms.{tokens-readable}
use Rattle.ods_tree.specs.Designs.{Design}
use Rattle.ods_tree.specs.Walk.{Standing, objects, terminals}
use Rattle.ods_tree.specs.Reading.{Reads}
use Rattle.ods_tree.specs.Spelling.{design_tokens}
use Rattle.ods_tree.specs.Ticks.{in_ticks}
use Rattle.ods_tree.specs.Flats.{Library, Guarded, Timing, Thread}
use Rattle.ods_tree.specs.Flattening.{operations, request_op, guarded, threads, flat}
use Rattle.ada_tree.specs.Programs.{Unit}
use Rattle.ada_tree.specs.Bodies.{heads}
use Rattle.ada_print.specs.Writable.{is_word}
use Rattle.design_rules.specs.Rules.{MeetsRules}
use Rattle.analysis.specs.Ceilings.{Ranks}
use Rattle.guarantee.specs.Programs.{thread_form, program, stated_ranks}
use Rattle.law_lists.proofs.Shared.Lists.{IsIn}
use Rattle.law_designs.proofs.Shared.Flattened.{library-from, guarded-from, operation-from, ThreadFrom, thread-from, terminal-object, TimingOf}
use Rattle.law_designs.proofs.Shared.Flattened.{OfCyclic, OfSporadic, timing-of}
use Rattle.law_designs.proofs.Shared.Units.{UnitFrom, OfLibrary, OfGuarded, OfThread, unit-from, from-zip}
use Rattle.law_texts.proofs.Shared.LegibleObjects.{IsLegibleObject, objects-legible}
use Rattle.law_texts.proofs.Shared.LegibleTicks.{legible-in-ticks}
use Rattle.law_texts.proofs.Shared.LegibleDesigns.{thread-named, request-in}
use Rattle.law_traces.specs.Told.{IsPlain, HasPlainNames}
use Rattle.law_event_lines.proofs.Bytes.{plain}

abbrev AreNamed : List Signature → Type 0
AreNamed hs = Each (λ h. is_word h.name ≡ true) hs

abbrev IsNamed : Unit → Type 0
IsNamed u = (is_word u.name ≡ true) × AreNamed (heads u.form)

each-op : (ops : List Operation) → ((o : Operation) → IsIn o ops → is_word o.sig.name ≡ true) → AreNamed (map (λ o. o.sig) ops)
each-op [] h = tt
each-op (o ∷ ops) h = (h o (inl refl), each-op ops (λ q i. h q (inr i)))

module _ (x : Design) (legible : (s : Standing) → IsIn s (objects x) → IsLegibleObject s.own) where
  object-at : (s : Standing) → IsIn s (terminals x) → IsLegibleObject s.own
  object-at s h = legible s (terminal-object x s h).0

  ops-named : (s : Standing) → IsIn s (terminals x) → AreNamed (map (λ o. o.sig) (operations x s.own))
  ops-named s h = each-op (operations x s.own) (λ e i.
      let f = operation-from x s.own e i in
      subst (λ (z : Operation). is_word z.sig.name ≡ true) (sym f.made) ((object-at s h).ops f.provided f.provides))

  request-named : (s : Standing) (sig : Signature) → IsIn s (terminals x) → request_op s.own.provides ≡ Some sig → is_word sig.name ≡ true
  request-named s sig h e =
      let r = request-in s.own.provides sig e in
      subst (λ (z : Signature). is_word z.name ≡ true) r.2 ((object-at s h).ops r.0 r.1)

  thread-heads : (n : ℕ × ℕ) (t : Thread) → IsIn t (threads x) → AreNamed (heads (thread_form n.0 n.1 t.timing t))
  thread-heads n t j = by (thread-from x t j)
    where
      by : ThreadFrom x t → AreNamed (heads (thread_form n.0 n.1 t.timing t))
      by f = kinds (timing-of f.standing.own f.timing f.timed)
        where
          P : Timing → Type 0
          P u = AreNamed (heads (thread_form n.0 n.1 u t))

          timing : (u : Timing) → f.timing ≡ u → t.timing ≡ u
          timing u e = ap (λ (z : Thread). z.timing) f.made ∙ e

          kinds : TimingOf f.standing.own f.timing → P t.timing
          kinds (OfCyclic e s) = subst P (sym (timing _ s)) tt
          kinds (OfSporadic sig e g s) = subst P (sym (timing _ s)) (request-named f.standing sig f.stands g, tt)

  unit-named : (r : Ranks) (u : Unit) → UnitFrom (flat x) r u → (written : (t : Thread) → IsIn t (threads x) → is_word t.name ≡ true) → IsNamed u
  unit-named r u (OfLibrary l j e) written =
      let s = library-from x l j in
      let P : Library → Type 0 = λ k. (is_word k.name ≡ true) × AreNamed (map (λ o. o.sig) k.ops) in
      let q : P l = subst P (sym s.3) ((object-at s.0 s.1).name, ops-named s.0 s.1) in
      subst IsNamed (sym e) (q.0, q.1)
  unit-named r u (OfGuarded g ceiling j e) written =
      let s = guarded-from x g (from-zip (guarded x) r.shared (g, ceiling) j).0 in
      let P : Guarded → Type 0 = λ k. (is_word k.name ≡ true) × AreNamed (map (λ o. o.sig) k.ops) in
      let q : P g = subst P (sym s.3) ((object-at s.0 s.1).name, ops-named s.0 s.1) in
      subst IsNamed (sym e) (q.0, q.1)
  unit-named r u (OfThread t n j e) written =
      let i : IsIn t (threads x) = (from-zip (threads x) (zip r.threads r.obcs) (t, n) j).0 in
      subst IsNamed (sym e) (written t i, thread-heads n t i)

each-plain : (hs : List Signature) → AreNamed hs → Each (λ h. IsPlain h.name) hs
each-plain [] h = tt
each-plain (s ∷ hs) h = (plain s.name h.0, each-plain hs h.1)

all-plain : (us : List Unit) → ((u : Unit) → IsIn u us → IsNamed u) → Each (λ u. IsPlain u.name × Each (λ h. IsPlain h.name) (heads u.form)) us
all-plain [] h = tt
all-plain (u ∷ us) h = (
  (let n = h u (inl refl) in (plain u.name n.0, each-plain (heads u.form) n.1)),
  all-plain us (λ v i. h v (inr i)),
)

pub design-plain : (x : Design) (bytes : List ℕ) → Reads bytes x → MeetsRules x → HasPlainNames (program (in_ticks x))
design-plain x bytes reads met =
    let y : Design = in_ticks x in
    let all : list_all is_readable (design_tokens x) ≡ true = tokens-readable bytes (design_tokens x) reads.spelled in
    let legible : (s : Standing) → IsIn s (objects y) → IsLegibleObject s.own = legible-in-ticks x (objects-legible x all) in
    all-plain (program y).units (λ u h.
    unit-named y legible (stated_ranks y) u (unit-from (flat y) (stated_ranks y) u h) (λ t i. thread-named x y met legible t i))
