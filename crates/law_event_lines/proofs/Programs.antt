-- A program that can stand in a text and meets the rules has texts whose numbers are words and whose calls have places of the program.
use Rattle.std.proofs.Common.{◌≡◌, ℕ, zero, suc, ◌<◌, ◌≤◌, ◌||◌, List, [], ◌∷◌, flat_map, length, Some, sym, ap, subst, ◌∙◌}
use Rattle.std.proofs.Common.{arith}
use Rattle.std.specs.Prelude.{nat_lt, slice_get, unwrap_or, option_map}
use Rattle.std.specs.List.{list_any}
use Rattle.std.proofs.lemmas.Bool.{or_parts, ltb-false}
use Rattle.std.proofs.lemmas.List.{length-map}
use Rattle.std.proofs.lemmas.Option.{none-some}
use Rattle.seq_tree.specs.Limits.{tick_limit}
use Rattle.seq_tree.specs.Lists.{Each}
use Rattle.seq_tree.specs.Names.{Name}
use Rattle.seq_tree.specs.Calls.{block_works}
use Rattle.seq_tree.specs.Operations.{Operation, Signature}
use Rattle.seq_tree.specs.Variables.{written}
use Rattle.ada_tree.specs.Bodies.{heads, bodies}
use Rattle.ada_tree.specs.Programs.{Form, Unit, Program}
use Rattle.ada_tree.specs.Ranges.{numbers_break, is_outside}
use Rattle.ada_tree.specs.Rules.{MeetsRules}
use Rattle.arrivals_tree.specs.Arriving.{Arrivals}
use Rattle.trace_tree.specs.Placed.{IsUnit, IsOp}
use Rattle.machine.specs.Systems.{System, TaskUnit, ProtectedUnit, ReleasePattern, Periodic, Requested, CallTarget, Plain, Protected, Request}
use Rattle.machine.specs.Systems.{Unknown, callee, system}
use Rattle.machine.specs.Effects.{object_unit}
use Rattle.law_lists.proofs.Shared.Lists.{IsIn, at-in, none-in, in-map, each-in, place-of}
use Rattle.law_calls.proofs.Shared.Systems.{thread_form, library-at, object-at, thread-at, LeadsTo, leads-to}
use Rattle.law_calls.proofs.Shared.Threads.{unit_ops-at}
use Rattle.law_calls.proofs.Shared.UnitRules.{ranges-kept}
use Rattle.law_texts.proofs.Shared.LegibleUnits.{AreLegibleData, IsLegibleBlock, AreLegibleOperations, IsLegibleForm, IsLegibleUnit}
use Rattle.law_event_lines.proofs.Values.{HoldWords}
use Rattle.law_event_lines.proofs.Pieces.{FitBlock, FitCallee}
use Rattle.law_event_lines.proofs.Steps.{FitThread}
use Rattle.law_event_lines.proofs.Texts.{data-words, legible-words}

-- a place at which something stands is below the length
below : {A : Type 0} (xs : List A) (k : ℕ) (x : A) → slice_get xs k ≡ Some x → k < length xs
below [] k x e = absurd (none-some x e)
below (z ∷ xs) zero x e = omega arith
below (z ∷ xs) (suc k) x e = let less = below xs k x e in omega (arith, less)

module _ (p : Program) (a : Arrivals) (meets : MeetsRules p) (legible : (u : Unit) → IsIn u p.units → IsLegibleUnit u) where
  abbrev y : System
  y = system p a

  form-at : (k : ℕ) (u : Unit) → slice_get p.units k ≡ Some u → IsLegibleForm u.form
  form-at k u at = (legible u (at-in p.units k u at)).form

  -- a task: its unit, and its text
  thread-text : (t : TaskUnit) (timing : ReleasePattern) (form : Form) → thread_form t timing form → IsLegibleForm form
      → AreLegibleData t.vars × IsLegibleBlock t.block
  thread-text t (Periodic offset period) form e l = let m = subst IsLegibleForm e l in (m.3, m.4)
  thread-text t (Requested op ceiling separation jitter external) form e l = let m = subst IsLegibleForm e l in (m.6, m.7)

  thread-unit : (i : ℕ) (t : TaskUnit) → slice_get y.threads i ≡ Some t → IsUnit p t.unit
  thread-unit i t at =
      let f = thread-at p a i t at in subst (λ n. n < length p.units) (sym (f.2).unit) (below p.units f.0 f.1 (f.2).stands)

  pub threads-fit : Each (λ t. FitThread p y t × HoldWords (written t.vars)) y.threads
  threads-fit = each-in (λ t. FitThread p y t × HoldWords (written t.vars)) y.threads (λ t k.
      let at = place-of t y.threads k in
      let f = thread-at p a at.0 t at.1 in
      let text = thread-text t t.timing f.1.form (f.2).form (form-at f.0 f.1 (f.2).stands) in
      ((thread-unit at.0 t at.1, legible-words t.block text.1), data-words t.vars text.0))

  pub objects-fit : Each (λ (g : ProtectedUnit). HoldWords (written g.vars)) y.objects
  objects-fit = each-in (λ (g : ProtectedUnit). HoldWords (written g.vars)) y.objects (λ g k.
      let at = place-of g y.objects k in
      let f = object-at p a at.0 g at.1 in
      let text = subst IsLegibleForm (f.2).form (form-at f.0 f.1 (f.2).stands) in
      data-words g.vars text.1)

  -- an operation
  body-fits : (ops : List Operation) (j : ℕ) (o : Operation) → AreLegibleOperations ops → slice_get ops j ≡ Some o
      → FitBlock o.block × HoldWords (written o.locals)
  body-fits ops j o all at =
      let l = all o (at-in ops j o at) in (legible-words o.block l.block, data-words o.locals l.locals)

  few-params : (k : ℕ) (u : Unit) (h : Signature) → slice_get p.units k ≡ Some u → IsIn h (heads u.form) → length h.params ≤ 8
  few-params k u h at among =
      let few = none-in (λ (s : Signature). nat_lt 8 (length s.params)) h (heads u.form)
      (or_parts (numbers_break u.form) (list_any (λ (s : Signature). nat_lt 8 (length s.params)) (heads u.form))
      (or_parts (numbers_break u.form || list_any (λ (s : Signature). nat_lt 8 (length s.params)) (heads u.form))
      (list_any (is_outside 1 tick_limit) (flat_map (λ b. block_works b.block) (bodies u.form)))
      (ranges-kept p meets k u at)).0).1 among in
      ltb-false 8 (length h.params) few

  -- what a call leads to
  target-fits : (unit op : Name) (x : CallTarget) → LeadsTo y unit op x → FitCallee p y x
  target-fits unit op (Plain o) l =
      let f = library-at p a l.place l.library l.stands in
      body-fits l.library.ops l.at o (subst IsLegibleForm (f.2).form (form-at f.0 f.1 (f.2).stands)) l.holds
  target-fits unit op (Protected object j g o) l =
      let f = object-at p a object g l.stands in
      let text = subst IsLegibleForm (f.2).form (form-at f.0 f.1 (f.2).stands) in
      let body = body-fits g.ops j o text.2 l.holds in
      let place : object_unit y object ≡ f.0 = ap (λ q. unwrap_or (option_map (λ (z : ProtectedUnit). z.unit) q) 0) l.stands ∙ (f.2).unit in
      let ops = unit_ops-at p f.0 f.1 (f.2).stands ∙ ap heads (f.2).form in
      let count = ap length ops in
      let long = length-map g.ops (λ (z : Operation). z.sig) in
      let less = below g.ops j o l.holds in
      let has : IsOp p f.0 j = omega (arith, count, long, less) in
      let head : IsIn o.sig (heads f.1.form) =
      subst (λ w. IsIn o.sig (heads w)) (sym (f.2).form) (in-map (λ (z : Operation). z.sig) o g.ops (at-in g.ops j o l.holds)) in (
        (subst (IsUnit p) (sym place) (below p.units f.0 f.1 (f.2).stands), subst (λ n. IsOp p n j) (sym place) has),
        few-params f.0 f.1 o.sig (f.2).stands head,
        body.0,
        body.1,
      )
  target-fits unit op (Request task) l =
      subst (IsUnit p) (sym (ap (λ q. unwrap_or (option_map (λ (z : TaskUnit). z.unit) q) 0) l.stands)) (thread-unit task l.thread l.stands)
  target-fits unit op Unknown l = tt

  pub callees-fit : (unit op : Name) → FitCallee p y (callee y unit op)
  callees-fit unit op = target-fits unit op (callee y unit op) (leads-to y unit op)
