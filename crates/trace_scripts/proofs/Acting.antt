-- The action of a request, by the unit that is requested.
use Rattle.std.proofs.Common.{◌≡◌, ℕ, Bool, true, false, ◌&&◌, Option, Some, None, slice_get, refl, sym, ap, ◌∙◌}
use Rattle.std.specs.Prelude.{is_some, option_and_then, if◌then◌else◌}
use Rattle.seq_tree.specs.Names.{Name, same_name}
use Rattle.seq_tree.specs.declared.tree.OpName.{OpName}
use Rattle.law_walks.specs.Walks.{same_value, sees_request}
use Rattle.seq_tree.specs.Runs as runs
use Rattle.ada_tree.specs.Rules.{MeetsRules}
use Rattle.ada_tree.specs.Trees.{form_of, program_of, unit_of}
use Rattle.ada_tree.specs.declared.program.AdaProgram.{AdaProgram}
use Rattle.ada_tree.specs.declared.program.Unit as units
use Rattle.trace_tree.specs.Lines.{unit_name}
use Rattle.trace_tree.specs.declared.event.Event as machine
use Rattle.trace_tree.specs.declared.event.Event.TheVariants as event
use Rattle.guarantee.specs.Software.{program_software}
use Rattle.guarantee.specs.Events.{named_event}
use Rattle.law_traces.specs.Clear.{asked_op}
use Rattle.trace_scripts.specs.Scripts.{action_by, asked_name}
use Rattle.trace_scripts.proofs.Asked.{asked-at}

pub request-made : (p : AdaProgram) (target : ℕ) (value : Option ℕ) (u : units.Unit) (object op : Name) → MeetsRules (program_of p)
    → slice_get (program_of p).units target ≡ Some (unit_of u) → unit_name (program_of p) target ≡ u.name → object ≡ u.name
    → op ≡ asked_name u.name (form_of u.form)
    → (let a : runs.Action = runs.Request (record { object = object; op = op }) value in a)
    ≡ runs.Request (record { object = unit_name (program_of p) target; op = asked_op (program_software (program_of p)) (unit_name (program_of p) target) }) value
request-made p target value u object op meets at name i j =
    let F : Name → Name → runs.Action = λ x y. runs.Request (record { object = x; op = y }) value in
    ap (λ x. F x op) (i ∙ sym name)
    ∙ ap (F (unit_name (program_of p) target))
    (j ∙ sym (asked-at (program_of p) meets target (unit_of u) at) ∙ ap (asked_op (program_software (program_of p))) (sym name))

some-if : {A : Type 0} (b : Bool) (x : A) → is_some (if b then Some x else None) ≡ b
some-if true x = refl
some-if false x = refl

-- whether an event is the request that is asked for
module _ (p : AdaProgram) (e : machine.Event) (time task target : ℕ) (value asked : Option ℕ) (u : units.Unit) (object op : Name)
    (is : e ≡ event.Request time task target value) (meets : MeetsRules (program_of p)) (at : slice_get (program_of p).units target ≡ Some (unit_of u))
    (name : unit_name (program_of p) target ≡ u.name) (a c : Bool)
    (f : a ≡ same_name object u.name && same_name op (asked_name u.name (form_of u.form))) (h : c ≡ same_value asked value)
  where
    abbrev asked_for : OpName
    asked_for = record { object = object; op = op }

    abbrev answer : Bool
    answer = is_some (option_and_then (sees_request asked_for asked) (action_by (program_of p) (named_event (program_of p) e)))

    abbrev named_so : Bool
    named_so = same_name object u.name && same_name op (asked_name u.name (form_of u.form))

    asks-so : a && c ≡ answer
    asks-so =
        let S : runs.Action → Bool = λ z. is_some (sees_request asked_for asked z) in
        ap (λ z. z && c) f ∙ ap (λ z. named_so && z) h
        ∙ sym (some-if (named_so && same_value asked value) (runs.Request asked_for asked))
        ∙ ap S (request-made p target value u u.name (asked_name u.name (form_of u.form)) meets at name refl refl)
        ∙ ap (λ z. is_some (option_and_then (sees_request asked_for asked) (action_by (program_of p) (named_event (program_of p) z)))) (sym is)

    pub asks-then : a ≡ true → c ≡ answer
    asks-then i = ap (λ z. z && c) (sym i) ∙ asks-so

    pub asks-else : a ≡ false → a ≡ answer
    asks-else i = i ∙ ap (λ z. z && c) (sym i) ∙ asks-so
