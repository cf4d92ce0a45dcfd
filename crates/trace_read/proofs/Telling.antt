-- Events of a text that are told one by one: a line at its start, the events of the text to those from an index on, and the tables of all of them.
use Rattle.std.proofs.Common.{◌≡◌, ℕ, suc, ◌<◌, ◌≤◌, List, [], ◌∷◌, length, drop, get_or, Option, Some, None, refl, sym, ap, subst, ◌∙◌, arith}
use Rattle.std.specs.Prelude.{◌-◌, IfSome, MatchOption}
use Rattle.std.proofs.lemmas.List.{get_or_read, length-drop}
use Rattle.ada_tree.specs.Programs.{Program}
use Rattle.trace_tree.specs.Placed.{IsPlaced}
use Rattle.trace_tree.specs.declared.event.Event.{Event}
use Rattle.trace_tree.specs.declared.event.Event.TheVariants as event
use Rattle.trace_read.specs.Chains.{Behind, Leads, Stands, from_out, object_of}
use Rattle.trace_read.specs.Deeds.{Reaches, first_task, from_exit, from_own, task_of}
use Rattle.trace_read.proofs.Shared.Deeds.{drop-next, drop-some, stands-later}

-- the first of the events from an index on, and the others
pub tells-at : (es told : List Event) (at : ℕ) (e : Event) (rest : List Event) → told ≡ drop at es → told ≡ e ∷ rest
    → drop at es ≡ e ∷ drop (suc at) es
tells-at es told at e rest is one =
    let here : drop at es ≡ e ∷ rest = sym is ∙ one in here ∙ ap (λ xs. e ∷ xs) (drop-next es at e rest here)

pub tells-where : (es told behind : List Event) (at : ℕ) (o : Option Event) → told ≡ drop at es
    → MatchOption o ((told ≡ []) × (behind ≡ [])) (λ e. told ≡ e ∷ behind) → MatchOption o (drop at es ≡ []) (λ e. drop at es ≡ e ∷ drop (suc at) es)
tells-where es told behind at None is h = sym is ∙ h.0
tells-where es told behind at (Some e) is h = tells-at es told at e behind is h

-- an event at an index, to which a step of a walk leads
pub reaches-at : (es these : List Event) (last index : ℕ) (e : Event) → Stands es index these → length these < length (drop last es)
    → drop index es ≡ e ∷ drop (suc index) es → Reaches es these last index (Some e)
reaches-at es these last index e stands fewer here =
    (stands.1, sym stands.1 ∙ here, stands-later es these index last stands.0 stands.1 fewer)

-- nothing stands from the first index on that has no event
pub own-none : (task : ℕ) → from_own task [] ≡ []
unfolding from_own
own-none task = refl

pub out-none : (task : ℕ) → from_out task [] ≡ []
unfolding from_exit
out-none task = refl

-- the places in an event
pub task-fits : (p : Program) (e : Event) → IsPlaced p e → IfSome (task_of e) (λ t. t < length p.units)
task-fits p (event.Release time task value) is = is
task-fits p (event.Arrive time task value) is = tt
task-fits p (event.Enter time task unit op values) is = is.0
task-fits p (event.Leave time task unit op values) is = is.0
task-fits p (event.Request time task target value) is = is.0
task-fits p (event.Print time task value) is = is
task-fits p (event.End time task used) is = is
task-fits p (event.Stop time task unit priority ceiling) is = is.0
task-fits p (event.Horizon time) is = tt

pub object-fits : (p : Program) (e : Event) → IsPlaced p e → IfSome (object_of e) (λ u. u < length p.units)
object-fits p (event.Release time task value) is = tt
object-fits p (event.Arrive time task value) is = tt
object-fits p (event.Enter time task unit op values) is = is.1
object-fits p (event.Leave time task unit op values) is = is.1
object-fits p (event.Request time task target value) is = tt
object-fits p (event.Print time task value) is = tt
object-fits p (event.End time task used) is = tt
object-fits p (event.Stop time task unit priority ceiling) is = tt
object-fits p (event.Horizon time) is = tt

-- a deed is one of the events
own-some : (es : List Event) (at task : ℕ) → first_task (drop at es) ≡ Some task → (e : Event) × (rest : List Event) × (drop at es ≡ e ∷ rest)
own-some es at task own = by (drop at es) refl
  where
    by : (xs : List Event) → drop at es ≡ xs → (e : Event) × (rest : List Event) × (drop at es ≡ e ∷ rest)
    by [] is = absurd (let z : None ≡ Some task = sym (ap first_task is) ∙ own in (cc))
    by (e ∷ rest) is = (e, rest, is)

pub own-within : (es : List Event) (at task : ℕ) → first_task (drop at es) ≡ Some task → at < length es
own-within es at task own = let some = own-some es at task own in drop-some es at some.0 some.1 some.2

-- fewer stand behind an event than from it on
pub behind-fewer : (es these : List Event) (at task : ℕ) → first_task (drop at es) ≡ Some task → length these ≤ length (drop (suc at) es)
    → length these < length (drop at es)
behind-fewer es these at task own fewer =
    let within = own-within es at task own in
    let here : length (drop at es) ≡ length es - at = length-drop at es in
    let there : length (drop (suc at) es) ≡ length es - suc at = length-drop (suc at) es in
    omega (arith, within, here, there, fewer)

-- where a walk is behind its step
pub reached-own : (es these : List Event) (task last index : ℕ) (o : Option Event) → first_task (drop last es) ≡ Some task
    → ((e : Event) (rest : List Event) → these ≡ e ∷ rest → task_of e ≡ Some task) → Reaches es these last index o
    → first_task (drop index es) ≡ Some task
reached-own es these task last index None own first is = ap (λ i. first_task (drop i es)) is.1 ∙ own
reached-own es these task last index (Some e) own first is =
    ap first_task (is.0 ∙ is.1) ∙ first e (drop (suc index) es) is.1

-- a step by a table, for the events of a text by another name
module _ (found : Behind) (fewer : (task : ℕ) (es : List Event) → length (found task es) ≤ length es) (view es : List Event) (same : view ≡ es)
    (table : List ℕ) (long : length table ≡ length view) (leads : Leads found view 0 table) (task last : ℕ)
    (own : first_task (drop last es) ≡ Some task) where
  there : first_task (drop last view) ≡ Some task
  there = ap (λ xs. first_task (drop last xs)) same ∙ own

  pub step-within : last < length table
  step-within = let within = own-within view last task there in omega (arith, within, long)

  pub step-stands : (index : ℕ) → index ≡ get_or table last index → Stands es index (found task (drop (suc last) es))
  step-stands index is =
      let read : index ≡ get_or table last 0 = get_or_read table last index step-within is 0 in
      subst (λ xs. Stands xs index (found task (drop (suc last) xs))) same
      (subst (λ i. Stands view i (found task (drop (suc last) view))) (sym read) (leads last task (omega arith) there))

  pub step-fewer : length (found task (drop (suc last) es)) < length (drop last es)
  step-fewer = behind-fewer es (found task (drop (suc last) es)) last task own (fewer task (drop (suc last) es))
