-- The requests of a thread that is requested from outside are its arrivals, so they keep its separation where those do.
use Rattle.std.specs.Prelude.{◌≡◌, ℕ, ◌+◌, ◌≤◌, ◌<◌, Bool, true, false, cond, List, [], ◌∷◌, map, filter, filter_map, nat_le, max, Some}
use Rattle.std.specs.Prelude.{slice_get, ⊤, refl}
use Rattle.std.specs.List.{cons_option}
use Rattle.std.proofs.Common.{sym, ◌∙◌, ap, subst, arith}
use Rattle.seq_tree.specs.Lists.{Each}
use Rattle.seq_tree.specs.Names.{Name, same_name}
use Rattle.seq_tree.specs.Operations.{Signature}
use Rattle.ada_tree.specs.Programs.{Program}
use Rattle.ada_tree.specs.Rules.{MeetsRules}
use Rattle.arrivals_tree.specs.Arriving as places
use Rattle.arrivals_tree.specs.Acceptance.{IsAccepted}
use Rattle.ods_tree.specs.Walk.{only_if}
use Rattle.trace_tree.specs.Lines.{unit_name}
use Rattle.trace_tree.specs.declared.event.Event as machine
use Rattle.trace_tree.specs.declared.event.Event.TheVariants as event
use Rattle.machine.specs.Systems.{System, TaskUnit, ReleasePattern, Requested, system}
use Rattle.machine.specs.Meanings.{run, Meaning, start}
use Rattle.guarantee.specs.Events.{named}
use Rattle.guarantee.specs.Arrivals.{Arrival, named_arrivals, DontFall, KeepTime, times_of}
use Rattle.guarantee.specs.Requests.{Asked, Taken, Done, notices, arrival_by}
use Rattle.guarantee.specs.MachineLaw.{NeverStops}
use Rattle.law_ceilings.specs.Premises.{MayExclude}
use Rattle.law_ceilings.proofs.Shared.Permissions.{AllFall}
use Rattle.law_ceilings.proofs.Shared.Excluding.{falls-text, callee-task}
use Rattle.law_calls.proofs.Shared.Threads.{threads_apart, thread_name}
use Rattle.law_ceilings.proofs.Shared.Programs.{may-exclude, made-requested}
use Rattle.law_releases.proofs.Shared.ArrivalsTold.{are_told}
use Rattle.law_releases.proofs.Requesters.{IsSaid, all_said}
use Rattle.std.proofs.lemmas.Bool.{true≢false, false_from_ne_true}
use Rattle.std.proofs.lemmas.Option.{same_Some}
use Rattle.law_lists.proofs.Shared.Lists.{each-to}
use Rattle.law_releases.specs.Serving.{asked}
use Rattle.law_releases.proofs.RequestNotices.{unit-at}
use Rattle.law_calls.proofs.Shared.Accepted.{IsInside, requested-inside}

-- an event that is no request of a thread by another
abbrev NotAsking : Program → Name → machine.Event → Type 0
NotAsking p name (event.Request time task target value) = same_name (unit_name p target) name ≡ false
NotAsking p name _ = ⊤

-- so its requests are those from outside
asked-arrived : (p : Program) (name : Name) (es : List machine.Event) → Each (NotAsking p name) es
    → asked (notices name (named p es)) ≡ times_of name (filter_map arrival_by (named p es))
asked-arrived p name [] all = refl
asked-arrived p name (event.Release time task value ∷ es) all = by (same_name (unit_name p task) name) ∙ asked-arrived p name es all.1
  where
    by : (b : Bool) → asked (cons_option (only_if b (Taken time value)) (notices name (named p es))) ≡ asked (notices name (named p es))
    by true = refl
    by false = refl
asked-arrived p name (event.Arrive time task value ∷ es) all = by (same_name (unit_name p task) name) (asked-arrived p name es all.1)
  where
    by : (b : Bool) → asked (notices name (named p es)) ≡ times_of name (filter_map arrival_by (named p es))
        → asked (cons_option (only_if b (Asked time value)) (notices name (named p es)))
        ≡ map (λ a. a.time) (cond b (record { time = time; task = unit_name p task; value = value }
        ∷ filter (λ a. same_name a.task name) (filter_map arrival_by (named p es)))
        (filter (λ a. same_name a.task name) (filter_map arrival_by (named p es))))
    by true h = ap (λ ts. time ∷ ts) h
    by false h = h
asked-arrived p name (event.Enter time task unit op values ∷ es) all = asked-arrived p name es all.1
asked-arrived p name (event.Leave time task unit op values ∷ es) all = asked-arrived p name es all.1
asked-arrived p name (event.Request time task target value ∷ es) all =
    ap (λ b. asked (cons_option (only_if b (Asked time value)) (notices name (named p es)))) all.0 ∙ asked-arrived p name es all.1
asked-arrived p name (event.Print time task value ∷ es) all = asked-arrived p name es all.1
asked-arrived p name (event.End time task used ∷ es) all = by (same_name (unit_name p task) name) ∙ asked-arrived p name es all.1
  where
    by : (b : Bool) → asked (cons_option (only_if b (Done time)) (notices name (named p es))) ≡ asked (notices name (named p es))
    by true = refl
    by false = refl
asked-arrived p name (event.Stop time task unit priority ceiling ∷ es) all = asked-arrived p name es all.1
asked-arrived p name (event.Horizon time ∷ es) all = asked-arrived p name es all.1

-- the arrivals up to the horizon keep time where all do
late_none : (until now : ℕ) (items : List Arrival) → until < now → DontFall now items → filter (λ a. nat_le a.time until) items ≡ []
late_none until now [] h falls = refl
late_none until now (a ∷ items) h falls = by (nat_le a.time until) refl (late_none until a.time items (omega (arith, h, falls.0)) falls.1)
  where
    by : (b : Bool) → nat_le a.time until ≡ b → filter (λ z. nat_le z.time until) items ≡ []
        → cond b (a ∷ filter (λ z. nat_le z.time until) items) (filter (λ z. nat_le z.time until) items) ≡ []
    by true e rest = absurd (late e)
      where
        late : nat_le a.time until ≡ true → ⊥
        late q = let early : a.time ≤ until = grind arith in omega (arith, early, h, falls.0)
    by false e rest = rest

kept_within : (separation jitter until least now : ℕ) (name : Name) (items : List Arrival) → DontFall now items
    → KeepTime separation jitter least (times_of name items)
    → KeepTime separation jitter least (times_of name (filter (λ a. nat_le a.time until) items))
kept_within separation jitter until least now name [] falls keeps = tt
kept_within separation jitter until least now name (a ∷ items) falls keeps =
    by (nat_le a.time until) refl (same_name a.task name) keeps (λ l k. kept_within separation jitter until l a.time name items falls.1 k)
  where
    -- the item itself, of this name or not
    first : (b' : Bool) → KeepTime separation jitter least
        (map (λ z. z.time) (cond b' (a ∷ filter (λ z. same_name z.task name) items) (filter (λ z. same_name z.task name) items)))
        → ((l : ℕ) → KeepTime separation jitter l (times_of name items)
        → KeepTime separation jitter l (times_of name (filter (λ z. nat_le z.time until) items)))
        → KeepTime separation jitter least
        (map (λ z. z.time) (cond b' (a ∷ filter (λ z. same_name z.task name) (filter (λ z. nat_le z.time until) items))
        (filter (λ z. same_name z.task name) (filter (λ z. nat_le z.time until) items))))
    first true k later = (k.0, later (max a.time least + separation) k.1)
    first false k later = later least k

    by : (b : Bool) → nat_le a.time until ≡ b → (b' : Bool)
        → KeepTime separation jitter least
        (map (λ z. z.time) (cond (same_name a.task name) (a ∷ filter (λ z. same_name z.task name) items) (filter (λ z. same_name z.task name) items)))
        → ((l : ℕ) → KeepTime separation jitter l (times_of name items)
        → KeepTime separation jitter l (times_of name (filter (λ z. nat_le z.time until) items)))
        → KeepTime separation jitter least
        (times_of name (cond b (a ∷ filter (λ z. nat_le z.time until) items) (filter (λ z. nat_le z.time until) items)))
    by true e b' k later = first (same_name a.task name) k later
    by false e b' k later =
        let past : until < a.time = grind arith in
        let none : filter (λ z. nat_le z.time until) items ≡ [] = late_none until a.time items past falls.1 in
        let Q : List Arrival → Type 0 = λ zs. KeepTime separation jitter least (times_of name zs) in
        subst Q (sym none) tt

-- a thread that others may request
abbrev MayAsk : System → ℕ → Type 0
MayAsk y j = (th : TaskUnit) × (slice_get y.threads j ≡ Some th) × IsInside th.timing

-- no request is told of a thread that is requested from outside
none_asks : (limit : ℕ) (p : Program) (r : places.Arrivals) (trace : List machine.Event) (k : ℕ) (th : TaskUnit) → MeetsRules p → IsAccepted limit p r
    → Meaning p r trace → slice_get (system p r).threads k ≡ Some th → (IsInside th.timing → ⊥)
    → Each (NotAsking p th.name) trace
none_asks limit p r trace k th meets accepted m at outside =
    let y : System = system p r in
    let ex : MayExclude y r.items = may-exclude p meets limit r accepted in
    let said : Each (IsSaid y (MayAsk y)) (run y m.steps (start p r)).1 =
    all_said y (MayAsk y) (AllFall ex.ranking) (falls-text y r.items ex)
    (λ i unit op ss j may e.
    let t = callee-task y unit op j e in
    (t.0, t.1, requested-inside p r meets unit op j t.0 (made-requested p meets limit r accepted unit op j may.0 e) e t.1)) r.items m.steps in
    let E : List machine.Event → Type 0 = λ es. Each (NotAsking p th.name) es in
    subst E m.tells (each-to (IsSaid y (MayAsk y)) (NotAsking p th.name) (run y m.steps (start p r)).1 (λ e s. by e s) said)
  where
    by : (e : machine.Event) → IsSaid (system p r) (MayAsk (system p r)) e → NotAsking p th.name e
    by (event.Request time task target value) s =
        let y : System = system p r in
        let unit : target ≡ s.1.0.unit = s.2 ∙ unit-at y s.0 s.1.0 s.1.1 in
        ap (λ n. same_name n th.name) (ap (unit_name p) unit ∙ thread_name p r s.0 s.1.0 s.1.1)
        ∙ false_from_ne_true _ (λ same.
        let place : s.0 ≡ k = threads_apart p r meets s.0 k s.1.0 th s.1.1 at same in
        let one : s.1.0 ≡ th = same_Some s.1.0 th (sym s.1.1 ∙ ap (slice_get y.threads) place ∙ at) in
        let I : TaskUnit → Type 0 = λ z. IsInside z.timing in
        outside (subst I one s.1.2))
    by (event.Release time task value) s = tt
    by (event.Arrive time task value) s = tt
    by (event.Enter time task unit op values) s = tt
    by (event.Leave time task unit op values) s = tt
    by (event.Print time task value) s = tt
    by (event.End time task used) s = tt
    by (event.Stop time task unit priority ceiling) s = tt
    by (event.Horizon time) s = tt

-- its requests keep the separation
pub external_asked : (limit : ℕ) (p : Program) (r : places.Arrivals) (trace : List machine.Event) (k : ℕ) (th : TaskUnit) (op : Signature)
    (ceiling separation jitter : ℕ)
    → MeetsRules p → IsAccepted limit p r → Meaning p r trace → NeverStops (named p trace) → slice_get (system p r).threads k ≡ Some th
    → th.timing ≡ Requested op ceiling separation jitter true
    → DontFall 0 (named_arrivals p r).items → KeepTime separation jitter 0 (times_of th.name (named_arrivals p r).items)
    → KeepTime separation jitter 0 (asked (notices th.name (named p trace)))
external_asked limit p r trace k th op ceiling separation jitter meets accepted m quiet at timing falls keeps =
    let I : ReleasePattern → Type 0 = λ z. IsInside z in
    let all : Each (NotAsking p th.name) trace = none_asks limit p r trace k th meets accepted m at (λ h. true≢false (subst I timing h)) in
    let times : asked (notices th.name (named p trace)) ≡ times_of th.name (filter (λ a. nat_le a.time r.until) (named_arrivals p r).items) =
    asked-arrived p th.name trace all ∙ ap (times_of th.name) (are_told limit p r trace accepted m quiet) in
    let K : List ℕ → Type 0 = λ ts. KeepTime separation jitter 0 ts in
    subst K (sym times) (kept_within separation jitter r.until 0 0 th.name (named_arrivals p r).items falls keeps)
