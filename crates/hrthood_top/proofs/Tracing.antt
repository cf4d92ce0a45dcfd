-- The trace of a program, one line and one turn after another.
use Rattle.std.proofs.Common.{◌≡◌, ℕ, Bool, true, false, ◌+◌, ◌≤◌, List, [], ◌∷◌, ◌++◌, Option, Result, Ok, Err, refl, sym, ap, subst, ◌∙◌}
use Rattle.std.proofs.Common.{append_assoc, append-nil}
use Rattle.std.specs.List.{list_any}
use Rattle.std.proofs.lemmas.Bool.{or_parts}
use Rattle.std.proofs.lemmas.List.Concat.{flat_map-append}
use Rattle.hood_io.specs.Sinks.{Appends}
use Rattle.hood_io.proofs.Shared.Appending.{appends-twice, puts-behind}
use Rattle.ada_tree.specs.Programs.{Program}
use Rattle.ada_tree.specs.Rules.{MeetsRules}
use Rattle.trace_tree.specs.declared.event.Event.{Event}
use Rattle.trace_tree.specs.declared.event.Event.TheVariants as event
use Rattle.trace_tree.specs.Lines.{line, lines, unit_name}
use Rattle.arrivals_tree.specs.Arriving.{Arrivals}
use Rattle.machine.specs.Meanings.{Running, Rest, Tells}
use Rattle.machine.specs.Systems.{System, system}
use Rattle.law_tasks.proofs.Shared.Halts.{readable_goes_on}
use Rattle.ceil_runtime.specs.declared.processor.Machine.{Machine}
use Rattle.ceil_runtime.specs.Shown.{IsWhole, running_of}
use Rattle.ceil_runtime.proofs.Shared.Standing.{within-horizon, before-horizon}
use Rattle.ceil_runtime.specs.Turns.{EndsWith, is_last}
use Rattle.law_ceilings.specs.Ceilings.{GoesOn}
use Rattle.law_lists.proofs.Shared.Lists.{each-append}
use Rattle.seq_tree.specs.Lists.{Each}
use Rattle.trace_tree.specs.Placed.{IsPlaced, IsUnit}
use Rattle.hrthood_top.specs.declared.violation.Violation as values
use Rattle.hrthood_top.specs.declared.violation.Ending.{Ending}
use Rattle.hrthood_top.specs.declared.violation.Ending.TheVariants.{Horizon, Stopped}
use Rattle.hrthood_top.specs.Violations.{EndsAt, RunsOut, Violation}
use Rattle.hrthood_top.specs.Streaming.{Closes, EndsSo, IsCut, IsGathered, PutsRun, violation_of}
use Rattle.hrthood_top.proofs.Gathering.{cut-more, gathered-none, gathered-then, gathered-failed}

-- what was told so far is written or gathered, and what is told from here on comes behind it
pub record SoFar (p : Program) (first now : Running) (held : List ℕ) (a b : Option (List ℕ)) : Type 0 where
  pub told : List Event
  pub out : RunsOut told
  pub gathered : IsGathered [] (lines p told) held a b
  pub behind : (more : List Event) → Tells now more → Tells first (told ++ more)

pub none_told : (p : Program) (r : Running) (held : List ℕ) (a : Option (List ℕ)) → held ≡ [] → SoFar p r r held a a
none_told p r held a e = record {
  told = [];
  out = tt;
  gathered = subst (λ z. IsGathered [] [] z a a) (sym e) (gathered-none [] a);
  behind = λ more t. t;
}

-- events of which none is the last of a run are no stops
event-goes-on : (e : Event) → is_last e ≡ false → GoesOn e
event-goes-on (event.Release time task value) h = tt
event-goes-on (event.Arrive time task value) h = tt
event-goes-on (event.Enter time task unit op values) h = tt
event-goes-on (event.Leave time task unit op values) h = tt
event-goes-on (event.Request time task target value) h = tt
event-goes-on (event.Print time task value) h = tt
event-goes-on (event.End time task used) h = tt
event-goes-on (event.Stop time task unit priority ceiling) h = absurd (cc h)
event-goes-on (event.Horizon time) h = tt

pub events-go-on : (es : List Event) → list_any is_last es ≡ false → RunsOut es
events-go-on [] h = tt
events-go-on (e ∷ es) h = let both = or_parts (is_last e) (list_any is_last es) h in (event-goes-on e both.0, events-go-on es both.1)

-- events of which the last is the horizon have no stop
horizon-out : (time : ℕ) (es : List Event) → EndsWith (event.Horizon time) es → RunsOut es
horizon-out time es h = subst RunsOut (sym h.1) (each-append GoesOn h.0 (event.Horizon time ∷ []) (events-go-on h.0 h.2) (tt, tt))

-- one more turn
pub one_turn : (p : Program) (first now next : Running) (held held' : List ℕ) (a b c : Option (List ℕ)) (es : List Event) → SoFar p first now held a b
    → IsGathered held (lines p es) held' b c → list_any is_last es ≡ false → ((more : List Event) → Tells next more → Tells now (es ++ more))
    → SoFar p first next held' a c
one_turn p first now next held held' a b c es s g quiet after =
    let G : List ℕ → Type 0 = λ z. IsGathered [] z held' a c in
    record {
      told = s.told ++ es;
      out = each-append GoesOn s.told es s.out (events-go-on es quiet);
      gathered = subst G (sym (flat_map-append (line p) s.told es)) (gathered-then [] (lines p s.told) (lines p es) held held' a b c s.gathered g);
      behind = λ more t. rw append_assoc (s.behind (es ++ more) (after more t));
    }

-- a turn of which a line is not gathered
pub turn_failed : (p : Program) (first now next : Running) (held : List ℕ) (a b c : Option (List ℕ)) (es : List Event) → SoFar p first now held a b
    → IsCut (held ++ lines p es) b c
    → ((more : List Event) → Tells next more → Tells now (es ++ more)) → (more : List Event) × Tells next more
    → (told : List Event) × Tells first told × IsCut (lines p told) a c
turn_failed p first now next held a b c es s g after rest =
    let all : (lines p s.told ++ lines p es) ++ lines p rest.0 ≡ lines p (s.told ++ (es ++ rest.0)) =
    append_assoc (lines p s.told) (lines p es) (lines p rest.0) ∙ ap (λ z. lines p s.told ++ z) (sym (flat_map-append (line p) es rest.0))
    ∙ sym (flat_map-append (line p) s.told (es ++ rest.0)) in (
      s.told ++ (es ++ rest.0),
      s.behind (es ++ rest.0) (after rest.0 rest.1),
      subst (λ z. IsCut z a c) all (cut-more (lines p s.told ++ lines p es) (lines p rest.0) a c
          (gathered-failed [] (lines p s.told) (lines p es) held a b c s.gathered g)),
    )

-- a run that has stopped is told whole, with the events of its last turn, and how it ended
pub all_told : {E : Type 0} (p : Program) (first now next : Running) (ending : Ending) (held held' : List ℕ) (a b c d : Option (List ℕ))
    (es : List Event) (r : Result Ending E) → SoFar p first now held a b
    → IsGathered held (lines p es) held' b c → EndsSo p ending es → next.state.stopped ≡ true
    → ((more : List Event) → Tells next more → Tells now (es ++ more)) → Closes held' ending c d r → PutsRun p first a d r
all_told {E} p first now next ending held held' a b c d es r s g ends stopped after closed = by r closed
  where
    told : List Event
    told = s.told ++ es

    nothing : Tells next []
    nothing = record { steps = 0; stops = stopped; tells = refl }

    tells : Tells first told
    tells = let T : List Event → Type 0 = λ z. Tells first (s.told ++ z) in subst T (append-nil es) (s.behind (es ++ []) (after [] nothing))

    gathered : IsGathered [] (lines p told) held' a c
    gathered =
        let G : List ℕ → Type 0 = λ z. IsGathered [] z held' a c in
        subst G (sym (flat_map-append (line p) s.told es)) (gathered-then [] (lines p s.told) (lines p es) held held' a b c s.gathered g)

    ends_all : (given : Ending) → EndsSo p given es → EndsSo p given told
    ends_all Horizon out = each-append GoesOn s.told es s.out out
    ends_all (Stopped v) h = record {
      front = s.told ++ h.front;
      task = h.task;
      object = h.object;
      last = ap (λ z. s.told ++ z) h.last ∙ sym (append_assoc s.told h.front (event.Stop v.time h.task h.object v.priority v.ceiling ∷ []));
      task_name = h.task_name;
      object_name = h.object_name;
    }

    by : (given : Result Ending E) → Closes held' ending c d given → PutsRun p first a d given
    by (Ok given) h =
        let A : List ℕ → Type 0 = λ z. Appends a d z in (
          told,
          tells,
          ends_all given (subst (λ z. EndsSo p z es) (sym h.0) ends),
          subst A gathered.2 (appends-twice a c d gathered.0 held'
              gathered.1 h.1),
        )
    by (Err e) h =
        let C : List ℕ → Type 0 = λ z. IsCut z a d in
        (told, tells, subst C gathered.2 (puts-behind {E = Unit {0}} a c d gathered.0 held' (Err tt) gathered.1 h))

-- a turn that came to the horizon
pub ends-out : (p : Program) (time : ℕ) (es : List Event) → EndsWith (event.Horizon time) es → EndsSo p Horizon es
ends-out p time es h = horizon-out time es h

-- a turn that came to a stop
pub ends-stopped : (p : Program) (time task object priority ceiling : ℕ) (v : values.Violation) (es : List Event)
    → EndsWith (event.Stop time task object priority ceiling) es
    → violation_of v ≡ record { time = time; task = unit_name p task; object = unit_name p object; priority = priority; ceiling = ceiling }
    → EndsSo p (Stopped v) es
ends-stopped p time task object priority ceiling v es h is =
    let E : Violation → Type 0 = λ w. EndsAt p es w in
    subst E (sym is) (record { front = h.0; task = task; object = object; last = h.1; task_name = refl; object_name = refl })

-- the places of a stop are of the program
last-placed : (p : Program) (front : List Event) (e : Event) → Each (IsPlaced p) (front ++ e ∷ []) → IsPlaced p e
last-placed p [] e h = h.0
last-placed p (f ∷ front) e h = last-placed p front e h.1

pub stop-placed : (p : Program) (time task object priority ceiling : ℕ) (es : List Event) → EndsWith (event.Stop time task object priority ceiling) es
    → Each (IsPlaced p) es
    → IsUnit p task × IsUnit p object
stop-placed p time task object priority ceiling es h placed
    = last-placed p h.0 (event.Stop time task object priority ceiling) (subst (Each (IsPlaced p)) h.1 placed)

-- from where a machine stands something is told, up to the stop
pub goes_on : (p : Program) (a : Arrivals) (m : Machine) → MeetsRules p → (running_of m).system ≡ system p a
    → ((running_of m).state.stopped ≡ false → IsWhole m) → (more : List Event) × Tells (running_of m) more
goes_on p a m meets is whole = by (running_of m).state.stopped refl
  where
    until : (running_of m).system.until ≡ a.until
    until = ap (λ (y : System). y.until) is

    by : (b : Bool) → (running_of m).state.stopped ≡ b → (more : List Event) × Tells (running_of m) more
    by true e = ([], record { steps = 0; stops = e; tells = refl })
    by false e =
        let found = readable_goes_on p a (running_of m).state meets (subst (λ n. (running_of m).state.time ≤ n) until (within-horizon m (whole e)))
        (λ here. subst (λ n. (running_of m).state.time + 1 ≤ n) until (before-horizon m (whole e) here)) in
        (found.0, subst (λ (y : System). Rest y (running_of m).state found.0) (sym is) found.1)
