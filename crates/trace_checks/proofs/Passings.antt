-- One event more of a pass over a trace, and what the pass answers at the end.
use Rattle.std.proofs.Common.{◌≡◌, ℕ, zero, suc, ◌+◌, ◌<◌, ◌≤◌, List, [], ◌∷◌, ◌++◌, map, length, Option, Some, None, refl, sym, ap, subst, ◌∙◌}
use Rattle.std.proofs.Common.{arith}
use Rattle.std.specs.Prelude.{option_map}
use Rattle.std.proofs.Common.{append_assoc}
use Rattle.std.proofs.lemmas.List.{length-append, length-map, map-append}
use Rattle.seq_tree.specs.Lists.{Each, change}
use Rattle.ada_tree.specs.Programs.{Form, Unit, Program, Passive, Shared, Cyclic, Sporadic}
use Rattle.ada_tree.specs.Rules.{MeetsRules}
use Rattle.arrivals_tree.specs.declared.arrivals.Arrival as code
use Rattle.trace_tree.specs.Lines.{line, lines}
use Rattle.trace_tree.specs.Placed.{IsPlaced, IsUnit}
use Rattle.trace_tree.specs.declared.event.Event as machine
use Rattle.trace_tree.specs.declared.event.Event.TheVariants as event
use Rattle.guarantee.specs.Events.{Event, named, named_event}
use Rattle.guarantee.specs.Software.{program_software}
use Rattle.law_traces.specs.Told.{HasPlainNames, IsEvent}
use Rattle.law_lists.proofs.Shared.Lists.{each-append}
use Rattle.trace_read.proofs.Shared.Nexts.{lines-push, next-shorter}
use Rattle.law_traces.specs.Checks.{in_order, are_told}
use Rattle.trace_checks.specs.Timing.{in_order_by}
use Rattle.trace_checks.specs.Cycles.{first_release, nexts_by, nexts_at, nexts_after}
use Rattle.trace_checks.specs.Serving.{Serving, nothing_waits, serving_of, serving_after, IsWithin}
use Rattle.trace_checks.specs.Arriving.{named_arrival, arrived_by}
use Rattle.trace_checks.specs.First.{first_failing, is_periodic_by, is_requested_by}
use Rattle.trace_checks.specs.Parts.{AreFirst, AreAfter}
use Rattle.trace_checks.specs.Passing.{AreOfUnits, Stands, Passing}
use Rattle.trace_checks.specs.declared.parts.Parts.{Parts}
use Rattle.trace_checks.proofs.Ordering.{times-go-on}
use Rattle.trace_checks.proofs.Cyclics.{nexts-go-on}
use Rattle.trace_checks.proofs.Servings.{serving-go-on}
use Rattle.trace_checks.proofs.Arrivings.{due-go-on, due-kept}

length-change : {A : Type 0} (k : ℕ) (f : A → A) (xs : List A) → length (change k f xs) ≡ length xs
length-change k f [] = refl
length-change zero f (x ∷ xs) = refl
length-change (suc k) f (x ∷ xs) = ap suc (length-change k f xs)

-- SIZES stay
nexts-by-size : (until : ℕ) (f : Form) (ns : List (Option ℕ)) (time task : ℕ) (value : Option ℕ) → length (nexts_by until f ns time task value) ≡ length ns
nexts-by-size until (Passive ops) ns time task value = refl
nexts-by-size until (Shared ceiling vars ops) ns time task value = refl
nexts-by-size until (Cyclic priority offset period vars block) ns time task value = length-change task _ ns
nexts-by-size until (Sporadic priority ceiling op separation jitter external vars block) ns time task value = refl

nexts-at-size : (until : ℕ) (o : Option Unit) (ns : List (Option ℕ)) (time task : ℕ) (value : Option ℕ) → length (nexts_at until o ns time task value) ≡ length ns
nexts-at-size until None ns time task value = refl
nexts-at-size until (Some u) ns time task value = nexts-by-size until u.form ns time task value

nexts-size : (p : Program) (until : ℕ) (ns : List (Option ℕ)) (e : machine.Event) → length (nexts_after p until ns e) ≡ length ns
nexts-size p until ns (event.Release time task value) = nexts-at-size until _ ns time task value
nexts-size p until ns (event.Arrive time task value) = refl
nexts-size p until ns (event.Enter time task unit op values) = refl
nexts-size p until ns (event.Leave time task unit op values) = refl
nexts-size p until ns (event.Request time task target value) = refl
nexts-size p until ns (event.Print time task value) = refl
nexts-size p until ns (event.End time task used) = refl
nexts-size p until ns (event.Stop time task unit priority ceiling) = refl
nexts-size p until ns (event.Horizon time) = refl

serving-size : (ss : List Serving) (e : machine.Event) → length (serving_after ss e) ≡ length ss
serving-size ss (event.Release time task value) = length-change task _ ss
serving-size ss (event.Arrive time task value) = length-change task _ ss
serving-size ss (event.Request time task target value) = length-change target _ ss
serving-size ss (event.End time task used) = length-change task _ ss
serving-size ss (event.Enter time task unit op values) = refl
serving-size ss (event.Leave time task unit op values) = refl
serving-size ss (event.Print time task value) = refl
serving-size ss (event.Stop time task unit priority ceiling) = refl
serving-size ss (event.Horizon time) = refl

-- the unit that an event of a program concerns
pub within-units : (p : Program) (e : machine.Event) (size : ℕ) → IsPlaced p e → size ≡ length p.units → IsWithin size e
within-units p (event.Release time task value) size h e = subst (λ n. task < n) (sym e) h
within-units p (event.Arrive time task value) size h e = subst (λ n. task < n) (sym e) h
within-units p (event.Request time task target value) size h e = subst (λ n. target < n) (sym e) h.1
within-units p (event.End time task used) size h e = subst (λ n. task < n) (sym e) h
within-units p (event.Enter time task unit op values) size h e = tt
within-units p (event.Leave time task unit op values) size h e = tt
within-units p (event.Print time task value) size h e = tt
within-units p (event.Stop time task unit priority ceiling) size h e = tt
within-units p (event.Horizon time) size h e = tt

module _ (p : Program) (meets : MeetsRules p) (plain : HasPlainNames p) (until : ℕ) (items : List code.Arrival) where
  -- WHAT IS KEPT
  stands-first : (s : Parts) → AreFirst p items s → Each (λ a. IsUnit p a.task) items → Stands p until items [] s
  stands-first s first units = record {
    times = λ told. ap (λ t. in_order_by (program_software p).tasks until t told) first.times;
    cyclic = λ told. ap (λ ns. first_failing (is_periodic_by until) p.units ns told) first.nexts;
    arrivals = λ told. ap (λ due. arrived_by p until due told) first.due;
    requests = λ told. ap (λ ss. first_failing is_requested_by p.units ss told) first.waiting;
    nexts = ap length first.nexts ∙ length-map p.units _;
    waiting = sym (length-map s.waiting.items serving_of) ∙ ap length first.waiting ∙ length-map p.units _;
    units = subst (AreOfUnits p) (sym first.due) units;
  }

  stands-after : (before : List Event) (s : Parts) (e : machine.Event) (t : Parts) → Stands p until items before s → IsPlaced p e
      → AreAfter p until s e t → Stands p until items (before ++ named_event p e ∷ []) t
  stands-after before s e t h placed after = record {
    times = λ told. ap (λ z. in_order_by (program_software p).tasks until z told) after.times ∙ times-go-on p meets until s.times e told placed
        ∙ h.times (named_event p e ∷ told) ∙ ap (in_order (program_software p).tasks until 0) (sym (append_assoc before (named_event p e ∷ []) told));
    cyclic = λ told. ap (λ ns. first_failing (is_periodic_by until) p.units ns told) after.nexts ∙ nexts-go-on p meets until s.nexts.items e told placed
        ∙ h.cyclic (named_event p e ∷ told)
        ∙ ap (first_failing (is_periodic_by until) p.units (map (λ u. first_release u.form) p.units)) (sym (append_assoc before (named_event p e ∷ []) told));
    arrivals = λ told. ap (λ due. arrived_by p until due told) after.due
        ∙ due-go-on p meets until (option_map (λ r. r.now) s.due) e told placed h.units
        ∙ h.arrivals (named_event p e ∷ told) ∙ ap (are_told until (map (named_arrival p) items)) (sym (append_assoc before (named_event p e ∷ []) told));
    requests = λ told. ap (λ ss. first_failing is_requested_by p.units ss told) after.waiting
        ∙ serving-go-on p meets (map serving_of s.waiting.items) e told placed ∙ h.requests (named_event p e ∷ told)
        ∙ ap (first_failing is_requested_by p.units (map (λ u. nothing_waits) p.units)) (sym (append_assoc before (named_event p e ∷ []) told));
    nexts = ap length after.nexts ∙ nexts-size p until s.nexts.items e ∙ h.nexts;
    waiting = sym (length-map t.waiting.items serving_of) ∙ ap length after.waiting ∙ serving-size (map serving_of s.waiting.items) e
        ∙ length-map s.waiting.items serving_of ∙ h.waiting;
    units = subst (AreOfUnits p) (sym after.due) (due-kept p meets until (option_map (λ r. r.now) s.due) e h.units);
  }

  -- A PASS
  pub passing-first : (text left : List ℕ) (s : Parts) → left ≡ text → AreFirst p items s → Each (λ a. IsUnit p a.task) items
      → Passing p until items text left 0 s
  passing-first text left s all first units = record {
    events = [];
    each = tt;
    split = sym all;
    counted = refl;
    within = let h : length left ≡ length text = ap length all in omega (arith, h);
    stands = stands-first s first units;
  }

  pub passing-after : (text left rest : List ℕ) (count : ℕ) (s t : Parts) (e : machine.Event) → Passing p until items text left count s
      → IsEvent p e → left ≡ line p e ++ rest → AreAfter p until s e t → Passing p until items text rest (count + 1) t
  passing-after text left rest count s t e h is same after = record {
    events = h.events ++ e ∷ [];
    each = each-append (IsEvent p) h.events (e ∷ []) h.each (is, tt);
    split = h.split ∙ ap (λ z. lines p h.events ++ z) same ∙ sym (append_assoc (lines p h.events) (line p e) rest)
        ∙ ap (λ z. z ++ rest) (sym (lines-push p h.events e));
    counted = let c = h.counted in let l = length-append h.events (e ∷ []) in omega (arith, c, l);
    within = let w = h.within in let l = next-shorter p plain e left rest same in omega (arith, w, l);
    stands = subst (λ z. Stands p until items z t) (sym (map-append (named_event p) h.events (e ∷ []))) (stands-after (named p h.events) s e t h.stands is.0 after);
  }
