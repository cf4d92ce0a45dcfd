-- What a pass over a trace answers.
use Rattle.std.proofs.Common.{◌≡◌, ℕ, ◌+◌, List, [], ◌∷◌, ◌++◌, map, length, Option, Some, None, refl, sym, ap, subst, ◌∙◌, arith}
use Rattle.std.specs.Prelude.{Ok, Err, option_map, suc}
use Rattle.std.proofs.lemmas.List.{append-nil, length-map}
use Rattle.ada_tree.specs.Programs.{Program}
use Rattle.ada_tree.specs.Rules.{MeetsRules}
use Rattle.arrivals_tree.specs.declared.arrivals.Arrival as code
use Rattle.arrivals_tree.specs.declared.arrivals.Arrivals as values
use Rattle.arrivals_tree.specs.Arriving.{arrivals_of}
use Rattle.trace_tree.specs.Lines.{lines}
use Rattle.guarantee.specs.Arrivals as given
use Rattle.guarantee.specs.Arrivals.{named_arrivals}
use Rattle.guarantee.specs.Events.{Event, named}
use Rattle.guarantee.specs.Software.{program_software}
use Rattle.law_traces.specs.Checks.{in_order, are_told}
use Rattle.law_traces.specs.Verdicts.{BeginsNoLine}
use Rattle.trace_read.specs.Lines.{Tells}
use Rattle.trace_checks.specs.Timing.{in_order_by}
use Rattle.trace_checks.specs.Cycles.{first_release}
use Rattle.trace_checks.specs.Serving.{nothing_waits, serving_of}
use Rattle.trace_checks.specs.Arriving.{named_arrival, arrived_by}
use Rattle.trace_checks.specs.First.{first_failing, is_periodic_by, is_requested_by}
use Rattle.trace_checks.specs.Parts.{Judges, has_ended, has_all}
use Rattle.trace_checks.specs.Passing.{Stands, Passing}
use Rattle.trace_checks.specs.Answers as answer
use Rattle.trace_checks.specs.Answers.{Says, SaysOf, late, unserved}
use Rattle.trace_checks.specs.declared.broken.Broken.{Broken}
use Rattle.trace_checks.specs.declared.broken.Broken.TheVariants as broken
use Rattle.trace_checks.specs.declared.parts.Parts.{Parts}
use Rattle.trace_checks.specs.declared.times.Times as stand
use Rattle.trace_checks.specs.declared.times.Times.TheVariants.{Running, Ended, Broken as Disordered}
use Rattle.trace_checks.proofs.Cyclics.{first-late}
use Rattle.trace_checks.proofs.Servings.{first-unserved}
use Rattle.trace_checks.proofs.Arrivings.{due-over}

module _ (p : Program) (meets : MeetsRules p) (a : values.Arrivals) where
  abbrev r : given.Arrivals
  r = named_arrivals p (arrivals_of a)

  abbrev items : List code.Arrival
  items = a.items.items

  ended : (t : stand.Times) → in_order_by (program_software p).tasks a.until t [] ≡ has_ended t
  ended (Running now) = refl
  ended Ended = refl
  ended Disordered = refl

  over : (due : Option (List code.Arrival)) → arrived_by p a.until due [] ≡ has_all a.until due
  over None = refl
  over (Some due) = due-over p meets a.until due

  module _ (before : List Event) (s : Parts) (h : Stands p a.until items before s) where
    whole : before ++ [] ≡ before
    whole = append-nil before

    times-said : in_order (program_software p).tasks a.until 0 before ≡ has_ended s.times
    times-said = ap (in_order (program_software p).tasks a.until 0) (sym whole) ∙ sym (h.times []) ∙ ended s.times

    late-said : answer.named (late (program_software p) r before) ≡ first_failing (is_periodic_by a.until) p.units s.nexts.items []
    late-said =
        sym (first-late p meets a.until before)
        ∙ ap (first_failing (is_periodic_by a.until) p.units (map (λ u. first_release u.form) p.units)) (sym whole) ∙ sym (h.cyclic [])

    arrivals-said : are_told a.until (map (named_arrival p) items) before ≡ has_all a.until (option_map (λ x. x.now) s.due)
    arrivals-said =
        ap (are_told a.until (map (named_arrival p) items)) (sym whole) ∙ sym (h.arrivals []) ∙ over (option_map (λ x. x.now) s.due)

    unserved-said : answer.named (unserved (program_software p) before) ≡ first_failing is_requested_by p.units (map serving_of s.waiting.items) []
    unserved-said =
        sym (first-unserved p meets before)
        ∙ ap (first_failing is_requested_by p.units (map (λ u. nothing_waits) p.units)) (sym whole) ∙ sym (h.requests [])

  tells : (text : List ℕ) (count : ℕ) (s : Parts) (h : Passing p a.until items text [] count s) → Tells p text (named p h.events)
  tells text count s h = (h.events, h.each, h.split ∙ append-nil (lines p h.events), refl)

  pub says-ok : (text left : List ℕ) (count : ℕ) (s : Parts) → left ≡ [] → Passing p a.until items text left count s → Judges p a.until s (Ok tt)
      → Says p r text (Ok count)
  says-ok text left count s none h j =
      let g : Passing p a.until items text [] count s = subst (λ z. Passing p a.until items text z count s) none h in
      let told = named p g.events in (
        told,
        tells text count s g,
        (
          g.counted ∙ sym (length-map g.events _),
          times-said told s g.stands ∙ j.0,
          late-said told s g.stands ∙ j.1,
          arrivals-said told s g.stands ∙ j.2,
          unserved-said told s g.stands ∙ j.3,
        ),
      )

  pub says-fault : (text left : List ℕ) (count : ℕ) (s : Parts) (f : Broken) → left ≡ [] → Passing p a.until items text left count s
      → Judges p a.until s (Err f) → Says p r text (Err f)
  says-fault text left count s (broken.Line line) none h j = absurd j
  says-fault text left count s broken.Times none h j =
      let g : Passing p a.until items text [] count s = subst (λ z. Passing p a.until items text z count s) none h in
      let told = named p g.events in (told, tells text count s g, times-said told s g.stands ∙ j)
  says-fault text left count s (broken.Cyclic thread) none h j =
      let g : Passing p a.until items text [] count s = subst (λ z. Passing p a.until items text z count s) none h in
      let told = named p g.events in (told, tells text count s g, (times-said told s g.stands ∙ j.0, late-said told s g.stands ∙ j.1))
  says-fault text left count s broken.Arrivals none h j =
      let g : Passing p a.until items text [] count s = subst (λ z. Passing p a.until items text z count s) none h in
      let told = named p g.events in
      (told, tells text count s g, (times-said told s g.stands ∙ j.0, late-said told s g.stands ∙ j.1, arrivals-said told s g.stands ∙ j.2))
  says-fault text left count s (broken.Requests thread) none h j =
      let g : Passing p a.until items text [] count s = subst (λ z. Passing p a.until items text z count s) none h in
      let told = named p g.events in (
        told,
        tells text count s g,
        (
          times-said told s g.stands ∙ j.0,
          late-said told s g.stands ∙ j.1,
          arrivals-said told s g.stands ∙ j.2,
          unserved-said told s g.stands ∙ j.3,
        ),
      )
  says-fault text left count s broken.NoMemory none h j = tt

  pub says-line : (text left : List ℕ) (count : ℕ) (s : Parts) → Passing p a.until items text left count s → BeginsNoLine p left
      → Says p r text (Err (broken.Line (count + 1)))
  says-line text left count s h begins =
      (h.events, left, h.each, h.split, begins, (let c = h.counted in let z : count + 1 ≡ suc (length h.events) = omega (arith, c) in z))
