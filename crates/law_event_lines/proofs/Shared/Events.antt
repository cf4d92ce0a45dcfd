-- Each event that a run of the program of a design tells is one that a line can tell: its places are of the program, and its numbers fit.
use Rattle.std.proofs.Common.{◌≡◌, ℕ, ◌<◌, ◌≤◌, ◌^◌, true, false, List, [], ◌∷◌, map, flat_map, Option, Some, None, refl, sym, subst, inl}
use Rattle.std.proofs.Common.{inr, arith}
use Rattle.std.specs.Prelude.{nat_lt}
use Rattle.std.specs.List.{list_all}
use Rattle.std.proofs.lemmas.Bool.{ltb-false}
use Rattle.seq_tree.specs.Limits.{tick_limit}
use Rattle.seq_tree.specs.Lists.{Each}
use Rattle.seq_tree.specs.declared.token.Mark.TheVariants.{Semicolon}
use Rattle.seq_tree.specs.declared.token.Token.{Token}
use Rattle.seq_tree.specs.declared.token.Token.TheVariants as token
use Rattle.seq_print.specs.Readable.{is_readable}
use Rattle.seq_print.proofs.Shared.TokenForms.{tokens-readable}
use Rattle.ods_tree.specs.Designs.{Design}
use Rattle.ods_tree.specs.Flattening.{flat}
use Rattle.ods_tree.specs.Reading.{Reads}
use Rattle.ods_tree.specs.Spelling.{design_tokens}
use Rattle.ods_tree.specs.Ticks.{in_ticks}
use Rattle.ods_tree.specs.Walk.{Standing, objects}
use Rattle.ods_tree.proofs.Shared.TickLaws.{ticks-version}
use Rattle.ada_tree.specs.Programs.{Unit, Program}
use Rattle.arrivals_tree.specs.declared.arrivals.Arrival.{Arrival}
use Rattle.arrivals_tree.specs.Acceptance.{Far, works_fault, requests_fault}
use Rattle.arrivals_tree.specs.Arrived.{Arrives, horizon_limit}
use Rattle.arrivals_tree.specs.ArrivalTexts.{ArrivalText, AtText, arrival_tokens, work_tokens, request_tokens, value_tokens, request_of}
use Rattle.arrivals_tree.specs.Arriving.{Arrivals}
use Rattle.trace_tree.specs.declared.event.Event.{Event}
use Rattle.trace_tree.specs.declared.event.Event.TheVariants as event
use Rattle.design_rules.specs.Rules.{MeetsRules}
use Rattle.guarantee.specs.Programs.{program, stated_ranks}
use Rattle.machine.specs.Meanings.{Meaning}
use Rattle.machine.specs.Systems.{system}
use Rattle.seq_tree.specs.Faults.{or_else, fault_if}
use Rattle.law_lists.proofs.Shared.Facts.{or_else-none, no-fault}
use Rattle.law_lists.proofs.Shared.Lists.{IsIn, in-left, in-right, in-flat}
use Rattle.law_ceilings.proofs.Shared.Ceiled.{is-ceiled}
use Rattle.law_ceilings.proofs.Shared.Stopping.{rest-goes-on}
use Rattle.law_ceilings.specs.Ceilings.{GoesOn}
use Rattle.law_designs.proofs.Shared.Lists.{all-in}
use Rattle.law_designs.proofs.Shared.RankRanges.{stated-ranked}
use Rattle.law_designs.proofs.Shared.ReadablePrograms.{program-readable}
use Rattle.law_designs.proofs.Shared.SoundDesigns.{flat-sound, flat-spaced}
use Rattle.law_designs.proofs.Shared.TabledTasks.{sound-tabled}
use Rattle.law_designs.proofs.Shared.Units.{unit-from}
use Rattle.law_texts.proofs.Shared.LegibleDesigns.{unit-read}
use Rattle.law_texts.proofs.Shared.LegibleObjects.{IsLegibleObject, objects-legible}
use Rattle.law_texts.proofs.Shared.LegibleTicks.{legible-in-ticks}
use Rattle.law_texts.proofs.Shared.LegibleUnits.{IsLegibleUnit}
use Rattle.law_traces.specs.Told.{IsWordWhere, IsEvent}
use Rattle.law_event_lines.proofs.Texts.{number-word}
use Rattle.law_event_lines.proofs.Steps.{TellsOf, rest-tells}
use Rattle.law_event_lines.proofs.Programs.{threads-fit, objects-fit, callees-fit}

-- the values of requests from outside
value-word : (v : Option ℕ) → ((n : ℕ) → v ≡ Some n → is_readable (token.Number n) ≡ true) → IsWordWhere v
value-word None h = tt
value-word (Some n) h = number-word n (h n refl)

module _ (text : List ℕ) (p : Program) (r : Arrivals) (h : Arrives horizon_limit text p r) where
  abbrev tree : ArrivalText
  tree = h.tree

  value-token : (q : AtText) → IsIn q tree.requests → (n : ℕ) → q.value ≡ Some n → IsIn (token.Number n) (arrival_tokens tree)
  value-token q k n e =
      let t : Token = token.Number n in
      let among : IsIn t (value_tokens q.value) = subst (λ (v : Option ℕ). IsIn t (value_tokens v)) (sym e) (inl refl) in
      let own : IsIn t (request_tokens q) = inr (inr (inr (in-left t (value_tokens q.value) (token.Sign Semicolon ∷ []) among))) in
      inr (inr (inr (in-right t (flat_map work_tokens tree.works) (flat_map request_tokens tree.requests)
      (in-flat request_tokens q t tree.requests k own))))

  request-word : (q : AtText) → IsIn q tree.requests → IsWordWhere q.value
  request-word q k = value-word q.value (λ n e.
      all-in is_readable (arrival_tokens tree) (token.Number n) (tokens-readable text (arrival_tokens tree) h.spelled) (value-token q k n e))

  each-request : (qs : List AtText) → ((q : AtText) → IsIn q qs → IsWordWhere q.value)
      → Each (λ (a : Arrival). IsWordWhere a.value) (map (request_of p) qs)
  each-request [] f = tt
  each-request (q ∷ qs) f = (f q (inl refl), each-request qs (λ z k. f z (inr k)))

  arrivals-fit : Each (λ (a : Arrival). IsWordWhere a.value) r.items
  arrivals-fit = subst (λ (z : Arrivals). Each (λ (a : Arrival). IsWordWhere a.value) z.items) (sym h.says) (each-request tree.requests request-word)

  horizon-near : r.until < 2 ^ 64
  horizon-near =
      let far : nat_lt horizon_limit r.until ≡ false =
      no-fault (nat_lt horizon_limit r.until) Far
      (or_else-none (fault_if (nat_lt horizon_limit r.until) Far) (or_else (works_fault p r.work) (requests_fault p [] r.items)) h.accepted).0 in
      let near : r.until ≤ tick_limit = ltb-false horizon_limit r.until far in omega (arith, near)

-- no stop is told
goes-on-tells : (p : Program) (told : List Event) → Each (TellsOf p) told → Each GoesOn told → Each (IsEvent p) told
goes-on-tells p [] t g = tt
goes-on-tells p (e ∷ told) t g = (by e t.0 g.0, goes-on-tells p told t.1 g.1)
  where
    by : (z : Event) → TellsOf p z → GoesOn z → IsEvent p z
    by (event.Release time task value) t g = t
    by (event.Arrive time task value) t g = t
    by (event.Enter time task unit op values) t g = t
    by (event.Leave time task unit op values) t g = t
    by (event.Request time task target value) t g = t
    by (event.Print time task value) t g = t
    by (event.End time task used) t g = t
    by (event.Stop time task unit priority ceiling) t g = absurd g
    by (event.Horizon time) t g = t

module _ (x : Design) (bytes : List ℕ) (reads : Reads bytes x) (meets : MeetsRules x) where
  abbrev y : Design
  y = in_ticks x

  abbrev p : Program
  p = program y

  units-legible : (u : Unit) → IsIn u p.units → IsLegibleUnit u
  units-legible u k =
      let all : list_all is_readable (design_tokens x) ≡ true = tokens-readable bytes (design_tokens x) reads.spelled in
      let legible : (s : Standing) → IsIn s (objects y) → IsLegibleObject s.own = legible-in-ticks x (objects-legible x all) in
      unit-read x y meets legible (flat-sound x y meets) (stated_ranks y) (stated-ranked x y meets (sym (ticks-version x))) u
      (unit-from (flat y) (stated_ranks y) u k)

  -- no run of the program stops
  pub design-goes-on : (r : Arrivals) (told : List Event) → Meaning p r told → Each GoesOn told
  design-goes-on r told means =
      let t = sound-tabled y (flat-sound x y meets) (flat-spaced x y meets) in
      rest-goes-on (system p r) (is-ceiled p r (program-readable x reads.proper meets).1 t.tabled.ceilings t.tabled.inner_ceilings) r.items told means

  pub design-events : (text : List ℕ) (r : Arrivals) (told : List Event) → Arrives horizon_limit text p r → Meaning p r told
      → Each (IsEvent p) told
  design-events text r told arrives means =
      let rules = (program-readable x reads.proper meets).1 in
      goes-on-tells p told
      (rest-tells p (system p r) (horizon-near text p r arrives) (callees-fit p r rules units-legible) r.items told
      (threads-fit p r rules units-legible) (objects-fit p r rules units-legible) (arrivals-fit text p r arrives) means)
      (design-goes-on r told means)
