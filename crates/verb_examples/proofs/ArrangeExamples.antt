-- Examples of the verb `arrange`: what it makes of a design, why it refuses one, and what is right about the trace of its text. Each definition holds
-- of all its parts, and without one of them it doesn't.
use Rattle.std.specs.Prelude.{◌≡◌, ℕ, ◌≤◌, ◌<◌, List, length, codes, refl}
use Rattle.std.proofs.Common.{arith}
use Rattle.seq_tree.specs.Limits.{ada_limit}
use Rattle.ods_tree.specs.Designs.{Design}
use Rattle.ods_tree.specs.Flats.{Flat}
use Rattle.ods_tree.specs.Flattening.{flat}
use Rattle.ods_tree.specs.Ticks.{in_ticks}
use Rattle.ods_tree.specs.Reading.{Reads}
use Rattle.design_rules.specs.Rules.{MeetsRules}
use Rattle.rt_response.specs.declared.rows.Bound.{Bound}
use Rattle.arrivals_tree.specs.Arrived.{Arrives, horizon_limit}
use Rattle.arrivals_tree.specs.Arriving.{Arrivals}
use Rattle.ada_tree.specs.Programs.{Program}
use Rattle.ada_tree.specs.Reading.{Accepts}
use Rattle.trace_tree.specs.declared.event.Event.{Event}
use Rattle.trace_tree.specs.Exclusion.{Exclusive}
use Rattle.trace_tree.specs.Lines.{lines}
use Rattle.machine.specs.Meanings.{Meaning}
use Rattle.guarantee.specs.Events.{named}
use Rattle.guarantee.specs.Arrivals.{named_arrivals}
use Rattle.guarantee.specs.Allowed.{Allows}
use Rattle.guarantee.specs.Bounded.{IsBounded}
use Rattle.law_chain_bounds.specs.Served.{ServesBy}
use Rattle.law_designs.specs.Rankings.{responses_by}
use Rattle.law_orders.specs.Orders.{priorities_by}
use Rattle.law_runs.specs.Ranked.{GuaranteedBy}
use Rattle.arranging.specs.Arrangements.{IsArranged, IsLongText}
use Rattle.hrthood_top.specs.declared.arrange.ArrangeRefusal.TheVariants as refusal
use Rattle.hrthood_top.specs.declared.search.SearchRefusal.{SearchRefusal}
use Rattle.hrthood_top.specs.Arrangements.{ordered_text, IsArrangedFor, HasLongArrangement, RefusesArranging, RefusesArrangement, arrange_line}
use Rattle.hrthood_top.specs.Arrangements.{CanArrange}
use Rattle.hrthood_top.specs.RightTraces.{IsRightArrangedTrace}
use Rattle.hrthood_top.specs.Searches.{CanSearch, RefusesOrder, RefusesSearch, search_line}

-- the priorities of the threads of a design in ticks, by an order
abbrev priorities : Design → List ℕ → List ℕ
priorities x order = priorities_by (flat x) order

-- THE TEXT
module _ (bytes made : List ℕ) where
  arranged_for : (x : Design) (order : List ℕ) (v : List Bound) → Reads bytes x → MeetsRules x → IsArranged (flat (in_ticks x)) order v
      → made ≡ ordered_text (in_ticks x) order v → length made ≤ ada_limit
      → GuaranteedBy horizon_limit (in_ticks x) (priorities (in_ticks x) order) made v → IsArrangedFor bytes made
  arranged_for x order v r m a e s g =
      record { design = x; reads = r; meets = m; order = order; bounds = v; arranged = a; made = e; short = s; guaranteed = g }

  unread : ((x : Design) → Reads bytes x → ⊥) → IsArrangedFor bytes made → ⊥
  unread never h = never h.design h.reads

  of_no_rule : ((x : Design) → Reads bytes x → MeetsRules x → ⊥) → IsArrangedFor bytes made → ⊥
  of_no_rule never h = never h.design h.reads h.meets

  never_arranged : ((x : Design) (order : List ℕ) (v : List Bound) → Reads bytes x → IsArranged (flat (in_ticks x)) order v → ⊥)
      → IsArrangedFor bytes made → ⊥
  never_arranged never h = never h.design h.order h.bounds h.reads h.arranged

  other_text : ((x : Design) (order : List ℕ) (v : List Bound) → Reads bytes x → IsArranged (flat (in_ticks x)) order v
      → made ≡ ordered_text (in_ticks x) order v → ⊥) → IsArrangedFor bytes made → ⊥
  other_text never h = never h.design h.order h.bounds h.reads h.arranged h.made

  over_the_limit : ada_limit < length made → IsArrangedFor bytes made → ⊥
  over_the_limit over h = let short = h.short in omega (arith, over, short)

  not_guaranteed : ((x : Design) (order : List ℕ) (v : List Bound) → Reads bytes x
      → GuaranteedBy horizon_limit (in_ticks x) (priorities (in_ticks x) order) made v → ⊥) → IsArrangedFor bytes made → ⊥
  not_guaranteed never h = never h.design h.order h.bounds h.reads h.guaranteed

-- WHY THERE IS NONE
module _ (bytes : List ℕ) where
  unordered : (r : SearchRefusal) → RefusesSearch bytes r → RefusesArrangement bytes (refusal.Unordered r)
  unordered r h = h

  ordered : (r : SearchRefusal) → ¬ RefusesSearch bytes r → RefusesArrangement bytes (refusal.Unordered r) → ⊥
  ordered r never h = never h

  too_long : (x : Design) (order : List ℕ) (v : List Bound) → Reads bytes x → MeetsRules x → IsArranged (flat (in_ticks x)) order v
      → ada_limit < length (ordered_text (in_ticks x) order v) → RefusesArrangement bytes refusal.Long
  too_long x order v r m a l = record { design = x; reads = r; meets = m; order = order; bounds = v; arranged = a; long = l }

  long_unread : ((x : Design) → Reads bytes x → ⊥) → HasLongArrangement bytes → ⊥
  long_unread never h = never h.design h.reads

  long_of_no_rule : ((x : Design) → Reads bytes x → MeetsRules x → ⊥) → HasLongArrangement bytes → ⊥
  long_of_no_rule never h = never h.design h.reads h.meets

  long_never_arranged : ((x : Design) (order : List ℕ) (v : List Bound) → Reads bytes x → IsArranged (flat (in_ticks x)) order v → ⊥)
      → HasLongArrangement bytes → ⊥
  long_never_arranged never h = never h.design h.order h.bounds h.reads h.arranged

  not_long : ((x : Design) (order : List ℕ) (v : List Bound) → Reads bytes x → IsArranged (flat (in_ticks x)) order v
      → length (ordered_text (in_ticks x) order v) ≤ ada_limit) → HasLongArrangement bytes → ⊥
  not_long short h = let long = h.long in let within = short h.design h.order h.bounds h.reads h.arranged in omega (arith, long, within)

  -- when it can be done
  can_arrange : (s : CanSearch bytes)
      → ((order : List ℕ) (v : List Bound) → IsArranged (flat s.design) order v → length (ordered_text s.design order v) ≤ ada_limit) → CanArrange bytes
  can_arrange s short = record { search = s; short = short }

  not_searched : ¬ CanSearch bytes → CanArrange bytes → ⊥
  not_searched never h = never h.search

  always_long : ((s : CanSearch bytes) → (order : List ℕ) × (v : List Bound) × IsArranged (flat s.design) order v
      × (ada_limit < length (ordered_text s.design order v))) → CanArrange bytes → ⊥
  always_long long h =
      let l = long h.search in
      let over = l.3 in let within = h.short l.0 l.1 l.2 in omega (arith, over, within)

-- of a flat design
flat_unordered : (first : ℕ) (f : Flat) (r : SearchRefusal) → RefusesOrder f r → RefusesArranging first f (refusal.Unordered r)
flat_unordered first f r h = h

flat_long : (first : ℕ) (f : Flat) → IsLongText first f → RefusesArranging first f refusal.Long
flat_long first f h = h

unordered_line : (r : SearchRefusal) → arrange_line (refusal.Unordered r) ≡ search_line r
unordered_line r = refl

long_line : arrange_line refusal.Long ≡ codes "refused S3 text\n"
long_line = refl

-- RIGHT TRACES
module _ (d t r written : List ℕ) where
  right : (x : Design) (order : List ℕ) (v : List Bound) (p : Program) (a : Arrivals) (told : List Event) → Reads d x → MeetsRules x
      → IsArranged (flat (in_ticks x)) order v → Accepts t p → Arrives horizon_limit r p a → Meaning p a told
      → written ≡ lines p told → Exclusive told → Allows (in_ticks x) (named_arrivals p a) (named p told)
      → IsBounded (responses_by (flat (in_ticks x)) (priorities (in_ticks x) order) v) a.until (named p told)
      → ServesBy (in_ticks x) (priorities (in_ticks x) order) v a.until (named p told) → IsRightArrangedTrace d t r written
  right x order v p a told reads meets arranged accepts arrives means whole exclusive allowed bounded serves = record {
    of = x;
    reads = reads;
    meets = meets;
    order = order;
    bounds = v;
    arranged = arranged;
    program = p;
    accepts = accepts;
    under = a;
    arrives = arrives;
    told = told;
    means = means;
    whole = whole;
    exclusive = exclusive;
    allowed = allowed;
    bounded = bounded;
    serves = serves;
  }

  of_no_design : ((x : Design) → Reads d x → ⊥) → IsRightArrangedTrace d t r written → ⊥
  of_no_design never h = never h.of h.reads

  of_broken_rules : ((x : Design) → Reads d x → MeetsRules x → ⊥) → IsRightArrangedTrace d t r written → ⊥
  of_broken_rules never h = never h.of h.reads h.meets

  of_no_order : ((x : Design) (order : List ℕ) (v : List Bound) → Reads d x → IsArranged (flat (in_ticks x)) order v → ⊥)
      → IsRightArrangedTrace d t r written → ⊥
  of_no_order never h = never h.of h.order h.bounds h.reads h.arranged

  of_no_program : ((p : Program) → Accepts t p → ⊥) → IsRightArrangedTrace d t r written → ⊥
  of_no_program never h = never h.program h.accepts

  of_no_arrivals : ((p : Program) (a : Arrivals) → Accepts t p → Arrives horizon_limit r p a → ⊥) → IsRightArrangedTrace d t r written → ⊥
  of_no_arrivals never h = never h.program h.under h.accepts h.arrives

  of_another_run : ((p : Program) (a : Arrivals) (told : List Event) → Accepts t p → Arrives horizon_limit r p a → Meaning p a told
      → written ≡ lines p told → ⊥) → IsRightArrangedTrace d t r written → ⊥
  of_another_run never h = never h.program h.under h.told h.accepts h.arrives h.means h.whole

  with_two_inside : ((p : Program) (told : List Event) → Accepts t p → written ≡ lines p told → Exclusive told → ⊥)
      → IsRightArrangedTrace d t r written → ⊥
  with_two_inside never h = never h.program h.told h.accepts h.whole h.exclusive

  not_allowed : ((x : Design) (p : Program) (a : Arrivals) (told : List Event) → Reads d x → Accepts t p → written ≡ lines p told
      → Allows (in_ticks x) (named_arrivals p a) (named p told) → ⊥) → IsRightArrangedTrace d t r written → ⊥
  not_allowed never h = never h.of h.program h.under h.told h.reads h.accepts h.whole h.allowed

  over_a_bound : ((x : Design) (order : List ℕ) (v : List Bound) (p : Program) (a : Arrivals) (told : List Event) → Reads d x
      → IsArranged (flat (in_ticks x)) order v → Accepts t p → written ≡ lines p told
      → IsBounded (responses_by (flat (in_ticks x)) (priorities (in_ticks x) order) v) a.until (named p told) → ⊥)
      → IsRightArrangedTrace d t r written → ⊥
  over_a_bound never h = never h.of h.order h.bounds h.program h.under h.told h.reads h.arranged h.accepts h.whole h.bounded

  with_a_lost_request : ((x : Design) (order : List ℕ) (v : List Bound) (p : Program) (a : Arrivals) (told : List Event) → Reads d x
      → IsArranged (flat (in_ticks x)) order v → Accepts t p → written ≡ lines p told
      → ServesBy (in_ticks x) (priorities (in_ticks x) order) v a.until (named p told) → ⊥)
      → IsRightArrangedTrace d t r written → ⊥
  with_a_lost_request never h = never h.of h.order h.bounds h.program h.under h.told h.reads h.arranged h.accepts h.whole h.serves
