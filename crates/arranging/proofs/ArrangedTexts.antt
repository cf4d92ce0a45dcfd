-- The text of a flat design by an order: its numbers are in their ranges, and its parts are those of the order.
use Rattle.std.specs.Prelude.{slice_index, EachIndex}
use Rattle.std.proofs.Common.{◌≡◌, ℕ, zero, suc, ◌+◌, ◌-◌, ◌≤◌, ◌<◌, ◌++◌, max, List, [], ◌∷◌, length, map, refl, sym, ap, subst, ◌∙◌, arith, inl, inr}
use Rattle.std.proofs.lemmas.List.{length-map}
use Rattle.seq_tree.specs.Layout.{layout}
use Rattle.ods_tree.specs.Flats.{Guarded, Timing, Cyclic, Sporadic, Thread, Flat}
use Rattle.ada_tree.specs.Programs.{Program}
use Rattle.ada_tree.specs.Spelling.{program_lines}
use Rattle.rt_response.specs.Response.{Fits}
use Rattle.rt_response.specs.declared.rows.Bound.{Bound}
use Rattle.analysis.specs.Ceilings.{Ranks, ceiling, control_ceiling, ranks_for, written_ranks}
use Rattle.analysis.specs.Tables.{ThreadTable, table_for}
use Rattle.guarantee.specs.Programs.{head, program_for}
use Rattle.law_lists.proofs.Shared.Lists.{IsIn, place-of}
use Rattle.law_designs.specs.Rankings.{IsRanking}
use Rattle.law_designs.proofs.Shared.Lists.{from-map}
use Rattle.law_designs.proofs.Shared.RankRanges.{ranked-ceiling-range}
use Rattle.law_orders.specs.Orders.{IsOrder, priorities_by, rows_by}
use Rattle.law_orders.proofs.Shared.OrderPlaces.{order-within}
use Rattle.law_orders.proofs.Shared.OrderRankings.{order-ranking}
use Rattle.law_orders.proofs.Shared.OrderRows.{rows-long, long}
use Rattle.seq_tree.specs.Limits.{ada_limit}
use Rattle.priority_search.specs.Searches.{IsFound}
use Rattle.priority_search.specs.declared.found.Found.{Found}
use Rattle.arranging.specs.Arrangements.{flat_text_by, HasRoomFor, IsArranged, IsArrangedText, IsLongText}

-- what holds of each item holds at each place
pub index-in : (P : ℕ → Type 0) (xs : List ℕ) → ((n : ℕ) → IsIn n xs → P n) → EachIndex xs (λ k. P (slice_index xs k))
index-in P [] h k inside = absurd (omega (arith, inside))
index-in P (x ∷ xs) h zero inside = h x (inl refl)
index-in P (x ∷ xs) h (suc k) inside = index-in P xs (λ n i. h n (inr i)) k (omega (arith, inside))

module _ (f : Flat) (o : List ℕ) (order : IsOrder f o) where
  abbrev ps : List ℕ
  ps = priorities_by f o

  ranking : IsRanking f ps
  ranking = order-ranking f o order

  -- each place of the order is one of a thread
  pub places-in : (n : ℕ) → length f.threads ≡ n → EachIndex o (λ k. slice_index o k < n)
  places-in n same = index-in (λ at. at < n) o (λ at i.
      let k = place-of at o i in
      let less = order-within (length f.threads) o order k.0 at k.1 in
      omega (arith, less, same))

  -- a vector that fits has a bound for each place
  pub bounds-long : (v : List Bound) → Fits (rows_by f o) v → length v ≡ length o
  bounds-long v fits = fits.0.0 ∙ rows-long f o order ∙ sym (long f o order)

  module _ (first : ℕ) (room : HasRoomFor first f) where
    -- priorities and ceilings are at most 60 as they are written
    pub threads-small : (ns : List ℕ) → ns ≡ ps → EachIndex ns (λ k. slice_index ns k + (first - 1) ≤ 60)
    threads-small ns e =
        subst (λ zs. EachIndex zs (λ k. slice_index zs k + (first - 1) ≤ 60)) (sym e)
        (index-in (λ n. n + (first - 1) ≤ 60) ps (λ n h. let k = place-of n ps h in let r = ranking.range k.0 n k.1 in omega (arith, r.1, room)))

    pub shared-small : (ns : List ℕ) → ns ≡ (ranks_for f ps).shared → EachIndex ns (λ k. slice_index ns k + (first - 1) ≤ 60)
    shared-small ns e =
        subst (λ zs. EachIndex zs (λ k. slice_index zs k + (first - 1) ≤ 60)) (sym e)
        (index-in (λ n. n + (first - 1) ≤ 60) (ranks_for f ps).shared (λ n h.
        let g = from-map (λ (g : Guarded). ceiling f ps g.name) f.shared n h in
        let r = ranked-ceiling-range f ps ranking g.0.name in
        omega (arith, g.2, r.1, room)))

    control-small : (u : Timing) (t : Thread) → control_ceiling f ps t.name u + (first - 1) ≤ 60
    control-small (Cyclic period offset) t = omega (arith, room)
    control-small (Sporadic op separation jitter) t = let r = ranked-ceiling-range f ps ranking t.name in omega (arith, r.1, room)

    pub obcs-small : (ns : List ℕ) → ns ≡ (ranks_for f ps).obcs → EachIndex ns (λ k. slice_index ns k + (first - 1) ≤ 60)
    obcs-small ns e =
        subst (λ zs. EachIndex zs (λ k. slice_index zs k + (first - 1) ≤ 60)) (sym e)
        (index-in (λ n. n + (first - 1) ≤ 60) (ranks_for f ps).obcs (λ n h.
        let t = from-map (λ (t : Thread). control_ceiling f ps t.name t.timing) f.threads n h in
        let r = control-small t.0.timing t.0 in
        omega (arith, t.2, r)))

-- the text for these ranks, these places and these bounds
abbrev text-for : ℕ → Flat → Ranks → List ℕ → List Bound → List ℕ
text-for first f r places v = head f (written_ranks first r) places v ++ layout (program_lines (program_for f (written_ranks first r)))

-- the text that is made is the one by the order
pub made-by : (first : ℕ) (f : Flat) (o qs : List ℕ) (r : Ranks) (v w : List Bound) (p : Program) (before behind : List ℕ) → qs ≡ priorities_by f o
    → r ≡ ranks_for f qs → o ≡ (table_for f qs).places → w ≡ v
    → before ≡ head f (written_ranks first r) o w → p ≡ program_for f (written_ranks first r) → behind ≡ before ++ layout (program_lines p)
    → behind ≡ flat_text_by first f (priorities_by f o) v
made-by first f o qs r v w p before behind same ranked placed bounds headed made printed =
    printed ∙ ap (λ q. before ++ layout (program_lines q)) made
    ∙ ap (λ b. b ++ layout (program_lines (program_for f (written_ranks first r)))) headed
    ∙ ap (λ q. text-for first f q o w) ranked ∙ ap (λ s. text-for first f (ranks_for f qs) s w) placed
    ∙ ap (text-for first f (ranks_for f qs) (table_for f qs).places) bounds
    ∙ ap (λ zs. flat_text_by first f zs v) same

-- what was found is an order with its bounds
arranged-of : (f : Flat) (found : Found) → IsFound f found → IsArranged f found.order.items found.bounds.items
arranged-of f found h = record { external = h.external; is_order = h.order; filled = h.filled; least = h.least }

pub short-of : (first : ℕ) (f : Flat) (found : Found) (text : List ℕ) → IsFound f found
    → text ≡ flat_text_by first f (priorities_by f found.order.items) found.bounds.items → length text ≤ ada_limit → IsArrangedText first f text
short-of first f found text h made short = record {
  order = found.order.items;
  bounds = found.bounds.items;
  arranged = arranged-of f found h;
  made = made;
  short = short;
}

pub long-of : (first : ℕ) (f : Flat) (found : Found) (text : List ℕ) → IsFound f found
    → text ≡ flat_text_by first f (priorities_by f found.order.items) found.bounds.items → ada_limit < length text → IsLongText first f
long-of first f found text h made long =
    let P : List ℕ → Type 0 = λ z. ada_limit < length z in
    record { order = found.order.items; bounds = found.bounds.items; arranged = arranged-of f found h; long = subst P made long }
