-- That the verb `arrange` refuses a design for one reason, and none that it can be done of; and that it writes what `generate` does where the
-- order of deadlines passes.
use Rattle.std.proofs.Common.{◌≡◌, ℕ, ◌≤◌, List, length, Result, Ok, Err, refl, sym, ap, subst, ◌∙◌, arith, max}
use Rattle.seq_tree.specs.Limits.{ada_limit}
use Rattle.ods_tree.specs.Designs as designs
use Rattle.ods_tree.specs.Flats.{Flat}
use Rattle.ods_tree.specs.Flattening.{flat}
use Rattle.ods_tree.specs.Ticks.{in_ticks, first_priority}
use Rattle.rt_response.specs.declared.rows.Bound.{Bound}
use Rattle.rt_response.specs.Response.{IsLeastVector}
use Rattle.analysis.specs.Priorities.{priorities_of}
use Rattle.analysis.specs.Tables.{table, table_for}
use Rattle.arrivals_tree.specs.Arrived.{horizon_limit}
use Rattle.ods_tree.specs.Reading.{Reads}
use Rattle.design_rules.specs.Rules.{AreMet, MeetsRules}
use Rattle.design_bounds.proofs.Shared.CheckedDesigns.{flat-of}
use Rattle.law_designs.proofs.Shared.RankRanges.{room}
use Rattle.law_designs.proofs.Shared.SoundDesigns.{flat-sound}
use Rattle.law_orders.specs.Orders.{IsOrder, priorities_by, rows_by}
use Rattle.law_orders.proofs.Shared.DeadlineFound.{deadline-found}
use Rattle.law_orders.proofs.Shared.DeadlineOrders.{deadline-order}
use Rattle.law_orders.proofs.Shared.OrderRankings.{order-ranking}
use Rattle.law_runs.specs.Ranked.{GuaranteedBy}
use Rattle.law_texts.specs.Ranked.{text_by}
use Rattle.law_texts.proofs.Shared.RankedTexts.{ranked-guaranteed}
use Rattle.priority_search.proofs.Shared.OneAnswer.{one-filled}
use Rattle.arranging.specs.Arrangements.{HasRoomFor, IsArranged, IsArrangedText, IsLongText}
use Rattle.bridge.specs.Delivers.{IsTextFor}
use Rattle.bridge.specs.Taking.{IsTakenAs, RefusesTaking}
use Rattle.bridge.specs.declared.halt.Halt.{Halt}
use Rattle.bridge.specs.declared.halt.Halt.TheVariants.{Refused, NoMemory}
use Rattle.hrthood_top.specs.declared.arrange.ArrangeRefusal.{ArrangeRefusal}
use Rattle.hrthood_top.specs.declared.arrange.ArrangeRefusal.TheVariants.{Unordered, Long}
use Rattle.hrthood_top.specs.declared.search.SearchRefusal.{SearchRefusal}
use Rattle.hrthood_top.specs.declared.search.SearchRefusal.TheVariants as search
use Rattle.hrthood_top.specs.Arrangements.{ordered_text, IsArrangedFor, HasLongArrangement, RefusesArranging, RefusesArrangement, CanArrange}
use Rattle.hrthood_top.specs.Arrangements.{of_arrange, WritesAsGenerated, CanWhereGenerated}
use Rattle.hrthood_top.specs.Searches.{CanSearch, RefusesSearch, RefusesOrder}
use Rattle.hrthood_top.specs.Writing.{IsMade}
use Rattle.hrthood_top.proofs.GenerateLaws.{one_least}
use Rattle.hrthood_top.proofs.OneDesign.{one-design}
use Rattle.hrthood_top.proofs.OneOrder.{passes-so}
use Rattle.hrthood_top.proofs.SearchLaws.{not_refused, one_refusal}
use Rattle.hrthood_top.proofs.Taken.{one-taken}
use Rattle.hrthood_top.proofs.VerbLaws.{IsExactOf}

-- room for the priorities of a design that meets the rules, by any ranking
pub rooms-of : (x y : designs.Design) (same : y ≡ x) (met : AreMet y y) (first : ℕ) (written : first ≡ first_priority y) (f : Flat) (flattened : f ≡ flat x)
    → HasRoomFor first f
rooms-of x y same met first written f flattened =
    let P : ℕ → Type 0 = λ n. HasRoomFor n (flat y) in
    let Q : Flat → Type 0 = λ g. HasRoomFor first g in
    subst Q (sym (flat-of x y same met first written f flattened)) (subst P (sym written) (room y y met refl))

-- a text that is made of a design in ticks is one that is made of its bytes
pub arranged-for : (bytes : List ℕ) (x : designs.Design) (text : List ℕ) → IsTakenAs bytes x → IsArrangedText (first_priority x) (flat x) text
    → IsArrangedFor bytes text
arranged-for bytes x text taken made =
    let y = in_ticks taken.design in
    let P : designs.Design → Type 0 = λ z. IsArrangedText (first_priority z) (flat z) text in
    let h : IsArrangedText (first_priority y) (flat y) text = subst P taken.ticked made in
    let ps = priorities_by (flat y) h.order in
    let Short : List ℕ → Type 0 = λ t. length t ≤ ada_limit in
    let Right : List ℕ → Type 0 = λ t. GuaranteedBy horizon_limit y ps t h.bounds in
    record {
      design = taken.design;
      reads = taken.reads;
      meets = taken.meets;
      order = h.order;
      bounds = h.bounds;
      arranged = h.arranged;
      made = h.made;
      short = h.short;
      guaranteed = subst Right (sym h.made) (ranked-guaranteed taken.design bytes taken.reads taken.meets ps
          (order-ranking (flat y) h.order h.arranged.is_order) h.bounds h.arranged.least.fits horizon_limit (subst Short h.made h.short));
    }

-- and one that is too long
pub long-for : (bytes : List ℕ) (x : designs.Design) → IsTakenAs bytes x → IsLongText (first_priority x) (flat x) → HasLongArrangement bytes
long-for bytes x taken long =
    let P : designs.Design → Type 0 = λ z. IsLongText (first_priority z) (flat z) in
    let h = subst P taken.ticked long in
    record {
      design = taken.design;
      reads = taken.reads;
      meets = taken.meets;
      order = h.order;
      bounds = h.bounds;
      arranged = h.arranged;
      long = h.long;
    }

-- why a flat design has no order is why its bytes have none
unordered-for : (bytes : List ℕ) (x : designs.Design) (r : SearchRefusal) → IsTakenAs bytes x → RefusesOrder (flat x) r → RefusesSearch bytes r
unordered-for bytes x (search.Untaken r) taken h = absurd h
unordered-for bytes x (search.Started thread) taken h = (x, taken, h)
unordered-for bytes x (search.None threads) taken h = (x, taken, h)

-- what is made of a design that was taken is what is made of its bytes
pub arranged-as : {X : Type 0} (view : X → List ℕ) (bytes : List ℕ) (x : designs.Design) (r : Result X (Halt ArrangeRefusal)) → IsTakenAs bytes x
    → IsMade view (IsArrangedText (first_priority x) (flat x)) (RefusesArranging (first_priority x) (flat x)) r
    → IsMade view (IsArrangedFor bytes) (RefusesArrangement bytes) r
arranged-as view bytes x (Ok made) taken h = arranged-for bytes x (view made) taken h
arranged-as view bytes x (Err (Refused (Unordered r))) taken h = unordered-for bytes x r taken h
arranged-as view bytes x (Err (Refused Long)) taken h = long-for bytes x taken h
arranged-as view bytes x (Err NoMemory) taken h = tt

-- a design that meets the rules is taken, in ticks
taken-of : (bytes : List ℕ) (x : designs.Design) → Reads bytes x → MeetsRules x → IsTakenAs bytes (in_ticks x)
taken-of bytes x reads meets = record { design = x; reads = reads; meets = meets; ticked = refl }

-- an order that is found is the one
one-arranged : (x : designs.Design) (a b : List ℕ) (v u : List Bound) → AreMet x (in_ticks x) → IsArranged (flat (in_ticks x)) a v
    → IsArranged (flat (in_ticks x)) b u → (a ≡ b) × (v ≡ u)
one-arranged x a b v u met p q =
    let f = flat (in_ticks x) in
    let same : a ≡ b = one-filled f a b (flat-sound x (in_ticks x) met) p.is_order q.is_order p.filled q.filled in
    let L : List ℕ → Type 0 = λ o. IsLeastVector (rows_by f o) v in
    (same, one_least (rows_by f b) v u (subst L same p.least) q.least)

-- what can be arranged has no text by the order that is filled that is too long
not_long : (bytes : List ℕ) → CanArrange bytes → HasLongArrangement bytes → ⊥
not_long bytes w h =
    let one : in_ticks h.design ≡ w.search.design = one-taken bytes (in_ticks h.design) w.search.design (taken-of bytes h.design h.reads h.meets)
    w.search.taken in
    let P : designs.Design → Type 0 = λ z. IsArranged (flat z) h.order h.bounds in
    let short : length (ordered_text w.search.design h.order h.bounds) ≤ ada_limit = w.short h.order h.bounds (subst P one h.arranged) in
    let equal : length (ordered_text (in_ticks h.design) h.order h.bounds) ≡ length (ordered_text w.search.design h.order h.bounds) =
    ap (λ z. length (ordered_text z h.order h.bounds)) one in
    let long = h.long in omega (arith, equal, long, short)

-- what has an order that is filled can be searched
can-search : (bytes : List ℕ) (x : designs.Design) (order : List ℕ) (bounds : List Bound) → IsTakenAs bytes (in_ticks x)
    → IsArranged (flat (in_ticks x)) order bounds → CanSearch bytes
can-search bytes x order bounds taken a = record {
  design = in_ticks x;
  taken = taken;
  external = a.external;
  order = order;
  is_order = a.is_order;
  passes = (bounds, a.least.fits);
}

able : (bytes : List ℕ) → CanArrange bytes → (r : ArrangeRefusal) → RefusesArrangement bytes r → ⊥
able bytes w (Unordered r) h = not_refused bytes w.search r h
able bytes w Long h = not_long bytes w h

-- what has a text that is too long is not refused by the search
ordered-or-long : (bytes : List ℕ) (r : SearchRefusal) → RefusesSearch bytes r → HasLongArrangement bytes → ⊥
ordered-or-long bytes r h k =
    not_refused bytes (can-search bytes k.design k.order k.bounds (taken-of bytes k.design k.reads k.meets) k.arranged) r h

one : (bytes : List ℕ) (r q : ArrangeRefusal) → RefusesArrangement bytes r → RefusesArrangement bytes q → r ≡ q
one bytes (Unordered r) (Unordered q) h k = ap Unordered (one_refusal bytes r q h k)
one bytes (Unordered r) Long h k = absurd (ordered-or-long bytes r h k)
one bytes Long (Unordered q) h k = absurd (ordered-or-long bytes q k h)
one bytes Long Long h k = refl

can_make : (bytes made : List ℕ) → IsArrangedFor bytes made → CanArrange bytes
unfolding can-search
can_make bytes made w = record {
  search = can-search bytes w.design w.order w.bounds (taken-of bytes w.design w.reads w.meets) w.arranged;
  short = λ order bounds a.
      let x = in_ticks w.design in
      let both = one-arranged w.design order w.order bounds w.bounds w.meets a w.arranged in
      let Short : List ℕ → Type 0 = λ t. length t ≤ ada_limit in
      let same : ordered_text x w.order w.bounds ≡ ordered_text x order bounds =
      ap (λ o. ordered_text x o w.bounds) (sym both.0) ∙ ap (ordered_text x order) (sym both.1) in
      subst Short (w.made ∙ same) w.short;
}

-- a design has one text by the order that is filled
one_text : (bytes t u : List ℕ) → IsArrangedFor bytes t → IsArrangedFor bytes u → t ≡ u
one_text bytes t u h k =
    let one : h.design ≡ k.design = one-design bytes h.design k.design h.reads k.reads in
    let P : designs.Design → Type 0 = λ z. IsArranged (flat (in_ticks z)) h.order h.bounds in
    let both = one-arranged k.design h.order k.order h.bounds k.bounds k.meets (subst P one h.arranged) k.arranged in
    h.made ∙ ap (λ z. ordered_text (in_ticks z) h.order h.bounds) one ∙ ap (λ o. ordered_text (in_ticks k.design) o h.bounds) both.0
    ∙ ap (ordered_text (in_ticks k.design) k.order) both.1 ∙ sym k.made

pub arranges-exact : IsExactOf of_arrange
arranges-exact = record {
  able = able;
  one = one;
  made = can_make;
  text = one_text;
}

-- THE ORDER OF DEADLINES

same-text : (x : designs.Design) (order : List ℕ) (bounds v : List Bound) → AreMet x (in_ticks x) → IsArranged (flat (in_ticks x)) order bounds
    → IsLeastVector (table (flat (in_ticks x))).rows v
    → ordered_text (in_ticks x) order bounds ≡ text_by (in_ticks x) (priorities_of (flat (in_ticks x))) v
same-text x order bounds v met a least =
    let f = flat (in_ticks x) in
    let same : priorities_by f order ≡ priorities_of f =
    (deadline-found f order (flat-sound x (in_ticks x) met) a.external (passes-so f v least.fits) a.is_order a.filled).1 in
    let L : List ℕ → Type 0 = λ ps. IsLeastVector (table_for f ps).rows bounds in
    let one : bounds ≡ v = one_least (table f).rows bounds v (subst L same a.least) least in
    ap (λ ps. text_by (in_ticks x) ps bounds) same ∙ ap (text_by (in_ticks x) (priorities_of f)) one

pub writes-as-generated : WritesAsGenerated
writes-as-generated bytes made others w g =
    let one : w.design ≡ g.design = one-design bytes w.design g.design w.reads g.reads in
    let P : designs.Design → Type 0 = λ z. IsArranged (flat (in_ticks z)) w.order w.bounds in
    w.made ∙ ap (λ z. ordered_text (in_ticks z) w.order w.bounds) one
    ∙ same-text g.design w.order w.bounds g.bounds g.meets (subst P one w.arranged) g.least ∙ sym g.made

pub can-where-generated : CanWhereGenerated
can-where-generated bytes made w external =
    let x = in_ticks w.design in
    let f = flat x in
    record {
      search = record {
        design = x;
        taken = taken-of bytes w.design w.reads w.meets;
        external = external;
        order = (table f).places;
        is_order = deadline-order f;
        passes = passes-so f w.bounds w.least.fits;
      };
      short = λ order bounds a.
          let Short : List ℕ → Type 0 = λ t. length t ≤ ada_limit in
          subst Short (w.made ∙ sym (same-text w.design order bounds w.bounds w.meets a w.least)) w.short;
    }
