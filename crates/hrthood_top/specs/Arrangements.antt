-- The verb `arrange`: the Ada text of a design by the priority order that `search` finds for it.
-- The text is guaranteed as that of `generate` is, within the bounds by this order (Audsley 1991), and it is refused as `search` is.
use Rattle.std.specs.Prelude.{◌≡◌, ℕ, ◌≤◌, ◌<◌, List, length, codes}
use Rattle.seq_tree.specs.Limits.{ada_limit}
use Rattle.ods_tree.specs.Designs as designs
use Rattle.ods_tree.specs.Flats.{Flat}
use Rattle.ods_tree.specs.Flattening.{flat}
use Rattle.ods_tree.specs.Reading.{Reads}
use Rattle.ods_tree.specs.Ticks.{in_ticks}
use Rattle.design_rules.specs.Rules.{MeetsRules}
use Rattle.rt_response.specs.declared.rows.Bound.{Bound}
use Rattle.arrivals_tree.specs.Arrived.{horizon_limit}
use Rattle.law_orders.specs.Orders.{AllExternal, priorities_by}
use Rattle.law_runs.specs.Ranked.{GuaranteedBy}
use Rattle.law_texts.specs.Ranked.{text_by}
use Rattle.arranging.specs.Arrangements.{IsArranged, IsLongText}
use Rattle.bridge.specs.Delivers.{IsTextFor}
use Rattle.hrthood_top.specs.declared.arrange.ArrangeRefusal.{ArrangeRefusal}
use Rattle.hrthood_top.specs.declared.arrange.ArrangeRefusal.TheVariants.{Unordered, Long}
use Rattle.hrthood_top.specs.Searches.{search_line, CanSearch, RefusesOrder, RefusesSearch}
use Rattle.hrthood_top.specs.Verbs.{OfDesign, Verb, on_design}

-- the text of a design in ticks by an order of its threads
abbrev pub ordered_text : designs.Design → List ℕ → List Bound → List ℕ
ordered_text x order bounds = text_by x (priorities_by (flat x) order) bounds

-- a text for the design that the bytes are: by an order that is filled from its lowest place upwards, with the least bounds by it, guaranteed
pub record IsArrangedFor (bytes text_made : List ℕ) : Type 0 where
  pub design : designs.Design
  pub reads : Reads bytes design
  pub meets : MeetsRules design
  pub order : List ℕ
  pub bounds : List Bound
  pub arranged : IsArranged (flat (in_ticks design)) order bounds
  pub made : text_made ≡ ordered_text (in_ticks design) order bounds
  pub short : length text_made ≤ ada_limit
  pub guaranteed : GuaranteedBy horizon_limit (in_ticks design) (priorities_by (flat (in_ticks design)) order) text_made bounds

-- the text of the design that the bytes are, by such an order, is too long
pub record HasLongArrangement (bytes : List ℕ) : Type 0 where
  pub design : designs.Design
  pub reads : Reads bytes design
  pub meets : MeetsRules design
  pub order : List ℕ
  pub bounds : List Bound
  pub arranged : IsArranged (flat (in_ticks design)) order bounds
  pub long : ada_limit < length (ordered_text (in_ticks design) order bounds)

-- why no text is made of a flat design, whose least priority is written as this number
abbrev pub RefusesArranging : ℕ → Flat → ArrangeRefusal → Type 0
RefusesArranging first f (Unordered refusal) = RefusesOrder f refusal
RefusesArranging first f Long = IsLongText first f

-- why no text is made of bytes
abbrev pub RefusesArrangement : List ℕ → ArrangeRefusal → Type 0
RefusesArrangement bytes (Unordered refusal) = RefusesSearch bytes refusal
RefusesArrangement bytes Long = HasLongArrangement bytes

-- the line of each refusal
abbrev pub arrange_line : ArrangeRefusal → List ℕ
arrange_line (Unordered refusal) = search_line refusal
arrange_line Long = codes "refused S3 text\n"

-- bytes of a design that passes under some order, as `search` asks, and whose text by the order that is filled is within its limit
pub record CanArrange (bytes : List ℕ) : Type 0 where
  pub search : CanSearch bytes
  pub short : (order : List ℕ) (bounds : List Bound) → IsArranged (flat search.design) order bounds
      → length (ordered_text search.design order bounds) ≤ ada_limit

-- what the verb makes of a design
abbrev pub of_arrange : OfDesign
of_arrange = record {
  Makes = IsArrangedFor;
  Refusal = ArrangeRefusal;
  Refuses = RefusesArrangement;
  line = arrange_line;
  CanDo = CanArrange;
}

-- the verb
abbrev pub arranges : List ℕ → Verb
arranges = on_design of_arrange

-- where `generate` writes a text of bytes and `arrange` does, they write the same
abbrev pub WritesAsGenerated : Type 0
WritesAsGenerated = (bytes text_made others : List ℕ) → IsArrangedFor bytes text_made → IsTextFor bytes others → text_made ≡ others

-- and `arrange` does wherever `generate` does, but where a thread starts another
abbrev pub CanWhereGenerated : Type 0
CanWhereGenerated = (bytes text_made : List ℕ) (w : IsTextFor bytes text_made) → AllExternal (flat (in_ticks w.design)) → CanArrange bytes
