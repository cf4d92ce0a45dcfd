use Rattle.std.proofs.Common.{◌≡◌, ◌-◌, length, map, zip, ap, sym, ◌∙◌, option_map}
use Rattle.std.specs.Prelude.{slice_get}
use Rattle.std.proofs.lemmas.List.{length-map}
use Rattle.std.proofs.lemmas.Result.{IfOk-weaker}
use Rattle.name_sets.specs.Tables.{at}
use Rattle.block_causes.specs.Causes.{cause_by}
use Rattle.rt_block.specs.Called.{inner_places}
use Rattle.rt_block.specs.Causes.{cause_in, cause_numbers, cause_of, first_number, op_of}
use Rattle.rt_block.specs.Known.{design, known_entries}
use Rattle.rt_block.specs.Longest.{section_prices}
use Rattle.rt_block.specs.Spreads.{spread}
use Rattle.rt_block.specs.declared.calls.Scope.TheVariants.{Live}
use Rattle.rt_block.proofs.CauseSteps.{cause-is, none-matches, some-matches}
use Rattle.rt_block.proofs.causes.cause_at.Goals as goal

pub returns-in-None : goal.returns-in-None
returns-in-None c =
    let k = c.args.operations.now in
    let known = c.requires.known in
    let es = known_entries k in
    let level = c.args.level in
    let ticks = c.args.ticks in
    let ps = c.args.levels.now.priorities.now in
    let ceilings = c.args.levels.now.ceilings.items in
    let own = cause_numbers level ticks ceilings k.sections.items in
    let live = map (λ l. l.items) k.live.items in
    let V = spread (length es) (map (λ e. inner_places (at k.places) Live e.work) es) own in
    let many : length k.services.items ≡ length es = known.counted in
    let reached : c.in_ok-known.known.items ≡ V =
    c.in_ok-known.ensures ∙ ap (λ n. spread n (map (λ l. l.items) k.live_inner.items) own) many
    ∙ ap (λ i. spread (length es) i own) known.live_inner in
    let found : c.first_number.result ≡ first_number V level 0 (zip live ps) =
    c.first_number.ensures
    ∙ ap (λ vs. first_number vs level 0 (zip (map (λ l. l.items) c.as_slice.result.now) ps)) (c.as_slice-2.ensures.value ∙ reached)
    ∙ ap (λ ls. first_number V level 0 (zip (map (λ l. l.items) ls) ps)) c.as_slice.ensures.value in
    none-matches (design k) ps (at k.places) known.placed level ticks c.requires.some c.requires.cheap
    (first_number V level 0 (zip live ps)) (cause_by (design k) ps level ticks) (sym found ∙ c.in-None.is)
    (cause-is (design k) ps (at k.places) known.placed level ticks c.requires.some c.requires.cheap own ceilings live c.requires.levels
    (ap (cause_numbers level ticks ceilings) (known.sectioned ∙ ap (section_prices es) known.priced)) known.live)

pub returns : goal.returns
returns c =
    let k = c.args.operations.now in
    let known = c.requires.known in
    let es = known_entries k in
    let level = c.args.level in
    let ticks = c.args.ticks in
    let ps = c.args.levels.now.priorities.now in
    let ceilings = c.args.levels.now.ceilings.items in
    let own = cause_numbers level ticks ceilings k.sections.items in
    let live = map (λ l. l.items) k.live.items in
    let V = spread (length es) (map (λ e. inner_places (at k.places) Live e.work) es) own in
    let many : length k.services.items ≡ length es = known.counted in
    let reached : c.in_ok-known.known.items ≡ V =
    c.in_ok-known.ensures ∙ ap (λ n. spread n (map (λ l. l.items) k.live_inner.items) own) many
    ∙ ap (λ i. spread (length es) i own) known.live_inner in
    let found : c.first_number.result ≡ first_number V level 0 (zip live ps) =
    c.first_number.ensures
    ∙ ap (λ vs. first_number vs level 0 (zip (map (λ l. l.items) c.as_slice.result.now) ps)) (c.as_slice-2.ensures.value ∙ reached)
    ∙ ap (λ ls. first_number V level 0 (zip (map (λ l. l.items) ls) ps)) c.as_slice.ensures.value in
    let services = c.as_slice-in-Some.result.now in
    let is =
    some-matches (design k) ps (at k.places) known.placed level ticks c.requires.some c.requires.cheap
    (first_number V level 0 (zip live ps)) (cause_by (design k) ps level ticks) c.in-Some.thread c.in-Some.number (map op_of services)
    (length services) (sym found ∙ c.in-Some.is) (ap (map op_of) c.as_slice-in-Some.ensures.value ∙ c.requires.named) (sym (length-map services op_of))
    (cause-is (design k) ps (at k.places) known.placed level ticks c.requires.some c.requires.cheap own ceilings live c.requires.levels
    (ap (cause_numbers level ticks ceilings) (known.sectioned ∙ ap (section_prices es) known.priced)) known.live) in
    IfOk-weaker c.numbered.result
    (λ o. option_map cause_of o ≡ option_map (cause_in c.in-Some.thread) (slice_get (map op_of services) (length services - c.in-Some.number)))
    (λ o. option_map cause_of o ≡ cause_by (design k) ps level ticks) (λ o told. told ∙ is) c.numbered.ensures
