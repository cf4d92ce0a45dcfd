-- That the verb `sample` refuses nothing, and writes one text.
use Rattle.std.proofs.Common.{◌≡◌, ℕ, List, sym, ap, subst, ◌∙◌}
use Rattle.ods_tree.specs.Designs as designs
use Rattle.ods_tree.specs.Flattening.{flat}
use Rattle.ods_tree.specs.Ticks.{in_ticks, first_priority}
use Rattle.ada_tree.specs.Reading.{Accepts}
use Rattle.rt_response.specs.declared.rows.Bound.{Bound}
use Rattle.design_bounds.specs.Rows.{named_bounds}
use Rattle.trace_text.specs.declared.bound.NamedBound.{NamedBound}
use Rattle.trace_text.specs.Summaries.{summary}
use Rattle.hrthood_top.specs.Samples.{IsSummary, text_bounds, samples}
use Rattle.hrthood_top.proofs.GenerateLaws.{same-text, one-made}
use Rattle.hrthood_top.proofs.ReplayLaws.{one_meaning}
use Rattle.hrthood_top.proofs.VerbLaws.{IsExact, never-stops}

-- the bounds of a design, with the names of the threads
abbrev bounds_of : designs.Design → List Bound → List NamedBound
bounds_of x v = named_bounds (first_priority x) (flat (in_ticks x)) v

-- a design and an arrivals text have one summary
one_summary : (design arrivals x y : List ℕ) → IsSummary design arrivals x → IsSummary design arrivals y → x ≡ y
one_summary design arrivals x y h k =
    let same = same-text design h.run.text k.run.text h.run.made k.run.made in
    let bounds : text_bounds design h.run.text h.run.made ≡ text_bounds design k.run.text k.run.made
    = ap (λ z. bounds_of z h.run.made.bounds) same.designs ∙ ap (bounds_of k.run.made.design) same.bounds in
    let text : h.run.text ≡ k.run.text = one-made design h.run.text k.run.text h.run.made k.run.made in
    let traces = h.run.replays.traces in
    let A : List ℕ → Type 0 = λ z. Accepts z traces.program in
    let meant = one_meaning k.run.text arrivals traces.program traces.under h.run.replays.told k.run.replays.told k.run.trace
    (subst A text traces.says.accepts) traces.arriving.arrives traces.trace.means k.run.replays.traces in
    h.whole
    ∙ ap (λ p. summary p (text_bounds design h.run.text h.run.made) h.run.replays.told) meant.programs
    ∙ ap (λ b. summary k.run.replays.traces.program b h.run.replays.told) bounds
    ∙ ap (summary k.run.replays.traces.program (text_bounds design k.run.text k.run.made)) meant.meanings
    ∙ sym k.whole

pub samples-exact : (threads : ℕ) → IsExact (samples threads)
samples-exact threads = record {
  one = λ a b same r q h k. absurd h;
  able = λ a b same w r h. h;
  made = λ a written w. tt;
  text = λ a b same x y h k. one_summary _ _ x y h k;
  stops = never-stops (samples threads) (λ texts text stop h. h);
}
