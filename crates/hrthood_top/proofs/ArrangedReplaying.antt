-- That the replay of a text that was made of a design by an order of its threads is right.
use Rattle.std.proofs.Common.{◌≡◌, ℕ, ◌≤◌, List, length, Some, sym, subst}
use Rattle.seq_tree.specs.Limits.{ada_limit}
use Rattle.ada_tree.specs.Reading.{Accepts}
use Rattle.arrivals_tree.specs.Arrived.{horizon_limit}
use Rattle.ods_tree.specs.Flattening.{flat}
use Rattle.ods_tree.specs.Ticks.{in_ticks}
use Rattle.hood_io.specs.Shelves.{Told}
use Rattle.law_designs.specs.Rankings.{program_by}
use Rattle.law_orders.specs.Orders.{priorities_by}
use Rattle.law_orders.proofs.Shared.OrderRankings.{order-ranking}
use Rattle.law_texts.proofs.Shared.RankedTexts.{ranked-accepted}
use Rattle.law_replays.proofs.Shared.RightReplays.{right-replay-by, served-replay-by}
use Rattle.hrthood_words.specs.declared.verbs.DesignVerb.TheVariants.{Arrange}
use Rattle.hrthood_words.specs.Words.{OnDesign, Replay}
use Rattle.hrthood_top.specs.Arrangements.{IsArrangedFor}
use Rattle.hrthood_top.specs.Ends.{Outside}
use Rattle.hrthood_top.specs.Replays.{Replays}
use Rattle.hrthood_top.specs.RightTraces.{IsRightArrangedTrace}
use Rattle.hrthood_top.specs.TwoRuns.{IsDone, IsRightArrangedReplay}
use Rattle.hrthood_top.proofs.Replaying.{replayed_right}

right_trace : (bytes made arrivals written : List ℕ) → IsArrangedFor bytes made → Replays made arrivals written
    → IsRightArrangedTrace bytes made arrivals written
right_trace bytes made arrivals written w h =
    let y = in_ticks w.design in
    let ps = priorities_by (flat y) w.order in
    let ranking = order-ranking (flat y) w.order w.arranged.is_order in
    let P : List ℕ → Type 0 = λ z. Accepts z (program_by y ps) in
    let Short : List ℕ → Type 0 = λ z. length z ≤ ada_limit in
    let own : Accepts made (program_by y ps) =
    subst P (sym w.made) (ranked-accepted w.design bytes w.reads w.meets ps ranking w.bounds w.arranged.least.fits (subst Short w.made w.short)) in
    let right = right-replay-by horizon_limit w.design ps made w.bounds h.traces.program h.traces.under h.told w.reads.proper w.meets ranking
    w.arranged.least.fits own h.traces.says.accepts h.traces.arriving.arrives.accepted h.traces.trace.means in
    record {
      of = w.design;
      reads = w.reads;
      meets = w.meets;
      order = w.order;
      bounds = w.bounds;
      arranged = w.arranged;
      program = h.traces.program;
      accepts = h.traces.says.accepts;
      under = h.traces.under;
      arrives = h.traces.arriving.arrives;
      told = h.told;
      means = h.traces.trace.means;
      whole = h.traces.trace.whole;
      exclusive = h.traces.trace.exclusive;
      allowed = right.0;
      bounded = right.1;
      serves = served-replay-by horizon_limit w.design ps made w.bounds h.traces.program h.traces.under h.told w.reads.proper w.meets ranking
          w.arranged.least.fits own h.traces.says.accepts h.traces.arriving.arrives.accepted h.traces.trace.means;
    }

pub right_arranged_replays : (words others : List (List ℕ)) (d a r text written : List ℕ) (x y u v : Outside) (t s : Told)
    → IsDone words (OnDesign Arrange d) x y t text → IsDone others (Replay a r) u v s written → s.files a ≡ Some text
    → IsRightArrangedReplay t s d r text written
right_arranged_replays = replayed_right IsRightArrangedTrace Arrange right_trace
