-- That the replay of a text that was made of a design with background objects is right.
use Rattle.std.proofs.Common.{◌≡◌, ℕ, List, Some}
use Rattle.arrivals_tree.specs.Arrived.{horizon_limit}
use Rattle.law_replays.proofs.Shared.BackgroundReplays.{right-replay}
use Rattle.hood_io.specs.Shelves.{Told}
use Rattle.hrthood_words.specs.declared.verbs.DesignVerb.TheVariants.{Background}
use Rattle.hrthood_words.specs.Words.{OnDesign, Replay}
use Rattle.hrthood_top.specs.Backgrounds.{IsBackgroundTextFor}
use Rattle.hrthood_top.specs.Ends.{Outside}
use Rattle.hrthood_top.specs.Replays.{Replays}
use Rattle.hrthood_top.specs.RightTraces.{IsRightBackgroundTrace}
use Rattle.hrthood_top.specs.TwoRuns.{IsDone, IsRightBackgroundReplay}
use Rattle.hrthood_top.proofs.Replaying.{replayed_right}

right-trace : (bytes made arrivals written : List ℕ) → IsBackgroundTextFor bytes made → Replays made arrivals written
    → IsRightBackgroundTrace bytes made arrivals written
right-trace bytes made arrivals written w h = record {
  of = w.design;
  reads = w.reads;
  passes = w.passes;
  bounds = w.bounds;
  least = w.least;
  program = h.traces.program;
  accepts = h.traces.says.accepts;
  under = h.traces.under;
  arrives = h.traces.arriving.arrives;
  told = h.told;
  means = h.traces.trace.means;
  whole = h.traces.trace.whole;
  exclusive = h.traces.trace.exclusive;
  permitted = right-replay horizon_limit w.design made w.bounds h.traces.program h.traces.under h.told w.reads.proper w.passes w.least.fits
      w.guaranteed.reads h.traces.says.accepts h.traces.arriving.arrives.accepted h.traces.trace.means;
}

pub right_background_replays : (words others : List (List ℕ)) (d a r text written : List ℕ) (x y u v : Outside) (t s : Told)
    → IsDone words (OnDesign Background d) x y t text → IsDone others (Replay a r) u v s written → s.files a ≡ Some text
    → IsRightBackgroundReplay t s d r text written
right_background_replays = replayed_right IsRightBackgroundTrace Background right-trace
