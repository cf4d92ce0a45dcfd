use Rattle.law_releases.proofs.Shared.InheritedJitter.{keeps_time}
use Rattle.law_releases.proofs.starters_hand_on_jitter.Goals as goal

pub returns : goal.returns
returns c ts told until period jitter ticks separation starter name order apart responds keeps once
    = keeps_time ts until starter name period jitter ticks separation apart told order responds keeps once
