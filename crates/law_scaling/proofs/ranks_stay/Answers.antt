use Rattle.law_scaling.proofs.Shared.Ranks.{ranks_for-same, ranks-same}
use Rattle.law_scaling.proofs.Tables.{places-same}
use Rattle.law_scaling.proofs.ranks_stay.Goals as goal

pub returns : goal.returns
returns c = record {
  ceilings = λ f w ps. ranks_for-same w f ps;
  priorities = λ f w. ranks-same w f;
  places = λ f w. places-same w f;
}
