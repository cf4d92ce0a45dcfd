use Rattle.ods_read.proofs.Shared.OneReading.{one-design}
use Rattle.law_replays.proofs.bytes_are_one_design.Goals as goal

pub returns : goal.returns
returns c = one-design
