-- Variables behind others.
use Rattle.std.proofs.Common.{append_assoc, append-nil}

pub ruleset append_steps = (append_assoc, append-nil)
