-- What is called where there is no thread.
use Rattle.std.proofs.lemmas.List.{append-nil}

pub ruleset thread_laws = (append-nil)
