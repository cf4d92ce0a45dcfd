use Rattle.std.proofs.Common.{◌≡◌, ◌++◌, take, drop}
use Rattle.background_designs.specs.Programs.{at_least}
use Rattle.background.proofs.raising.raise_all.Given as goal

-- those so far are raised, and those that are left unchanged
abbrev pub invariant-numbers : goal.invariant-numbers
invariant-numbers l = l.numbers ≡ at_least l.least (take l.place l.initial.numbers) ++ drop l.place l.initial.numbers
