-- Designs whose programs' tasks stand in their tables: what the response law of the processor asks of the program of a design.
-- The table has a row for each thread, by falling priority (Audsley et al. 1993); a bound for each row is one for its thread.
use Rattle.ods_tree.specs.Designs.{Design}
use Rattle.ods_tree.specs.Flattening.{flat}
use Rattle.analysis.specs.Priorities.{priorities_of}
use Rattle.law_designs.specs.Rankings.{IsTabledRanking}

-- the tasks of a design's program in the order of its table, all of them, with the response times of the design's threads
abbrev pub IsTabledDesign : Design → Type 0
IsTabledDesign x = IsTabledRanking x (priorities_of (flat x))
