-- The first thread or object of a program that a trace shows wrong, as a verdict.
use Rattle.std.specs.Prelude.{ℕ, not, List, find, Option, Some, None}
use Rattle.ada_tree.specs.Programs.{Program}
use Rattle.trace_tree.specs.Lines.{unit_name}
use Rattle.guarantee.specs.Software.{Software}
use Rattle.guarantee.specs.Events.{Event}
use Rattle.law_traces.specs.Checks.{follows, serves}
use Rattle.law_traces.specs.Verdicts.{Verdict, Script, Shared, first_or}
use Rattle.trace_scripts.specs.declared.verdict.Wrong.{Wrong}
use Rattle.trace_scripts.specs.declared.verdict.Wrong.TheVariants.{Thread, Object}

-- the verdict on what is wrong, and another where nothing is
abbrev pub verdict_by : Program → Option Wrong → Verdict → Verdict
verdict_by p None other = other
verdict_by p (Some (Thread unit)) other = Script (unit_name p unit)
verdict_by p (Some (Object unit)) other = Shared (unit_name p unit)

-- the verdict on threads and objects, and another where all are right
abbrev pub judged_last : Software → ℕ → List Event → Verdict → Verdict
judged_last w depth told other =
    first_or (λ t. Script t.name) (find (λ t. not (follows w depth told t)) w.tasks)
    (first_or (λ g. Shared g.name) (find (λ g. not (serves w depth told g)) w.shared) other)
