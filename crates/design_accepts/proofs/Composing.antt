-- All parts together: what the passes over a trace answer is the verdict on it.
use Rattle.std.proofs.Common.{◌≡◌, ℕ, List, length, refl, subst}
use Rattle.seq_tree.specs.Lists.{Each}
use Rattle.ods_tree.specs.Flats.{Guarded}
use Rattle.ada_tree.specs.Programs.{Program}
use Rattle.ada_tree.specs.Rules.{MeetsRules}
use Rattle.guarantee.specs.Arrivals.{Arrivals}
use Rattle.guarantee.specs.Events.{Event}
use Rattle.guarantee.specs.Software.{Task, Software, program_software}
use Rattle.law_traces.specs.Parts.{Serves, Follows}
use Rattle.law_traces.specs.Verdicts.{IsFirstWithout, IsVerdict, IsVerdictOn}
use Rattle.law_traces.specs.Verdicts as verdict
use Rattle.law_traces.proofs.Shared.Joins.{in-parts}
use Rattle.law_clear_programs.proofs.Shared.Clear.{clear}
use Rattle.trace_read.specs.Lines.{Tells}
use Rattle.trace_checks.specs.Meanings.{KeepParts}

module _ (p : Program) (meets : MeetsRules p) (r : Arrivals) where
  abbrev w : Software
  w = program_software p

  pub all-hold : (text : List ℕ) (told : List Event) (n : ℕ) → Tells p text told → n ≡ length told → KeepParts w r told
      → Each (Follows w told) w.tasks → Each (Serves w told) w.shared → IsVerdict w p r text (verdict.Accepted n)
  all-hold text told n t count parts scripts objects = (
    t.0,
    t.1,
    t.2,
    subst (λ z. IsVerdictOn w r z (verdict.Accepted n)) t.3 (
      (in-parts w (clear p meets) r told).together (record {
        times = parts.times;
        cyclic = parts.cyclic;
        arrivals = parts.arrivals;
        requests = parts.requests;
        scripts = scripts;
        objects = objects;
      }),
      count,
    ),
  )

  pub script-broken : (text : List ℕ) (told : List Event) (t : Task) → Tells p text told → KeepParts w r told
      → IsFirstWithout (Follows w told) w.tasks t → IsVerdict w p r text (verdict.Script t.name)
  script-broken text told t tells parts first = (
    tells.0,
    tells.1,
    tells.2,
    subst (λ z. IsVerdictOn w r z (verdict.Script t.name)) tells.3 (parts.times, parts.cyclic, parts.arrivals, parts.requests, t, first, refl),
  )

  pub object-broken : (text : List ℕ) (told : List Event) (g : Guarded) → Tells p text told → KeepParts w r told → Each (Follows w told) w.tasks
      → IsFirstWithout (Serves w told) w.shared g → IsVerdict w p r text (verdict.Shared g.name)
  object-broken text told g tells parts scripts first = (
    tells.0,
    tells.1,
    tells.2,
    subst (λ z. IsVerdictOn w r z (verdict.Shared g.name)) tells.3
        (parts.times, parts.cyclic, parts.arrivals, parts.requests, scripts, g, first, refl),
  )
