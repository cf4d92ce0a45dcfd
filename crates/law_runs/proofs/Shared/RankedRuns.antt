-- Every run of the program of a proper design by any ranking is right, where the design meets the rules and has bounds by it, and a text with
-- that program's tokens is guaranteed.
use Rattle.std.specs.Prelude.{◌≡◌, ℕ, List, map}
use Rattle.std.proofs.Common.{ap, sym, subst}
use Rattle.ods_tree.specs.Designs.{Design}
use Rattle.ods_tree.specs.Flattening.{flat}
use Rattle.ods_tree.specs.Ticks.{in_ticks}
use Rattle.arrivals_tree.specs.Arriving.{Arrivals}
use Rattle.arrivals_tree.specs.Acceptance.{IsAccepted}
use Rattle.trace_tree.specs.declared.event.Event.{Event}
use Rattle.machine.specs.Systems.{system}
use Rattle.machine.specs.Meanings.{Meaning, start}
use Rattle.machine.proofs.Shared.RunLaws.{Rest-unique}
use Rattle.rt_response.specs.declared.rows.Bound.{Bound}
use Rattle.rt_response.specs.Response.{Fits}
use Rattle.analysis.specs.Tables.{table_for}
use Rattle.guarantee.specs.Software.{Software, software, program_software}
use Rattle.guarantee.specs.Events.{named}
use Rattle.guarantee.specs.Arrivals.{named_arrivals, AreKept, KeepsSeparations}
use Rattle.guarantee.specs.Allowed.{Permits, Allows}
use Rattle.guarantee.specs.Bounded.{Response, IsBounded}
use Rattle.guarantee.specs.Guaranteed.{externals}
use Rattle.guarantee.specs.MachineLaw.{IsReadable}
use Rattle.guarantee.specs.ResponseLaw.{times_of, ProcessorResponds}
use Rattle.guarantee.proofs.Shared.Same.{program_for-software}
use Rattle.law_tasks.proofs.Shared.Halts.{readable_means}
use Rattle.law_responses.proofs.Shared.ProgramLaw.{processor-responds}
use Rattle.law_designs.specs.Rankings.{IsRanking, stated_by, program_by, responses_by, IsTabledRanking}
use Rattle.law_designs.proofs.Shared.ReadablePrograms.{ranked-readable}
use Rattle.law_designs.proofs.Shared.SoundDesigns.{flat-sound, flat-spaced}
use Rattle.law_designs.proofs.Shared.TabledTasks.{ranked-tabled}
use Rattle.law_designs.proofs.Shared.Units.{ranked-fit}
use Rattle.law_runs.specs.Ranked.{IsRightBy, RankedDesignsAreRight, RankedTextsAreGuaranteed, RankedReplaysAreRight}
use Rattle.law_runs.proofs.KeptSoftware.{kept_software}
use Rattle.law_runs.proofs.Shared.Bounded.{bounded_runs}
use Rattle.law_runs.proofs.Shared.KeptAccepted.{accepted_software}

-- the program of a design by a ranking does what the design does
pub ranked-software : (x : Design) (ps : List ℕ) → IsRanking (flat x) ps → program_software (program_by x ps) ≡ software x
ranked-software x ps ranking =
    let fit = ranked-fit x ps ranking in program_for-software (flat x) (stated_by x ps) fit.shared fit.threads fit.obcs

-- runs under arrivals that are accepted
accepted_runs : (limit : ℕ) → ProcessorResponds limit → (x : Design) (ps : List ℕ) (v : List Bound) → IsRanking (flat x) ps
    → IsReadable (program_by x ps) → IsTabledRanking x ps → Fits (table_for (flat x) ps).rows v
    → (r : Arrivals) → IsAccepted limit (program_by x ps) r → IsRightBy x ps v (program_by x ps) r
accepted_runs limit law x ps v ranking readable d fits r accepted =
    let p = program_by x ps in
    let m : (told : List Event) × Meaning p r told = readable_means p r readable.1 in
    let b : Permits (program_software p) (named_arrivals p r) (named p m.0) × IsBounded (times_of d.tasks v) r.until (named p m.0) =
    bounded_runs limit law p d.tasks (table_for (flat x) ps).rows v r m.0 readable d.tabled d.all fits accepted m.1 in
    let P : Software → Type 0 = λ w. Permits w (named_arrivals p r) (named p m.0) in
    let B : List Response → Type 0 = λ rs. IsBounded rs r.until (named p m.0) in
    record { trace = m.0; means = m.1; allowed = subst P (ranked-software x ps ranking) b.0; bounded = subst B (d.times v) b.1 }

-- the same under arrivals that keep the separations of the design
pub kept_runs : (limit : ℕ) → ProcessorResponds limit → (x : Design) (ps : List ℕ) (v : List Bound) → IsRanking (flat x) ps
    → IsReadable (program_by x ps) → IsTabledRanking x ps → Fits (table_for (flat x) ps).rows v
    → (r : Arrivals) → KeepsSeparations limit x (named_arrivals (program_by x ps) r) → IsRightBy x ps v (program_by x ps) r
kept_runs limit law x ps v ranking readable d fits r keeps =
    let p = program_by x ps in
    let K : Software → Type 0 = λ w. AreKept limit w (named_arrivals p r) in
    accepted_runs limit law x ps v ranking readable d fits r
    (accepted_software limit p r readable (subst K (sym (ranked-software x ps ranking)) keeps))

pub ranked-designs-are-right : (limit : ℕ) → RankedDesignsAreRight limit
ranked-designs-are-right limit x ps v proper meets ranking fits r keeps =
    kept_runs limit (processor-responds limit) (in_ticks x) ps v ranking (ranked-readable x ps proper meets ranking)
    (ranked-tabled (in_ticks x) ps (flat-sound x (in_ticks x) meets) (flat-spaced x (in_ticks x) meets) ranking) fits r keeps

pub ranked-texts-are-guaranteed : (limit : ℕ) → RankedTextsAreGuaranteed limit
ranked-texts-are-guaranteed limit x ps text v proper meets ranking fits within spelled =
    let readable : IsReadable (program_by (in_ticks x) ps) = ranked-readable x ps proper meets ranking in
    record {
      program = program_by (in_ticks x) ps;
      reads = record { reads = record { within = within; proper = readable.0; spelled = spelled }; meets = readable.1 };
      tasks = ap (λ w. map (λ t. t.name) w.tasks) (ranked-software (in_ticks x) ps ranking);
      external = ap (λ w. externals w.tasks) (ranked-software (in_ticks x) ps ranking);
      runs = ranked-designs-are-right limit x ps v proper meets ranking fits;
    }

-- what is told under accepted arrivals
pub ranked-replays-are-right : (limit : ℕ) → RankedReplaysAreRight limit
ranked-replays-are-right limit x ps v r told proper meets ranking fits accepted means =
    let p = program_by (in_ticks x) ps in
    let K : Software → Type 0 = λ w. AreKept limit w (named_arrivals p r) in
    let right : IsRightBy (in_ticks x) ps v p r =
    ranked-designs-are-right limit x ps v proper meets ranking fits r (subst K (ranked-software (in_ticks x) ps ranking)
    (kept_software limit p r (ranked-readable x ps proper meets ranking).1 accepted)) in
    let one : right.trace ≡ told = Rest-unique (system p r) (start p r) right.trace told right.means means in
    let T : List Event → Type 0 = λ es. Allows (in_ticks x) (named_arrivals p r) (named p es)
    × IsBounded (responses_by (flat (in_ticks x)) ps v) r.until (named p es) in
    subst T one (right.allowed, right.bounded)
