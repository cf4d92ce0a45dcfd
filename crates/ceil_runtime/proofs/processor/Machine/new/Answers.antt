use Rattle.std.proofs.Common.{ap, arith, length, map, subst, sym, ◌∙◌, ◌≡◌}
use Rattle.std.proofs.lemmas.List.{length-map}
use Rattle.ada_tree.specs.Trees.{program_of, unit_of}
use Rattle.arrivals_tree.specs.Arriving.{arrivals_of}
use Rattle.ceil_runtime.specs.Gathering.{AllThreads}
use Rattle.task_runtime.specs.Libraries.{handed, no_costs, handed_threads}
use Rattle.ceil_runtime.specs.Starts.{CanStart, opened, system_for}
use Rattle.task_runtime.specs.Written.{system_of, thread_of}
use Rattle.arrivals_tree.specs.Arrived.{horizon_limit}
use Rattle.law_ceilings.specs.Premises.{MayExclude}
use Rattle.law_ceilings.proofs.Shared.Programs.{may-exclude}
use Rattle.ceil_runtime.proofs.Openings.{can-start, near-horizon, opened-all}
use Rattle.task_runtime.proofs.Shared.Runnable.{whole}
use Rattle.ceil_runtime.proofs.Started.{start-alike}
use Rattle.ceil_runtime.proofs.processor.Machine.new.Goals as goal

pub threads_in-requires : goal.threads_in-requires
threads_in-requires c =
    let few = (whole (program_of c.args.program.now) c.requires.meets).1 in
    omega (arith, few, length-map c.args.program.now.units.items unit_of, ap length c.as_slice-units.ensures.value)

pub open-requires-clause-few : goal.open-requires-clause-few
open-requires-clause-few c =
    let few = (whole (program_of c.args.program.now) c.requires.meets).1 in
    omega (
      arith,
      few,
      length-map c.args.program.now.units.items unit_of,
      ap length c.as_slice-units.ensures.value,
      ap length
          c.as_slice.ensures.value,
      c.in_ok-threads.ensures.few,
    )

pub open-requires-clause-known : goal.open-requires-clause-known
open-requires-clause-known c =
    let few = (whole (program_of c.args.program.now) c.requires.meets).1 in
    omega (arith, few, length-map c.args.program.now.units.items unit_of, ap length c.as_slice-units.ensures.value)

pub open-requires-clause-near : goal.open-requires-clause-near
open-requires-clause-near c = let near = near-horizon (program_of c.args.program.now) (arrivals_of c.args.arrivals.now) c.requires
    in omega (arith, near)

pub open-requires-clause-ticking : goal.open-requires-clause-ticking
open-requires-clause-ticking c = (whole (program_of c.args.program.now) c.requires.meets).0

pub open-requires-clause-start : goal.open-requires-clause-start
open-requires-clause-start c =
    subst (AllThreads (CanStart _)) (sym c.as_slice.ensures.value)
    (can-start (program_of c.args.program.now) (arrivals_of c.args.arrivals.now) c.requires _ _
    (ap (λ ws. (handed ws).work) c.as_slice-work.ensures.value) (ap (map unit_of) c.as_slice-units.ensures.value) _ c.in_ok-threads.ensures.each)

pub returns-clause-opens : goal.returns-clause-opens
returns-clause-opens c =
    c.in_ok-machine.ensures.opens
    ∙ ap (λ xs. opened c.args.arrivals.now.until c.args.program.now.costs c.as_slice-units.result.now xs c.as_slice.result.now)
    c.as_slice-2.ensures.value
    ∙ opened-all (program_of c.args.program.now) (arrivals_of c.args.arrivals.now) c.requires _ _ (ap (map unit_of) c.as_slice-units.ensures.value)
    (ap (map thread_of) c.as_slice.ensures.value ∙ c.in_ok-threads.ensures.all ∙ ap
    (λ ws. handed_threads ws 0 (map unit_of c.as_slice-units.result.now)) c.as_slice-work.ensures.value ∙ ap
    (λ us. handed_threads c.args.arrivals.now.work.items 0 (map unit_of us)) c.as_slice-units.ensures.value)

pub open-requires-clause-alike : goal.open-requires-clause-alike
open-requires-clause-alike c =
    subst (λ ths. AllThreads (λ t. system_of t ≡ system_for 0 no_costs c.as_slice-units.result.now ths) ths) (sym c.as_slice.ensures.value)
    (start-alike c.as_slice-work.result.now c.as_slice-units.result.now _ c.in_ok-threads.ensures.all c.in_ok-threads.ensures.each)

pub open-requires-clause-excludes : goal.open-requires-clause-excludes
open-requires-clause-excludes c =
    let p = program_of c.args.program.now in
    let a = arrivals_of c.args.arrivals.now in
    let same = opened-all p a c.requires _ _ (ap (map unit_of) c.as_slice-units.ensures.value)
    (ap (map thread_of) c.as_slice.ensures.value ∙ c.in_ok-threads.ensures.all ∙ ap
    (λ ws. handed_threads ws 0 (map unit_of c.as_slice-units.result.now)) c.as_slice-work.ensures.value ∙ ap
    (λ us. handed_threads c.args.arrivals.now.work.items 0 (map unit_of us)) c.as_slice-units.ensures.value) in
    subst (λ as'. MayExclude (system_for c.args.arrivals.now.until c.args.program.now.costs c.as_slice-units.result.now c.as_slice.result.now) as')
    (sym c.as_slice-2.ensures.value)
    (subst (λ y. MayExclude y a.items) (sym (ap (λ r. r.system) same)) (may-exclude p c.requires.meets horizon_limit a c.requires.accepted))
