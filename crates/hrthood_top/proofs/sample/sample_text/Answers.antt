use Rattle.std.proofs.Common.{ℕ, ◌∙◌, Vec, Global}
use Rattle.ada_tree.specs.Trees.{program_of}
use Rattle.arrivals_tree.specs.Arriving.{arrivals_of}
use Rattle.ceil_runtime.specs.Shown.{running_of}
use Rattle.hrthood_top.proofs.ReplayLaws.{few-units}
use Rattle.hrthood_top.proofs.Summed.{is-summed, sample-arrives, sample-delivered}
use Rattle.hrthood_top.proofs.sample.sample_text.Goals as goal

pub deliver_text-requires : goal.deliver_text-requires
deliver_text-requires c = sample-delivered c.args.threads c.deref.result.now c.requires.0 c.requires.1
    (c.deref.ensures.value ∙ c.in_ok-texts.ensures.design)

pub read_accepted-requires-clause-few : goal.read_accepted-requires-clause-few
read_accepted-requires-clause-few c = few-units (program_of c.in_ok-program.program) c.in_ok-program.ensures.meets

pub read_accepted-requires-clause-says : goal.read_accepted-requires-clause-says
read_accepted-requires-clause-says c =
    sample-arrives c.args.threads c.deref.result.now c.deref-3.result.now c.in_ok-delivery.delivery.text.items
    (program_of c.in_ok-program.program) c.requires.0 c.requires.1
    (c.deref.ensures.value ∙ c.in_ok-texts.ensures.design) (c.deref-3.ensures.value ∙ c.in_ok-texts.ensures.arrivals) c.in_ok-delivery.ensures.whole
    (rw c.deref-2.ensures.value at c.in_ok-program.ensures.says)

pub returns : goal.returns
returns c =
    is-summed (λ (v : Vec ℕ Global). v.items) c.args.threads c.deref.result.now c.deref-3.result.now c.deref-2.result.now c.deref-4.result.now
    c.in_ok-delivery.delivery
    (program_of c.in_ok-program.program) (arrivals_of c.in_ok-under.under) (running_of c.in_ok-machine.machine) _ c.text.result
    (c.deref.ensures.value ∙ c.in_ok-texts.ensures.design) (c.deref-3.ensures.value ∙ c.in_ok-texts.ensures.arrivals) c.in_ok-delivery.ensures
    c.deref-2.ensures.value c.deref-4.ensures.value
    c.in_ok-program.ensures.says c.in_ok-under.ensures c.in_ok-machine.ensures.opens c.in_ok-summary.ensures c.text.ensures
