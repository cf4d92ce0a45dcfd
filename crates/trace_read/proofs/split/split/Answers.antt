use Rattle.std.proofs.Common.{◌∷◌, ◌∙◌, sym, ap}
use Rattle.law_traces.specs.Cuts.{cut}
use Rattle.trace_read.proofs.Splitting.{split-step, split-found, split-last}
use Rattle.trace_read.proofs.split.split.Goals as goal

pub bytes-preserved : goal.bytes-preserved
bytes-preserved c =
    let s = split-step c.args.by c.in-Some.first.now c.in-Some.rest.now c.bytes.len c.args.bytes.now
    (sym c.in-Some.ensures.cases.0 ∙ c.bytes.invariant.left) c.bytes.invariant.lacks c.if-first-by.false in
    record { within = s.0; left = s.1; lacks = s.2 }

pub returns-then-first-by : goal.returns-then-first-by
returns-then-first-by c =
    split-found c.args.by c.in-Some.first.now c.in-Some.rest.now c.bytes.len c.args.bytes.now
    (sym c.in-Some.ensures.cases.0 ∙ c.bytes.invariant.left) c.bytes.invariant.lacks c.if-first-by.true
    ∙ ap (λ z. z ∷ cut c.args.by c.in-Some.rest.now) (sym c.split_at.ensures.front)

pub returns : goal.returns
returns c = split-last c.args.by c.bytes.len c.args.bytes.now c.bytes.left.now c.in_default.ensures.cases c.bytes.invariant.left c.bytes.invariant.lacks
