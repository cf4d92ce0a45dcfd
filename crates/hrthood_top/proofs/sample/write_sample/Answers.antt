use Rattle.std.proofs.Common.{ℕ, Vec, Global}
use Rattle.hrthood_top.proofs.Summed.{sample-ends, summary-ends}
use Rattle.hrthood_top.proofs.sample.write_sample.Goals as goal

pub returns-clause-ends : goal.returns-clause-ends
returns-clause-ends g c =
    sample-ends (λ (v : Vec ℕ Global). v.items) c.args.threads _ c.sample_text.result _ _ _ _ _ _ _ _ c.sample_text.ensures c.finish_text.ensures

pub returns-clause-summed : goal.returns-clause-summed
returns-clause-summed g c =
    summary-ends (λ (v : Vec ℕ Global). v.items) c.args.threads _ c.sample_text.result _ _ _ _ _ _ _ _ c.sample_text.ensures c.finish_text.ensures
