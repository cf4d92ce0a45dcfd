use Rattle.std.proofs.Common.{◌∙◌, ap}
use Rattle.std.specs.Ordering.{nat_cmp, ordering_then}
use Rattle.std.specs.Cmp.Lexicographic.{slice_cmp}
use Rattle.std.specs.BTreeSet.{contains_by}
use Rattle.ods_names.specs.Keys.{has_key}
use Rattle.ods_names.proofs.keys.Keys.has.Goals as goal

pub returns : goal.returns
unfolding has_key
returns c =
    c.contains.ensures
    ∙ ap (λ e. contains_by (λ k. ordering_then (ordering_then (ordering_then (ordering_then (nat_cmp c.args.place k.0) (nat_cmp c.args.number k.1))
    (nat_cmp e k.2)) (slice_cmp nat_cmp c.args.op.now k.3.now)) (slice_cmp nat_cmp c.args.name.now k.4.now)) c.args.self.now.set)
    c.end_of.ensures
