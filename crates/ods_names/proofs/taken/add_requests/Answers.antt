use Rattle.std.proofs.Common.{[], sym}
use Rattle.ods_index.specs.Walking.{object_of}
use Rattle.ods_names.proofs.TakenSteps.{request_step, requests_end}
use Rattle.ods_names.proofs.taken.add_requests.Goals as goal

pub provides-preserved : goal.provides-preserved
provides-preserved c = λ p n.
    request_step (object_of c.args.node.now) c.args.provides.now c.provides.provided-index c.provided-item.result c.args.place p n
    c.is_request-wanted.result _ _ _
    c.provides-test.true c.provided-item.is c.is_request-wanted.ensures (rw (sym c.bytes.ensures.bytes) (c.in_ok-add_where.ensures p 0 [] n))
    (c.provides.invariant p n)

pub returns : goal.returns
returns c = λ p n. requests_end (object_of c.args.node.now) c.args.provides.now c.provides.provided-index c.args.place p n c.provides-test.false
    (c.provides.invariant p n)
