use Rattle.std.proofs.Common.{◌≡◌, ◌-◌, suc, ◌++◌, ◌∷◌, [], map, drop, ap, sym, subst, ◌∙◌, arith}
use Rattle.std.proofs.lemmas.List.{length-map, map-append}
use Rattle.seq_tree.specs.Lists.{first_from}
use Rattle.seq_tree.specs.Names.{same_name}
use Rattle.seq_tree.specs.Trees.{operation_of}
use Rattle.name_sets.specs.Tables.{named}
use Rattle.linker.specs.Callees.{IsFound, OpBody, body_of}
use Rattle.linker.proofs.Entering.{adds_none, adds_one, found_none, found_on}
use Rattle.linker.proofs.tables.add_ops.Goals as goal

pub ops-init : goal.ops-init
ops-init c =
    let bs = map body_of c.args.bodies.now.items in record {
      within = omega arith;
      more = adds_none bs;
      found = λ n. found_none bs c.args.object c.args.vars.now n c.args.ops.now (named c.new-table.result n) (c.new-table.ensures n);
    }

pub ops-preserved : goal.ops-preserved
ops-preserved c =
    let i = c.ops.invariant in
    let a = c.args in
    let op = c.index-ops-at.result in
    let at = c.ops.at - 1 in
    let bs = map body_of c.ops.bodies.items in
    let again : c.ops.at ≡ suc at = omega (arith, c.ops-test.true) in
    let grown = ap (map body_of) c.in_ok-push.ensures.items ∙ map-append body_of c.ops.bodies.items _
    ∙ ap (λ w. bs ++ (let b : OpBody = record { owner = w; vars = a.vars.now; op = operation_of op } in b) ∷ []) c.owner_of-owner.ensures in
    record {
      within = omega (arith, i.within);
      more = adds_one (map body_of a.bodies.now.items) bs _ _ i.more grown;
      found = λ n. found_on bs _ a.object a.vars.now n (named c.ops.table n) _ _ a.ops.now op at (omega (arith, i.within, c.ops-test.true))
          c.index-ops-at.is grown (c.in_ok-put.ensures.put n) c.as_slice-params.ensures.value
          (c.in_ok-place.ensures ∙ c.len.ensures ∙ c.ops.bodies.ok.0 ∙ sym (length-map c.ops.bodies.items body_of))
          (subst (λ k. IsFound bs a.object a.vars.now (named c.ops.table n)
          (first_from k (λ o. same_name o.sig.name n) (map operation_of (drop k a.ops.now)))) again (i.found n));
    }
