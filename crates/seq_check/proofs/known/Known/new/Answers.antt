use Rattle.std.proofs.Common.{◌&&◌, map, refl}
use Rattle.std.specs.List.{list_any}
use Rattle.name_sets.specs.Sets.{has}
use Rattle.seq_tree.specs.Names.{is_named, same_name}
use Rattle.seq_tree.specs.Operations.{is_out, out_names}
use Rattle.seq_check.proofs.NameLaws.{filled_twice, outs_named}
use Rattle.seq_check.proofs.known.Known.new.Goals as goal

pub invariant_of-result : goal.invariant_of-result
invariant_of-result c = record {
  readable = λ n.
      filled_twice (map (λ q. q.name) c.args.params.now) (map (λ d. d.name) c.args.locals.now) n (has c.new-reads.result n)
      (has c.add_params.new.set n) (has c.add_vars.new.set n)
      (is_named (map (λ q. q.name) c.args.params.now) n) (c.new-reads.ensures n) refl (c.in_ok-add_params.ensures n) (c.in_ok-add_vars.ensures n);
  writable = λ n.
      filled_twice (out_names c.args.params.now) (map (λ d. d.name) c.args.locals.now) n (has c.new-writes.result n) (has c.add_outs.new.set n)
      (has c.add_vars-2.new.set n)
      (list_any (λ q. is_out q.mode && same_name q.name n) c.args.params.now) (c.new-writes.ensures n) (outs_named c.args.params.now
      n) (c.in_ok-add_outs.ensures n) (c.in_ok-add_vars-2.ensures n);
}
