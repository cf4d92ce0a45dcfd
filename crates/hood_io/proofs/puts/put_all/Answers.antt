use Rattle.std.proofs.Common.{◌+◌, length, take, drop, List, ℕ, ap, ◌∙◌, arith, subst, length-drop}
use Rattle.std.proofs.lemmas.List.{drop-drop}
use Rattle.hood_io.specs.Sinks.{Appends}
use Rattle.hood_io.proofs.Shared.Appending.{appends-more}
use Rattle.hood_io.proofs.puts.put_all.Goals as goal

pub pieces-preserved : goal.pieces-preserved
pieces-preserved g c =
    let w = c.pieces.invariant.written in
    let count = c.in_ok-count.count in
    let P : List ℕ → Type 0 = λ z. Appends (g.O.Sink.written c.pieces.out) (g.O.Sink.written c.write.new.self) (take count z) in
    record {
      later = omega (arith, c.pieces.invariant.later, c.in_ok-count.ensures.cause.later);
      written = (
        w.0 + count,
        omega (arith, c.in_ok-count.ensures.takes.0, ap length w.2, length-drop w.0 c.args.bytes.now, w.1),
        c.split_at.ensures.back ∙ ap (λ z. drop count z) w.2 ∙ drop-drop count w.0 c.args.bytes.now,
        appends-more _ _ _ _ _ _ w.3 (subst P w.2 c.in_ok-count.ensures.appends),
      );
    }
