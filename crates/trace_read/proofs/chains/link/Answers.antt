use Rattle.std.proofs.Common.{◌≡◌, ◌-◌, ◌<◌, ◌≤◌, ℕ, List, ◌∷◌, drop, length, suc, ap, sym, subst, ◌∙◌, arith}
use Rattle.std.specs.Prelude.{IfSome}
use Rattle.std.proofs.lemmas.List.{length-drop, length-replicate}
use Rattle.trace_tree.specs.declared.event.Event.{Event}
use Rattle.trace_read.specs.Chains.{AreLasts, IsChain, from_out, object_of}
use Rattle.trace_read.specs.Deeds.{from_own, task_of}
use Rattle.trace_read.specs.Telling.{events_in}
use Rattle.trace_read.specs.Texts.{table_program}
use Rattle.trace_read.proofs.Chaining.{lasts-none}
use Rattle.trace_read.proofs.Telling.{object-fits, own-none, out-none, task-fits}
use Rattle.trace_read.proofs.chains.link.Goals as goal

pub lines-init : goal.lines-init
lines-init c =
    let es : List Event = events_in (table_program c.args.table.now) c.args.text.now in
    let count : length es ≡ length c.args.starts.now = sym c.requires.count in
    record {
      at = omega (arith, count);
      next = c.in_ok-nexts.ensures.chain from_own es count own-none;
      exit = c.in_ok-exits.ensures.chain from_out es count out-none;
      last = subst (λ i. AreLasts es i c.in_ok-lasts.lasts.items) count
          (lasts-none es c.count_units-units.result c.in_ok-lasts.lasts.items c.in_ok-lasts.ensures);
      next_wide = c.in_ok-nexts.ensures.wide ∙ c.count_units-units.ensures;
      exit_wide = c.in_ok-exits.ensures.wide ∙ c.count_units-units.ensures;
      last_wide = ap length c.in_ok-lasts.ensures ∙ length-replicate c.count_units-units.result 0 ∙ c.count_units-units.ensures;
    }

pub unreachable-requires : goal.unreachable-requires
unreachable-requires c =
    let es : List Event = events_in (table_program c.args.table.now) c.args.text.now in
    let at : ℕ = c.lines.at - 1 in
    let none : length (drop at es) ≡ 0 = ap length c.in_default.ensures.read in
    let long : length (drop at es) ≡ length es - at = length-drop at es in
    let within : c.lines.at ≤ length es = c.lines.invariant.at in
    omega (arith, none, long, within)

pub note_next-requires-clause-task : goal.note_next-requires-clause-task
note_next-requires-clause-task c =
    subst (λ n. IfSome (task_of c.in-Some.event) (λ t. t < n)) (sym c.lines.invariant.next_wide)
    (task-fits (table_program c.args.table.now) c.in-Some.event c.in-Some.ensures.fits.0)

pub note_next-requires-clause-at : goal.note_next-requires-clause-at
note_next-requires-clause-at c =
    let long = c.lines.invariant.next.long in let within = c.lines.invariant.at in omega (arith, long, within)

pub note_exit-requires-clause-task : goal.note_exit-requires-clause-task
note_exit-requires-clause-task c =
    subst (λ n. IfSome (task_of c.in-Some.event) (λ t. t < n)) (sym c.lines.invariant.exit_wide)
    (task-fits (table_program c.args.table.now) c.in-Some.event c.in-Some.ensures.fits.0)

pub note_exit-requires-clause-at : goal.note_exit-requires-clause-at
note_exit-requires-clause-at c =
    let long = c.lines.invariant.exit.long in let within = c.lines.invariant.at in omega (arith, long, within)

pub note_last-requires-clause-unit : goal.note_last-requires-clause-unit
note_last-requires-clause-unit c =
    subst (λ n. IfSome (object_of c.in-Some.event) (λ u. u < n)) (sym c.lines.invariant.last_wide)
    (object-fits (table_program c.args.table.now) c.in-Some.event c.in-Some.ensures.fits.0)

pub note_last-requires-clause-at : goal.note_last-requires-clause-at
note_last-requires-clause-at c =
    let count = c.requires.count in let few = c.requires.few in let within = c.lines.invariant.at in omega (arith, count, few, within)

pub lines-preserved : goal.lines-preserved
lines-preserved c =
    let es : List Event = events_in (table_program c.args.table.now) c.args.text.now in
    let at : ℕ = c.lines.at - 1 in
    let more : suc at ≡ c.lines.at = omega arith in
    let here : drop at es ≡ c.in-Some.event ∷ drop (suc at) es = c.in-Some.ensures.read in
    record {
      at = (let within = c.lines.invariant.at in omega (arith, within));
      next = c.note_next.ensures.chain es here (subst (λ i. IsChain from_own es i c.lines.nexts) (sym more) c.lines.invariant.next);
      exit = c.note_exit.ensures.chain es here (subst (λ i. IsChain from_out es i c.lines.exits) (sym more) c.lines.invariant.exit);
      last = c.note_last.ensures.lasts es here (subst (λ i. AreLasts es i c.lines.lasts.items) (sym more) c.lines.invariant.last);
      next_wide = c.note_next.ensures.wide ∙ c.lines.invariant.next_wide;
      exit_wide = c.note_exit.ensures.wide ∙ c.lines.invariant.exit_wide;
      last_wide = c.note_last.ensures.wide ∙ c.lines.invariant.last_wide;
    }

pub returns : goal.returns
returns c =
    let es : List Event = events_in (table_program c.args.table.now) c.args.text.now in
    let end : c.lines.at ≡ 0 = omega arith in
    let next : IsChain from_own es 0 c.lines.nexts = subst (λ i. IsChain from_own es i c.lines.nexts) end c.lines.invariant.next in
    let exit : IsChain from_out es 0 c.lines.exits = subst (λ i. IsChain from_out es i c.lines.exits) end c.lines.invariant.exit in
    record {
      nexts = next.leads;
      exits = exit.leads;
      lasts = subst (λ i. AreLasts es i c.lines.lasts.items) end c.lines.invariant.last;
      nexts_long = next.long;
      exits_long = exit.long;
    }
