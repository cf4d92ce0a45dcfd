use Rattle.std.proofs.Common.{◌≡◌, ◌<◌, nat_lt, false, None, Some, length, slice_get, option_map, ap, sym, ◌∙◌, arith}
use Rattle.std.proofs.lemmas.Bool.{le-ltb}
use Rattle.std.proofs.lemmas.Option.{slice_get_within}
use Rattle.std.proofs.lemmas.List.{get_or_default}
use Rattle.ada_tree.specs.Trees.{program_of, unit_of}
use Rattle.arrivals_tree.specs.Acceptance.{nominal, earlier_times, last_time}
use Rattle.arrivals_read.specs.Checked.{separation_at}
use Rattle.arrivals_read.proofs.Checking.{before_of, fault-none, last-added, nominals-added}
use Rattle.arrivals_read.proofs.checks.Seen.note.Goals as goal

pub returns-clause-notes : goal.returns-clause-notes
returns-clause-notes c = λ earlier is.
    let p = program_of c.args.units.now.program.now in
    let a = c.args.arrival in
    let u = unit_of c.in-Some.unit.now in
    let nominals = c.args.self.now.nominals.items in
    let before = c.index.result.now in
    let at : slice_get p.units a.task ≡ Some u = sym c.unit.ensures ∙ ap (option_map (λ v. unit_of v.now)) c.in-Some.is in
    let within : a.task < length p.units = slice_get_within p.units a.task u at in
    let here : before ≡ before_of u.form earlier a =
    c.index.ensures ∙ get_or_default nominals a.task before None (omega (arith, within, c.requires.sized.0)) ∙ is.1 a.task within ∙ ap
    (λ o. nominal (separation_at o) None (earlier_times a.task earlier)) at in
    let later : nat_lt a.time (last_time earlier) ≡ false
    = ap (nat_lt a.time) (sym is.0) ∙ le-ltb a.time c.args.self.now.last c.if-arrival-self.false in
    let found = fault-none p earlier a u before c.in_ok-next.next later at here c.in_ok-next.ensures.judges in
    (found.0, (sym (last-added earlier a), nominals-added p earlier a u c.in_ok-next.next nominals c.requires.sized.0 at is.1 found.1 within))
