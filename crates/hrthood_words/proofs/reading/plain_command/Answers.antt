use Rattle.std.proofs.Common.{rules, ◌≡◌, None, string_bytes, sym}
use Rattle.hrthood_words.proofs.WordCounts.{alone-none, crowded-none}
use Rattle.hrthood_words.proofs.reading.plain_command.Goals as goal

pub returns-in_err-first-clause-command : goal.returns-in_err-first-clause-command
returns-in_err-first-clause-command c =
    let result : c.from_residual-in_err-first.result ≡ None = search rules in
    rw result (sym (alone-none string_bytes c.args.words.now c.in_ok-verb.verb.now c.in_ok-verb.words.now (search rules) (search rules)))

pub returns-in-Some-split_first-clause-command : goal.returns-in-Some-split_first-clause-command
returns-in-Some-split_first-clause-command c =
    let third = c.in-Some-split_first.field-0 in
    sym (crowded-none string_bytes c.args.words.now c.in_ok-verb.verb.now c.in_ok-first.first.now c.in-Some.second.now third.0.now
    c.in_ok-verb.words.now c.in_ok-first.words.now c.in-Some.words.now third.1.now
    (search rules) (search rules) (search rules) (search rules) (search rules))
