use Rattle.std.proofs.Common.{rules, ◌≡◌, ◌∙◌, None, codes, refl, sym}
use Rattle.clap.specs.Words.{first_value, found_of}
use Rattle.hrthood_words.proofs.ParserLaws.{same-words}
use Rattle.hrthood_words.proofs.WordCounts.{unfound-none}
use Rattle.hrthood_words.proofs.reading.given_command.Goals as goal

pub returns-in_err-first-clause-command : goal.returns-in_err-first-clause-command
returns-in_err-first-clause-command c =
    let result : c.from_residual.result ≡ None = search rules in
    let none : first_value (found_of c.args.words.now) (codes "first") ≡ None = search rules in
    rw result (sym (unfound-none c.args.verb.now (first_value (found_of c.args.words.now) (codes "first"))
    (first_value (found_of c.args.words.now) (codes "second")) (first_value (found_of c.args.words.now) (codes "third")) none))

pub returns-in_default-clause-command : goal.returns-in_default-clause-command
returns-in_default-clause-command c =
    c.verb_command.ensures.command ∙ same-words c.args.verb.now c.in_ok-first.ensures c.in_default.ensures refl

pub returns-in-None-clause-command : goal.returns-in-None-clause-command
returns-in-None-clause-command c =
    c.verb_command-in-None.ensures.command ∙ same-words c.args.verb.now c.in_ok-first.ensures c.in-Some.ensures c.in-None.ensures

pub returns-in-Some-get_str-clause-command : goal.returns-in-Some-get_str-clause-command
returns-in-Some-get_str-clause-command c =
    c.verb_command-in-Some-get_str.ensures.command
    ∙ same-words c.args.verb.now c.in_ok-first.ensures c.in-Some.ensures c.in-Some-get_str.ensures
