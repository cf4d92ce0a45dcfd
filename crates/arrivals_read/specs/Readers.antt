-- Reading a text of arrivals, one production after another.
-- The format is this project's own.
use Rattle.std.specs.Prelude.{ℕ, suc, List, [], ◌∷◌, length, Option, Some, None, Ok, Err, codes}
use Rattle.grammar.specs.Reading.{Read, Syntax, then_at, pure_at, choose_at, many_at}
use Rattle.seq_tree.specs.declared.token.Token.{Token}
use Rattle.seq_tree.specs.declared.token.Token.TheVariants.{Word, Sign}
use Rattle.seq_tree.specs.declared.token.Mark.TheVariants.{Comma, Semicolon}
use Rattle.token_read.specs.Readers.{fixed_at, number_at, word_at, next_is, next_is_number}
use Rattle.arrivals_tree.specs.ArrivalTexts.{ArrivalText, WorkText, AtText}

-- a further duration
unfoldable pub other_at : List Token → Read Token ℕ
other_at = then_at (fixed_at (Sign Comma)) (λ _. number_at)

-- further durations
unfoldable pub others_at : List Token → Read Token (List ℕ)
others_at = many_at (next_is (Sign Comma)) other_at

-- durations for a task
unfoldable pub work_at : List Token → Read Token WorkText
work_at =
    then_at (fixed_at (Word (codes "work"))) (λ _. then_at word_at (λ name. then_at number_at (λ first. then_at others_at (λ others.
    then_at (fixed_at (Sign Semicolon)) (λ _. pure_at (record { name = name; first = first; others = others }))))))

-- all durations
unfoldable pub works_at : List Token → Read Token (List WorkText)
works_at = many_at (next_is (Word (codes "work"))) work_at

-- a value, and the end of a request
unfoldable pub some_at : List Token → Read Token (Option ℕ)
some_at = then_at number_at (λ n. then_at (fixed_at (Sign Semicolon)) (λ _. pure_at (Some n)))

-- the end of a request without a value
unfoldable pub none_at : List Token → Read Token (Option ℕ)
none_at = then_at (fixed_at (Sign Semicolon)) (λ _. pure_at None)

-- a value, where there is one, and the end of a request
unfoldable pub value_at : List Token → Read Token (Option ℕ)
value_at = choose_at next_is_number some_at none_at

-- a request from outside
unfoldable pub request_at : List Token → Read Token AtText
request_at =
    then_at (fixed_at (Word (codes "at"))) (λ _. then_at number_at (λ time. then_at word_at (λ name. then_at value_at (λ value.
    pure_at (record { time = time; name = name; value = value })))))

-- all requests from outside
unfoldable pub requests_at : List Token → Read Token (List AtText)
requests_at = many_at (next_is (Word (codes "at"))) request_at

-- a horizon
unfoldable pub until_at : List Token → Read Token ℕ
until_at =
    then_at (fixed_at (Word (codes "until"))) (λ _. then_at number_at (λ n. then_at (fixed_at (Sign Semicolon)) (λ _. pure_at n)))

-- the end of the text
unfoldable pub end_at : List Token → Read Token (Unit {0})
end_at [] = Ok (tt, [])
end_at (t ∷ ts) = Err (Syntax (suc (length ts)))

-- arrivals, and the end of the text
unfoldable pub arrivals_at : List Token → Read Token ArrivalText
arrivals_at =
    then_at until_at (λ until. then_at works_at (λ works. then_at requests_at (λ requests. then_at end_at (λ _.
    pure_at (record { until = until; works = works; requests = requests })))))
