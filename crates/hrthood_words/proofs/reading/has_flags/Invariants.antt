use Rattle.std.proofs.Common.{◌≡◌, map, drop, string_bytes, not}
use Rattle.std.specs.List.{list_any}
use Rattle.hrthood_words.specs.Words.{is_file_name}
use Rattle.hrthood_words.proofs.reading.has_flags.Given as goal

-- it is up to those that are left
abbrev pub invariant-words : goal.invariant-words
invariant-words l = list_any (λ word. not (is_file_name word)) (map string_bytes (drop l.word-index l.words))
    ≡ list_any (λ word. not (is_file_name word)) (map string_bytes l.words)
