-- Examples: what is said of a text without tokens, and of one with a byte that begins none.
use Rattle.std.specs.Prelude.{◌≡◌, List, [], length, Ok, Err, codes, refl}
use Rattle.std.proofs.Common.{sym, ap, ◌∙◌, arith, lit≤}
use Rattle.grammar.specs.Reading.{Syntax, whole_at}
use Rattle.seq_tree.specs.Reach as reach
use Rattle.seq_tree.specs.Lexis.{tokens, tokens_after, front_by, start_of, name_front, number_front, longest, Stray}
use Rattle.seq_tree.specs.Marks.{mark_of}
use Rattle.seq_tree.specs.declared.token.Place.{Place}
use Rattle.seq_tree.specs.declared.token.Spanned.{Spanned}
use Rattle.seq_tree.specs.declared.text_fault.TextFault.TheVariants as fault
use Rattle.seq_read.specs.Places.{place_at}
use Rattle.token_read.specs.Readers.{fixed_at}
use Rattle.token_read.specs.Words.{bare}
use Rattle.ods_read.specs.DesignReaders.{design_with, design_at}
use Rattle.seq_read.specs.TextFaults.{IsMisread}
use Rattle.ods_read.specs.Answers.{IsFaultyAt, Says}
use Rattle.ods_read.proofs.Shared.ReadingLaws.{faulty-at}

-- the first place of a text
abbrev start : Place
start = record { line = 1; column = 1 }

stray : IsMisread 1048576 (codes "?") (Stray start)
unfolding tokens tokens_after front_by start_of name_front number_front longest mark_of
stray = (lit≤ tt, refl)

no_tokens : tokens [] ≡ Ok []
unfolding tokens tokens_after
no_tokens = refl

not_stray : IsMisread 1048576 [] (Stray start) → ⊥
not_stray h = let no : Ok [] ≡ Err (Stray start) = sym no_tokens ∙ h.1 in cc

-- without a token nothing is read
nothing_read : whole_at design_at [] ≡ Err (Syntax 0)
unfolding design_with fixed_at
nothing_read = refl

faulty : IsFaultyAt [] (place_at [] [] 0) reach.Syntax
faulty = faulty-at [] [] 0 (place_at [] [] 0) (lit≤ tt) no_tokens nothing_read refl

-- and nothing is too deep
not_deep : (place : Place) → IsFaultyAt [] place reach.TooDeep → ⊥
not_deep place h =
    let same : h.found ≡ [] = (let e : Ok h.found ≡ Ok [] = sym h.read ∙ no_tokens in cc) in
    let within = h.fault.goes_on.1.within in
    let less = h.fault.goes_on.2 in
    omega (arith, within, less, ap (λ (ts : List Spanned). length (bare ts)) same)

said : Says [] (Err (fault.Syntax (place_at [] [] 0)))
said = faulty

not_said : Says [] (Err fault.FileTooLong) → ⊥
not_said h = omega (arith, h)
