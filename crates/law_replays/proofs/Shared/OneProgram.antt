-- A text is accepted as one program.
-- The reader of programs finds the program of each text; so two programs of one text are what it finds.
use Rattle.std.specs.Prelude.{◌≡◌, ℕ, List, [], ◌++◌, Ok, refl}
use Rattle.std.proofs.Common.{sym, ◌∙◌, ap}
use Rattle.seq_tree.specs.declared.token.Token.{Token}
use Rattle.ada_tree.specs.Programs.{Program}
use Rattle.ada_tree.specs.Reading.{Accepts}
use Rattle.ada_tree.specs.Spelling.{program_tokens}
use Rattle.ada_read.specs.Answers.{IsTextOf}
use Rattle.ada_read.specs.Readers.{ada_block_at, program_at}
use Rattle.ada_read.proofs.Shared.ReadingLaws.{reads-ada}
use Rattle.law_replays.proofs.Answered.{ok_same}

-- the program that is found in tokens
found : (p : Program) (ts : List Token) → IsTextOf p ts → program_at ada_block_at (ts ++ []) ≡ Ok (p, [])
found p ts text = reads-ada.complete p ts [] text tt

pub one_program : (text : List ℕ) (p q : Program) → Accepts text p → Accepts text q → p ≡ q
one_program text p q p_reads q_reads =
    let ts : List Token = program_tokens p in
    let same : ts ≡ program_tokens q = ok_same _ _ (sym p_reads.reads.spelled ∙ q_reads.reads.spelled) in
    let first : program_at ada_block_at (ts ++ []) ≡ Ok (p, []) = found p ts (record { proper = p_reads.reads.proper; spelled = refl }) in
    let second : program_at ada_block_at (ts ++ []) ≡ Ok (q, []) = found q ts (record { proper = q_reads.reads.proper; spelled = same }) in
    ap (λ found. found.0) (ok_same _ _ (sym first ∙ second))
