-- The reader of variables reads its grammar, whichever words are names.
use Rattle.std.proofs.Common.{◌≡◌, ℕ, Bool, true, false, List, [], ◌∷◌, codes, refl, sym, subst, arith}
use Rattle.grammar.specs.Reading.{Reads, Widens}
use Rattle.grammar.proofs.Shared.Laws.{reads-same, reads-pure}
use Rattle.grammar.proofs.Shared.Widening.{widens-pure, widens-then, widens-many}
use Rattle.seq_tree.specs.Names.{Name}
use Rattle.seq_tree.specs.declared.tree.Datum.{Datum}
use Rattle.seq_tree.specs.declared.token.Token.{Token}
use Rattle.seq_tree.specs.declared.token.Token.TheVariants.{Word, Number, Sign}
use Rattle.seq_tree.specs.declared.token.Mark.TheVariants.{Semicolon, Colon, Becomes}
use Rattle.token_read.proofs.Shared.TokenLaws.{Any, andthen, reads-fixed, reads-number, reads-name, joins-fixed, joins-number, joins-name}
use Rattle.seq_read.specs.Statements.{next_is_name}
use Rattle.seq_read.specs.Parts.{datum_at, data_at}
use Rattle.seq_read.proofs.Shared.Takes.{Takes, takes-any, takes-pure, takes-then, takes-many}
use Rattle.seq_read.proofs.Shared.TokenTakes.{any-fixed, takes-number, takes-name}
use Rattle.seq_read.proofs.Shared.Spelled.{IsSpelled, AreSpelled, reads-spelled}
use Rattle.seq_read.proofs.Shared.TokenWidening.{widens-fixed, widens-number, widens-name}

-- a variable and its first value
abbrev pub datum_tokens : Datum → List Token
datum_tokens d = Word d.name ∷ Sign Colon ∷ Word (codes "word") ∷ Sign Becomes ∷ Number d.value ∷ Sign Semicolon ∷ []

module _ (is_name : Name → Bool) where
  abbrev pub IsDatum : Datum → Type 0
  IsDatum d = is_name d.name ≡ true

  pub takes-datum : Takes 1 (datum_at is_name)
  unfolding datum_at
  takes-datum =
      takes-then (takes-name is_name) (λ name. takes-then (any-fixed (Sign Colon))
      (λ _. takes-then (any-fixed (Word (codes "word"))) (λ _. takes-then (any-fixed (Sign Becomes)) (λ _.
      takes-then (takes-any 1 takes-number) (λ n. takes-then (any-fixed (Sign Semicolon)) (λ _. takes-pure (record { name = name; value = n })))))))

  pub takes-data : Takes 0 (data_at is_name)
  unfolding data_at
  takes-data = takes-many (next_is_name is_name) (datum_at is_name) (takes-any 1 takes-datum)

  pub widens-datum : {n : ℕ} → Widens n (datum_at is_name) (datum_at is_name)
  unfolding datum_at
  widens-datum {n} =
      widens-then (widens-name is_name) (λ name. widens-then (widens-fixed (Sign Colon))
      (λ _. widens-then (widens-fixed (Word (codes "word"))) (λ _. widens-then (widens-fixed (Sign Becomes)) (λ _.
      widens-then widens-number (λ k. widens-then (widens-fixed (Sign Semicolon)) (λ _. widens-pure n (record { name = name; value = k })))))))

  pub widens-data : {n : ℕ} → Widens n (data_at is_name) (data_at is_name)
  unfolding data_at
  widens-data = widens-many (next_is_name is_name) widens-datum

  module _ (some : Name) (some_is : is_name some ≡ true) where
    pub reads-datum : Reads (IsSpelled IsDatum datum_tokens) Any (datum_at is_name)
    unfolding datum_at
    reads-datum = reads-same _ (IsSpelled IsDatum datum_tokens) Any (datum_at is_name)
        (λ d text g1.
        let g2 = g1.after in let g3 = g2.after in let g4 = g3.after in let g5 = g4.after in let g6 = g5.after in
        let P : Datum → Type 0 = λ q. IsSpelled IsDatum datum_tokens q text in
        subst P (sym g6.after.0) (
          g1.before.0,
          rw (
            g1.whole,
            g1.before.1,
            g2.whole,
            g2.before,
            g3.whole,
            g3.before,
            g4.whole,
            g4.before,
            g5.whole,
            g5.before,
            g6.whole,
            g6.before,
            g6.after.1,
          ) refl,
        ))
        (λ d text h.
        rw h.1 (joins-name is_name _ d.name d _ h.0
        (joins-fixed _ (Sign Colon) d _ (joins-fixed _ (Word (codes "word")) d _ (joins-fixed _ (Sign Becomes) d _
        (joins-number _ d.value d _ (joins-fixed _ (Sign Semicolon) d [] (refl, refl))))))))
        (andthen (reads-name is_name some some_is) (λ name. andthen (reads-fixed (Sign Colon))
        (λ _. andthen (reads-fixed (Word (codes "word"))) (λ _. andthen (reads-fixed (Sign Becomes)) (λ _.
        andthen reads-number (λ n. andthen (reads-fixed (Sign Semicolon)) (λ _. reads-pure Any (record { name = name; value = n }) (λ _. tt))))))))

    -- as many as there are, to where no name follows
    pub reads-data : Reads (AreSpelled IsDatum datum_tokens) (λ ds o. next_is_name is_name o ≡ false) (data_at is_name)
    unfolding data_at next_is_name
    reads-data = reads-spelled IsDatum datum_tokens (next_is_name is_name) (datum_at is_name) reads-datum (λ d rest h. h) (λ d. omega arith) refl
