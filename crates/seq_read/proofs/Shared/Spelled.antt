-- The law of lists whose items are each spelled in one way.
use Rattle.std.proofs.Common.{◌≡◌, ◌<◌, Bool, true, false, List, [], ◌∷◌, ◌++◌, length, Option, None, flat_map, refl}
use Rattle.grammar.specs.Reading.{Read, first, many_at, Reads, AreMany}
use Rattle.grammar.proofs.Shared.Laws.{reads-same}
use Rattle.grammar.proofs.Shared.Many.{reads-items}
use Rattle.seq_tree.specs.Lists.{Each}
use Rattle.seq_tree.specs.declared.token.Token.{Token}
use Rattle.token_read.proofs.Shared.TokenLaws.{Any}

-- what is spelled in one way, where it is proper
abbrev pub IsSpelled : {A : Type 0} → (A → Type 0) → (A → List Token) → A → List Token → Type 0
IsSpelled P spell a text = P a × (text ≡ spell a)

abbrev pub AreSpelled : {A : Type 0} → (A → Type 0) → (A → List Token) → List A → List Token → Type 0
AreSpelled P spell xs text = Each P xs × (text ≡ flat_map spell xs)

-- as many as there are, each spelled in one way
module _ {A : Type 0} (P : A → Type 0) (spell : A → List Token) (test : Option Token → Bool) (r : List Token
    → Read Token A) (one : Reads (IsSpelled P spell) Any r)
    (starts : (a : A) (rest : List Token) → P a → test (first (spell a ++ rest)) ≡ true) (grows : (a : A)
    → 0 < length (spell a)) (ends : test None ≡ false) where
  each_to : (xs : List A) (text : List Token) → AreMany (IsSpelled P spell) xs text → AreSpelled P spell xs text
  each_to [] text g = (tt, g)
  each_to (x ∷ xs) text g = let h = each_to xs g.1 g.3 in ((g.2.0, h.0), rw (g.4, g.2.1, h.1) refl)

  each_back : (xs : List A) (text : List Token) → AreSpelled P spell xs text → AreMany (IsSpelled P spell) xs text
  each_back [] text h = h.1
  each_back (x ∷ xs) text h = (spell x, flat_map spell xs, (h.0.0, refl), each_back xs (flat_map spell xs) (h.0.1, refl), h.1)

  pub reads-spelled : Reads (AreSpelled P spell) (λ xs o. test o ≡ false) (many_at test r)
  reads-spelled = reads-same (AreMany (IsSpelled P spell)) (AreSpelled P spell) (λ xs o. test o ≡ false) (many_at test r) each_to each_back
      (reads-items test (IsSpelled P spell) r one (λ a text rest g. rw g.1 (starts a rest g.0)) (λ a text g. rw g.1 (grows a)) ends)
