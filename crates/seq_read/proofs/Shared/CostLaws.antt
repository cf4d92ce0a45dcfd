-- The reader of the costs of all kinds of statements reads its grammar, however one cost is spelled and read.
use Rattle.std.proofs.Common.{◌≡◌, ℕ, List, [], ◌++◌, refl, sym, subst}
use Rattle.grammar.specs.Reading.{Read, then_at, pure_at, Reads}
use Rattle.grammar.proofs.Shared.Laws.{reads-same, reads-pure, joins-part}
use Rattle.seq_tree.specs.declared.tree.Costs.{Costs}
use Rattle.seq_tree.specs.declared.token.Token.{Token}
use Rattle.token_read.proofs.Shared.TokenLaws.{Any, andthen}

-- by what names a kind of statement
module _ {K : Type 0} (spell : K → ℕ → List Token) (assign test turn call nothing put finish : K) where
  abbrev pub all_costs : Costs → List Token
  all_costs c =
      spell assign c.assign ++ (spell test c.test ++ (spell turn c.turn ++ (spell call c.call
      ++ (spell nothing c.nothing ++ (spell put c.put ++ (spell finish c.finish ++ []))))))

  abbrev pub AreCosts : Costs → List Token → Type 0
  AreCosts c text = text ≡ all_costs c

  costs_to : (assign test turn call nothing put finish : ℕ) (c : Costs)
      → c ≡ record { assign = assign; test = test; turn = turn; call = call; nothing = nothing; put = put; finish = finish } →
      (text : List Token) → AreCosts (record { assign = assign; test = test; turn = turn; call = call; nothing = nothing; put = put; finish = finish })
      text → AreCosts c text
  costs_to assign test turn call nothing put finish c e text h = let P : Costs → Type 0 = λ d. AreCosts d text in subst P (sym e) h

  module _ (cost_at : K → List Token → Read Token ℕ) (one : (k : K) → Reads (λ n text. text ≡ spell k n) Any (cost_at k)) where
    -- the costs of all kinds of statements, in their order
    abbrev pub all_costs_at : List Token → Read Token Costs
    all_costs_at =
        then_at (cost_at assign) (λ a. then_at (cost_at test) (λ b. then_at (cost_at turn) (λ c. then_at (cost_at call) (λ d.
        then_at (cost_at nothing) (λ e. then_at (cost_at put) (λ f. then_at (cost_at finish) (λ g.
        pure_at (record { assign = a; test = b; turn = c; call = d; nothing = e; put = f; finish = g }))))))))

    pub reads-all_costs : Reads AreCosts Any all_costs_at
    reads-all_costs = reads-same _ AreCosts Any all_costs_at
        (λ c text g1.
        let g2 = g1.after in let g3 = g2.after in let g4 = g3.after in let g5 = g4.after in let g6 = g5.after in let g7 = g6.after in
        costs_to g1.a g2.a g3.a g4.a g5.a g6.a g7.a c g7.after.0 text
        (rw (
          g1.whole,
          g1.before,
          g2.whole,
          g2.before,
          g3.whole,
          g3.before,
          g4.whole,
          g4.before,
          g5.whole,
          g5.before,
          g6.whole,
          g6.before,
          g7.whole,
          g7.before,
          g7.after.1,
        ) (refl {a = all_costs (record { assign = g1.a; test = g2.a; turn = g3.a; call = g4.a; nothing = g5.a; put = g6.a; finish = g7.a })})))
        (λ c text h.
        rw h (joins-part _ c.assign (spell assign c.assign) c _ refl (joins-part _ c.test (spell test c.test) c _ refl
        (joins-part _ c.turn (spell turn c.turn) c _ refl (joins-part _ c.call (spell call c.call) c _ refl
        (joins-part _ c.nothing (spell nothing c.nothing) c _ refl (joins-part _ c.put (spell put c.put) c _ refl
        (joins-part _ c.finish (spell finish c.finish) c [] refl (refl, refl)))))))))
        (andthen (one assign) (λ a. andthen (one test) (λ b. andthen (one turn) (λ c. andthen (one call) (λ d.
        andthen (one nothing) (λ e. andthen (one put) (λ f. andthen (one finish) (λ g.
        reads-pure Any (record { assign = a; test = b; turn = c; call = d; nothing = e; put = f; finish = g }) (λ _. tt)))))))))
