-- Readers of single tokens and of phrases have no limits.
use Rattle.std.proofs.Common.{ℕ, Bool, List, [], ◌∷◌, Option}
use Rattle.grammar.specs.Reading.{Widens}
use Rattle.grammar.proofs.Shared.Widening.{widens-token, widens-pure, widens-then}
use Rattle.seq_tree.specs.Names.{Name}
use Rattle.seq_tree.specs.declared.token.Token.{Token}
use Rattle.token_read.specs.Readers.{fixed_at, sees_fixed, phrase_at, number_at, sees_number, name_at, sees_name}
use Rattle.seq_read.specs.Parts.{sees_by, named_at}

pub widens-fixed : {n : ℕ} (u : Token) → Widens n (fixed_at u) (fixed_at u)
unfolding fixed_at
widens-fixed {n} u = widens-token n (sees_fixed u)

pub widens-phrase : {n : ℕ} (us : List Token) → Widens n (phrase_at us) (phrase_at us)
widens-phrase {n} [] = widens-pure n tt
widens-phrase {n} (u ∷ us) = widens-then (widens-fixed u) (λ _. widens-phrase us)

pub widens-number : {n : ℕ} → Widens n number_at number_at
unfolding number_at
widens-number {n} = widens-token n sees_number

pub widens-name : {n : ℕ} (is_name : Name → Bool) → Widens n (name_at is_name) (name_at is_name)
unfolding name_at
widens-name {n} is_name = widens-token n (sees_name is_name)

pub widens-named : {A : Type 0} {n : ℕ} (named : Name → Option A) → Widens n (named_at named) (named_at named)
unfolding named_at
widens-named {n = n} named = widens-token n (sees_by named)
