use Rattle.std.specs.Prelude.{[], ◌∷◌, refl, codes}
use Rattle.ada_tree.specs.Words.{kept_words}
use Rattle.words.proofs.names.kept_with.Goals as goal
use Rattle.words.proofs.FirstBytes.{with-byte}

pub returns-in-97 : goal.returns-in-97
returns-in-97 c = with-byte kept_words 97 c.in-97.is (codes "activation_end" ∷ codes "ada" ∷ []) (λ rest. refl)

pub returns-in-98 : goal.returns-in-98
returns-in-98 c = with-byte kept_words 98 c.in-98.is (codes "boolean" ∷ []) (λ rest. refl)

pub returns-in-102 : goal.returns-in-102
returns-in-102 c = with-byte kept_words 102 c.in-102.is (codes "false" ∷ []) (λ rest. refl)

pub returns-in-104 : goal.returns-in-104
returns-in-104 c = with-byte kept_words 104 c.in-104.is (codes "hrt" ∷ []) (λ rest. refl)

pub returns-in-112 : goal.returns-in-112
returns-in-112 c = with-byte kept_words 112 c.in-112.is (codes "put" ∷ []) (λ rest. refl)

pub returns-in-115 : goal.returns-in-115
returns-in-115 c = with-byte kept_words 115 c.in-115.is (codes "standard" ∷ codes "system" ∷ []) (λ rest. refl)

pub returns-in-116 : goal.returns-in-116
returns-in-116 c = with-byte kept_words 116 c.in-116.is (codes "true" ∷ []) (λ rest. refl)

pub returns-in-119 : goal.returns-in-119
returns-in-119 c = with-byte kept_words 119 c.in-119.is (codes "word" ∷ codes "work" ∷ []) (λ rest. refl)
