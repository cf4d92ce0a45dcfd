use Rattle.std.specs.Prelude.{[], ◌∷◌, refl, codes}
use Rattle.ods_tree.specs.Words.{design_words}
use Rattle.words.proofs.names.design_words_with.Goals as goal
use Rattle.words.proofs.FirstBytes.{with-byte}

pub returns-in-97 : goal.returns-in-97
returns-in-97 c = with-byte design_words 97 c.in-97.is (codes "and" ∷ []) (λ rest. refl)

pub returns-in-98 : goal.returns-in-98
returns-in-98 c = with-byte design_words 98 c.in-98.is (codes "begin" ∷ []) (λ rest. refl)

pub returns-in-100 : goal.returns-in-100
returns-in-100 c = with-byte design_words 100 c.in-100.is (codes "data" ∷ []) (λ rest. refl)

pub returns-in-101 : goal.returns-in-101
returns-in-101 c = with-byte design_words 101 c.in-101.is (codes "end" ∷ codes "elsif" ∷ codes "else" ∷ codes "exit" ∷ []) (λ rest. refl)

pub returns-in-102 : goal.returns-in-102
returns-in-102 c = with-byte design_words 102 c.in-102.is (codes "for" ∷ []) (λ rest. refl)

pub returns-in-105 : goal.returns-in-105
returns-in-105 c = with-byte design_words 105 c.in-105.is (codes "implements" ∷ codes "is" ∷ codes "if" ∷ codes "in" ∷ []) (λ rest. refl)

pub returns-in-108 : goal.returns-in-108
returns-in-108 c = with-byte design_words 108 c.in-108.is (codes "loop" ∷ []) (λ rest. refl)

pub returns-in-109 : goal.returns-in-109
returns-in-109 c = with-byte design_words 109 c.in-109.is (codes "mod" ∷ []) (λ rest. refl)

pub returns-in-110 : goal.returns-in-110
returns-in-110 c = with-byte design_words 110 c.in-110.is (codes "null" ∷ codes "not" ∷ []) (λ rest. refl)

pub returns-in-111 : goal.returns-in-111
returns-in-111 c = with-byte design_words 111 c.in-111.is (codes "operation" ∷ codes "objects" ∷ codes "out" ∷ codes "or" ∷ []) (λ rest. refl)

pub returns-in-112 : goal.returns-in-112
returns-in-112 c = with-byte design_words 112 c.in-112.is (codes "provides" ∷ codes "put" ∷ []) (λ rest. refl)

pub returns-in-114 : goal.returns-in-114
returns-in-114 c = with-byte design_words 114 c.in-114.is (codes "requires" ∷ codes "range" ∷ []) (λ rest. refl)

pub returns-in-116 : goal.returns-in-116
returns-in-116 c = with-byte design_words 116 c.in-116.is (codes "thread" ∷ codes "then" ∷ []) (λ rest. refl)

pub returns-in-119 : goal.returns-in-119
returns-in-119 c = with-byte design_words 119 c.in-119.is (codes "when" ∷ codes "word" ∷ codes "work" ∷ []) (λ rest. refl)

pub returns-in-120 : goal.returns-in-120
returns-in-120 c = with-byte design_words 120 c.in-120.is (codes "xor" ∷ []) (λ rest. refl)
