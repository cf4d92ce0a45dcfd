use Rattle.std.specs.Prelude.{[], ◌∷◌, refl, codes}
use Rattle.ada_tree.specs.Words.{reserved_words}
use Rattle.words.proofs.names.reserved_with.Goals as goal
use Rattle.words.proofs.FirstBytes.{with-byte}

pub returns-in-97 : goal.returns-in-97
returns-in-97 c = with-byte reserved_words 97 c.in-97.is (codes "abort" ∷ codes "abs" ∷ codes "abstract" ∷ codes "accept" ∷ codes "access" ∷ codes "aliased" ∷ codes "all" ∷ codes "and" ∷ codes "array" ∷ codes "at" ∷ []) (λ rest. refl)

pub returns-in-98 : goal.returns-in-98
returns-in-98 c = with-byte reserved_words 98 c.in-98.is (codes "begin" ∷ codes "body" ∷ []) (λ rest. refl)

pub returns-in-99 : goal.returns-in-99
returns-in-99 c = with-byte reserved_words 99 c.in-99.is (codes "case" ∷ codes "constant" ∷ []) (λ rest. refl)

pub returns-in-100 : goal.returns-in-100
returns-in-100 c = with-byte reserved_words 100 c.in-100.is (codes "declare" ∷ codes "delay" ∷ codes "delta" ∷ codes "digits" ∷ codes "do" ∷ []) (λ rest. refl)

pub returns-in-101 : goal.returns-in-101
returns-in-101 c = with-byte reserved_words 101 c.in-101.is (codes "else" ∷ codes "elsif" ∷ codes "end" ∷ codes "entry" ∷ codes "exception" ∷ codes "exit" ∷ []) (λ rest. refl)

pub returns-in-102 : goal.returns-in-102
returns-in-102 c = with-byte reserved_words 102 c.in-102.is (codes "for" ∷ codes "function" ∷ []) (λ rest. refl)

pub returns-in-103 : goal.returns-in-103
returns-in-103 c = with-byte reserved_words 103 c.in-103.is (codes "generic" ∷ codes "goto" ∷ []) (λ rest. refl)

pub returns-in-105 : goal.returns-in-105
returns-in-105 c = with-byte reserved_words 105 c.in-105.is (codes "if" ∷ codes "in" ∷ codes "interface" ∷ codes "is" ∷ []) (λ rest. refl)

pub returns-in-108 : goal.returns-in-108
returns-in-108 c = with-byte reserved_words 108 c.in-108.is (codes "limited" ∷ codes "loop" ∷ []) (λ rest. refl)

pub returns-in-109 : goal.returns-in-109
returns-in-109 c = with-byte reserved_words 109 c.in-109.is (codes "mod" ∷ []) (λ rest. refl)

pub returns-in-110 : goal.returns-in-110
returns-in-110 c = with-byte reserved_words 110 c.in-110.is (codes "new" ∷ codes "not" ∷ codes "null" ∷ []) (λ rest. refl)

pub returns-in-111 : goal.returns-in-111
returns-in-111 c = with-byte reserved_words 111 c.in-111.is (codes "of" ∷ codes "or" ∷ codes "others" ∷ codes "out" ∷ codes "overriding" ∷ []) (λ rest. refl)

pub returns-in-112 : goal.returns-in-112
returns-in-112 c = with-byte reserved_words 112 c.in-112.is (codes "package" ∷ codes "pragma" ∷ codes "private" ∷ codes "procedure" ∷ codes "protected" ∷ []) (λ rest. refl)

pub returns-in-114 : goal.returns-in-114
returns-in-114 c = with-byte reserved_words 114 c.in-114.is (codes "raise" ∷ codes "range" ∷ codes "record" ∷ codes "rem" ∷ codes "renames" ∷ codes "requeue" ∷ codes "return" ∷ codes "reverse" ∷ []) (λ rest. refl)

pub returns-in-115 : goal.returns-in-115
returns-in-115 c = with-byte reserved_words 115 c.in-115.is (codes "select" ∷ codes "separate" ∷ codes "some" ∷ codes "subtype" ∷ codes "synchronized" ∷ []) (λ rest. refl)

pub returns-in-116 : goal.returns-in-116
returns-in-116 c = with-byte reserved_words 116 c.in-116.is (codes "tagged" ∷ codes "task" ∷ codes "terminate" ∷ codes "then" ∷ codes "type" ∷ []) (λ rest. refl)

pub returns-in-117 : goal.returns-in-117
returns-in-117 c = with-byte reserved_words 117 c.in-117.is (codes "until" ∷ codes "use" ∷ []) (λ rest. refl)

pub returns-in-119 : goal.returns-in-119
returns-in-119 c = with-byte reserved_words 119 c.in-119.is (codes "when" ∷ codes "while" ∷ codes "with" ∷ []) (λ rest. refl)

pub returns-in-120 : goal.returns-in-120
returns-in-120 c = with-byte reserved_words 120 c.in-120.is (codes "xor" ∷ []) (λ rest. refl)
