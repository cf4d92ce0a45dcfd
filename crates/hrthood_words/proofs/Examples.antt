-- Examples of words and the commands that they are, each verb once, with words that differ from one by little and are none; and of the
-- usage line of two verbs.
use Rattle.std.proofs.Common.{◌≡◌, [], ◌∷◌, Some, None, refl, codes}
use Rattle.hrthood_words.specs.declared.verbs.DesignVerb.TheVariants.{Check, Analyse, Format, Generate, Search, Scale, Background, Explain, Arrange}
use Rattle.hrthood_words.specs.declared.verbs.Shape.TheVariants.{Design, DesignArrivals, DesignArrivalsTrace}
use Rattle.hrthood_words.specs.Words.{OnDesign, Replay, Verify, Accepts, Sample, command_of, usage_of}

check : command_of (codes "check" ∷ codes "d" ∷ []) ≡ Some (OnDesign Check (codes "d"))
check = refl

analyse : command_of (codes "analyse" ∷ codes "d" ∷ []) ≡ Some (OnDesign Analyse (codes "d"))
analyse = refl

format : command_of (codes "format" ∷ codes "d" ∷ []) ≡ Some (OnDesign Format (codes "d"))
format = refl

generate : command_of (codes "generate" ∷ codes "d" ∷ []) ≡ Some (OnDesign Generate (codes "d"))
generate = refl

replay : command_of (codes "replay" ∷ codes "a" ∷ codes "r" ∷ []) ≡ Some (Replay (codes "a") (codes "r"))
replay = refl

verify : command_of (codes "verify" ∷ codes "d" ∷ codes "r" ∷ []) ≡ Some (Verify (codes "d") (codes "r"))
verify = refl

sample : command_of (codes "sample" ∷ codes "07" ∷ []) ≡ Some (Sample 7)
sample = refl

search : command_of (codes "search" ∷ codes "d" ∷ []) ≡ Some (OnDesign Search (codes "d"))
search = refl

scale : command_of (codes "scale" ∷ codes "d" ∷ []) ≡ Some (OnDesign Scale (codes "d"))
scale = refl

background : command_of (codes "background" ∷ codes "d" ∷ []) ≡ Some (OnDesign Background (codes "d"))
background = refl

explain : command_of (codes "explain" ∷ codes "d" ∷ []) ≡ Some (OnDesign Explain (codes "d"))
explain = refl

arrange : command_of (codes "arrange" ∷ codes "d" ∷ []) ≡ Some (OnDesign Arrange (codes "d"))
arrange = refl

accepts : command_of (codes "accepts" ∷ codes "d" ∷ codes "r" ∷ codes "t" ∷ []) ≡ Some (Accepts (codes "d") (codes "r") (codes "t"))
accepts = refl

-- no word, no operand, one too many, one too few
nothing : command_of [] ≡ None
nothing = refl

alone : command_of (codes "check" ∷ []) ≡ None
alone = refl

crowded : command_of (codes "check" ∷ codes "d" ∷ codes "e" ∷ []) ≡ None
crowded = refl

short : command_of (codes "verify" ∷ codes "d" ∷ []) ≡ None
short = refl

long : command_of (codes "replay" ∷ codes "a" ∷ codes "r" ∷ codes "s" ∷ []) ≡ None
long = refl

two_of_three : command_of (codes "accepts" ∷ codes "d" ∷ codes "r" ∷ []) ≡ None
two_of_three = refl

four : command_of (codes "accepts" ∷ codes "d" ∷ codes "r" ∷ codes "t" ∷ codes "u" ∷ []) ≡ None
four = refl

-- another word, a flag, an empty name, a count over 30
other : command_of (codes "checks" ∷ codes "d" ∷ []) ≡ None
other = refl

flag : command_of (codes "verify" ∷ codes "d" ∷ codes "-r" ∷ []) ≡ None
flag = refl

last_flag : command_of (codes "accepts" ∷ codes "d" ∷ codes "r" ∷ codes "-t" ∷ []) ≡ None
last_flag = refl

unnamed : command_of (codes "check" ∷ [] ∷ []) ≡ None
unnamed = refl

many : command_of (codes "sample" ∷ codes "31" ∷ []) ≡ None
many = refl

-- verbs with their operands, apart by bars
three_operands : usage_of ((codes "accepts", DesignArrivalsTrace) ∷ []) ≡ codes "usage: hrthood accepts D R T\n"
three_operands = refl

two_listed : usage_of ((codes "check", Design Check) ∷ (codes "verify", DesignArrivals) ∷ []) ≡ codes "usage: hrthood check D | verify D R\n"
two_listed = refl
