-- The verb that a command asks for, with its files.
use Rattle.std.specs.Prelude.{ℕ, List}
use Rattle.hrthood_words.specs.declared.verbs.DesignVerb.{DesignVerb}
use Rattle.hrthood_words.specs.declared.verbs.DesignVerb.TheVariants.{Check, Analyse, Format, Generate, Search, Scale, Background, Explain, Arrange}
use Rattle.hrthood_words.specs.Words.{Command, OnDesign, Replay, Verify, Accepts, Sample}
use Rattle.hrthood_top.specs.Verbs.{OfDesign, Verb, on_design}
use Rattle.hrthood_top.specs.Acceptances.{acceptances}
use Rattle.hrthood_top.specs.Analyses.{of_analyse}
use Rattle.hrthood_top.specs.Arrangements.{of_arrange}
use Rattle.hrthood_top.specs.Backgrounds.{of_background}
use Rattle.hrthood_top.specs.Checks.{of_check}
use Rattle.hrthood_top.specs.Explanations.{of_explain}
use Rattle.hrthood_top.specs.Formats.{of_format}
use Rattle.hrthood_top.specs.Generates.{of_generate}
use Rattle.hrthood_top.specs.Replays.{replays}
use Rattle.hrthood_top.specs.Samples.{samples}
use Rattle.hrthood_top.specs.Searches.{of_search}
use Rattle.hrthood_top.specs.Scales.{of_scale}
use Rattle.hrthood_top.specs.Verifies.{verifies}

-- what a verb makes that asks for a design alone
abbrev pub of_verb : DesignVerb → OfDesign
of_verb Check = of_check
of_verb Analyse = of_analyse
of_verb Format = of_format
of_verb Generate = of_generate
of_verb Search = of_search
of_verb Scale = of_scale
of_verb Background = of_background
of_verb Explain = of_explain
of_verb Arrange = of_arrange

-- that verb
abbrev pub design_verb : DesignVerb → List ℕ → Verb
design_verb verb design = on_design (of_verb verb) design

-- the verb of a command
abbrev pub verb_of : Command → Verb
verb_of (OnDesign verb design) = design_verb verb design
verb_of (Replay ada arrivals) = replays ada arrivals
verb_of (Verify design arrivals) = verifies design arrivals
verb_of (Accepts design arrivals trace) = acceptances design arrivals trace
verb_of (Sample threads) = samples threads
