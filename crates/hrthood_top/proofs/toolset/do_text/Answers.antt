use Rattle.std.proofs.Common.{ℕ, Vec, Global}
use Rattle.hrthood_top.specs.Analyses.{of_analyse}
use Rattle.hrthood_top.specs.Arrangements.{of_arrange}
use Rattle.hrthood_top.specs.Backgrounds.{of_background}
use Rattle.hrthood_top.specs.Checks.{of_check}
use Rattle.hrthood_top.specs.Explanations.{of_explain}
use Rattle.hrthood_top.specs.Formats.{of_format}
use Rattle.hrthood_top.specs.Generates.{of_generate}
use Rattle.hrthood_top.specs.Scales.{of_scale}
use Rattle.hrthood_top.specs.Searches.{of_search}
use Rattle.hrthood_top.proofs.Streamed.{design-streams}
use Rattle.hrthood_top.proofs.toolset.do_text.Goals as goal

pub returns-in-Check : goal.returns-in-Check
returns-in-Check g c =
    rw c.in-Check.is (design-streams (λ (v : Vec ℕ Global). v.items) of_check c.args.design.now _ _ _ _ _ _ _ _ _ _ c.check_text.ensures c.finish.ensures)

pub returns-in-Analyse : goal.returns-in-Analyse
returns-in-Analyse g c =
    rw c.in-Analyse.is (design-streams (λ (v : Vec ℕ Global). v.items) of_analyse c.args.design.now _ _ _ _ _ _ _ _ _ _ c.analyse_text.ensures c.finish-in-Analyse.ensures)

pub returns-in-Format : goal.returns-in-Format
returns-in-Format g c =
    rw c.in-Format.is (design-streams (λ (v : Vec ℕ Global). v.items) of_format c.args.design.now _ _ _ _ _ _ _ _ _ _ c.format_text.ensures c.finish-in-Format.ensures)

pub returns-in-Generate : goal.returns-in-Generate
returns-in-Generate g c =
    rw c.in-Generate.is (design-streams (λ (v : Vec ℕ Global). v.items) of_generate c.args.design.now _ _ _ _ _ _ _ _ _ _ c.generate_text.ensures c.finish-in-Generate.ensures)

pub returns-in-Search : goal.returns-in-Search
returns-in-Search g c =
    rw c.in-Search.is (design-streams (λ (v : Vec ℕ Global). v.items) of_search c.args.design.now _ _ _ _ _ _ _ _ _ _ c.search_text.ensures c.finish-in-Search.ensures)

pub returns-in-Scale : goal.returns-in-Scale
returns-in-Scale g c =
    rw c.in-Scale.is (design-streams (λ (v : Vec ℕ Global). v.items) of_scale c.args.design.now _ _ _ _ _ _ _ _ _ _ c.scale_text.ensures c.finish-in-Scale.ensures)

pub returns-in-Background : goal.returns-in-Background
returns-in-Background g c =
    rw c.in-Background.is (design-streams (λ (v : Vec ℕ Global). v.items) of_background c.args.design.now _ _ _ _ _ _ _ _ _ _ c.make_background.ensures c.finish-in-Background.ensures)

pub returns-in-Explain : goal.returns-in-Explain
returns-in-Explain g c =
    rw c.in-Explain.is (design-streams (λ (v : Vec ℕ Global). v.items) of_explain c.args.design.now _ _ _ _ _ _ _ _ _ _ c.explain_text.ensures c.finish-in-Explain.ensures)

pub returns-in-Arrange : goal.returns-in-Arrange
returns-in-Arrange g c =
    rw c.in-Arrange.is (design-streams (λ (v : Vec ℕ Global). v.items) of_arrange c.args.design.now _ _ _ _ _ _ _ _ _ _ c.arrange_text.ensures c.finish-in-Arrange.ensures)
