-- What stands in a page around its scenarios (HTML Standard). Nothing is loaded, and its policy says so.
use Rattle.std.specs.Prelude.{ℕ, List, ◌++◌, codes}
use Rattle.dpkg_scenarios.specs.declared.scenario.Scenario.{Scenario}
use Rattle.dpkg_scenarios.specs.Names.{scenario_name}
use Rattle.system_base.specs.declared.base.Base.{Base}
use Rattle.checker_input.specs.declared.package.Packages.{Packages}
use Rattle.checker_input.specs.declared.sources.Sources.{Sources}
use Rattle.html_texts.specs.Escaped.{html_text}
use Rattle.explanation.specs.Heads.{package_text}
use Rattle.explanation.specs.Premises.{premises_text}
use Rattle.explanation_pages.specs.Joined.{three, five, nine}
use Rattle.explanation_pages.specs.Commands.{check_line, command_html}
use Rattle.explanation_pages.specs.ShownLines.{pre_html}
use Rattle.explanation_pages.specs.Styles.{style}

-- ---- the begin

-- what stands before the title: what the text is, and that nothing is to be loaded
unfoldable pub title_begin : List ℕ
title_begin =
    three
    (codes "<!doctype html>\n<html lang=\"en\">\n<head>\n<meta charset=\"utf-8\">\n")
    (codes "<meta name=\"viewport\" content=\"width=device-width, initial-scale=1\">\n")
    (codes "<meta http-equiv=\"Content-Security-Policy\" content=\"default-src 'none'; style-src 'unsafe-inline'\">\n")

-- the package's folder and version
unfoldable pub package_html : Sources → Packages → List ℕ
package_html sources packages = html_text (package_text sources packages)

-- the head
unfoldable pub page_head : Sources → Packages → List ℕ
page_head sources packages =
    title_begin ++ codes "<title>colis: " ++ package_html sources packages ++ codes "</title>\n<style>\n" ++ style
    ++ codes "</style>\n</head>\n"

-- the heading, behind which the list of scenarios comes
unfoldable pub page_heading : Sources → Packages → List ℕ
page_heading sources packages =
    three (codes "<body>\n<h1>") (package_html sources packages)
    (codes "</h1>\n<nav aria-label=\"Scenarios\">\n<ul>\n")

-- what stands before the list of scenarios
unfoldable pub page_begin : Sources → Packages → List ℕ
page_begin sources packages = page_head sources packages ++ page_heading sources packages

-- ---- the list of scenarios

-- a scenario, with words for how it ends, which have a class
unfoldable pub item_html : Scenario → List ℕ → List ℕ → List ℕ
item_html scenario class words =
    nine (codes "<li><a href=\"#") (scenario_name scenario) (codes "\">") (scenario_name scenario)
    (codes "</a>: <strong class=\"") class (codes "\">") words (codes "</strong></li>\n")

-- the end of the list
abbrev pub items_end : List ℕ
items_end = codes "</ul>\n</nav>\n<main>\n"

-- ---- the end

-- the premises
unfoldable pub premises_html : Sources → Base → List ℕ
premises_html sources base = pre_html (premises_text sources base)

-- the command line of the report
unfoldable pub check_html : Sources → ℕ → List ℕ
check_html sources turns = command_html (check_line sources turns)

-- what stands behind the scenarios: the premises, and how the whole report is had, with so many turns of loops
unfoldable pub page_end : Sources → Base → ℕ → List ℕ
page_end sources base turns =
    five (codes "</main>\n<footer>\n") (premises_html sources base) (codes "<p>The whole report: ")
    (check_html sources turns) (codes "</p>\n</footer>\n</body>\n</html>\n")
