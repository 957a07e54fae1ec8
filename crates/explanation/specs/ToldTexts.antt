-- On which systems outcomes come, in words: a list of boxes, each a list of facts that hold together.
use Rattle.std.specs.Prelude.{ℕ, Bool, ◌&&◌, ◌==◌, List, [], ◌∷◌, ◌++◌, length, codes, if◌then◌else◌}
use Rattle.std.specs.List.{flat_map, list_any}
use Rattle.shown_texts.specs.Lines.{line}
use Rattle.start_facts.specs.declared.fact.PlaceFact.{PlaceFact}
use Rattle.outcome_groups.specs.declared.group.FactBox.{FactBox}
use Rattle.explanation.specs.Braces.{facts_text}

-- a box has no facts
abbrev pub is_empty : FactBox → Bool
is_empty facts = length facts.deciding == 0 && length facts.others == 0

-- a box has no facts, so that every system is in it
abbrev pub is_everywhere : List FactBox → Bool
is_everywhere boxes = list_any is_empty boxes

-- that outcomes come on every system, or that they are not told apart from others
unfoldable pub everywhere_line : Bool → List ℕ
everywhere_line exact =
    if exact then line (codes "  On every system that meets the premises.")
    else line (codes "  On some systems that meet the premises; which ones is not told.")

-- the line before boxes
unfoldable pub some_line : Bool → List ℕ
some_line exact =
    if exact then line (codes "  On exactly these systems, where")
    else line (codes "  On systems like these, among others, where")

-- facts behind a title, if there are any
unfoldable pub under_text : List ℕ → List PlaceFact → List ℕ
under_text title facts = if length facts == 0 then [] else title ++ facts_text facts

-- the further facts of a box, if there are any
abbrev pub others_text : FactBox → List ℕ
others_text facts = under_text (line (codes "    and besides")) facts.others

-- the facts of a box: those that decide first
unfoldable pub box_text : FactBox → List ℕ
box_text facts =
    facts_text facts.deciding
    ++ (if length facts.deciding == 0 then facts_text facts.others else others_text facts)

-- a box behind others
unfoldable pub or_box : FactBox → List ℕ
or_box facts = line (codes "    or") ++ box_text facts

-- boxes
unfoldable pub boxes_text : List FactBox → List ℕ
boxes_text [] = []
boxes_text (facts ∷ boxes) = box_text facts ++ flat_map or_box boxes

-- on which systems: on exactly those that are in a box, or on some of them
abbrev pub told_text : Bool → List FactBox → List ℕ
told_text exact boxes =
    if is_everywhere boxes then everywhere_line exact else some_line exact ++ boxes_text boxes
