-- The lines of a directory, from what it holds.
use Rattle.std.proofs.Common.{◌≡◌, ℕ, ◌≤◌, List, [], ◌∷◌, ◌++◌, length, take, map, refl, sym, ap, ◌∙◌}
use Rattle.std.proofs.lemmas.List.{take_all}
use Rattle.std.specs.List.{flat_map}
use Rattle.feature_trees.specs.declared.shape.Entry.{Entry, rolls-Entry'}
use Rattle.feature_trees.specs.declared.shape.Node.{Node}
use Rattle.feature_trees.specs.declared.shape.Node.TheVariants as N
use Rattle.feature_trees.specs.declared.shape.Node.TheOpen as Open
use Rattle.feature_trees.specs.declared.shape.Node.TheFolds.{fold-roll-Node, fold-roll-Entry}
use Rattle.feature_trees.specs.declared.value.NamedValue.{NamedValue}
use Rattle.feature_trees.specs.declared.value.Value.{Value}
use Rattle.feature_trees.specs.declared.value.Value.TheVariants.{Absent, Reg, Link, Special, Dir}
use Rattle.feature_trees.specs.View.{seen, node_of, IsThere, AllThere}
use Rattle.feature_trees.specs.TreeText.{Lines, in_turn, node_layer, entry_layer, node_lines, entry_lines, entries_lines, value_lines, path_below}

-- the lines of what a directory holds
abbrev pub item_lines : List ℕ → NamedValue → List (List ℕ)
item_lines path h = value_lines h.value (path_below path h.name)

pub entry_lines_of : (e : Entry) (path : List ℕ) → entry_lines e path ≡ node_lines e.node (path_below path e.name)
entry_lines_of e path =
    ap (λ (x : Entry). entry_lines x path) (sym (rolls-Entry' (record { name = e.name; node = e.node })))
    ∙ ap (λ (f : Lines). f path) (fold-roll-Entry Lines Lines node_layer entry_layer (record { name = e.name; node = e.node }))

entries_lines_of : (es : List Entry) (path : List ℕ) → in_turn (map entry_lines es) path ≡ entries_lines es path
entries_lines_of [] path = refl
entries_lines_of (e ∷ es) path = ap (λ (rest : List (List ℕ)). entry_lines e path ++ rest) (entries_lines_of es path)

pub node_lines_of : (v : Value) (path : List ℕ) → IsThere v → node_lines (node_of v) path ≡ value_lines v path
node_lines_of Absent path there = absurd there
node_lines_of Reg path there =
    ap (λ (n : Node). node_lines n path) (sym N.rolls-Reg) ∙ ap (λ (f : Lines). f path) (fold-roll-Node Lines Lines node_layer entry_layer Open.Reg)
node_lines_of (Link b) path there =
    ap (λ (n : Node). node_lines n path) (sym (N.rolls-Link b)) ∙ ap (λ (f : Lines). f path) (fold-roll-Node Lines Lines node_layer entry_layer (Open.Link b))
node_lines_of (Special s) path there =
    ap (λ (n : Node). node_lines n path) (sym (N.rolls-Special s)) ∙ ap (λ (f : Lines). f path) (fold-roll-Node Lines Lines node_layer entry_layer (Open.Special s))
node_lines_of (Dir es) path there =
    ap (λ (n : Node). node_lines n path) (sym (N.rolls-Dir es))
    ∙ ap (λ (f : Lines). f path) (fold-roll-Node Lines Lines node_layer entry_layer (Open.Dir es))
    ∙ ap (λ (rest : List (List ℕ)). (100 ∷ 32 ∷ path) ∷ rest) (entries_lines_of es path)

-- what is entry_if_present gives the entries' lines
pub item_lines_all : (hs : List NamedValue) (path : List ℕ) → AllThere hs → flat_map (item_lines path) hs ≡ entries_lines (seen hs) path
item_lines_all [] path there = refl
item_lines_all (h ∷ hs) path there =
    ap (λ (rest : List (List ℕ)). item_lines path h ++ rest) (item_lines_all hs path there.1)
    ∙ ap (λ (first : List (List ℕ)). first ++ entries_lines (seen hs) path)
    (sym (entry_lines_of (record { name = h.name; node = node_of h.value }) path ∙ node_lines_of h.value (path_below path h.name) there.0))

-- after all of them
pub all_item_lines : (hs : List NamedValue) (path : List ℕ) (lines now : List (List ℕ)) (i : ℕ) → AllThere hs → length hs ≤ i → lines ≡ now ++ flat_map (item_lines path) (take i hs) → lines ≡ now ++ entries_lines (seen hs) path
all_item_lines hs path lines now i there le is =
    is ∙ ap (λ (items : List NamedValue). now ++ flat_map (item_lines path) items) (take_all i hs le) ∙ ap (λ (more : List (List ℕ)). now ++ more) (item_lines_all hs path there)
