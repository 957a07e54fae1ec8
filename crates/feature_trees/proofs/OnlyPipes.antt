-- Whether entries have pipes alone, from what a directory holds.
use Rattle.std.proofs.Common.{◌≡◌, ℕ, ◌+◌, ◌<◌, ◌≤◌, Bool, true, false, List, [], ◌∷◌, length, drop, map, get_or, refl, sym, ap, ◌∙◌, arith}
use Rattle.std.proofs.lemmas.Grind.{common_steps}
use Rattle.std.proofs.lemmas.List.{drop_all}
use Rattle.std.specs.Prelude.{◌&&◌}
use Rattle.std.specs.List.{list_all}
use Rattle.feature_trees.specs.declared.shape.Entry.{Entry, rolls-Entry'}
use Rattle.feature_trees.specs.declared.shape.Node.TheVariants as N
use Rattle.feature_trees.specs.declared.shape.Node.TheOpen as Open
use Rattle.feature_trees.specs.declared.shape.Node.TheFolds.{fold-Entry, fold-roll-Node, fold-roll-Entry}
use Rattle.feature_trees.specs.declared.value.NamedValue.{NamedValue}
use Rattle.feature_trees.specs.declared.value.Value.{Value}
use Rattle.feature_trees.specs.declared.value.Value.TheVariants.{Absent, Reg, Link, Special, Dir}
use Rattle.feature_trees.specs.Readable.{pipes_layer, entry_pipes_layer, node_pipes, entries_pipes, only_pipes}
use Rattle.feature_trees.specs.View.{seen, node_of, IsThere, AllThere}

abbrev entry_pipes : Entry → Bool
entry_pipes = fold-Entry Bool Bool pipes_layer entry_pipes_layer

entry_pipes_all : (es : List Entry) → list_all (λ b. b) (map entry_pipes es) ≡ entries_pipes es
entry_pipes_all [] = refl
entry_pipes_all (e ∷ es) =
    let first : entry_pipes e ≡ node_pipes e.node =
    ap entry_pipes (sym (rolls-Entry' (record { name = e.name; node = e.node })))
    ∙ fold-roll-Entry Bool Bool pipes_layer entry_pipes_layer (record { name = e.name; node = e.node }) in
    let rest = entry_pipes_all es in
    λ i. first i && rest i

-- a node has pipes alone where its value has
node_pipes_of : (v : Value) → IsThere v → node_pipes (node_of v) ≡ only_pipes v
node_pipes_of Absent there = absurd there
node_pipes_of Reg there = ap node_pipes (sym N.rolls-Reg) ∙ fold-roll-Node Bool Bool pipes_layer entry_pipes_layer Open.Reg
node_pipes_of (Link b) there = ap node_pipes (sym (N.rolls-Link b)) ∙ fold-roll-Node Bool Bool pipes_layer entry_pipes_layer (Open.Link b)
node_pipes_of (Special s) there = ap node_pipes (sym (N.rolls-Special s)) ∙ fold-roll-Node Bool Bool pipes_layer entry_pipes_layer (Open.Special s)
node_pipes_of (Dir es) there =
    ap node_pipes (sym (N.rolls-Dir es)) ∙ fold-roll-Node Bool Bool pipes_layer entry_pipes_layer (Open.Dir es) ∙ entry_pipes_all es

abbrev pub items_pipes : List NamedValue → Bool
items_pipes hs = list_all (λ (h : NamedValue). only_pipes h.value) hs

-- entries have pipes alone where the values have
pub items_are : (hs : List NamedValue) → AllThere hs → entries_pipes (seen hs) ≡ items_pipes hs
items_are [] there = refl
items_are (h ∷ hs) there =
    let first = node_pipes_of h.value there.0 in
    let rest = items_are hs there.1 in
    λ i. first i && rest i

-- after all of them
pub ended : (hs : List NamedValue) (i : ℕ) → AllThere hs → length hs ≤ i → items_pipes (drop i hs) ≡ items_pipes hs → true ≡ entries_pipes (seen hs)
ended hs i there le is = sym (ap items_pipes (drop_all i hs le)) ∙ is ∙ sym (items_are hs there)

-- at the first that has another
pub stopped : (hs : List NamedValue) (i : ℕ) (h : NamedValue) → AllThere hs → i < length hs → h ≡ get_or hs i h → false ≡ only_pipes h.value
    → items_pipes (drop i hs) ≡ items_pipes hs → false ≡ entries_pipes (seen hs)
stopped hs i h there lt is bad rest =
    let step : items_pipes (drop i hs) ≡ (only_pipes h.value && items_pipes (drop (i + 1) hs)) = grind (arith, common_steps) in
    sym (step ∙ ap (λ b. b && items_pipes (drop (i + 1) hs)) (sym bad)) ∙ rest ∙ sym (items_are hs there)
