-- The places of entries, one entry after another; and how much lighter each is than all of them.
use Rattle.std.proofs.Common.{◌≡◌, ℕ, zero, suc, ◌+◌, ◌≤◌, List, [], ◌∷◌, ◌++◌, map, drop, length, Some, refl, sym, ap, subst, ◌∙◌, append_assoc, arith}
use Rattle.std.specs.Prelude.{slice_get}
use Rattle.feature_trees.specs.declared.shape.Entry.{Entry, rolls-Entry'}
use Rattle.feature_trees.specs.declared.shape.Node.{Node}
use Rattle.feature_trees.specs.declared.shape.Node.TheVariants as N
use Rattle.feature_trees.specs.declared.shape.Node.TheOpen as Open
use Rattle.feature_trees.specs.declared.shape.Node.TheFolds.{fold-roll-Node, fold-roll-Entry}
use Rattle.feature_trees.specs.declared.value.Value.{Value}
use Rattle.feature_trees.specs.declared.value.Value.TheVariants.{Absent, Reg, Link, Special, Dir}
use Rattle.feature_trees.specs.Shape.{weight, weight_Dir, count_all, entry_weight, entry_weight_of}
use Rattle.feature_trees.specs.View.{node_of, IsThere}
use Rattle.tree_pictures.specs.declared.placed.Placed.{Placed}
use Rattle.tree_pictures.specs.declared.placed.Standing.TheVariants as standing
use Rattle.tree_pictures.specs.Placed.{Places, below, alone, in_turn, node_layer, entry_layer, node_places, entry_places, entries_places, value_places}

-- ---- weights

pub directory_weight : (tree : Value) (es : List Entry) → tree ≡ Dir es → weight (node_of tree) ≡ count_all es
directory_weight tree es is = ap (λ v. weight (node_of v)) is ∙ weight_Dir es

pub entry_lighter : (es : List Entry) (at : ℕ) (e : Entry) → slice_get es at ≡ Some e → weight e.node + 1 ≤ count_all es
entry_lighter [] at e is = cc
entry_lighter (x ∷ es) zero e is =
    let same : x ≡ e = cc in
    subst (λ (y : Entry). weight y.node + 1 ≤ entry_weight x + count_all es) same (omega (arith, entry_weight_of x))
entry_lighter (x ∷ es) (suc at) e is = omega (arith, entry_lighter es at e is)

-- ---- places

entry_places_of : (e : Entry) (path : List ℕ) → entry_places e path ≡ node_places e.node (below path e.name)
entry_places_of e path =
    ap (λ (x : Entry). entry_places x path) (sym (rolls-Entry' (record { name = e.name; node = e.node })))
    ∙ ap (λ (f : Places). f path) (fold-roll-Entry Places Places node_layer entry_layer (record { name = e.name; node = e.node }))

entries_places_of : (es : List Entry) (path : List ℕ) → in_turn (map entry_places es) path ≡ entries_places es path
entries_places_of [] path = refl
entries_places_of (e ∷ es) path = ap (λ (rest : List Placed). entry_places e path ++ rest) (entries_places_of es path)

node_places_of : (v : Value) (path : List ℕ) → IsThere v → node_places (node_of v) path ≡ value_places v path
node_places_of Absent path there = absurd there
node_places_of Reg path there =
    ap (λ (n : Node). node_places n path) (sym N.rolls-Reg)
    ∙ ap (λ (f : Places). f path) (fold-roll-Node Places Places node_layer entry_layer Open.Reg)
node_places_of (Link b) path there =
    ap (λ (n : Node). node_places n path) (sym (N.rolls-Link b))
    ∙ ap (λ (f : Places). f path) (fold-roll-Node Places Places node_layer entry_layer (Open.Link b))
node_places_of (Special s) path there =
    ap (λ (n : Node). node_places n path) (sym (N.rolls-Special s))
    ∙ ap (λ (f : Places). f path) (fold-roll-Node Places Places node_layer entry_layer (Open.Special s))
node_places_of (Dir es) path there =
    ap (λ (n : Node). node_places n path) (sym (N.rolls-Dir es))
    ∙ ap (λ (f : Places). f path) (fold-roll-Node Places Places node_layer entry_layer (Open.Dir es))
    ∙ ap (λ (rest : List Placed). alone path standing.Dir ++ rest) (entries_places_of es path)

-- the places of an entry come first of those that are left
pub places_behind : (es : List Entry) (at : ℕ) (name : List ℕ) (v : Value) (path : List ℕ) → IsThere v
    → slice_get es at ≡ Some (record { name = name; node = node_of v })
    → entries_places (drop at es) path ≡ value_places v (below path name) ++ entries_places (drop (suc at) es) path
places_behind [] at name v path there n = cc
places_behind (x ∷ es) zero name v path there n =
    let e : Entry = record { name = name; node = node_of v } in
    let same : x ≡ e = cc in
    ap (λ (first : List Placed). first ++ entries_places es path)
    (ap (λ (y : Entry). entry_places y path) same ∙ entry_places_of e path ∙ node_places_of v (below path name) there)
places_behind (x ∷ es) (suc at) name v path there n = places_behind es at name v path there n

-- what is added for an entry is what was left of it
pub added_behind : (before now later : List Placed) (es : List Entry) (at : ℕ) (name : List ℕ) (v : Value) (path : List ℕ)
    (all : List Placed) → IsThere v → slice_get es at ≡ Some (record { name = name; node = node_of v })
    → later ≡ now ++ value_places v (below path name) → now ++ entries_places (drop at es) path ≡ before ++ all
    → later ++ entries_places (drop (suc at) es) path ≡ before ++ all
added_behind before now later es at name v path all there n is invariant =
    ap (λ (l : List Placed). l ++ entries_places (drop (suc at) es) path) is
    ∙ append_assoc now (value_places v (below path name)) (entries_places (drop (suc at) es) path)
    ∙ ap (λ (l : List Placed). now ++ l) (sym (places_behind es at name v path there n))
    ∙ invariant
