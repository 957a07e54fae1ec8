-- What is true of every directory: its names are names, they rise, and the same holds of every directory below it.
use Rattle.std.specs.Prelude.{◌≡◌, ℕ, Bool, true, ◌&&◌, IsTrue, List, [], ◌∷◌, map, refl}
use Rattle.std.proofs.Common.{sym, ap, ◌∙◌}
use Rattle.std.specs.Ordering.{is_lt}
use Rattle.feature_trees.specs.declared.shape.Entry.{Entry, rolls-Entry'}
use Rattle.feature_trees.specs.declared.shape.Node.{Node}
use Rattle.feature_trees.specs.declared.shape.Node.TheVariants as N
use Rattle.feature_trees.specs.declared.shape.Node.TheOpen as Open
use Rattle.feature_trees.specs.declared.shape.Node.TheFolds.{fold-Node, fold-Entry, fold-roll-Node, fold-roll-Entry}
use Rattle.feature_trees.specs.declared.value.Value.{Value}
use Rattle.feature_trees.specs.declared.value.Value.TheVariants.{Absent, Reg, Link, Special, Dir}
use Rattle.script_names.specs.Names.{is_name}
use Rattle.feature_trees.specs.declared.kind.Kind.TheVariants as kind
use Rattle.feature_trees.specs.Tree.{name_cmp, kind_of}

-- the name comes before the first of these
abbrev pub before : {A : Type 0} → List ℕ → List (List ℕ × A) → Bool
before f [] = true
before f (x ∷ xs) = is_lt (name_cmp f x.0)

-- names that rise, each with whether what stands there is sound
abbrev pub rises : List (List ℕ × Bool) → Bool
rises [] = true
rises (x ∷ xs) = is_name x.0 && (x.1 && (before x.0 xs && rises xs))

-- whether one node is sound, from its entries' names and whether they are
abbrev pub sound_layer : Open.Node-F Bool (List ℕ × Bool) → Bool
sound_layer Open.Reg = true
sound_layer (Open.Link b) = true
sound_layer (Open.Special s) = true
sound_layer (Open.Dir xs) = rises xs

-- an entry's name, and whether its node is sound
abbrev pub entry_layer : Open.Entry-F Bool (List ℕ × Bool) → List ℕ × Bool
entry_layer e = (e.name, e.node)

-- whether a node is sound: in every directory of it the names are names and rise
abbrev pub sound_node : Node → Bool
sound_node = fold-Node Bool (List ℕ × Bool) sound_layer entry_layer

-- an entry's name, and whether its node is sound, over whole trees
abbrev pub sound_entry : Entry → List ℕ × Bool
sound_entry = fold-Entry Bool (List ℕ × Bool) sound_layer entry_layer

-- the entries of a directory are sound
abbrev pub sound_all : List Entry → Bool
sound_all es = rises (map (λ (e : Entry). (e.name, sound_node e.node)) es)

-- a value is sound
abbrev pub sound : Value → Bool
sound Absent = true
sound Reg = true
sound (Link b) = true
sound (Special s) = true
sound (Dir es) = sound_all es

-- a tree of files: a directory that is sound
pub record IsTree (v : Value) : Type 0 where
  pub dir : kind_of v ≡ kind.Dir
  pub sound : IsTrue (sound v)

-- an entry is as sound as its node
sound_entry_of : (e : Entry) → sound_entry e ≡ (e.name, sound_node e.node)
sound_entry_of e =
    ap sound_entry (sym (rolls-Entry' (record { name = e.name; node = e.node })))
    ∙ fold-roll-Entry Bool (List ℕ × Bool) sound_layer entry_layer (record { name = e.name; node = e.node })

-- each of these entries is as sound as its node
sound_entries_of : (es : List Entry) → map sound_entry es ≡ map (λ (e : Entry). (e.name, sound_node e.node)) es
sound_entries_of [] = refl
sound_entries_of (e ∷ es) = λ i. sound_entry_of e i ∷ sound_entries_of es i

-- a directory is sound exactly where its entries are
pub sound_Dir : (es : List Entry) → sound_node (N.Dir es) ≡ sound_all es
sound_Dir es =
    ap sound_node (sym (N.rolls-Dir es)) ∙ fold-roll-Node Bool (List ℕ × Bool) sound_layer entry_layer (Open.Dir es)
    ∙ ap rises (sound_entries_of es)
