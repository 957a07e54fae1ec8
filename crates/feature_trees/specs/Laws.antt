-- What holds of puts and of equal trees: a put changes its path alone, and a directory is the map of its entries.
use Rattle.std.specs.Prelude.{◌≡◌, ◌≢◌, ℕ, IsTrue, All, List, ◌∷◌, ◌++◌}
use Rattle.feature_trees.specs.declared.value.Value.{Value}
use Rattle.feature_trees.specs.Tree.{entry, at, put, has_parents, kind_of}
use Rattle.feature_trees.specs.declared.kind.Kind.TheVariants as kind
use Rattle.feature_trees.specs.Sound.{sound}
use Rattle.script_names.specs.Names.{is_name}

-- at its path stands what was put
abbrev pub StandsWherePut : Type 0
StandsWherePut = (v w : Value) (p : List (List ℕ)) → IsTrue (sound v) → IsTrue (has_parents v p) → at (put v p w) p ≡ w

-- at a path that parts from it at a name stands what stood there before
abbrev pub StandsElsewhere : Type 0
StandsElsewhere =
    (v w : Value) (above : List (List ℕ)) (f g : List ℕ) (p q : List (List ℕ)) → IsTrue (sound v) → f ≢ g
    → at (put v (above ++ f ∷ p) w) (above ++ g ∷ q) ≡ at v (above ++ g ∷ q)

-- below its path stands what stands there in the value that was put
abbrev pub StandsBelow : Type 0
StandsBelow =
    (v w : Value) (p q : List (List ℕ)) → IsTrue (sound v) → IsTrue (has_parents v p)
    → at (put v p w) (p ++ q) ≡ at w q

-- above its path stands what stood there, with the same put in it
abbrev pub StandsAbove : Type 0
StandsAbove =
    (v w : Value) (p q : List (List ℕ)) → IsTrue (sound v) → IsTrue (has_parents v (p ++ q))
    → at (put v (p ++ q) w) p ≡ put (at v p) q w

-- a sound value with a sound one put at names in it is sound
abbrev pub PutsStaySound : Type 0
PutsStaySound =
    (v w : Value) (p : List (List ℕ)) → IsTrue (sound v) → IsTrue (sound w) → All (λ f. IsTrue (is_name f)) p
    → IsTrue (sound (put v p w))

-- two directories with the same entry under every name are the same
abbrev pub EntriesDetermine : Type 0
EntriesDetermine =
    (v w : Value) → IsTrue (sound v) → IsTrue (sound w) → kind_of v ≡ kind.Dir → kind_of w ≡ kind.Dir
    → ((f : List ℕ) → entry v f ≡ entry w f) → v ≡ w
