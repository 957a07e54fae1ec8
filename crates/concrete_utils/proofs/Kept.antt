-- A directory that is put where it stands changes nothing.
use Rattle.std.proofs.Common.{◌≡◌, true, List, ℕ, [], ◌∷◌, ◌++◌, refl, sym, ap, ◌∙◌}
use Rattle.std.specs.declared.cmp.Ordering.{Ordering}
use Rattle.std.specs.declared.cmp.Ordering.TheVariants.{Less, Equal, Greater}
use Rattle.feature_trees.specs.declared.shape.Entry.{Entry}
use Rattle.feature_trees.specs.declared.value.Value.{Value}
use Rattle.feature_trees.specs.declared.value.Value.TheVariants.{Absent, Reg, Link, Special, Dir}
use Rattle.feature_trees.specs.Tree.{find, name_cmp, by_order, at, put, update, entry_if_present, is_dir, entries_of}
use Rattle.feature_trees.specs.View.{IsThere, value_of}
use Rattle.feature_trees.proofs.Found.{same_name}
use Rattle.feature_trees.proofs.Kept.{node_of-value_of, value_there}
use Rattle.feature_trees.proofs.TreeAdds.{entry_there as there}

-- an entry is what stands under its name
entry_back : (f : List ℕ) (e : Entry) → f ≡ e.name → entry_if_present f (value_of e.node) ≡ e ∷ []
entry_back f e same =
    there f (value_of e.node) (value_there e.node)
    ∙ ap (λ n. record { name = f; node = n } ∷ []) (node_of-value_of e.node)
    ∙ ap (λ (g : List ℕ). record { name = g; node = e.node } ∷ []) same

-- an entry that is there stays
stays : (es : List Entry) (f : List ℕ) → IsThere (find es f) → update es f (find es f) ≡ es
stays [] f h = absurd h
stays (e ∷ es) f h = step (stays es f) (name_cmp f e.name) refl h
  where
    step : (IsThere (find es f) → update es f (find es f) ≡ es) → (o : Ordering) → name_cmp f e.name ≡ o
        → IsThere (by_order o Absent (value_of e.node) (find es f))
        → by_order o (entry_if_present f (by_order o Absent (value_of e.node) (find es f)) ++ (e ∷ es)) (entry_if_present f (by_order o Absent (value_of e.node) (find es f)) ++ es) (e ∷ update es f (by_order o Absent (value_of e.node) (find es f))) ≡ e ∷ es
    step more Less is h = absurd h
    step more Equal is h = ap (λ l. l ++ es) (entry_back f e (same_name f e.name is))
    step more Greater is h = ap (λ l. e ∷ l) (more h)

-- a directory has something above it
is_there : (v : Value) (p : List (List ℕ)) → is_dir (at v p) ≡ true → IsThere v
is_there Absent [] e = cc
is_there Absent (f ∷ p) e = is_there Absent p e
is_there Reg p e = tt
is_there (Link b) p e = tt
is_there (Special s) p e = tt
is_there (Dir es) p e = tt

same_dir : (v : Value) → is_dir v ≡ true → v ≡ Dir (entries_of v)
same_dir Absent e = cc
same_dir Reg e = cc
same_dir (Link b) e = cc
same_dir (Special s) e = cc
same_dir (Dir es) e = refl

-- what stands at the path of a directory, put there
put_back : (v : Value) (p : List (List ℕ)) → is_dir (at v p) ≡ true → v ≡ put v p (at v p)
put_back v [] e = refl
put_back Absent (f ∷ p) e = absurd (is_there Absent p e)
put_back Reg (f ∷ p) e = absurd (is_there Absent p e)
put_back (Link b) (f ∷ p) e = absurd (is_there Absent p e)
put_back (Special s) (f ∷ p) e = absurd (is_there Absent p e)
put_back (Dir es) (f ∷ p) e =
    sym (ap Dir (ap (update es f) (sym (put_back (find es f) p e)) ∙ stays es f (is_there (find es f) p e)))

pub kept_dir : (v : Value) (p : List (List ℕ)) → is_dir (at v p) ≡ true → v ≡ put v p (Dir (entries_of (at v p)))
kept_dir v p e = put_back v p e ∙ ap (put v p) (same_dir (at v p) e)
