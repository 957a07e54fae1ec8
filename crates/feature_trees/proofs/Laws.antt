-- What a put does at its path, and at other places.
use Rattle.std.proofs.Common.{◌≡◌, ℕ, Bool, true, false, ◌&&◌, IsTrue, List, [], ◌∷◌, ◌++◌, map, refl, sym, ap, subst, ◌∙◌, append-nil}
use Rattle.std.specs.declared.cmp.Ordering.{Ordering}
use Rattle.std.specs.declared.cmp.Ordering.TheVariants.{Less, Equal, Greater}
use Rattle.std.specs.Ordering.{is_lt, ordering_reverse}
use Rattle.std.specs.Cmp.{IsTotalOrder}
use Rattle.std.proofs.lemmas.Cmp.{nat_list_cmp_total, tied_itself}
use Rattle.feature_trees.specs.declared.shape.Entry.{Entry}
use Rattle.feature_trees.specs.declared.shape.Node.{Node}
use Rattle.feature_trees.specs.declared.shape.Node.TheOpen as Open
use Rattle.feature_trees.specs.declared.shape.Node.TheVariants as N
use Rattle.feature_trees.specs.declared.shape.Node.TheViews.{out-Node, roll-Node, roll-out-Node}
use Rattle.feature_trees.specs.declared.value.Value.{Value}
use Rattle.feature_trees.specs.declared.value.Value.TheVariants.{Absent, Reg, Link, Special, Dir}
use Rattle.script_names.specs.Names.{is_name}
use Rattle.feature_trees.specs.Tree.{find, name_cmp, by_order, at, put, entry, update, entry_if_present, has_parents, is_dir, entries_of}
use Rattle.feature_trees.specs.View.{value_layer, value_of, node_of, value_of-node_of}
use Rattle.feature_trees.specs.Sound.{before, sound_all, sound, sound_node, sound_Dir}
use Rattle.feature_trees.proofs.Found.{same_name}

pub and_parts : (a b : Bool) → IsTrue (a && b) → IsTrue a × IsTrue b
and_parts true b h = (refl, h)
and_parts false b h = cc

pub and_made : (a b : Bool) → IsTrue a → IsTrue b → IsTrue (a && b)
and_made a b p q = rw (p, q) refl

is_less : (o : Ordering) → IsTrue (is_lt o) → o ≡ Less
is_less Less h = refl
is_less Equal h = cc
is_less Greater h = cc

-- names that rise
abbrev pub Above : List ℕ → List Entry → Type 0
Above f [] = Unit {0}
Above f (e ∷ es) = name_cmp f e.name ≡ Less

abbrev pub Rises : List Entry → Type 0
Rises [] = Unit {0}
Rises (e ∷ es) = Above e.name es × Rises es

above_of : (f : List ℕ) (es : List Entry) → IsTrue (before f (map (λ (e : Entry). (e.name, sound_node e.node)) es)) → Above f es
above_of f [] h = tt
above_of f (e ∷ es) h = is_less _ h

pub rises_of : (es : List Entry) → IsTrue (sound_all es) → Rises es
rises_of [] h = tt
rises_of (e ∷ es) h =
    let p = and_parts (is_name e.name) _ h in
    let q = and_parts (sound_node e.node) _ p.1 in
    let r = and_parts (before e.name (map (λ (x : Entry). (x.name, sound_node x.node)) es)) _ q.1 in
    (above_of e.name es r.0, rises_of es r.1)

-- an order of names
pub ord : IsTotalOrder name_cmp
ord = nat_list_cmp_total

pub flip_less : (f g : List ℕ) → name_cmp f g ≡ Greater → name_cmp g f ≡ Less
flip_less f g e = ord.antisymm g f ∙ ap ordering_reverse e

pub above_more : (g f : List ℕ) (es : List Entry) → name_cmp g f ≡ Less → Above f es → Above g es
above_more g f [] lt a = tt
above_more g f (e ∷ es) lt a = ord.trans g f e.name lt a

pub find_above : (f : List ℕ) (es : List Entry) → Above f es → find es f ≡ Absent
find_above f [] a = refl
find_above f (e ∷ es) a = ap (λ o. by_order o Absent (value_of e.node) (find es f)) a

rises_v : (v : Value) → IsTrue (sound v) → Rises (entries_of v)
rises_v Absent s = tt
rises_v Reg s = tt
rises_v (Link b) s = tt
rises_v (Special which) s = tt
rises_v (Dir es) s = rises_of es s

pub sound_value : (n : Node) → IsTrue (sound_node n) → IsTrue (sound (value_of n))
sound_value n h = layer (out-Node n) (subst (λ x. IsTrue (sound_node x)) (sym (roll-out-Node n)) h)
  where
    layer : (x : Open.Node-F Node Entry) → IsTrue (sound_node (roll-Node x)) → IsTrue (sound (value_layer x))
    layer Open.Reg h = refl
    layer (Open.Link b) h = refl
    layer (Open.Special s) h = refl
    layer (Open.Dir es) h = subst IsTrue (ap sound_node (N.rolls-Dir es) ∙ sound_Dir es) h

sound-find : (es : List Entry) (f : List ℕ) → IsTrue (sound_all es) → IsTrue (sound (find es f))
sound-find [] f h = refl
sound-find (e ∷ es) f h = step (sound-find es f (and_parts (before e.name (map (λ (x : Entry). (x.name, sound_node x.node)) es)) _ (and_parts (sound_node e.node) _ (and_parts (is_name e.name) _ h).1).1).1) (name_cmp f e.name)
  where
    step : IsTrue (sound (find es f)) → (o : Ordering) → IsTrue (sound (by_order o Absent (value_of e.node) (find es f)))
    step more Less = refl
    step more Equal = sound_value e.node (and_parts (sound_node e.node) _ (and_parts (is_name e.name) _ h).1).0
    step more Greater = more

-- what stands in a sound value is sound
pub sound-entry : (v : Value) (f : List ℕ) → IsTrue (sound v) → IsTrue (sound (entry v f))
sound-entry Absent f s = refl
sound-entry Reg f s = refl
sound-entry (Link b) f s = refl
sound-entry (Special which) f s = refl
sound-entry (Dir es) f s = sound-find es f s

-- an entry in front of others
find_inserted_same : (f : List ℕ) (w : Value) (es : List Entry) → find es f ≡ Absent → find (entry_if_present f w ++ es) f ≡ w
find_inserted_same f Absent es h = h
find_inserted_same f Reg es h = rw (tied_itself ord f) (value_of-node_of Reg tt)
find_inserted_same f (Link b) es h = rw (tied_itself ord f) (value_of-node_of (Link b) tt)
find_inserted_same f (Special s) es h = rw (tied_itself ord f) (value_of-node_of (Special s) tt)
find_inserted_same f (Dir ds) es h = rw (tied_itself ord f) (value_of-node_of (Dir ds) tt)

find_equal : (e : Entry) (es : List Entry) (f : List ℕ) → name_cmp f e.name ≡ Less → find (e ∷ es) f ≡ Absent
find_equal e es f is = ap (λ o. by_order o Absent (value_of e.node) (find es f)) is

-- the entry that was put
pub find-update_same : (es : List Entry) (f : List ℕ) (w : Value) → Rises es → find (update es f w) f ≡ w
find-update_same [] f w r = ap (λ (l : List Entry). find l f) (sym (append-nil (entry_if_present f w))) ∙ find_inserted_same f w [] refl
find-update_same (e ∷ es) f w r = step (find-update_same es f w r.1) (name_cmp f e.name) refl
  where
    step : find (update es f w) f ≡ w → (o : Ordering) → name_cmp f e.name ≡ o → find (by_order o (entry_if_present f w ++ (e ∷ es)) (entry_if_present f w ++ es) (e ∷ update es f w)) f ≡ w
    step more Less is = find_inserted_same f w (e ∷ es) (find_equal e es f is)
    step more Equal is = find_inserted_same f w es (find_above f es (subst (λ n. Above n es) (sym (same_name f e.name is)) r.0))
    step more Greater is = ap (λ o. by_order o Absent (value_of e.node) (find (update es f w) f)) is ∙ more

one_other : (f g : List ℕ) (n : Node) (es : List Entry) → (f ≡ g → ⊥) → (name_cmp g f ≡ Less → find es g ≡ Absent) → find (record { name = f; node = n } ∷ es) g ≡ find es g
one_other f g n es differ low = step (name_cmp g f) refl
  where
    step : (o : Ordering) → name_cmp g f ≡ o → by_order o Absent (value_of n) (find es g) ≡ find es g
    step Less is = sym (low is)
    step Equal is = absurd (differ (sym (same_name g f is)))
    step Greater is = refl

find_inserted_other : (f g : List ℕ) (w : Value) (es : List Entry) → (f ≡ g → ⊥) → (name_cmp g f ≡ Less → find es g ≡ Absent) → find (entry_if_present f w ++ es) g ≡ find es g
find_inserted_other f g Absent es differ low = refl
find_inserted_other f g Reg es differ low = one_other f g (node_of Reg) es differ low
find_inserted_other f g (Link b) es differ low = one_other f g (node_of (Link b)) es differ low
find_inserted_other f g (Special s) es differ low = one_other f g (node_of (Special s)) es differ low
find_inserted_other f g (Dir ds) es differ low = one_other f g (node_of (Dir ds)) es differ low

-- every other entry stays
pub find-update_other : (es : List Entry) (f g : List ℕ) (w : Value) → Rises es → (f ≡ g → ⊥) → find (update es f w) g ≡ find es g
find-update_other [] f g w r differ = ap (λ (l : List Entry). find l g) (sym (append-nil (entry_if_present f w))) ∙ find_inserted_other f g w [] differ (λ h. refl)
find-update_other (e ∷ es) f g w r differ = step (find-update_other es f g w r.1 differ) (name_cmp f e.name) refl
  where
    low_tail : name_cmp g e.name ≡ Less → find es g ≡ Absent
    low_tail h = find_above g es (above_more g e.name es h r.0)

    here : (o : Ordering) → f ≡ e.name → name_cmp g e.name ≡ o → find (entry_if_present f w ++ es) g ≡ by_order o Absent (value_of e.node) (find es g)
    here Less same is = find_inserted_other f g w es differ (λ h. low_tail is) ∙ low_tail is
    here Equal same is = absurd (differ (same ∙ sym (same_name g e.name is)))
    here Greater same is = find_inserted_other f g w es differ (λ h. low_tail (ap (name_cmp g) (sym same) ∙ h))

    step : find (update es f w) g ≡ find es g → (o : Ordering) → name_cmp f e.name ≡ o → find (by_order o (entry_if_present f w ++ (e ∷ es)) (entry_if_present f w ++ es) (e ∷ update es f w)) g ≡ find (e ∷ es) g
    step more Less is = find_inserted_other f g w (e ∷ es) differ (λ h. find_equal e es g (ord.trans g f e.name h is))
    step more Equal is = here (name_cmp g e.name) (same_name f e.name is) refl
    step more Greater is = ap (by_order (name_cmp g e.name) Absent (value_of e.node)) more

-- at the path itself stands the value that was put
pub at-put_same : (v : Value) (p : List (List ℕ)) (w : Value) → IsTrue (sound v) → IsTrue (has_parents v p) → at (put v p w) p ≡ w
at-put_same v [] w s h = refl
at-put_same v (f ∷ p) w s h =
    let parts = and_parts (is_dir v) (has_parents (entry v f) p) h in
    ap (λ (x : Value). at x p) (find-update_same (entries_of v) f (put (entry v f) p w) (rises_v v s)) ∙ at-put_same (entry v f) p w (sound-entry v f s) parts.1

entry_of-entries : (v : Value) (g : List ℕ) → find (entries_of v) g ≡ entry v g
entry_of-entries Absent g = refl
entry_of-entries Reg g = refl
entry_of-entries (Link b) g = refl
entry_of-entries (Special s) g = refl
entry_of-entries (Dir es) g = refl

-- at a path that parts from it at a name all is as before
pub at-put_other : (b : List (List ℕ)) (v : Value) (f g : List ℕ) (p q : List (List ℕ)) (w : Value) → IsTrue (sound v) → (f ≡ g → ⊥) → at (put v (b ++ (f ∷ p)) w) (b ++ (g ∷ q)) ≡ at v (b ++ (g ∷ q))
at-put_other [] v f g p q w s differ = ap (λ (x : Value). at x q) (find-update_other (entries_of v) f g (put (entry v f) p w) (rises_v v s) differ ∙ entry_of-entries v g)
at-put_other (n ∷ b) v f g p q w s differ =
    ap (λ (x : Value). at x (b ++ (g ∷ q))) (find-update_same (entries_of v) n (put (entry v n) (b ++ (f ∷ p)) w) (rises_v v s))
    ∙ at-put_other b (entry v n) f g p q w (sound-entry v n s) differ

pub at-append : (v : Value) (p q : List (List ℕ)) → at v (p ++ q) ≡ at (at v p) q
at-append v [] q = refl
at-append v (f ∷ p) q = at-append (entry v f) p q

-- below the path stands what stands in the value that was put
pub at-put_below : (v : Value) (p q : List (List ℕ)) (w : Value) → IsTrue (sound v) → IsTrue (has_parents v p) → at (put v p w) (p ++ q) ≡ at w q
at-put_below v p q w s h = at-append (put v p w) p q ∙ ap (λ (x : Value). at x q) (at-put_same v p w s h)

-- above the path stands the value from there on, with the same put
pub at-put_above : (v : Value) (p q : List (List ℕ)) (w : Value) → IsTrue (sound v) → IsTrue (has_parents v (p ++ q)) → at (put v (p ++ q) w) p ≡ put (at v p) q w
at-put_above v [] q w s h = refl
at-put_above v (f ∷ p) q w s h =
    let parts = and_parts (is_dir v) (has_parents (entry v f) (p ++ q)) h in
    ap (λ (x : Value). at x p) (find-update_same (entries_of v) f (put (entry v f) (p ++ q) w) (rises_v v s)) ∙ at-put_above (entry v f) p q w (sound-entry v f s) parts.1
