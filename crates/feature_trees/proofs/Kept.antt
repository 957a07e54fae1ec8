-- A put keeps a directory sound, and a directory is determined by its entries.
use Rattle.std.proofs.Common.{◌≡◌, ℕ, suc, arith, Bool, IsTrue, All, List, [], ◌∷◌, ◌++◌, map, refl, sym, ap, subst, ◌∙◌, append-nil}
use Rattle.std.specs.declared.cmp.Ordering.{Ordering}
use Rattle.std.specs.declared.cmp.Ordering.TheVariants.{Less, Equal, Greater}
use Rattle.std.specs.Ordering.{is_lt}
use Rattle.std.proofs.lemmas.Cmp.{tied_itself}
use Rattle.feature_trees.specs.declared.shape.Entry.{Entry}
use Rattle.feature_trees.specs.declared.shape.Node.{Node}
use Rattle.feature_trees.specs.declared.shape.Node.TheOpen as Open
use Rattle.feature_trees.specs.declared.shape.Node.TheVariants as N
use Rattle.feature_trees.specs.declared.shape.Node.TheViews.{out-Node, roll-Node, roll-out-Node}
use Rattle.feature_trees.specs.declared.shape.Node.TheFolds.{fold-roll-Node}
use Rattle.feature_trees.specs.declared.value.Value.{Value}
use Rattle.feature_trees.specs.declared.value.Value.TheVariants.{Absent, Reg, Link, Special, Dir}
use Rattle.script_names.specs.Names.{is_name}
use Rattle.feature_trees.specs.Tree.{find, name_cmp, by_order, update, entry_if_present, put, entry, entries_of, kind_of}
use Rattle.feature_trees.specs.declared.kind.Kind.TheVariants as kind
use Rattle.feature_trees.specs.View.{value_layer, value_of, node_of, IsThere}
use Rattle.feature_trees.specs.Sound.{sound_layer, entry_layer, before, sound_all, sound, sound_node, sound_Dir}
use Rattle.feature_trees.proofs.Found.{same_name}
use Rattle.feature_trees.proofs.Laws.{Above, Rises, rises_of, and_parts, and_made, ord, flip_less, above_more, find_above, sound-entry}

abbrev pub EachSound : List Entry → Type 0
EachSound [] = Unit {0}
EachSound (e ∷ es) = IsTrue (is_name e.name) × IsTrue (sound_node e.node) × EachSound es

pub each_of : (es : List Entry) → IsTrue (sound_all es) → EachSound es
each_of [] h = tt
each_of (e ∷ es) h =
    let p = and_parts (is_name e.name) _ h in
    let q = and_parts (sound_node e.node) _ p.1 in
    let r = and_parts (before e.name (map (λ (x : Entry). (x.name, sound_node x.node)) es)) _ q.1 in
    (p.0, q.0, each_of es r.1)

before_of : (f : List ℕ) (es : List Entry) → Above f es → IsTrue (before f (map (λ (e : Entry). (e.name, sound_node e.node)) es))
before_of f [] a = refl
before_of f (e ∷ es) a = ap is_lt a

made : (es : List Entry) → Rises es → EachSound es → IsTrue (sound_all es)
made [] r s = refl
made (e ∷ es) r s = and_made _ _ s.0 (and_made _ _ s.1 (and_made _ _ (before_of e.name es r.0) (made es r.1 s.2)))

node_sound : (w : Value) → IsTrue (sound w) → IsTrue (sound_node (node_of w))
node_sound Absent s = ap sound_node (sym N.rolls-Reg) ∙ fold-roll-Node Bool (List ℕ × Bool) sound_layer entry_layer Open.Reg
node_sound Reg s = ap sound_node (sym N.rolls-Reg) ∙ fold-roll-Node Bool (List ℕ × Bool) sound_layer entry_layer Open.Reg
node_sound (Link b) s = ap sound_node (sym (N.rolls-Link b)) ∙ fold-roll-Node Bool (List ℕ × Bool) sound_layer entry_layer (Open.Link b)
node_sound (Special which) s = ap sound_node (sym (N.rolls-Special which)) ∙ fold-roll-Node Bool (List ℕ × Bool) sound_layer entry_layer (Open.Special which)
node_sound (Dir es) s = subst IsTrue (sym (sound_Dir es)) s

each_inserted : (f : List ℕ) (w : Value) (es : List Entry) → IsTrue (is_name f) → IsTrue (sound w) → EachSound es → EachSound (entry_if_present f w ++ es)
each_inserted f Absent es n s h = h
each_inserted f Reg es n s h = (n, node_sound Reg s, h)
each_inserted f (Link b) es n s h = (n, node_sound (Link b) s, h)
each_inserted f (Special which) es n s h = (n, node_sound (Special which) s, h)
each_inserted f (Dir ds) es n s h = (n, node_sound (Dir ds) s, h)

rises_inserted : (f : List ℕ) (w : Value) (es : List Entry) → Above f es → Rises es → Rises (entry_if_present f w ++ es)
rises_inserted f Absent es a r = r
rises_inserted f Reg es a r = (a, r)
rises_inserted f (Link b) es a r = (a, r)
rises_inserted f (Special s) es a r = (a, r)
rises_inserted f (Dir ds) es a r = (a, r)

above_inserted : (n f : List ℕ) (w : Value) (es : List Entry) → name_cmp n f ≡ Less → Above n es → Above n (entry_if_present f w ++ es)
above_inserted n f Absent es lt a = a
above_inserted n f Reg es lt a = lt
above_inserted n f (Link b) es lt a = lt
above_inserted n f (Special s) es lt a = lt
above_inserted n f (Dir ds) es lt a = lt

above_update : (n : List ℕ) (es : List Entry) (f : List ℕ) (w : Value) → name_cmp n f ≡ Less → Above n es → Rises es → Above n (update es f w)
above_update n [] f w lt a r = subst (Above n) (append-nil (entry_if_present f w)) (above_inserted n f w [] lt tt)
above_update n (e ∷ es) f w lt a r = step (name_cmp f e.name)
  where
    step : (o : Ordering) → Above n (by_order o (entry_if_present f w ++ (e ∷ es)) (entry_if_present f w ++ es) (e ∷ update es f w))
    step Less = above_inserted n f w (e ∷ es) lt a
    step Equal = above_inserted n f w es lt (above_more n e.name es a r.0)
    step Greater = a

pub rises_update : (es : List Entry) (f : List ℕ) (w : Value) → Rises es → Rises (update es f w)
rises_update [] f w r = subst Rises (append-nil (entry_if_present f w)) (rises_inserted f w [] tt tt)
rises_update (e ∷ es) f w r = step (rises_update es f w r.1) (name_cmp f e.name) refl
  where
    step : Rises (update es f w) → (o : Ordering) → name_cmp f e.name ≡ o → Rises (by_order o (entry_if_present f w ++ (e ∷ es)) (entry_if_present f w ++ es) (e ∷ update es f w))
    step more Less is = rises_inserted f w (e ∷ es) is r
    step more Equal is = rises_inserted f w es (subst (λ n. Above n es) (sym (same_name f e.name is)) r.0) r.1
    step more Greater is = (above_update e.name es f w (flip_less f e.name is) r.0 r.1, more)

each_update : (es : List Entry) (f : List ℕ) (w : Value) → IsTrue (is_name f) → IsTrue (sound w) → EachSound es → EachSound (update es f w)
each_update [] f w n s h = subst EachSound (append-nil (entry_if_present f w)) (each_inserted f w [] n s tt)
each_update (e ∷ es) f w n s h = step (each_update es f w n s h.2) (name_cmp f e.name)
  where
    step : EachSound (update es f w) → (o : Ordering) → EachSound (by_order o (entry_if_present f w ++ (e ∷ es)) (entry_if_present f w ++ es) (e ∷ update es f w))
    step more Less = each_inserted f w (e ∷ es) n s h
    step more Equal = each_inserted f w es n s h.2
    step more Greater = (h.0, h.1, more)

-- a put keeps the entries sound
pub sound-update : (es : List Entry) (f : List ℕ) (w : Value) → IsTrue (sound_all es) → IsTrue (is_name f) → IsTrue (sound w) → IsTrue (sound_all (update es f w))
sound-update es f w h n s = made (update es f w) (rises_update es f w (rises_of es h)) (each_update es f w n s (each_of es h))

-- what stands in a directory determines it

pub node_of-value_of : (n : Node) → node_of (value_of n) ≡ n
node_of-value_of n = layer (out-Node n) ∙ roll-out-Node n
  where
    layer : (x : Open.Node-F Node Entry) → node_of (value_layer x) ≡ roll-Node x
    layer Open.Reg = sym N.rolls-Reg
    layer (Open.Link b) = sym (N.rolls-Link b)
    layer (Open.Special s) = sym (N.rolls-Special s)
    layer (Open.Dir es) = sym (N.rolls-Dir es)

pub value_there : (n : Node) → IsThere (value_of n)
value_there n = layer (out-Node n)
  where
    layer : (x : Open.Node-F Node Entry) → IsThere (value_layer x)
    layer Open.Reg = tt
    layer (Open.Link b) = tt
    layer (Open.Special s) = tt
    layer (Open.Dir es) = tt

pub find_first : (e : Entry) (es : List Entry) → find (e ∷ es) e.name ≡ value_of e.node
find_first e es = ap (λ o. by_order o Absent (value_of e.node) (find es e.name)) (tied_itself ord e.name)

not_absent : {A : Type 0} (n : Node) → value_of n ≡ Absent → A
not_absent n e = absurd (subst IsThere e (value_there n))

-- two directories that answer alike at every name are the same
pub same_finds : (es ds : List Entry) → Rises es → Rises ds → ((g : List ℕ) → find es g ≡ find ds g) → es ≡ ds
same_finds [] [] r t h = refl
same_finds [] (d ∷ ds) r t h = not_absent d.node (sym (find_first d ds) ∙ sym (h d.name))
same_finds (e ∷ es) [] r t h = not_absent e.node (sym (find_first e es) ∙ h e.name)
same_finds (e ∷ es) (d ∷ ds) r t h = step (name_cmp e.name d.name) refl (same_finds es ds r.1 t.1)
  where
    step : (o : Ordering) → name_cmp e.name d.name ≡ o → (((g : List ℕ) → find es g ≡ find ds g) → es ≡ ds) → e ∷ es ≡ d ∷ ds
    step Less is more = not_absent e.node (sym (find_first e es) ∙ h e.name ∙ ap (λ o. by_order o Absent (value_of d.node) (find ds e.name)) is)
    step Greater is more = not_absent d.node (sym (find_first d ds) ∙ sym (h d.name) ∙ ap (λ o. by_order o Absent (value_of e.node) (find es d.name)) (flip_less e.name d.name is))
    step Equal is more = both
      where
        name : e.name ≡ d.name
        name = same_name e.name d.name is

        value : value_of e.node ≡ value_of d.node
        value = sym (find_first e es) ∙ h e.name ∙ ap (find (d ∷ ds)) name ∙ find_first d ds

        node : e.node ≡ d.node
        node = sym (node_of-value_of e.node) ∙ ap node_of value ∙ node_of-value_of d.node

        tail : (g : List ℕ) (o : Ordering) → name_cmp g e.name ≡ o → find es g ≡ find ds g
        tail g Less c = find_above g es (above_more g e.name es c r.0) ∙ sym (find_above g ds (above_more g d.name ds (ap (name_cmp g) (sym name) ∙ c) t.0))
        tail g Equal c =
            let here : g ≡ e.name = same_name g e.name c in
            find_above g es (subst (λ n. Above n es) (sym here) r.0) ∙ sym (find_above g ds (subst (λ n. Above n ds) (sym (here ∙ name)) t.0))
        tail g Greater c =
            sym (ap (λ o. by_order o Absent (value_of e.node) (find es g)) c) ∙ h g ∙ ap (λ o. by_order o Absent (value_of d.node) (find ds g)) (ap (name_cmp g) (sym name) ∙ c)

        rest : es ≡ ds
        rest = more (λ g. tail g (name_cmp g e.name) refl)

        both : e ∷ es ≡ d ∷ ds
        both = λ i. record { name = name i; node = node i } ∷ rest i

pub sound_entries : (v : Value) → IsTrue (sound v) → IsTrue (sound_all (entries_of v))
sound_entries Absent s = refl
sound_entries Reg s = refl
sound_entries (Link b) s = refl
sound_entries (Special which) s = refl
sound_entries (Dir es) s = s

-- a put of a sound value at names keeps a value sound
pub sound-put : (v : Value) (p : List (List ℕ)) (w : Value) → IsTrue (sound v) → IsTrue (sound w) → All (λ (f : List ℕ). IsTrue (is_name f)) p → IsTrue (sound (put v p w))
sound-put v [] w s t names = t
sound-put v (f ∷ p) w s t names =
    sound-update (entries_of v) f (put (entry v f) p w) (sound_entries v s) (names 0 f (omega arith)) (sound-put (entry v f) p w (sound-entry v f s) t (λ k d lt. names (suc k) d (omega arith)))

-- two directories with the same entries are the same
pub same_dirs : (v w : Value) → IsTrue (sound v) → IsTrue (sound w) → kind_of v ≡ kind.Dir → kind_of w ≡ kind.Dir → ((f : List ℕ) → entry v f ≡ entry w f) → v ≡ w
same_dirs (Dir es) (Dir ds) s t d e h = ap Dir (same_finds es ds (rises_of es s) (rises_of ds t) h)
same_dirs Absent w s t d e h = cc
same_dirs Reg w s t d e h = cc
same_dirs (Link b) w s t d e h = cc
same_dirs (Special which) w s t d e h = cc
same_dirs (Dir es) Absent s t d e h = cc
same_dirs (Dir es) Reg s t d e h = cc
same_dirs (Dir es) (Link b) s t d e h = cc
same_dirs (Dir es) (Special which) s t d e h = cc
