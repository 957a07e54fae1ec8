-- The lines of a directory's entries, one put after another, build the directory.
use Rattle.std.proofs.Common.{◌≡◌, ℕ, zero, suc, ◌≤◌, Bool, true, false, IsTrue, List, [], ◌∷◌, ◌++◌, map, refl, sym, ap, subst, ◌∙◌, arith, append_assoc, append-nil}
use Rattle.std.specs.Prelude.{Option, Some, None, if◌then◌else◌}
use Rattle.std.specs.Option.{option_map, option_and_then}
use Rattle.std.specs.declared.cmp.Ordering.{Ordering}
use Rattle.std.specs.declared.cmp.Ordering.TheVariants.{Less, Equal, Greater}
use Rattle.std.specs.Ordering.{ordering_reverse}
use Rattle.std.proofs.lemmas.Cmp.{tied_itself}
use Rattle.script_names.specs.Names.{is_name}
use Rattle.feature_trees.specs.declared.shape.Entry.{Entry}
use Rattle.feature_trees.specs.declared.value.Value.{Value}
use Rattle.feature_trees.specs.declared.value.Value.TheVariants.{Absent, Reg, Link, Special, Dir}
use Rattle.feature_trees.specs.declared.read.TreeLine.{TreeLine}
use Rattle.feature_trees.specs.Tree.{find, name_cmp, by_order, at, put, update, entry_if_present, entries_of, has_parents}
use Rattle.feature_trees.specs.View.{value_of, node_of, IsThere}
use Rattle.feature_trees.specs.Shape.{weight, count_all, weight_Dir, entry_weight_of}
use Rattle.feature_trees.specs.Sound.{before, sound_all, sound, sound_node}
use Rattle.feature_trees.specs.TreeLines.{is_there}
use Rattle.feature_trees.proofs.Found.{same_name}
use Rattle.feature_trees.proofs.Laws.{Above, Rises, rises_of, and_parts, ord, sound_value, find-update_same}
use Rattle.feature_trees.proofs.Kept.{node_of-value_of, value_there, rises_update}

-- what a line says of a value: a directory is empty at first
abbrev pub leaf : Value → Value
leaf Absent = Absent
leaf Reg = Reg
leaf (Link b) = Link b
leaf (Special s) = Special s
leaf (Dir es) = Dir []

-- one more line
abbrev pub add : Value → TreeLine → Option Value
add v x = if is_there (at v x.names) then None else (if has_parents v x.names then Some (put v x.names x.value) else None)

-- one line after another
abbrev pub add_all : Value → List TreeLine → Option Value
add_all v [] = Some v
add_all v (x ∷ xs) = option_and_then (λ u. add_all u xs) (add v x)

-- the same below a name
abbrev pub below : List ℕ → TreeLine → TreeLine
below f x = record { names = f ∷ x.names; value = x.value }

-- what the lines of entries say, in order, for no more entries than a number
abbrev pub adds : ℕ → List Entry → List TreeLine
adds zero es = []
adds (suc k) [] = []
adds (suc k) (e ∷ es) =
    record { names = e.name ∷ []; value = leaf (value_of e.node) } ∷ (map (below e.name) (adds k (entries_of (value_of e.node))) ++ adds k es)

-- ---- updates

pub entry_there : (f : List ℕ) (w : Value) → IsThere w → entry_if_present f w ≡ record { name = f; node = node_of w } ∷ []
entry_there f Absent h = absurd h
entry_there f Reg h = refl
entry_there f (Link b) h = refl
entry_there f (Special s) h = refl
entry_there f (Dir es) h = refl

-- an entry is what stands under its name
entry_back : (e : Entry) → entry_if_present e.name (value_of e.node) ≡ e ∷ []
entry_back e =
    entry_there e.name (value_of e.node) (value_there e.node) ∙ ap (λ n. record { name = e.name; node = n } ∷ []) (node_of-value_of e.node)

-- an update of the first of rising entries
update_first : (f : List ℕ) (a b : Value) (es : List Entry) → Above f es → update (entry_if_present f a ++ es) f b ≡ entry_if_present f b ++ es
update_first f Absent b [] h = sym (append-nil (entry_if_present f b))
update_first f Absent b (e ∷ es) h =
    ap (λ o. by_order o (entry_if_present f b ++ (e ∷ es)) (entry_if_present f b ++ es) (e ∷ update es f b)) h
update_first f Reg b es h = rw (tied_itself ord f) refl
update_first f (Link t) b es h = rw (tied_itself ord f) refl
update_first f (Special s) b es h = rw (tied_itself ord f) refl
update_first f (Dir ds) b es h = rw (tied_itself ord f) refl

-- the later of two updates under one name
update_twice : (es : List Entry) (f : List ℕ) (a b : Value) → Rises es → update (update es f a) f b ≡ update es f b
update_twice [] f a b r =
    ap (λ l. update l f b) (sym (append-nil (entry_if_present f a))) ∙ update_first f a b [] tt ∙ append-nil (entry_if_present f b)
update_twice (e ∷ es) f a b r = step (name_cmp f e.name) refl (update_twice es f a b r.1)
  where
    step : (o : Ordering) → name_cmp f e.name ≡ o → update (update es f a) f b ≡ update es f b
        → update (by_order o (entry_if_present f a ++ (e ∷ es)) (entry_if_present f a ++ es) (e ∷ update es f a)) f b
        ≡ by_order o (entry_if_present f b ++ (e ∷ es)) (entry_if_present f b ++ es) (e ∷ update es f b)
    step Less is more = update_first f a b (e ∷ es) is
    step Equal is more = update_first f a b es (subst (λ g. Above g es) (sym (same_name f e.name is)) r.0)
    step Greater is more =
        ap (λ o. by_order o (entry_if_present f b ++ (e ∷ update es f a)) (entry_if_present f b ++ update es f a) (e ∷ update (update es f a) f b)) is
        ∙ ap (λ l. e ∷ l) more

-- an update by what stands there
update_self : (es : List Entry) (f : List ℕ) → Rises es → update es f (find es f) ≡ es
update_self [] f r = refl
update_self (e ∷ es) f r = step (name_cmp f e.name) refl (update_self es f r.1)
  where
    step : (o : Ordering) → name_cmp f e.name ≡ o → update es f (find es f) ≡ es
        → (let w = by_order o Absent (value_of e.node) (find es f) in
        by_order o (entry_if_present f w ++ (e ∷ es)) (entry_if_present f w ++ es) (e ∷ update es f w)) ≡ e ∷ es
    step Less is more = refl
    step Equal is more =
        ap (λ g. entry_if_present g (value_of e.node) ++ es) (same_name f e.name is) ∙ ap (λ l. l ++ es) (entry_back e)
    step Greater is more = ap (λ l. e ∷ l) more

-- a name above all of these
abbrev Passes : List ℕ → List Entry → Type 0
Passes f [] = Unit {0}
Passes f (e ∷ es) = (name_cmp f e.name ≡ Greater) × Passes f es

-- an update above all others goes last
update_last : (es : List Entry) (f : List ℕ) (w : Value) → Passes f es → update es f w ≡ es ++ entry_if_present f w
update_last [] f w p = refl
update_last (e ∷ es) f w p =
    ap (λ o. by_order o (entry_if_present f w ++ (e ∷ es)) (entry_if_present f w ++ es) (e ∷ update es f w)) p.0
    ∙ ap (λ l. e ∷ l) (update_last es f w p.1)

-- ---- names go on rising

rises_front : (done es : List Entry) → Rises (done ++ es) → Rises done
rises_front [] es r = tt
rises_front (d ∷ done) es r = (above_front d.name done es r.0, rises_front done es r.1)
  where
    above_front : (n : List ℕ) (done es : List Entry) → Above n (done ++ es) → Above n done
    above_front n [] es a = tt
    above_front n (d ∷ done) es a = a

first_below : (n : List ℕ) (done : List Entry) (e : Entry) (es : List Entry) → Above n (done ++ (e ∷ es)) → Rises (done ++ (e ∷ es)) → name_cmp n e.name ≡ Less
first_below n [] e es a r = a
first_below n (d ∷ done) e es a r = ord.trans n d.name e.name a (first_below d.name done e es r.0 r.1)

passes_of : (done : List Entry) (e : Entry) (es : List Entry) → Rises (done ++ (e ∷ es)) → Passes e.name done
passes_of [] e es r = tt
passes_of (d ∷ done) e es r = (ord.antisymm e.name d.name ∙ ap ordering_reverse (first_below d.name done e es r.0 r.1), passes_of done e es r.1)

-- nothing stands at a name above all of these
find_passes : (es : List Entry) (f : List ℕ) → Passes f es → find es f ≡ Absent
find_passes [] f p = refl
find_passes (e ∷ es) f p = ap (λ o. by_order o Absent (value_of e.node) (find es f)) p.0 ∙ find_passes es f p.1

-- ---- lines

all_both : (v : Value) (xs ys : List TreeLine) → add_all v (xs ++ ys) ≡ option_and_then (λ u. add_all u ys) (add_all v xs)
all_both v [] ys = refl
all_both v (x ∷ xs) ys = step (add v x) (λ u. all_both u xs ys)
  where
    step : (o : Option Value) → ((u : Value) → add_all u (xs ++ ys) ≡ option_and_then (λ w. add_all w ys) (add_all u xs))
        → option_and_then (λ u. add_all u (xs ++ ys)) o ≡ option_and_then (λ w. add_all w ys) (option_and_then (λ u. add_all u xs) o)
    step None more = refl
    step (Some u) more = more u

-- a line below a name is a line in what stands there
add_below : (xs : List Entry) (f : List ℕ) (q : TreeLine) → add (Dir xs) (below f q) ≡ option_map (λ w. Dir (update xs f w)) (add (find xs f) q)
add_below xs f q = step (is_there (at (find xs f) q.names)) (has_parents (find xs f) q.names)
  where
    step : (a b : Bool)
        → (if a then None else (if b then Some (Dir (update xs f (put (find xs f) q.names q.value))) else None))
        ≡ option_map (λ w. Dir (update xs f w)) (if a then None else (if b then Some (put (find xs f) q.names q.value) else None))
    step true b = refl
    step false true = refl
    step false false = refl

same_map : (o : Option Value) (g h : Value → Value) → ((v : Value) → g v ≡ h v) → option_map g o ≡ option_map h o
same_map None g h e = refl
same_map (Some v) g h e = ap Some (e v)

adds_below : (xs : List Entry) (f : List ℕ) (qs : List TreeLine) → Rises xs → add_all (Dir xs) (map (below f) qs) ≡ option_map (λ w. Dir (update xs f w)) (add_all (find xs f) qs)
adds_below xs f [] r = ap (λ l. Some (Dir l)) (sym (update_self xs f r))
adds_below xs f (q ∷ qs) r =
    ap (option_and_then (λ u. add_all u (map (below f) qs))) (add_below xs f q)
    ∙ step (add (find xs f) q) (λ w. adds_below (update xs f w) f qs (rises_update xs f w r)
    ∙ ap (λ v. option_map (λ u. Dir (update (update xs f w) f u)) (add_all v qs)) (find-update_same xs f w r)
    ∙ same_map (add_all w qs) (λ u. Dir (update (update xs f w) f u)) (λ u. Dir (update xs f u)) (λ u. ap Dir (update_twice xs f w u r)))
  where
    step : (o : Option Value) → ((w : Value) → add_all (Dir (update xs f w)) (map (below f) qs) ≡ option_map (λ u. Dir (update xs f u)) (add_all w qs))
        → option_and_then (λ u. add_all u (map (below f) qs)) (option_map (λ w. Dir (update xs f w)) o) ≡ option_map (λ u. Dir (update xs f u)) (option_and_then (λ w. add_all w qs) o)
    step None more = refl
    step (Some w) more = more w

no_adds : (k : ℕ) → adds k [] ≡ []
no_adds zero = refl
no_adds (suc k) = refl

-- what is below a value builds it from what its own line says
inside : (k : ℕ) (w : Value) → ((ds : List Entry) → w ≡ Dir ds → add_all (Dir []) (adds k ds) ≡ Some (Dir ds)) → add_all (leaf w) (adds k (entries_of w)) ≡ Some w
inside k Absent more = ap (add_all Absent) (no_adds k)
inside k Reg more = ap (add_all Reg) (no_adds k)
inside k (Link b) more = ap (add_all (Link b)) (no_adds k)
inside k (Special s) more = ap (add_all (Special s)) (no_adds k)
inside k (Dir ds) more = more ds refl

pub weight_of : (e : Entry) (ds : List Entry) → value_of e.node ≡ Dir ds → weight e.node ≡ count_all ds
weight_of e ds q = ap weight (sym (node_of-value_of e.node) ∙ ap node_of q) ∙ weight_Dir ds

-- the line of an entry above all others
own_line : (done : List Entry) (f : List ℕ) (w : Value) → Passes f done → add (Dir done) (record { names = f ∷ []; value = w }) ≡ Some (Dir (update done f w))
own_line done f w p = ap (λ v. if is_there v then None else Some (Dir (update done f w))) (find_passes done f p)

build : (k : ℕ) (done es : List Entry) → Rises (done ++ es) → IsTrue (sound_all es) → count_all es ≤ k → add_all (Dir done) (adds k es) ≡ Some (Dir (done ++ es))
build zero done [] r s h = ap (λ l. Some (Dir l)) (sym (append-nil done))
build zero done (e ∷ es) r s h = absurd (omega (arith, entry_weight_of e))
build (suc k) done [] r s h = ap (λ l. Some (Dir l)) (sym (append-nil done))
build (suc k) done (e ∷ es) r s h =
    let w = value_of e.node in
    let f = e.name in
    let p = and_parts (is_name e.name) _ s in
    let q = and_parts (sound_node e.node) _ p.1 in
    let m = and_parts (before e.name (map (λ (x : Entry). (x.name, sound_node x.node)) es)) _ q.1 in
    let front = rises_front done (e ∷ es) r in
    let above = passes_of done e es r in
    let xs = update done f (leaf w) in
    let inner = map (below f) (adds k (entries_of w)) in
    let within : add_all (leaf w) (adds k (entries_of w)) ≡ Some w = inside k w (λ ds d.
    build k [] ds (rises_of ds (subst (λ v. IsTrue (sound v)) d (sound_value e.node q.0))) (subst (λ v. IsTrue (sound v)) d (sound_value e.node q.0))
    (omega (arith, h, entry_weight_of e, weight_of e ds d))) in
    let first : add_all (Dir xs) inner ≡ Some (Dir (done ++ e ∷ [])) =
    adds_below xs f (adds k (entries_of w)) (rises_update done f (leaf w) front)
    ∙ ap (λ v. option_map (λ u. Dir (update xs f u)) (add_all v (adds k (entries_of w)))) (find-update_same done f (leaf w) front)
    ∙ ap (option_map (λ u. Dir (update xs f u))) within
    ∙ ap (λ l. Some (Dir l)) (update_twice done f (leaf w) w front ∙ update_last done f w above ∙ ap (λ l. done ++ l) (entry_back e)) in
    let whole = append_assoc done (e ∷ []) es in
    ap (option_and_then (λ u. add_all u (inner ++ adds k es))) (own_line done f (leaf w) above)
    ∙ all_both (Dir xs) inner (adds k es)
    ∙ ap (option_and_then (λ u. add_all u (adds k es))) first
    ∙ build k (done ++ e ∷ []) es (subst Rises (sym whole) r) m.1 (omega (arith, h, entry_weight_of e))
    ∙ ap (λ l. Some (Dir l)) whole

-- the lines of sound entries build their directory
pub adds_build : (k : ℕ) (es : List Entry) → IsTrue (sound_all es) → count_all es ≤ k → add_all (Dir []) (adds k es) ≡ Some (Dir es)
adds_build k es s h = build k [] es (rises_of es s) s h
