-- What stands at a place among a directory's entries, and what an edit there does.
use Rattle.std.proofs.Common.{◌≡◌, ℕ, zero, suc, ◌<◌, List, [], ◌∷◌, length, drop, set, ◌+◌, get_or, Some, None, refl, sym, ap, subst, ◌∙◌, arith}
use Rattle.std.specs.Prelude.{remove, insert, slice_get}
use Rattle.std.specs.declared.cmp.Ordering.TheVariants.{Equal}
use Rattle.std.proofs.lemmas.Grind.{common_steps}
use Rattle.std.specs.FinMap.{slice_cmp-IsAntisymmetric, nat_cmp-IsAntisymmetric}
use Rattle.feature_trees.specs.declared.shape.Entry.{Entry}
use Rattle.feature_trees.specs.declared.value.NamedValue.{NamedValue}
use Rattle.feature_trees.specs.declared.value.Value.{Value}
use Rattle.feature_trees.specs.declared.value.Value.TheVariants.{Absent, Reg, Link, Special, Dir}
use Rattle.feature_trees.specs.Tree.{find, name_cmp, present, by_order, at, entry, update, entry_if_present}
use Rattle.feature_trees.specs.View.{seen, IsThere, AllThere, value_of, node_of, value_of-node_of}
use Rattle.feature_trees.specs.Place.{Passed, BeginsAt, BeginsAfter, IsAt, IsGap}

pub present-there : (v : Value) → IsThere v → present v ≡ Some v
present-there Absent h = absurd h
present-there Reg h = refl
present-there (Link b) h = refl
present-there (Special s) h = refl
present-there (Dir es) h = refl

not_present : (v : Value) → present v ≡ None → v ≡ Absent
not_present Absent h = refl
not_present Reg h = cc
not_present (Link b) h = cc
not_present (Special s) h = cc
not_present (Dir es) h = cc

pub at_Absent : (p : List (List ℕ)) → at Absent p ≡ Absent
at_Absent [] = refl
at_Absent (f ∷ p) = at_Absent p

-- nothing stands below what is absent
pub stops : (v : Value) (p : List (List ℕ)) (i : ℕ) (f : List ℕ) (w : Value) → i < length p → f ≡ get_or p i f → None ≡ present (entry v f) → at v (drop i p) ≡ w → None ≡ present w
stops v p i f w lt is gone e =
    let step : at v (drop i p) ≡ at (entry v f) (drop (i + 1) p) = grind (arith, common_steps) in
    let none : entry v f ≡ Absent = not_present _ (sym gone) in
    let left : w ≡ Absent = sym e ∙ step ∙ ap (λ x. at x (drop (i + 1) p)) none ∙ at_Absent (drop (i + 1) p) in
    rw left refl

pub same_name : (f g : List ℕ) → name_cmp f g ≡ Equal → f ≡ g
same_name f g = slice_cmp-IsAntisymmetric nat_cmp-IsAntisymmetric f g

-- where a name is

pub begins_at : (hs : List NamedValue) (f : List ℕ) (i : ℕ) (d : NamedValue) → i < length hs → name_cmp f (get_or hs i d).name ≡ Equal → BeginsAt (drop i hs) f
begins_at [] f i d lt e = absurd (omega arith)
begins_at (h ∷ hs) f zero d lt e = e
begins_at (h ∷ hs) f (suc i) d lt e = begins_at hs f i d (omega arith) e

-- what is found

found : (hs : List NamedValue) (f : List ℕ) (i : ℕ) (d : NamedValue) → AllThere hs → i < length hs → Passed hs f i → BeginsAt (drop i hs) f → find (seen hs) f ≡ (get_or hs i d).value
found [] f i d all lt p b = absurd (omega arith)
found (h ∷ hs) f zero d all lt p b = ap (λ o. by_order o Absent (value_of (node_of h.value)) (find (seen hs) f)) b ∙ value_of-node_of h.value all.0
found (h ∷ hs) f (suc i) d all lt p b = ap (λ o. by_order o Absent (value_of (node_of h.value)) (find (seen hs) f)) p.0 ∙ found hs f i d all.1 (omega arith) p.1 b

pub there_at : (hs : List NamedValue) (i : ℕ) (d : NamedValue) → AllThere hs → i < length hs → IsThere (get_or hs i d).value
there_at [] i d all lt = absurd (omega arith)
there_at (h ∷ hs) zero d all lt = all.0
there_at (h ∷ hs) (suc i) d all lt = there_at hs i d all.1 (omega arith)

pub present_at : (hs : List NamedValue) (f : List ℕ) (i : ℕ) (d : NamedValue) → AllThere hs → IsAt hs f i → present (find (seen hs) f) ≡ Some (get_or hs i d).value
present_at hs f i d all is = rw (found hs f i d all is.in_range is.passed is.here) (present-there _ (there_at hs i d all is.in_range))

missing : (hs : List NamedValue) (f : List ℕ) (i : ℕ) → Passed hs f i → BeginsAfter (drop i hs) f → find (seen hs) f ≡ Absent
missing [] f i p b = refl
missing (h ∷ hs) f zero p b = ap (λ o. by_order o Absent (value_of (node_of h.value)) (find (seen hs) f)) b
missing (h ∷ hs) f (suc i) p b = ap (λ o. by_order o Absent (value_of (node_of h.value)) (find (seen hs) f)) p.0 ∙ missing hs f i p.1 b

pub find_gap : (hs : List NamedValue) (f : List ℕ) (i : ℕ) → IsGap hs f i → find (seen hs) f ≡ Absent
find_gap hs f i gap = missing hs f i gap.passed gap.here

-- what an edit does

tail_all : (hs : List NamedValue) (i : ℕ) → AllThere hs → AllThere (remove hs i)
tail_all [] zero all = tt
tail_all [] (suc i) all = tt
tail_all (h ∷ hs) zero all = all.1
tail_all (h ∷ hs) (suc i) all = (all.0, tail_all hs i all.1)

removed : (hs : List NamedValue) (f : List ℕ) (i : ℕ) → i < length hs → Passed hs f i → BeginsAt (drop i hs) f → seen (remove hs i) ≡ update (seen hs) f Absent
removed [] f i lt p b = absurd (omega arith)
removed (h ∷ hs) f zero lt p b = rw b refl
removed (h ∷ hs) f (suc i) lt p b = rw (p.0, ← removed hs f i (omega arith) p.1 b) refl

pub seen-remove : (hs : List NamedValue) (f : List ℕ) (i : ℕ) → IsAt hs f i → seen (remove hs i) ≡ update (seen hs) f Absent
seen-remove hs f i is = removed hs f i is.in_range is.passed is.here

pub there-remove : (hs : List NamedValue) (i : ℕ) → AllThere hs → AllThere (remove hs i)
there-remove = tail_all

unmoved : (hs : List NamedValue) (f : List ℕ) (i : ℕ) → Passed hs f i → BeginsAfter (drop i hs) f → seen hs ≡ update (seen hs) f Absent
unmoved [] f i p b = refl
unmoved (h ∷ hs) f zero p b = rw b refl
unmoved (h ∷ hs) f (suc i) p b = rw (p.0, ← unmoved hs f i p.1 b) refl

pub seen-gap : (hs : List NamedValue) (f : List ℕ) (i : ℕ) → IsGap hs f i → seen hs ≡ update (seen hs) f Absent
seen-gap hs f i gap = unmoved hs f i gap.passed gap.here

pub entry_if_present-there : (f : List ℕ) (v : Value) → IsThere v → entry_if_present f v ≡ record { name = f; node = node_of v } ∷ []
entry_if_present-there f Absent h = absurd h
entry_if_present-there f Reg h = refl
entry_if_present-there f (Link b) h = refl
entry_if_present-there f (Special s) h = refl
entry_if_present-there f (Dir es) h = refl

inserted : (hs : List NamedValue) (f : List ℕ) (i : ℕ) (v : Value) → IsThere v → Passed hs f i → BeginsAfter (drop i hs) f → seen (insert hs i (record { name = f; value = v })) ≡ update (seen hs) f v
inserted [] f zero v th p b = sym (entry_if_present-there f v th)
inserted [] f (suc i) v th p b = absurd p
inserted (h ∷ hs) f zero v th p b = rw (b, entry_if_present-there f v th) refl
inserted (h ∷ hs) f (suc i) v th p b = rw (p.0, ← inserted hs f i v th p.1 b) refl

pub seen-insert : (hs : List NamedValue) (f : List ℕ) (i : ℕ) (v : Value) → IsThere v → IsGap hs f i → seen (insert hs i (record { name = f; value = v })) ≡ update (seen hs) f v
seen-insert hs f i v th gap = inserted hs f i v th gap.passed gap.here

pub there-insert : (hs : List NamedValue) (i : ℕ) (h : NamedValue) → AllThere hs → IsThere h.value → AllThere (insert hs i h)
there-insert [] zero h all th = (th, tt)
there-insert [] (suc i) h all th = (th, tt)
there-insert (x ∷ hs) zero h all th = (th, all)
there-insert (x ∷ hs) (suc i) h all th = (all.0, there-insert hs i h all.1 th)

pub seen-set : (hs : List NamedValue) (f : List ℕ) (i : ℕ) (d : NamedValue) (v : Value) → IsThere v → IsAt hs f i → seen (set hs i (record { name = (get_or hs i d).name; value = v })) ≡ update (seen hs) f v
seen-set hs f i d v th is = put hs i is.in_range is.passed is.here
  where
    put : (hs : List NamedValue) (i : ℕ) → i < length hs → Passed hs f i → BeginsAt (drop i hs) f → seen (set hs i (record { name = (get_or hs i d).name; value = v })) ≡ update (seen hs) f v
    put [] i lt p b = absurd (omega arith)
    put (h ∷ hs) zero lt p b = rw (b, entry_if_present-there f v th, ← same_name f h.name b) refl
    put (h ∷ hs) (suc i) lt p b = rw (p.0, ← put hs i (omega arith) p.1 b) refl

pub there-set : (hs : List NamedValue) (i : ℕ) (h : NamedValue) → AllThere hs → IsThere h.value → AllThere (set hs i h)
there-set [] i h all th = tt
there-set (x ∷ hs) zero h all th = (th, all.1)
there-set (x ∷ hs) (suc i) h all th = (all.0, there-set hs i h all.1 th)

pub seen-write : (hs : List NamedValue) (f : List ℕ) (i : ℕ) (h : NamedValue) (v : Value) → IsThere v → IsAt hs f i → h ≡ get_or hs i h → seen (set hs i (record { name = h.name; value = v })) ≡ update (seen hs) f v
seen-write hs f i h v th is e = ap (λ (x : NamedValue). seen (set hs i (record { name = x.name; value = v }))) e ∙ seen-set hs f i h v th is

pub found_at : (hs : List NamedValue) (f : List ℕ) (i : ℕ) (d : NamedValue) → AllThere hs → IsAt hs f i → find (seen hs) f ≡ (get_or hs i d).value
found_at hs f i d all is = found hs f i d all is.in_range is.passed is.here

-- what contracts see tells the entries apart

node_of-same : (v w : Value) → IsThere v → IsThere w → node_of v ≡ node_of w → v ≡ w
node_of-same v w hv hw e = sym (value_of-node_of v hv) ∙ ap value_of e ∙ value_of-node_of w hw

pub seen_back : (a b : List NamedValue) → AllThere a → AllThere b → seen a ≡ seen b → a ≡ b
seen_back [] [] ha hb e = refl
seen_back [] (y ∷ ys) ha hb e = cc
seen_back (x ∷ xs) [] ha hb e = cc
seen_back (x ∷ xs) (y ∷ ys) ha hb e =
    let first : ◌≡◌ {A = Entry} (record { name = x.name; node = node_of x.value }) (record { name = y.name; node = node_of y.value }) = cc in
    let others : seen xs ≡ seen ys = cc in
    let name : x.name ≡ y.name = ap (λ (z : Entry). z.name) first in
    let value : x.value ≡ y.value = node_of-same x.value y.value ha.0 hb.0 (ap (λ (z : Entry). z.node) first) in
    let rest = seen_back xs ys ha.1 hb.1 others in
    λ i. record { name = name i; value = value i } ∷ rest i

pub same_lists : (a b : List NamedValue) (x y : List Entry) → AllThere a → AllThere b → seen a ≡ x → seen b ≡ y → x ≡ y → a ≡ b
same_lists a b x y ha hb ea eb e = seen_back a b ha hb (ea ∙ e ∙ sym eb)

same_item : (xs : List NamedValue) (i : ℕ) (x y : NamedValue) → i < length xs → get_or xs i x ≡ get_or xs i y
same_item [] i x y lt = absurd (omega arith)
same_item (h ∷ hs) zero x y lt = refl
same_item (h ∷ hs) (suc i) x y lt = same_item hs i x y (omega arith)

pub get_same : (xs ys : List NamedValue) (i : ℕ) (x y : NamedValue) → xs ≡ ys → i < length xs → x ≡ get_or xs i x → y ≡ get_or ys i y → x ≡ y
get_same xs ys i x y e lt p q = p ∙ same_item xs i x y lt ∙ ap (λ (l : List NamedValue). get_or l i y) e ∙ sym q

-- a directory has as many entries as it holds
pub length-seen : (hs : List NamedValue) → length (seen hs) ≡ length hs
length-seen [] = refl
length-seen (h ∷ hs) = omega (arith, length-seen hs)

-- the entry at a place
pub seen_get : (hs : List NamedValue) (i : ℕ) (h : NamedValue) → i < length hs → h ≡ get_or hs i h → slice_get (seen hs) i ≡ Some (record { name = h.name; node = node_of h.value })
seen_get [] i h lt e = absurd (omega arith)
seen_get (x ∷ hs) zero h lt e = ap (λ (y : NamedValue). Some (record { name = y.name; node = node_of y.value })) (sym e)
seen_get (x ∷ hs) (suc i) h lt e = seen_get hs i h (omega arith) e

-- how many entries a directory has, from what it holds
pub entries_length : (xs hs : List NamedValue) (es : List Entry) → xs ≡ hs → seen hs ≡ es → length xs ≡ length es
entries_length xs hs es is view = ap (λ (ys : List NamedValue). length ys) is ∙ sym (length-seen hs) ∙ ap (λ (ds : List Entry). length ds) view

-- what stands at a place of a directory's entries is there
pub there_get : (xs hs : List NamedValue) (i : ℕ) (h : NamedValue) → xs ≡ hs → AllThere hs → i < length xs → h ≡ get_or xs i h → IsThere h.value
there_get xs hs i h is all lt e = subst (λ (x : NamedValue). IsThere x.value) (sym e) (there_at xs i h (subst AllThere (sym is) all) lt)

-- the entry at a place, from what a directory holds
pub entries_get : (xs hs : List NamedValue) (es : List Entry) (i : ℕ) (h : NamedValue) → xs ≡ hs → seen hs ≡ es → i < length xs → h ≡ get_or xs i h → slice_get es i ≡ Some (record { name = h.name; node = node_of h.value })
entries_get xs hs es i h is view lt e = ap (λ (ds : List Entry). slice_get ds i) (sym view) ∙ ap (λ (ys : List NamedValue). slice_get (seen ys) i) (sym is) ∙ seen_get xs i h lt e
