-- The map of a directory in the making, beside the entries that it stands for.
use Rattle.std.proofs.Common.{◌≡◌, ◌++◌, ℕ, ◌≤◌, false, IsTrue, List, [], ◌∷◌, length, Ordering, Less, Equal, Greater, Option, Some, None, Result, Ok, Err, option_map, is_eq, cond, refl, sym, ap, subst, ◌∙◌, OnOk, arith}
use Rattle.std.specs.BTreeMap.{insert_entry, is_at}
use Rattle.std.specs.Global.{Vec}
use Rattle.std.specs.Map.{lookup, set_value}
use Rattle.std.specs.Ordering.{match_ordering}
use Rattle.script_names.specs.Names.{is_name}
use Rattle.feature_trees.specs.declared.draft.Draft.{Draft}
use Rattle.feature_trees.specs.declared.draft.Draft.TheVariants as D
use Rattle.feature_trees.specs.declared.put.PutFault.{PutFault}
use Rattle.feature_trees.specs.declared.shape.Entry.{Entry}
use Rattle.feature_trees.specs.declared.value.NamedValue.{NamedValue}
use Rattle.feature_trees.specs.declared.value.Value.{Value}
use Rattle.feature_trees.specs.declared.value.Value.TheVariants.{Absent, Reg, Link, Special, Dir}
use Rattle.feature_trees.specs.Drafts.{draft_value, seen_drafts}
use Rattle.feature_trees.specs.Sound.{sound, sound_all}
use Rattle.feature_trees.specs.Tree.{find, name_cmp, present, by_order, update, put, has_parents, entry_if_present}
use Rattle.feature_trees.specs.TreeLines.{is_there}
use Rattle.feature_trees.specs.View.{seen, AllThere, IsThere, node_of, value_of, value_of-node_of}
use Rattle.feature_trees.proofs.Found.{same_name, present-there, entry_if_present-there}
use Rattle.feature_trees.proofs.Kept.{EachSound, each_of, sound-update}
use Rattle.feature_trees.proofs.Laws.{Rises, rises_of, above_more, find_above}

abbrev Item : Type 0
Item = Vec ℕ × Draft

abbrev pub by_bytes : List ℕ → Vec ℕ → Ordering
by_bytes f k = name_cmp f k.items

pub draft_there : (d : Draft) → IsThere (draft_value d)
draft_there D.Reg = tt
draft_there (D.Link b) = tt
draft_there (D.Special s) = tt
draft_there (D.Dir es) = tt

back : (d : Draft) → value_of (node_of (draft_value d)) ≡ draft_value d
back d = value_of-node_of (draft_value d) (draft_there d)

is_present : (d : Draft) → present (draft_value d) ≡ Some (draft_value d)
is_present d = present-there (draft_value d) (draft_there d)

no_map : (o : Option Draft) → option_map draft_value o ≡ None → o ≡ None
no_map None e = refl
no_map (Some d) e = cc

-- what the map finds
pub find-lookup : (es : List Item) (f : List ℕ) → Rises (seen_drafts es) → option_map draft_value (lookup (is_at (by_bytes f)) es) ≡ present (find (seen_drafts es) f)
find-lookup [] f r = refl
find-lookup (e ∷ es) f r = step (name_cmp f e.0.items) refl (find-lookup es f r.1)
  where
    step : (o : Ordering) → name_cmp f e.0.items ≡ o → option_map draft_value (lookup (is_at (by_bytes f)) es) ≡ present (find (seen_drafts es) f)
        → option_map draft_value (cond (is_eq o) (Some e.1) (lookup (is_at (by_bytes f)) es))
        ≡ present (by_order o Absent (value_of (node_of (draft_value e.1))) (find (seen_drafts es) f))
    step Less is more = more ∙ ap present (find_above f (seen_drafts es) (above_more f e.0.items (seen_drafts es) is r.0))
    step Equal is more = sym (ap present (back e.1) ∙ is_present e.1)
    step Greater is more = more

present_is : (v w : Value) → present v ≡ Some w → v ≡ w
present_is Absent w e = cc
present_is Reg w e = cc
present_is (Link b) w e = cc
present_is (Special s) w e = cc
present_is (Dir es) w e = cc

present_not : (v : Value) → present v ≡ None → v ≡ Absent
present_not Absent e = refl
present_not Reg e = cc
present_not (Link b) e = cc
present_not (Special s) e = cc
present_not (Dir es) e = cc

pub found_draft : (es : List Item) (f : List ℕ) (d : Draft) → Rises (seen_drafts es) → lookup (is_at (by_bytes f)) es ≡ Some d → find (seen_drafts es) f ≡ draft_value d
found_draft es f d r e = present_is (find (seen_drafts es) f) (draft_value d) (sym (find-lookup es f r) ∙ ap (option_map draft_value) e)

pub no_draft : (es : List Item) (f : List ℕ) → Rises (seen_drafts es) → lookup (is_at (by_bytes f)) es ≡ None → find (seen_drafts es) f ≡ Absent
no_draft es f r e = present_not (find (seen_drafts es) f) (sym (find-lookup es f r) ∙ ap (option_map draft_value) e)

-- what an insert does
pub seen-insert_entry : (es : List Item) (k : Vec ℕ) (d : Draft) → seen_drafts (insert_entry (λ (a b : Vec ℕ). name_cmp a.items b.items) es k d) ≡ update (seen_drafts es) k.items (draft_value d)
seen-insert_entry [] k d = sym (entry_if_present-there k.items (draft_value d) (draft_there d))
seen-insert_entry (e ∷ es) k d = step (name_cmp k.items e.0.items) refl (seen-insert_entry es k d)
  where
    one : entry_if_present k.items (draft_value d) ≡ record { name = k.items; node = node_of (draft_value d) } ∷ []
    one = entry_if_present-there k.items (draft_value d) (draft_there d)

    step : (o : Ordering) → name_cmp k.items e.0.items ≡ o → seen_drafts (insert_entry (λ (a b : Vec ℕ). name_cmp a.items b.items) es k d) ≡ update (seen_drafts es) k.items (draft_value d)
        → seen_drafts (match_ordering o ((k, d) ∷ e ∷ es) ((e.0, d) ∷ es) (e ∷ insert_entry (λ (a b : Vec ℕ). name_cmp a.items b.items) es k d))
        ≡ by_order o (entry_if_present k.items (draft_value d) ++ seen_drafts (e ∷ es)) (entry_if_present k.items (draft_value d) ++ seen_drafts es) (record { name = e.0.items; node = node_of (draft_value e.1) } ∷ update (seen_drafts es) k.items (draft_value d))
    step Less is more = rw one refl
    step Equal is more = rw (one, same_name k.items e.0.items is) refl
    step Greater is more = rw more refl

pub inserted : (es now : List Item) (k : Vec ℕ) (f : List ℕ) (d : Draft) → now ≡ insert_entry (λ (a b : Vec ℕ). name_cmp a.items b.items) es k d → k.items ≡ f → seen_drafts now ≡ update (seen_drafts es) f (draft_value d)
inserted es now k f d is name = ap seen_drafts is ∙ seen-insert_entry es k d ∙ ap (λ g. update (seen_drafts es) g (draft_value d)) name

-- what a write does
pub seen-set_value : (es : List Item) (f : List ℕ) (d old : Draft) → Rises (seen_drafts es) → lookup (is_at (by_bytes f)) es ≡ Some old
    → seen_drafts (set_value (is_at (by_bytes f)) es d) ≡ update (seen_drafts es) f (draft_value d)
seen-set_value [] f d old r e = cc
seen-set_value (e ∷ es) f d old r h = step (name_cmp f e.0.items) refl h (seen-set_value es f d old r.1)
  where
    one : entry_if_present f (draft_value d) ≡ record { name = f; node = node_of (draft_value d) } ∷ []
    one = entry_if_present-there f (draft_value d) (draft_there d)

    none : name_cmp f e.0.items ≡ Less → lookup (is_at (by_bytes f)) es ≡ None
    none is = no_map _ (find-lookup es f r.1 ∙ ap present (find_above f (seen_drafts es) (above_more f e.0.items (seen_drafts es) is r.0)))

    step : (o : Ordering) → name_cmp f e.0.items ≡ o → cond (is_eq o) (Some e.1) (lookup (is_at (by_bytes f)) es) ≡ Some old
        → (lookup (is_at (by_bytes f)) es ≡ Some old → seen_drafts (set_value (is_at (by_bytes f)) es d) ≡ update (seen_drafts es) f (draft_value d))
        → seen_drafts (cond (is_eq o) ((e.0, d) ∷ es) (e ∷ set_value (is_at (by_bytes f)) es d))
        ≡ by_order o (entry_if_present f (draft_value d) ++ seen_drafts (e ∷ es)) (entry_if_present f (draft_value d) ++ seen_drafts es) (record { name = e.0.items; node = node_of (draft_value e.1) } ∷ update (seen_drafts es) f (draft_value d))
    step Less is found more = let gone = none is in cc
    step Equal is found more = rw (one, same_name f e.0.items is) refl
    step Greater is found more = rw (more found) refl

-- what a put below an entry does

none_above : (v : Value) (p : List (List ℕ)) → v ≡ Absent → 1 ≤ length p → has_parents v p ≡ false
none_above v [] e lt = absurd (omega arith)
none_above v (f ∷ p) e lt = ap (λ u. has_parents u (f ∷ p)) e

-- without the entry there is no parent
pub no_parents : (es : List Item) (f : List ℕ) (rest : List (List ℕ)) → IsTrue (sound_all (seen_drafts es)) → None ≡ lookup (is_at (by_bytes f)) es → 1 ≤ length rest → has_parents (find (seen_drafts es) f) rest ≡ false
no_parents es f rest s e lt = none_above (find (seen_drafts es) f) rest (no_draft es f (rises_of (seen_drafts es) s) (sym e)) lt

module _ (es : List Item) (f : List ℕ) (old new : Draft) (now : List Item) (rest : List (List ℕ)) (v : Value)
    (s : IsTrue (sound_all (seen_drafts es))) (e : Some old ≡ lookup (is_at (by_bytes f)) es) (is : now ≡ set_value (is_at (by_bytes f)) es new) where
  found : find (seen_drafts es) f ≡ draft_value old
  found = found_draft es f old (rises_of (seen_drafts es) s) (sym e)

  written : seen_drafts now ≡ update (seen_drafts es) f (draft_value new)
  written = ap seen_drafts is ∙ seen-set_value es f new old (rises_of (seen_drafts es) s) (sym e)

  pub keeps_sound : IsTrue (is_name f) → IsTrue (sound (draft_value new)) → IsTrue (sound_all (seen_drafts now))
  keeps_sound n t = rw written (sound-update (seen_drafts es) f (draft_value new) s n t)

  pub puts_below : (r : Result (Unit {0}) PutFault) → OnOk r (draft_value new ≡ put (draft_value old) rest v) → OnOk r (Dir (seen_drafts now) ≡ Dir (update (seen_drafts es) f (put (find (seen_drafts es) f) rest v)))
  puts_below (Ok x) ok = ap Dir (written ∙ ap (update (seen_drafts es) f) (ok ∙ ap (λ u. put u rest v) (sym found)))
  puts_below (Err x) ok = tt

  pub parents_below : {A : Type 0} → (A → has_parents (draft_value old) rest ≡ false) × (has_parents (draft_value old) rest ≡ false → A)
      → (A → has_parents (find (seen_drafts es) f) rest ≡ false) × (has_parents (find (seen_drafts es) f) rest ≡ false → A)
  parents_below iff = (λ a. ap (λ u. has_parents u rest) found ∙ iff.0 a, λ b. iff.1 (ap (λ u. has_parents u rest) (sym found) ∙ b))

-- the first of the entries that are left has a name
pub left_name : (done : List Entry) (e : Entry) (more : List Entry) → EachSound (done ++ e ∷ more) → IsTrue (is_name e.name)
left_name [] e more h = h.0
left_name (d ∷ done) e more h = left_name done e more h.2

-- what is made of the entries that are left

there_more : (hs : List NamedValue) (h : NamedValue) → AllThere hs → IsThere h.value → AllThere (hs ++ h ∷ [])
there_more [] h all t = (t, tt)
there_more (x ∷ hs) h all t = (all.0, there_more hs h all.1 t)

seen_more : (hs : List NamedValue) (h : NamedValue) (es : List Entry) → seen (hs ++ h ∷ []) ++ es ≡ seen hs ++ record { name = h.name; node = node_of h.value } ∷ es
seen_more [] h es = refl
seen_more (x ∷ hs) h es = ap (λ ds. record { name = x.name; node = node_of x.value } ∷ ds) (seen_more hs h es)

module _ (hs : List NamedValue) (e : Item) (left rest : List Item) (all : List Entry) (is : left ≡ e ∷ rest) (done : seen hs ++ seen_drafts left ≡ all) where
  next : seen hs ++ seen_drafts (e ∷ rest) ≡ all
  next = ap (λ es. seen hs ++ seen_drafts es) (sym is) ∙ done

  pub next_name : IsTrue (sound_all all) → IsTrue (is_name e.0.items)
  next_name s = left_name (seen hs) _ (seen_drafts rest) (each_of _ (subst (λ es. IsTrue (sound_all es)) (sym next) s))

  module _ (h : NamedValue) (now : List NamedValue) (name : h.name ≡ e.0.items) (value : h.value ≡ draft_value e.1) (pushed : now ≡ hs ++ h ∷ []) where
    pub made_there : AllThere hs → AllThere now
    made_there t = rw pushed (there_more hs h t (subst IsThere (sym value) (draft_there e.1)))

    pub made_more : seen now ++ seen_drafts rest ≡ all
    made_more =
        ap (λ ns. seen ns ++ seen_drafts rest) pushed ∙ seen_more hs h (seen_drafts rest)
        ∙ (λ i. seen hs ++ record { name = name i; node = node_of (value i) } ∷ seen_drafts rest) ∙ next

-- what is found

pub got : (es : List Item) (key f : List ℕ) (all : List Entry) (o : Option Draft) → IsTrue (sound_all (seen_drafts es)) → seen_drafts es ≡ all → key ≡ f → o ≡ lookup (is_at (by_bytes key)) es
    → option_map draft_value o ≡ present (find all f)
got es key f all o s view name is =
    ap (option_map draft_value) is ∙ find-lookup es key (rises_of (seen_drafts es) s) ∙ (λ i. present (find (view i) (name i)))

pub none_so : (v : Value) → None ≡ present v → false ≡ is_there v
none_so Absent e = refl
none_so Reg e = cc
none_so (Link b) e = cc
none_so (Special s) e = cc
none_so (Dir es) e = cc
