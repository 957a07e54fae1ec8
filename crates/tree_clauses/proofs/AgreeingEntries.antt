-- Entries of a directory that stand in another as well, told entry by entry, and names told by a test.
use Rattle.std.proofs.Common.{◌≡◌, ◌≢◌, ℕ, zero, suc, ◌+◌, ◌<◌, ◌↔◌, inl, inr, Bool, true, false, IsTrue, List, [], ◌∷◌, length, Some, None, refl, sym, ap, subst, ◌∙◌, arith}
use Rattle.std.specs.List.{Contains}
use Rattle.std.specs.Prelude.{slice_get, ◌||◌}
use Rattle.std.specs.Str.{bytes_eq}
use Rattle.std.specs.Ordering.{ordering_reverse}
use Rattle.std.specs.declared.cmp.Ordering.{Ordering}
use Rattle.std.specs.declared.cmp.Ordering.TheVariants.{Less, Equal, Greater}
use Rattle.std.proofs.lemmas.Bool.{false_from_ne_true}
use Rattle.std.proofs.lemmas.Option.{slice_get_within}
use Rattle.std.proofs.lemmas.Slice.Eq.{bytes_eq-Decides}
use Rattle.feature_trees.specs.declared.shape.Entry.{Entry}
use Rattle.feature_trees.specs.declared.kind.Kind.TheVariants as kind
use Rattle.feature_trees.specs.declared.value.Value.{Value}
use Rattle.feature_trees.specs.declared.value.Value.TheVariants.{Absent}
use Rattle.feature_trees.specs.Tree.{entry, find, name_cmp, by_order, is_dir, kind_of}
use Rattle.feature_trees.specs.Sound.{sound_all}
use Rattle.feature_trees.specs.View.{value_of, IsThere}
use Rattle.feature_trees.proofs.Found.{same_name}
use Rattle.feature_trees.proofs.Laws.{Above, Rises, rises_of, ord, above_more}
use Rattle.feature_trees.proofs.Kept.{find_first, value_there}
use Rattle.tree_clauses.specs.Agreeing.{IsWithin, AreIn, AreWithin}
use Rattle.tree_clauses.specs.Literals.{AgreesOutside}
use Rattle.tree_clauses.specs.NameSets.{is_among}
use Rattle.tree_clauses.proofs.Decided.{dir_from}
use Rattle.tree_clauses.proofs.Names.{last_cases, name_cases}
use Rattle.tree_clauses.proofs.Orders.{contains_head, contains_tail, contains_cases, contains_nothing}
use Rattle.tree_clauses.proofs.Values.{absent_or_not}

-- ---- an entry by its place

one_entry : (x e : Entry) → Some x ≡ Some e → x ≡ e
one_entry x e p = cc

above_get : (f : List ℕ) (es : List Entry) (k : ℕ) (e : Entry) → Above f es → Rises es → slice_get es k ≡ Some e → name_cmp f e.name ≡ Less
above_get f [] k e a r at = let bad : None ≡ Some e = at in cc
above_get f (x ∷ es) zero e a r at = subst (λ (y : Entry). name_cmp f y.name ≡ Less) (one_entry x e at) a
above_get f (x ∷ es) (suc k) e a r at = above_get f es k e (above_more f x.name es a r.0) r.1 at

-- what stands at a place is found under its name
find_at : (es : List Entry) (k : ℕ) (e : Entry) → Rises es → slice_get es k ≡ Some e → find es e.name ≡ value_of e.node
find_at [] k e r at = let bad : None ≡ Some e = at in cc
find_at (x ∷ es) zero e r at = subst (λ (y : Entry). find (x ∷ es) y.name ≡ value_of y.node) (one_entry x e at) (find_first x es)
find_at (x ∷ es) (suc k) e r at =
    let after : name_cmp e.name x.name ≡ Greater = ord.antisymm e.name x.name ∙ ap ordering_reverse (above_get x.name es k e r.0 r.1 at) in
    ap (λ o. by_order o Absent (value_of x.node) (find es e.name)) after ∙ find_at es k e r.1 at

-- the place of what is found
pub record IsPlaced (es : List Entry) (f : List ℕ) : Type 0 where
  pub place : ℕ
  pub item : Entry
  pub at : slice_get es place ≡ Some item
  pub name : item.name ≡ f

found_in : (es : List Entry) (f : List ℕ) → find es f ≢ Absent → IsPlaced es f
found_in [] f h = absurd (h refl)
found_in (x ∷ es) f h = step (name_cmp f x.name) refl (found_in es f)
  where
    step : (o : Ordering) → name_cmp f x.name ≡ o → ((find es f ≢ Absent) → IsPlaced es f) → IsPlaced (x ∷ es) f
    step Less e next = absurd (h (ap (λ o. by_order o Absent (value_of x.node) (find es f)) e))
    step Equal e next = record { place = 0; item = x; at = refl; name = sym (same_name f x.name e) }
    step Greater e next =
        let more = next (λ none. h (ap (λ o. by_order o Absent (value_of x.node) (find es f)) e ∙ none)) in
        record { place = suc more.place; item = more.item; at = more.at; name = more.name }

not_absent : {A : Type 0} (v : Value) → IsThere v → v ≡ Absent → A
not_absent v h e = absurd (subst IsThere e h)

-- ---- each entry so far

-- each entry before a place is so
abbrev pub EachBefore : (Entry → Type 0) → List Entry → ℕ → Type 0
EachBefore P es at = (k : ℕ) (e : Entry) → k < at → slice_get es k ≡ Some e → P e

pub none_before : (P : Entry → Type 0) (es : List Entry) → EachBefore P es 0
none_before P es k e lt at = absurd (omega arith)

pub one_more : (P : Entry → Type 0) (es : List Entry) (at : ℕ) (e : Entry) → EachBefore P es at → slice_get es at ≡ Some e → P e → EachBefore P es (at + 1)
one_more P es at e before is p k x lt get = elim (last_cases k at lt) [
  | inl low ↦ before k x low get
  | inr q ↦ subst P (one_entry e x (sym is ∙ sym (ap (slice_get es) q) ∙ get)) p
]

-- the name of an entry is one of these, or has an entry in a value
abbrev pub Within : (List ℕ → Bool) → Value → Entry → Type 0
Within names other e = ¬ (IsTrue (names e.name)) → entry other e.name ≢ Absent

-- the name of an entry is one of these, or has the same entry in a value
abbrev pub In : (List ℕ → Bool) → Value → Entry → Type 0
In names other e = ¬ (IsTrue (names e.name)) → entry other e.name ≡ value_of e.node

pub all_within : (es : List Entry) (names : List ℕ → Bool) (other : Value) (n : ℕ) → n ≡ length es → EachBefore (Within names other) es n → AreWithin es names other
all_within es names other n len each f out none = elim (absent_or_not (find es f)) [
  | inl gone ↦ gone
  | inr there ↦
      let p = found_in es f there in
      absurd (each p.place p.item (let w = slice_get_within es p.place p.item p.at in omega (arith, w, len)) p.at
      (λ c. out (subst (λ g. IsTrue (names g)) p.name c)) (ap (entry other) p.name ∙ none))
]

pub one_without : {A : Type 0} (es : List Entry) (names : List ℕ → Bool) (other : Value) (k : ℕ) (e : Entry) → IsTrue (sound_all es) → slice_get es k ≡ Some e → (Within names other e → ⊥) → AreWithin es names other → A
one_without es names other k e s at bad all = absurd (bad (λ out none.
    not_absent (value_of e.node) (value_there e.node) (sym (find_at es k e (rises_of es s) at) ∙ all e.name out none)))

pub all_in : (es : List Entry) (names : List ℕ → Bool) (other : Value) (n : ℕ) → IsTrue (sound_all es) → n ≡ length es → EachBefore (In names other) es n → AreIn es names other
all_in es names other n s len each f out there =
    let p = found_in es f there in
    let same = each p.place p.item (let w = slice_get_within es p.place p.item p.at in omega (arith, w, len)) p.at (λ c. out (subst (λ g. IsTrue (names g)) p.name c)) in
    subst (λ g. entry other g ≡ find es g) p.name (same ∙ sym (find_at es p.place p.item (rises_of es s) p.at))

pub one_other : {A : Type 0} (es : List Entry) (names : List ℕ → Bool) (other : Value) (k : ℕ) (e : Entry) → IsTrue (sound_all es) → slice_get es k ≡ Some e → (In names other e → ⊥) → AreIn es names other → A
one_other es names other k e s at bad all =
    let here = find_at es k e (rises_of es s) at in
    absurd (bad (λ out. all e.name out (λ none. not_absent (value_of e.node) (value_there e.node) (sym here ∙ none)) ∙ here))

-- ---- a set of names

same_bytes : (f g : List ℕ) → bytes_eq g f ≡ true → f ≡ g
same_bytes f g e = sym ((bytes_eq-Decides g f).0 e)

bytes_itself : (f g : List ℕ) → f ≡ g → bytes_eq g f ≡ true
bytes_itself f g e = (bytes_eq-Decides g f).1 (sym e)

-- a name that is told to be one of these is one of them
pub among_iff : (names : List (List ℕ)) (f : List ℕ) → IsTrue (is_among names f) ↔ Contains names f
among_iff [] f = (λ t. absurd (let bad : false ≡ true = t in cc), λ c. absurd (contains_nothing f c))
among_iff (g ∷ names) f = elim (name_cases g f) [
  | inl e ↦ (
    λ t. subst (Contains (g ∷ names)) e.0 (contains_head g names),
    λ c. ap (λ b. b || is_among names f) (bytes_itself f g (sym e.0)),
  )
  | inr ne ↦
      let no : bytes_eq g f ≡ false = false_from_ne_true (bytes_eq g f) (λ t. absurd (ne.0 (sym (same_bytes f g t)))) in
      let both = among_iff names f in (
        λ t. contains_tail g f names (both.0 (sym (ap (λ b. b || is_among names f) no) ∙ t)),
        λ c. elim (contains_cases g f names c) [
          | inl e ↦ absurd (ne.0 e)
          | inr d ↦ ap (λ b. b || is_among names f) no ∙ both.1 d
        ],
      )
]

-- a test that tells the names tells that a value has entries under them alone
pub fence_told : (v : Value) (names : List (List ℕ)) (listed : List ℕ → Bool) (b : Bool) → ((f : List ℕ) → listed f ≡ is_among names f) → IsTrue b ↔ IsWithin v listed Absent → IsTrue b ↔ ((f : List ℕ) → ¬ (Contains names f) → entry v f ≡ Absent)
fence_told v names listed b tells both = (
  λ t f out. both.0 t f (λ l. out ((among_iff names f).0 (sym (tells f) ∙ l))) refl,
  λ h. both.1 (λ f out none. h f (λ c. out (tells f ∙ (among_iff names f).1 c))),
)

-- that a directory has the entries of another under every other name
pub similar_told : (v w : Value) (names : List (List ℕ)) (listed : List ℕ → Bool) (b : Bool) → is_dir v ≡ true → ((f : List ℕ) → listed f ≡ is_among names f)
    → IsTrue b ↔ ((f : List ℕ) → ¬ (IsTrue (listed f)) → entry v f ≡ entry w f) → IsTrue b ↔ ((kind_of v ≡ kind.Dir) × AgreesOutside v names w)
similar_told v w names listed b d tells both = (
  λ t. (dir_from v d, λ f out. both.0 t f (λ l. out ((among_iff names f).0 (sym (tells f) ∙ l)))),
  λ h. both.1 (λ f out. h.1 f (λ c. out (tells f ∙ (among_iff names f).1 c))),
)
