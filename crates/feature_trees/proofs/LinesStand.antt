-- In the tree of lines stands what they say, and a fault is that of the first line that cannot stand.
use Rattle.std.proofs.Common.{◌≡◌, ◌≢◌, ℕ, zero, suc, ◌+◌, ◌<◌, Bool, true, false, IsTrue, List, [], ◌∷◌, ◌++◌, length, get_or, Option, Some, None, Result, Ok, Err, inl, inr, refl, sym, ap, subst, ◌∙◌, arith}
use Rattle.std.specs.Prelude.{◌⊎◌, ◌&&◌, ◌==◌, nat_lt, nat_le, codes, if◌then◌else◌}
use Rattle.std.specs.Option.{option_map, option_and_then}
use Rattle.std.specs.Str.{bytes_eq}
use Rattle.std.specs.declared.cmp.Ordering.{Ordering}
use Rattle.std.specs.declared.cmp.Ordering.TheVariants.{Less, Equal, Greater}
use Rattle.std.proofs.lemmas.Bool.{and_parts, ltb-true}
use Rattle.std.proofs.lemmas.Cmp.{tied_itself}
use Rattle.script_names.specs.Names.{is_name}
use Rattle.script_names.specs.Paths.{is_filled}
use Rattle.shown_texts.specs.Parts.{parts}
use Rattle.shown_texts.specs.Paths.{if_name, name_of, names_onto, names_of, path_of}
use Rattle.shown_texts.specs.Show.{shown_of}
use Rattle.feature_trees.specs.declared.kind.Kind.TheVariants as kind
use Rattle.feature_trees.specs.declared.kind.Special as which
use Rattle.feature_trees.specs.declared.kind.Special as which
use Rattle.feature_trees.specs.declared.value.Value.{Value}
use Rattle.feature_trees.specs.declared.value.Value.TheVariants.{Absent, Reg, Link, Special, Dir}
use Rattle.feature_trees.specs.declared.read.TheConstants.{MOST_NAMES}
use Rattle.feature_trees.specs.declared.read.TreeFault.{TreeFault}
use Rattle.feature_trees.specs.declared.read.TreeFault.TheVariants.{Line}
use Rattle.feature_trees.specs.declared.read.TreeLine.{TreeLine}
use Rattle.feature_trees.specs.Sound.{sound}
use Rattle.feature_trees.specs.TextLaws.{without_entries, IsSaid, StandAsSaid}
use Rattle.feature_trees.specs.Tree.{at, entry, put, has_parents, is_dir, kind_of, name_cmp}
use Rattle.feature_trees.specs.TreeLines.{special_of, letter_value, link_value, line_of_names, line_at, line_of_words, line_says, is_there, with_line, and_then, with_lines, text_lines, tree_of}
use Rattle.feature_trees.specs.View.{IsThere}
use Rattle.feature_trees.proofs.Found.{same_name, at_Absent}
use Rattle.feature_trees.proofs.Kept.{sound-put}
use Rattle.feature_trees.proofs.Laws.{ord, sound-entry, at-put_same, at-put_other, at-put_above}
use Rattle.feature_trees.proofs.ReadLines.{stays_dir, same_tree}

-- ---- what a line says

abbrev pub AreNames : List (List ℕ) → Type 0
AreNames [] = Unit {0}
AreNames (f ∷ p) = IsTrue (is_name f) × AreNames p

name_at : (p : List (List ℕ)) → AreNames p → (k : ℕ) (d : List ℕ) → k < length p → IsTrue (is_name (get_or p k d))
name_at [] h k d lt = absurd (omega arith)
name_at (f ∷ p) h zero d lt = h.0
name_at (f ∷ p) h (suc k) d lt = name_at p h.1 k d (omega arith)

names_more : (p : List (List ℕ)) (f : List ℕ) → AreNames p → IsTrue (is_name f) → AreNames (p ++ f ∷ [])
names_more [] f h n = (n, tt)
names_more (g ∷ p) f h n = (h.0, names_more p f h.1 n)

if_name_is : (bytes name : List ℕ) → if_name bytes ≡ Some name → IsTrue (is_name name)
if_name_is bytes name e = step (is_name bytes) refl e
  where
    step : (t : Bool) → is_name bytes ≡ t → (if t then Some bytes else None) ≡ Some name → IsTrue (is_name name)
    step true d e = let same : bytes ≡ name = cc in subst (λ n. IsTrue (is_name n)) same d
    step false d e = cc

name_is : (text name : List ℕ) → name_of text ≡ Some name → IsTrue (is_name name)
name_is text name e = step (shown_of text) e
  where
    step : (o : Option (List ℕ)) → option_and_then if_name o ≡ Some name → IsTrue (is_name name)
    step None e = cc
    step (Some bytes) e = if_name_is bytes name e

names_are : (done texts names : List (List ℕ)) → AreNames done → names_onto done texts ≡ Some names → AreNames names
names_are done [] names h e = let same : done ≡ names = cc in subst AreNames same h
names_are done (text ∷ texts) names h e = step (name_of text) refl e (λ name n f. names_are (done ++ name ∷ []) texts names (names_more done name h n) f)
  where
    step : (o : Option (List ℕ)) → name_of text ≡ o → option_and_then (λ name. names_onto (done ++ name ∷ []) texts) o ≡ Some names
        → ((name : List ℕ) → IsTrue (is_name name) → names_onto (done ++ name ∷ []) texts ≡ Some names → AreNames names) → AreNames names
    step None d e more = cc
    step (Some name) d e more = more name (name_is text name d) e

below_names : (text : List ℕ) (names : List (List ℕ)) → names_of text ≡ Some names → AreNames names
below_names text names e = step (is_filled text) e
  where
    step : (t : Bool) → (if t then names_onto [] (parts 47 text) else Some []) ≡ Some names → AreNames names
    step true e = names_are [] (parts 47 text) names tt e
    step false e = let same : [] ≡ names = cc in subst AreNames same tt

path_names : (text : List ℕ) (names : List (List ℕ)) → path_of text ≡ Some names → AreNames names
path_names [] names e = cc
path_names (b ∷ text) names e = step (b == 47) e
  where
    step : (t : Bool) → (if t then names_of text else None) ≡ Some names → AreNames names
    step true e = below_names text names e
    step false e = cc

-- what holds of what a line says
pub record Facts (x : TreeLine) : Type 0 where
  pub names : AreNames x.names
  pub filled : x.names ≢ []
  pub there : IsThere x.value
  pub no_entries : without_entries x.value ≡ x.value
  pub none : (f : List ℕ) → entry x.value f ≡ Absent
  pub sound : IsTrue (sound x.value)

module _ (w : Value) (there : IsThere w) (no_entries : without_entries w ≡ w) (none : (f : List ℕ) → entry w f ≡ Absent) (is_sound : IsTrue (sound w)) where
  long_names : (names : List (List ℕ)) → 0 < length names → names ≢ []
  long_names names lt e = let none_long : length names ≡ 0 = ap (λ (l : List (List ℕ)). length l) e in omega (arith, lt, none_long)

  names_facts : (names : List (List ℕ)) (x : TreeLine) → AreNames names → line_of_names w names ≡ Some x → Facts x
  names_facts names x h e = step (nat_lt 0 (length names) && nat_le (length names) MOST_NAMES) refl e
    where
      step : (t : Bool) → (nat_lt 0 (length names) && nat_le (length names) MOST_NAMES) ≡ t
          → (if t then Some (record { names = names; value = w }) else None) ≡ Some x → Facts x
      step true d e =
          let made : TreeLine = record { names = names; value = w } in
          let same : made ≡ x = cc in
          let long = ltb-true 0 (length names) (and_parts (nat_lt 0 (length names)) _ d).0 in
          let facts : Facts made = record { names = h; filled = long_names names long; there = there; no_entries = no_entries; none = none; sound = is_sound } in
          subst Facts same facts
      step false d e = cc

  at_facts : (path : List ℕ) (x : TreeLine) → line_at path w ≡ Some x → Facts x
  at_facts path x e = step (path_of path) refl e
    where
      step : (o : Option (List (List ℕ))) → path_of path ≡ o → option_and_then (line_of_names w) o ≡ Some x → Facts x
      step None d e = cc
      step (Some names) d e = names_facts names x (path_names path names d) e

letter_facts : (letter path : List ℕ) (x : TreeLine) → option_and_then (line_at path) (letter_value letter) ≡ Some x → Facts x
letter_facts letter path x e = step (bytes_eq letter (codes "d")) (bytes_eq letter (codes "f")) (special_of letter) e
  where
    step : (d f : Bool) (o : Option which.Special) → option_and_then (line_at path) (if d then Some (Dir []) else (if f then Some Reg else option_map (λ s. Special s) o)) ≡ Some x → Facts x
    step true f o e = at_facts (Dir []) tt refl (λ g. refl) refl path x e
    step false true o e = at_facts Reg tt refl (λ g. refl) refl path x e
    step false false (Some s) e = at_facts (Special s) tt refl (λ g. refl) refl path x e
    step false false None e = cc

link_facts : (letter path target : List ℕ) (x : TreeLine) → option_and_then (line_at path) (link_value letter target) ≡ Some x → Facts x
link_facts letter path target x e = step (bytes_eq letter (codes "l")) (shown_of target) e
  where
    step : (l : Bool) (o : Option (List ℕ)) → option_and_then (line_at path) (if l then option_map (λ bytes. Link bytes) o else None) ≡ Some x → Facts x
    step true (Some bytes) e = at_facts (Link bytes) tt refl (λ g. refl) refl path x e
    step true None e = cc
    step false o e = cc

words_facts : (ws : List (List ℕ)) (x : TreeLine) → line_of_words ws ≡ Some x → Facts x
words_facts [] x e = cc
words_facts (a ∷ []) x e = cc
words_facts (letter ∷ path ∷ []) x e = letter_facts letter path x e
words_facts (letter ∷ path ∷ target ∷ []) x e = link_facts letter path target x e
words_facts (a ∷ b ∷ c ∷ d ∷ ws) x e = cc

pub said_facts : (line : List ℕ) (x : TreeLine) → line_says line ≡ Some x → Facts x
said_facts line x e = words_facts (parts 32 line) x e

-- ---- one value put where nothing stood

dir_alone : (v : Value) → is_dir v ≡ true → Dir [] ≡ without_entries v
dir_alone Absent h = cc
dir_alone Reg h = cc
dir_alone (Link b) h = cc
dir_alone (Special s) h = cc
dir_alone (Dir es) h = refl

apart : (f g : List ℕ) (o : Ordering) → name_cmp f g ≡ o → (o ≡ Equal → ⊥) → f ≡ g → ⊥
apart f g o is other e = other (sym is ∙ ap (name_cmp f) (sym e) ∙ tied_itself ord f)

abbrev PutOr : Value → Value → List (List ℕ) → List (List ℕ) → Type 0
PutOr x v q p = ((p ≡ q) × (at (put v q x) p ≡ x)) ⊎ (without_entries (at (put v q x) p) ≡ without_entries (at v p))

module _ (x : Value) (none : (f : List ℕ) → entry x f ≡ Absent) where
  deeper : (v : Value) (f : List ℕ) (q p : List (List ℕ)) → IsTrue (sound v) → has_parents v (f ∷ q) ≡ true → PutOr x (entry v f) q p → PutOr x v (f ∷ q) (f ∷ p)
  deeper v f q p s h o = step o
    where
      deep : at (put v (f ∷ q) x) (f ∷ p) ≡ at (put (entry v f) q x) p
      deep = ap (λ u. at u p) (at-put_above v (f ∷ []) q x s h)

      step : PutOr x (entry v f) q p → PutOr x v (f ∷ q) (f ∷ p)
      step (inl k) = inl (ap (λ l. f ∷ l) k.0, deep ∙ k.1)
      step (inr e) = inr (ap without_entries deep ∙ e)

  put_or : (v : Value) (q p : List (List ℕ)) → IsTrue (sound v) → has_parents v q ≡ true → at v q ≡ Absent → PutOr x v q p
  put_or v [] [] s h a = inl (refl, refl)
  put_or v [] (g ∷ p) s h a = inr (ap without_entries (ap (λ u. at u p) (none g) ∙ sym (ap (λ u. at u (g ∷ p)) a)))
  put_or v (f ∷ q) [] s h a = inr (dir_alone v (and_parts (is_dir v) _ h).0)
  put_or v (f ∷ q) (g ∷ p) s h a =
      step (name_cmp f g) refl (deeper v f q p s h (put_or (entry v f) q p (sound-entry v f s) (and_parts (is_dir v) _ h).1 a))
    where
      other : (f ≡ g → ⊥) → PutOr x v (f ∷ q) (g ∷ p)
      other differ = inr (ap without_entries (at-put_other [] v f g q p x s differ))

      step : (o : Ordering) → name_cmp f g ≡ o → PutOr x v (f ∷ q) (f ∷ p) → PutOr x v (f ∷ q) (g ∷ p)
      step Less is same = other (apart f g Less is (λ e. cc))
      step Equal is same = subst (λ n. PutOr x v (f ∷ q) (n ∷ p)) (same_name f g is) same
      step Greater is same = other (apart f g Greater is (λ e. cc))

-- ---- one line

pub not_there : (v : Value) → is_there v ≡ false → v ≡ Absent
not_there Absent h = refl
not_there Reg h = cc
not_there (Link b) h = cc
not_there (Special s) h = cc
not_there (Dir es) h = cc

-- a line that stands
record Stood (v u : Value) (said : Option TreeLine) : Type 0 where
  line : TreeLine
  says : said ≡ Some line
  free : at v line.names ≡ Absent
  parents : has_parents v line.names ≡ true
  is : put v line.names line.value ≡ u

stood : (n : ℕ) (v u : Value) (said : Option TreeLine) → with_line n v said ≡ Ok u → Stood v u said
stood n v u None e = cc
stood n v u (Some x) e = step (is_there (at v x.names)) (has_parents v x.names) refl refl e
  where
    step : (a b : Bool) → is_there (at v x.names) ≡ a → has_parents v x.names ≡ b
        → (if a then Err (Line n 2) else (if b then Ok (put v x.names x.value) else Err (Line n 3))) ≡ Ok u → Stood v u (Some x)
    step true b c d e = cc
    step false true c d e = let same : put v x.names x.value ≡ u = cc in
        record { line = x; says = refl; free = not_there (at v x.names) c; parents = d; is = same }
    step false false c d e = cc

-- what stands after lines: what stood before, and what they say
pub record After (v : Value) (lines : List (List ℕ)) (u : Value) : Type 0 where
  pub sound : IsTrue (sound u)
  pub dir : kind_of v ≡ kind.Dir → kind_of u ≡ kind.Dir
  pub to : (p : List (List ℕ)) (w : Value) → IsThere w → without_entries (at u p) ≡ w → (without_entries (at v p) ≡ w) ⊎ IsSaid lines p w
  pub old : (p : List (List ℕ)) (w : Value) → IsThere w → without_entries (at v p) ≡ w → without_entries (at u p) ≡ w
  pub said : (p : List (List ℕ)) (w : Value) → IsThere w → IsSaid lines p w → without_entries (at u p) ≡ w

record AfterOne (v : Value) (line : List ℕ) (u : Value) : Type 0 where
  sound : IsTrue (sound u)
  to : (p : List (List ℕ)) (w : Value) → without_entries (at u p) ≡ w → (without_entries (at v p) ≡ w) ⊎ (line_says line ≡ Some (record { names = p; value = w }))
  old : (p : List (List ℕ)) (w : Value) → IsThere w → without_entries (at v p) ≡ w → without_entries (at u p) ≡ w
  said : (p : List (List ℕ)) (w : Value) → line_says line ≡ Some (record { names = p; value = w }) → without_entries (at u p) ≡ w

some_line : (x y : TreeLine) → ◌≡◌ {A = Option TreeLine} (Some x) (Some y) → x ≡ y
some_line x y e = cc

module _ (v : Value) (line : List ℕ) (x : TreeLine) (says : line_says line ≡ Some x) (free : at v x.names ≡ Absent) (parents : has_parents v x.names ≡ true) (s : IsTrue (sound v)) where
  facts : Facts x
  facts = said_facts line x says

  either_way : (p : List (List ℕ)) → PutOr x.value v x.names p
  either_way p = put_or x.value facts.none v x.names p s parents free

  one_to : (p : List (List ℕ)) (w : Value) → without_entries (at (put v x.names x.value) p) ≡ w
      → (without_entries (at v p) ≡ w) ⊎ (line_says line ≡ Some (record { names = p; value = w }))
  one_to p w e = step (either_way p)
    where
      step : PutOr x.value v x.names p → (without_entries (at v p) ≡ w) ⊎ (line_says line ≡ Some (record { names = p; value = w }))
      step (inl k) =
          let name = sym k.0 in
          let value : x.value ≡ w = sym facts.no_entries ∙ sym (ap without_entries k.1) ∙ e in
          inr (says ∙ λ i. Some (record { names = name i; value = value i }))
      step (inr k) = inl (sym k ∙ e)

  one_old : (p : List (List ℕ)) (w : Value) → IsThere w → without_entries (at v p) ≡ w → without_entries (at (put v x.names x.value) p) ≡ w
  one_old p w t e = step (either_way p)
    where
      step : PutOr x.value v x.names p → without_entries (at (put v x.names x.value) p) ≡ w
      step (inl k) =
          let gone : Absent ≡ w = sym (ap without_entries (ap (at v) k.0 ∙ free)) ∙ e in
          absurd (subst IsThere (sym gone) t)
      step (inr k) = k ∙ e

  one_said : (p : List (List ℕ)) (w : Value) → line_says line ≡ Some (record { names = p; value = w }) → without_entries (at (put v x.names x.value) p) ≡ w
  one_said p w e =
      let said : TreeLine = record { names = p; value = w } in
      let same : x ≡ said = some_line x said (sym says ∙ e) in
      let names : x.names ≡ p = ap (λ (l : TreeLine). l.names) same in
      let value : x.value ≡ w = ap (λ (l : TreeLine). l.value) same in
      sym (ap (λ q. without_entries (at (put v x.names x.value) q)) names) ∙ ap without_entries (at-put_same v x.names x.value s parents) ∙ facts.no_entries ∙ value

  one_after : AfterOne v line (put v x.names x.value)
  one_after = record {
    sound = sound-put v x.names x.value s facts.sound (name_at x.names facts.names);
    to = one_to;
    old = one_old;
    said = one_said;
  }

after_line : (n : ℕ) (v u : Value) (line : List ℕ) → IsTrue (sound v) → with_line n v (line_says line) ≡ Ok u → AfterOne v line u
after_line n v u line s e =
    let st = stood n v u (line_says line) e in
    subst (AfterOne v line) st.is (one_after v line st.line st.says st.free st.parents s)

-- ---- lines one after another

none_after : (v : Value) → IsTrue (sound v) → After v [] v
none_after v s = record { sound = s; dir = λ d. d; to = λ p w t e. inl e; old = λ p w t e. e; said = λ p w t h. absurd h }

more_after : (v m u : Value) (line : List ℕ) (lines : List (List ℕ)) → (kind_of v ≡ kind.Dir → kind_of m ≡ kind.Dir) → AfterOne v line m → After m lines u → After v (line ∷ lines) u
more_after v m u line lines stays one rest = record {
  sound = rest.sound;
  dir = λ d. rest.dir (stays d);
  to = λ p w t e. to_step p w (rest.to p w t e);
  old = λ p w t e. rest.old p w t (one.old p w t e);
  said = λ p w t h. said_step p w t h;
}
  where
    to_one : (p : List (List ℕ)) (w : Value) → (without_entries (at v p) ≡ w) ⊎ (line_says line ≡ Some (record { names = p; value = w }))
        → (without_entries (at v p) ≡ w) ⊎ IsSaid (line ∷ lines) p w
    to_one p w (inl e) = inl e
    to_one p w (inr e) = inr (inl e)

    to_step : (p : List (List ℕ)) (w : Value) → (without_entries (at m p) ≡ w) ⊎ IsSaid lines p w → (without_entries (at v p) ≡ w) ⊎ IsSaid (line ∷ lines) p w
    to_step p w (inl e) = to_one p w (one.to p w e)
    to_step p w (inr h) = inr (inr h)

    said_step : (p : List (List ℕ)) (w : Value) → IsThere w → IsSaid (line ∷ lines) p w → without_entries (at u p) ≡ w
    said_step p w t (inl e) = rest.old p w t (one.said p w e)
    said_step p w t (inr h) = rest.said p w t h

pub after_lines : (n : ℕ) (v u : Value) (lines : List (List ℕ)) → IsTrue (sound v) → with_lines n v lines ≡ Ok u → After v lines u
after_lines n v u [] s e = subst (After v []) (same_tree v u e) (none_after v s)
after_lines n v u (line ∷ lines) s e = step (with_line n v (line_says line)) refl e (λ m t f. after_lines (n + 1) m u lines t f)
  where
    step : (r : Result Value TreeFault) → with_line n v (line_says line) ≡ r → and_then (λ m. with_lines (n + 1) m lines) r ≡ Ok u
        → ((m : Value) → IsTrue (sound m) → with_lines (n + 1) m lines ≡ Ok u → After m lines u) → After v (line ∷ lines) u
    step (Ok m) d e more =
        let one = after_line n v m line s d in
        more_after v m u line lines (stays_dir n v m (line_says line) d) one (more m one.sound e)
    step (Err f) d e more = cc

-- nothing stands in the empty directory
pub none_at : (p : List (List ℕ)) (w : Value) → p ≢ [] → IsThere w → without_entries (at (Dir []) p) ≡ w → ⊥
none_at [] w filled t e = filled refl
none_at (f ∷ p) w filled t e = subst IsThere (sym (sym (ap without_entries (at_Absent p)) ∙ e)) t

pub lines_stand : (text : List ℕ) (tree : Value) → tree_of text ≡ Ok tree → After (Dir []) (text_lines text) tree
lines_stand text tree e = after_lines 1 (Dir []) tree (text_lines text) refl e

pub stand_as_said : (lines : List (List ℕ)) (tree : Value) → After (Dir []) lines tree → StandAsSaid tree lines
stand_as_said lines tree after = λ p w filled t. (λ e. step p w filled t (after.to p w t e), λ h. after.said p w t h)
  where
    step : (p : List (List ℕ)) (w : Value) → p ≢ [] → IsThere w → (without_entries (at (Dir []) p) ≡ w) ⊎ IsSaid lines p w → IsSaid lines p w
    step p w filled t (inl e) = absurd (none_at p w filled t e)
    step p w filled t (inr h) = h
