-- Exactly one row of an act applies to a tree.
use Rattle.std.proofs.Common.{◌≡◌, ◌≢◌, ℕ, zero, suc, ◌+◌, ◌<◌, ◌≤◌, ◌⊎◌, inl, inr, Bool, true, false, not, ◌&&◌, ◌||◌, nat_eq, IsTrue, if◌then◌else◌, Option, Some, None, List, [], ◌∷◌, length, refl, sym, ap, subst, ◌∙◌, arith}
use Rattle.std.proofs.lemmas.Bool.{eqb-true}
use Rattle.feature_trees.specs.declared.value.Value.{Value}
use Rattle.feature_trees.specs.declared.value.Value.TheVariants as value
use Rattle.feature_trees.specs.declared.kind.Kind.{Kind}
use Rattle.feature_trees.specs.declared.kind.Kind.TheVariants.{Absent, Reg, Link, Special, Dir}
use Rattle.feature_trees.specs.declared.kind.Special.{Special as SpecialKind}
use Rattle.feature_trees.specs.declared.kind.Special.TheVariants.{Fifo, Socket, Block, Char}
use Rattle.feature_trees.specs.Kinds.{has, of}
use Rattle.feature_trees.specs.Tree.{entry, at, kind_of, is_dir}
use Rattle.utility_calls.specs.declared.acts.Act.{Act}
use Rattle.utility_calls.specs.declared.acts.Act.TheVariants.{Exists, IsReg, IsDir, IsLink, CanRun, IsSpecial, MakeDir, EnsureDir, RemoveDir, Remove, Touch, Symlink, Move, Attr, Copy, PlaceFile, PlaceLink, PlaceConf, Discard, DiscardDir}
use Rattle.utility_calls.specs.declared.sights.Sight.{Sight}
use Rattle.utility_calls.specs.declared.sights.Row.{Row}
use Rattle.utility_calls.specs.Ways.{link_on_way, in_dir, kind_at, NoLinkOnWay}
use Rattle.utility_calls.specs.Sights.{sight, sight_of}
use Rattle.utility_calls.specs.declared.sights.Rule.{Rule}
use Rattle.utility_calls.specs.Table.{rules, rule_holds, row_of, first_row, exists_rules, is_reg_rules, is_dir_rules, is_link_rules, can_run_rules, can_run_file_rules, can_run_by, is_special_rules, make_dir_rules, ensure_dir_rules, remove_dir_rules, remove_rules, remove_deep_rules, remove_force_rules, remove_force_deep_rules, remove_by, touch_rules, place_file_rules, place_link_rules, place_conf_rules, discard_rules, discard_dir_rules, symlink_rules, symlink_force_rules, symlink_by, move_below_rules, move_rules, move_by, attr_rules, copy_rules, copy_deep_rules, copy_by}
use Rattle.utility_calls.specs.Acts.{path_of, place_of, inner_of, source_of, is_prefix, is_below, looks_at_way, second_link, by_way, by_slash, slash_row, sight_on, own_row, row, IsPerformed}
use Rattle.utility_calls.specs.ActRows.{IsAmong, FitsSlash, Reaches, LooksAtWay, Applies, on_way, at_slash, on_second_way, own}
use Rattle.utility_calls.proofs.Ways.{Found, IsFirstLink, found, counted}
use Rattle.utility_calls.proofs.ActChanges.{both_true}

-- ---- how many rows of a table hold

abbrev one_more : Bool → ℕ → ℕ
one_more false n = n
one_more true n = suc n

abbrev pub count : Kind → Sight → List Rule → ℕ
count k s [] = 0
count k s (r ∷ rs) = one_more (rule_holds k s r) (count k s rs)

none_holds : (k : Kind) (s : Sight) (rs : List Rule) (r : Rule) → count k s rs ≡ 0 → IsAmong r rs → rule_holds k s r ≡ true → ⊥
none_holds k s [] r none among h = among
none_holds k s (o ∷ rs) r none (inl e) h =
    let here : rule_holds k s o ≡ true = ap (rule_holds k s) (sym e) ∙ h in
    let n : suc (count k s rs) ≡ 0 = ap (λ b. one_more b (count k s rs)) (sym here) ∙ none in omega arith
none_holds k s (o ∷ rs) r none (inr among) h = none_holds k s rs r (fewer (rule_holds k s o) (count k s rs) none) among h
  where
    fewer : (b : Bool) (n : ℕ) → one_more b n ≡ 0 → n ≡ 0
    fewer false n e = e
    fewer true n e = absurd (omega arith)

only_by : (k : Kind) (s : Sight) (o : Rule) (rs : List Rule) (r : Rule) (b : Bool) → rule_holds k s o ≡ b → one_more (rule_holds k s o) (count k s rs) ≡ 1
    → IsAmong r rs → rule_holds k s r ≡ true → (count k s rs ≡ 1 → first_row rs k s ≡ row_of r) → first_row (o ∷ rs) k s ≡ row_of r
only_by k s o rs r false e one among h later =
    let n : count k s rs ≡ 1 = ap (λ b. one_more b (count k s rs)) (sym e) ∙ one in
    ap (λ (b : Bool). if b then row_of o else first_row rs k s) e ∙ later n
only_by k s o rs r true e one among h later =
    let n : suc (count k s rs) ≡ 1 = ap (λ b. one_more b (count k s rs)) (sym e) ∙ one in
    absurd (none_holds k s rs r (omega arith) among h)

-- the first row that holds is the only one
pub only_row : (k : Kind) (s : Sight) (rs : List Rule) (r : Rule) → count k s rs ≡ 1 → IsAmong r rs → rule_holds k s r ≡ true → first_row rs k s ≡ row_of r
only_row k s [] r one among h = absurd among
only_row k s (o ∷ rs) r one (inl e) h =
    let here : rule_holds k s o ≡ true = ap (rule_holds k s) (sym e) ∙ h in
    ap (λ (b : Bool). if b then row_of o else first_row rs k s) here ∙ ap row_of (sym e)
only_row k s (o ∷ rs) r one (inr among) h =
    only_by k s o rs r (rule_holds k s o) refl one among h (λ n. only_row k s rs r n among h)

-- a row that holds
pub record IsFirst (k : Kind) (s : Sight) (rs : List Rule) : Type 0 where
  pub r : Rule
  pub among : IsAmong r rs
  pub holds : rule_holds k s r ≡ true
  pub first : first_row rs k s ≡ row_of r

some_by : (k : Kind) (s : Sight) (o : Rule) (rs : List Rule) (b : Bool) → rule_holds k s o ≡ b → one_more (rule_holds k s o) (count k s rs) ≡ 1
    → (count k s rs ≡ 1 → IsFirst k s rs) → IsFirst k s (o ∷ rs)
some_by k s o rs true e one later =
    record { r = o; among = inl refl; holds = e; first = ap (λ (b : Bool). if b then row_of o else first_row rs k s) e }
some_by k s o rs false e one later =
    let n : count k s rs ≡ 1 = ap (λ b. one_more b (count k s rs)) (sym e) ∙ one in
    let f = later n in
    record { r = f.r; among = inr f.among; holds = f.holds; first = ap (λ (b : Bool). if b then row_of o else first_row rs k s) e ∙ f.first }

pub some_row : (k : Kind) (s : Sight) (rs : List Rule) → count k s rs ≡ 1 → IsFirst k s rs
some_row k s [] one = absurd (omega arith)
some_row k s (o ∷ rs) one = some_by k s o rs (rule_holds k s o) refl one (some_row k s rs)

-- ---- tests of all sights

abbrev pub all_bools : (Bool → Bool) → Bool
all_bools f = f false && f true

abbrev pub all_specials : (SpecialKind → Bool) → Bool
all_specials f = f Fifo && (f Socket && (f Block && f Char))

abbrev pub all_kinds : (Kind → Bool) → Bool
all_kinds f = f Absent && (f Reg && (f Link && (all_specials (λ s. f (Special s)) && f Dir)))

pub each_bool : (f : Bool → Bool) → all_bools f ≡ true → (b : Bool) → f b ≡ true
each_bool f h false = (both_true (f false) (f true) h).0
each_bool f h true = (both_true (f false) (f true) h).1

pub each_special : (f : SpecialKind → Bool) → all_specials f ≡ true → (s : SpecialKind) → f s ≡ true
each_special f h Fifo = (both_true (f Fifo) _ h).0
each_special f h Socket = (both_true (f Socket) _ (both_true (f Fifo) _ h).1).0
each_special f h Block = (both_true (f Block) (f Char) (both_true (f Socket) _ (both_true (f Fifo) _ h).1).1).0
each_special f h Char = (both_true (f Block) (f Char) (both_true (f Socket) _ (both_true (f Fifo) _ h).1).1).1

pub each_kind : (f : Kind → Bool) → all_kinds f ≡ true → (k : Kind) → f k ≡ true
each_kind f h Absent = (both_true (f Absent) _ h).0
each_kind f h Reg = (both_true (f Reg) _ (both_true (f Absent) _ h).1).0
each_kind f h Link = (both_true (f Link) _ (both_true (f Reg) _ (both_true (f Absent) _ h).1).1).0
each_kind f h (Special s) =
    each_special (λ s. f (Special s)) (both_true (all_specials (λ s. f (Special s))) _ (both_true (f Link) _ (both_true (f Reg) _ (both_true (f Absent) _ h).1).1).1).0 s
each_kind f h Dir = (both_true (all_specials (λ s. f (Special s))) (f Dir) (both_true (f Link) _ (both_true (f Reg) _ (both_true (f Absent) _ h).1).1).1).1

abbrev pub all_sights : (Sight → Bool) → Bool
all_sights f = all_bools (λ d. all_kinds (λ k. all_bools (λ e. all_kinds (λ l. all_bools (λ m. f (sight d k e l m))))))

pub each_sight : (f : Sight → Bool) → all_sights f ≡ true → (s : Sight) → f s ≡ true
each_sight f h s =
    each_bool (λ m. f (sight s.in_dir s.kind s.filled s.inner m))
    (each_kind (λ l. all_bools (λ m. f (sight s.in_dir s.kind s.filled l m)))
    (each_bool (λ e. all_kinds (λ l. all_bools (λ m. f (sight s.in_dir s.kind e l m))))
    (each_kind (λ k. all_bools (λ e. all_kinds (λ l. all_bools (λ m. f (sight s.in_dir k e l m)))))
    (each_bool (λ d. all_kinds (λ k. all_bools (λ e. all_kinds (λ l. all_bools (λ m. f (sight d k e l m)))))) h s.in_dir) s.kind) s.filled) s.inner) s.inner_filled

-- ---- exactly one row of each table holds

-- below what is no directory nothing stands
abbrev pub possible : Sight → Bool
possible s = s.in_dir || has (of Absent) s.kind

abbrev pub one : List Rule → Kind → Sight → Bool
one rs k s = nat_eq (count k s rs) 1

abbrev pub one_if_possible : List Rule → Kind → Sight → Bool
one_if_possible rs k s = not (possible s) || one rs k s

pub given_possible : (p b : Bool) → p ≡ true → (not p || b) ≡ true → b ≡ true
given_possible true b p e = e
given_possible false b p e = absurd (cc)

asks_one : (rs : List Rule) (k : Kind) → all_sights (one rs k) ≡ true → (s : Sight) → count k s rs ≡ 1
asks_one rs k h s = eqb-true (count k s rs) 1 (each_sight (one rs k) h s)

pub does_one : (rs : List Rule) (k : Kind) → all_sights (one_if_possible rs k) ≡ true → (s : Sight) → possible s ≡ true → count k s rs ≡ 1
does_one rs k h s p = eqb-true (count k s rs) 1 (given_possible (possible s) (one rs k s) p (each_sight (one_if_possible rs k) h s))

runs_one : (runs : Bool) (s : Sight) → count Absent s (can_run_by runs) ≡ 1
runs_one false = asks_one can_run_rules Absent refl
runs_one true = asks_one can_run_file_rules Absent refl

specials_one : (kind : SpecialKind) (s : Sight) → count Absent s (is_special_rules kind) ≡ 1
specials_one Fifo = asks_one (is_special_rules Fifo) Absent refl
specials_one Socket = asks_one (is_special_rules Socket) Absent refl
specials_one Block = asks_one (is_special_rules Block) Absent refl
specials_one Char = asks_one (is_special_rules Char) Absent refl

removes_one : (force deep : Bool) (k : Kind) (s : Sight) → possible s ≡ true → count k s (remove_by force deep) ≡ 1
removes_one false false k = does_one remove_rules k refl
removes_one false true k = does_one remove_deep_rules k refl
removes_one true false k = does_one remove_force_rules k refl
removes_one true true k = does_one remove_force_deep_rules k refl

links_one : (force : Bool) (k : Kind) (s : Sight) → possible s ≡ true → count k s (symlink_by force) ≡ 1
links_one false k = does_one symlink_rules k refl
links_one true k = does_one symlink_force_rules k refl

moves_one : (below : Bool) (k : Kind) (s : Sight) → possible s ≡ true → count k s (move_by below) ≡ 1
moves_one true k = does_one move_below_rules k refl
moves_one false Absent = does_one move_rules Absent refl
moves_one false Reg = does_one move_rules Reg refl
moves_one false Link = does_one move_rules Link refl
moves_one false (Special Fifo) = does_one move_rules (Special Fifo) refl
moves_one false (Special Socket) = does_one move_rules (Special Socket) refl
moves_one false (Special Block) = does_one move_rules (Special Block) refl
moves_one false (Special Char) = does_one move_rules (Special Char) refl
moves_one false Dir = does_one move_rules Dir refl

-- what is copied: of every kind but a regular file and a directory the first row for it holds, whatever is seen
copies_one : (deep : Bool) (k : Kind) (s : Sight) → possible s ≡ true → count k s (copy_by deep) ≡ 1
copies_one false Absent s p = refl
copies_one false Reg s p = does_one copy_rules Reg refl s p
copies_one false Link s p = refl
copies_one false (Special Fifo) s p = refl
copies_one false (Special Socket) s p = refl
copies_one false (Special Block) s p = refl
copies_one false (Special Char) s p = refl
copies_one false Dir s p = refl
copies_one true Absent s p = refl
copies_one true Reg s p = does_one copy_deep_rules Reg refl s p
copies_one true Link s p = refl
copies_one true (Special Fifo) s p = refl
copies_one true (Special Socket) s p = refl
copies_one true (Special Block) s p = refl
copies_one true (Special Char) s p = refl
copies_one true Dir s p = does_one copy_deep_rules Dir refl s p

-- ---- what is seen on a tree is possible

nothing_in : (v : Value) (f : List ℕ) → is_dir v ≡ false → entry v f ≡ value.Absent
nothing_in value.Absent f e = refl
nothing_in value.Reg f e = refl
nothing_in (value.Link b) f e = refl
nothing_in (value.Special s) f e = refl
nothing_in (value.Dir es) f e = absurd (cc)

pub nothing_outside : (v : Value) (f : List ℕ) (p : List (List ℕ)) → in_dir v (f ∷ p) ≡ false → at v (f ∷ p) ≡ value.Absent
nothing_outside v f [] e = nothing_in v f e
nothing_outside v f (g ∷ p) e = nothing_outside (entry v f) g p e

pub seen_possible : (tree w : Value) (names : List (List ℕ)) → names ≢ [] → possible (sight_of (in_dir tree names) (at tree names) w) ≡ true
seen_possible tree w [] ne = absurd (ne refl)
seen_possible tree w (f ∷ p) ne = by (in_dir tree (f ∷ p)) refl
  where
    by : (b : Bool) → in_dir tree (f ∷ p) ≡ b → possible (sight_of (in_dir tree (f ∷ p)) (at tree (f ∷ p)) w) ≡ true
    by true e = ap (λ (b : Bool). b || has (of Absent) (kind_of (at tree (f ∷ p)))) e
    by false e =
        ap (λ (b : Bool). b || has (of Absent) (kind_of (at tree (f ∷ p)))) e
        ∙ ap (λ (v : Value). has (of Absent) (kind_of v)) (nothing_outside tree f p e)

pub one_holds : (act : Act) (tree : Value) → IsPerformed act → count (source_of act tree) (sight_on act tree) (rules (is_below act) act) ≡ 1
one_holds (Exists p) tree h = asks_one exists_rules Absent refl (sight_on (Exists p) tree)
one_holds (IsReg p) tree h = asks_one is_reg_rules Absent refl (sight_on (IsReg p) tree)
one_holds (IsDir p) tree h = asks_one is_dir_rules Absent refl (sight_on (IsDir p) tree)
one_holds (IsLink p) tree h = asks_one is_link_rules Absent refl (sight_on (IsLink p) tree)
one_holds (CanRun p runs) tree h = runs_one runs (sight_on (CanRun p runs) tree)
one_holds (IsSpecial p kind) tree h = specials_one kind (sight_on (IsSpecial p kind) tree)
one_holds (MakeDir p) tree h = does_one make_dir_rules Absent refl (sight_on (MakeDir p) tree) (seen_possible tree value.Absent p.names (h.0 refl).1)
one_holds (EnsureDir p) tree h = does_one ensure_dir_rules Absent refl (sight_on (EnsureDir p) tree) (seen_possible tree value.Absent p.names (h.0 refl).1)
one_holds (RemoveDir p) tree h = does_one remove_dir_rules Absent refl (sight_on (RemoveDir p) tree) (seen_possible tree value.Absent p.names (h.0 refl).1)
one_holds (Touch p) tree h = does_one touch_rules Absent refl (sight_on (Touch p) tree) (seen_possible tree value.Absent p.names (h.0 refl).1)
one_holds (PlaceFile p) tree h = does_one place_file_rules Absent refl (sight_on (PlaceFile p) tree) (seen_possible tree value.Absent p.names (h.0 refl).1)
one_holds (PlaceLink p target) tree h = does_one place_link_rules Absent refl (sight_on (PlaceLink p target) tree) (seen_possible tree value.Absent p.names (h.0 refl).1)
one_holds (PlaceConf p) tree h = does_one place_conf_rules Absent refl (sight_on (PlaceConf p) tree) (seen_possible tree value.Absent p.names (h.0 refl).1)
one_holds (Discard p) tree h = does_one discard_rules Absent refl (sight_on (Discard p) tree) (seen_possible tree value.Absent p.names (h.0 refl).1)
one_holds (DiscardDir p) tree h = does_one discard_dir_rules Absent refl (sight_on (DiscardDir p) tree) (seen_possible tree value.Absent p.names (h.0 refl).1)
one_holds (Remove p force deep) tree h = removes_one force deep Absent (sight_on (Remove p force deep) tree) (seen_possible tree value.Absent p.names (h.0 refl).1)
one_holds (Symlink p target last force) tree h =
    links_one force Absent (sight_on (Symlink p target last force) tree)
    (seen_possible tree (inner_of (Symlink p target last force) tree) p.names (h.0 refl).1)
one_holds (Move a b) tree h =
    moves_one (is_prefix a.names b.names) (source_of (Move a b) tree) (sight_on (Move a b) tree)
    (seen_possible tree (inner_of (Move a b) tree) b.names (h.0 refl).1)
one_holds (Attr p) tree h = asks_one attr_rules Absent refl (sight_on (Attr p) tree)
one_holds (Copy a b deep) tree h =
    copies_one deep (source_of (Copy a b deep) tree) (sight_on (Copy a b deep) tree)
    (seen_possible tree (inner_of (Copy a b deep) tree) b.names (h.0 refl).1)

-- ---- the ways

pub clear_way : (tree : Value) (names : List (List ℕ)) (c : ℕ) → kind_of tree ≡ Dir → Found names tree c None → NoLinkOnWay tree names
clear_way tree names c t f zero lt e = let a : Dir ≡ Link = sym t ∙ e in cc
clear_way tree names c t f (suc k) lt e = f (suc k) (omega arith) lt e

none_found : (tree : Value) (names : List (List ℕ)) (c : ℕ) (o : Option ℕ) → NoLinkOnWay tree names → Found names tree c o → o ≡ None
none_found tree names c None clear f = refl
none_found tree names c (Some n) clear f = absurd (clear f.k f.high f.link)

pub none_on : (tree : Value) (names : List (List ℕ)) (c : ℕ) → NoLinkOnWay tree names → link_on_way c tree names ≡ None
none_on tree names c clear = none_found tree names c (link_on_way c tree names) clear (found names tree c)

-- what is found on the way of a second path
abbrev SecondFound : Act → Value → Option ℕ → Type 0
SecondFound act tree None = LooksAtWay act tree → NoLinkOnWay tree (place_of act)
SecondFound act tree (Some n) = LooksAtWay act tree × IsFirstLink (place_of act) tree 128 n

way_found : (act : Act) (tree : Value) → kind_of tree ≡ Dir → LooksAtWay act tree → (o : Option ℕ) → Found (place_of act) tree 128 o → SecondFound act tree o
way_found act tree t looks None f = λ l. clear_way tree (place_of act) 128 t f
way_found act tree t looks (Some n) f = (looks, f)

second_by : (act : Act) (tree : Value) → kind_of tree ≡ Dir → (c : Bool) → looks_at_way act tree ≡ c
    → SecondFound act tree (if c then link_on_way 128 tree (place_of act) else None)
second_by act tree t true e = way_found act tree t e (link_on_way 128 tree (place_of act)) (found (place_of act) tree 128)
second_by act tree t false e = λ looks. let x : true ≡ false = sym looks ∙ e in absurd (cc)

second_found : (act : Act) (tree : Value) → kind_of tree ≡ Dir → SecondFound act tree (second_link act tree)
second_found act tree t = second_by act tree t (looks_at_way act tree) refl

none_second : (act : Act) (tree : Value) (o : Option ℕ) → SecondFound act tree o → (LooksAtWay act tree → NoLinkOnWay tree (place_of act)) → o ≡ None
none_second act tree None f clear = refl
none_second act tree (Some n) f clear = absurd (clear f.0 f.1.k f.1.high f.1.link)

second_counted : (act : Act) (tree : Value) (k : ℕ) → LooksAtWay act tree → 1 ≤ k → k < length (place_of act) → kind_at tree (place_of act) k ≡ Link
    → second_link act tree ≡ Some (128 + k)
second_counted act tree k looks low high e =
    ap (λ (c : Bool). if c then link_on_way 128 tree (place_of act) else None) looks ∙ counted (place_of act) tree 128 k low high e

-- ---- the slash

slash_is : (s : Bool) (k : Kind) (r : Row) → IsTrue s → k ≢ Absent → k ≢ Dir → by_slash s k r ≡ slash_row
slash_is false k r h na nd = cc
slash_is true Absent r h na nd = absurd (na refl)
slash_is true Reg r h na nd = refl
slash_is true Link r h na nd = refl
slash_is true (Special s) r h na nd = refl
slash_is true Dir r h na nd = absurd (nd refl)

pub no_slash_is : (s : Bool) (k : Kind) (r : Row) → (IsTrue s → (k ≡ Absent) ⊎ (k ≡ Dir)) → by_slash s k r ≡ r
no_slash_is false k r h = refl
no_slash_is true k r h = elim (h refl) [ inl e ↦ ap (λ x. by_slash true x r) e | inr e ↦ ap (λ x. by_slash true x r) e ]

-- ---- the law

module _ (act : Act) (tree : Value) (performed : IsPerformed act) (t : kind_of tree ≡ Dir) where
  abbrev names : List (List ℕ)
  names = (path_of act).names

  abbrev end_kind : Kind
  end_kind = kind_of (at tree names)

  abbrev after : Row
  after = by_way (second_link act tree) (own_row act tree)

  own_applies : Reaches act tree → (o : Option ℕ) → SecondFound act tree o → Applies act tree (by_way o (own_row act tree)).number
  own_applies reaches (Some n) f =
      let is : 128 + f.1.k ≡ n = sym f.1.is in
      subst (Applies act tree) is (on_second_way f.1.k reaches f.0 f.1.low f.1.high f.1.link)
  own_applies reaches None f =
      let one = some_row (source_of act tree) (sight_on act tree) (rules (is_below act) act) (one_holds act tree performed) in
      let is : one.r.number ≡ (own_row act tree).number = ap (λ (r : Row). r.number) (sym one.first) in
      subst (Applies act tree) is (own one.r reaches f one.among one.holds)

  after_applies : NoLinkOnWay tree names → FitsSlash act tree → Applies act tree after.number
  after_applies clear fits = own_applies (clear, fits) (second_link act tree) (second_found act tree t)

  fits_by : (s : Bool) → (path_of act).slash ≡ s → (k : Kind) → end_kind ≡ k → (s ≡ true → (k ≡ Absent) ⊎ (k ≡ Dir)) → FitsSlash act tree
  fits_by s se k e h slash = subst (λ (x : Kind). (x ≡ Absent) ⊎ (x ≡ Dir)) (sym e) (h (sym se ∙ slash))

  stopped_at : NoLinkOnWay tree names → (path_of act).slash ≡ true → (k : Kind) → end_kind ≡ k → k ≢ Absent → k ≢ Dir → Applies act tree 64
  stopped_at clear s k e na nd = at_slash clear s (λ h. na (sym e ∙ h)) (λ h. nd (sym e ∙ h))

  slash_applies : NoLinkOnWay tree names → (s : Bool) → (path_of act).slash ≡ s → (k : Kind) → end_kind ≡ k → Applies act tree (by_slash s k after).number
  slash_applies clear false se k e = after_applies clear (fits_by false se k e (λ h. absurd (cc)))
  slash_applies clear true se Absent e = after_applies clear (fits_by true se Absent e (λ h. inl refl))
  slash_applies clear true se Reg e = stopped_at clear se Reg e (λ h. cc) (λ h. cc)
  slash_applies clear true se Link e = stopped_at clear se Link e (λ h. cc) (λ h. cc)
  slash_applies clear true se (Special s) e = stopped_at clear se (Special s) e (λ h. cc) (λ h. cc)
  slash_applies clear true se Dir e = after_applies clear (fits_by true se Dir e (λ h. inr refl))

  way_applies : (o : Option ℕ) → Found names tree 0 o → Applies act tree (by_way o (by_slash (path_of act).slash end_kind after)).number
  way_applies None f = slash_applies (clear_way tree names 0 t f) (path_of act).slash refl end_kind refl
  way_applies (Some n) f = let is : f.k ≡ n = omega (arith, f.is) in subst (Applies act tree) is (on_way f.k f.low f.high f.link)

  pub row_applies : Applies act tree (row act tree).number
  row_applies = way_applies (link_on_way 0 tree names) (found names tree 0)

  clear_row : NoLinkOnWay tree names → row act tree ≡ by_slash (path_of act).slash end_kind after
  clear_row clear = ap (λ o. by_way o (by_slash (path_of act).slash end_kind after)) (none_on tree names 0 clear)

  reached_row : Reaches act tree → row act tree ≡ after
  reached_row reaches = clear_row reaches.0 ∙ no_slash_is (path_of act).slash end_kind after reaches.1

  pub no_other : {n : ℕ} → Applies act tree n → n ≡ (row act tree).number
  no_other (on_way k low high e) =
      sym (ap (λ o. (by_way o (by_slash (path_of act).slash end_kind after)).number) (counted names tree 0 k low high e) ∙ omega arith)
  no_other (at_slash clear s na nd) = sym (ap (λ (r : Row). r.number) (clear_row clear ∙ slash_is (path_of act).slash end_kind after s na nd))
  no_other (on_second_way k reaches looks low high e) =
      sym (ap (λ (r : Row). r.number) (reached_row reaches ∙ ap (λ o. by_way o (own_row act tree)) (second_counted act tree k looks low high e)))
  no_other (own r reaches clear among holds) =
      let second = none_second act tree (second_link act tree) (second_found act tree t) clear in
      let is = only_row (source_of act tree) (sight_on act tree) (rules (is_below act) act) r (one_holds act tree performed) among holds in
      sym (ap (λ (x : Row). x.number) (reached_row reaches ∙ ap (λ o. by_way o (own_row act tree)) second ∙ is))
