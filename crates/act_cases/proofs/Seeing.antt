-- What a look along names says of what stands there.
use Rattle.std.proofs.Common.{◌≡◌, ◌≢◌, ℕ, zero, suc, ◌⊎◌, inl, inr, Bool, true, false, IsTrue, List, [], ◌∷◌, ◌++◌, refl, sym, subst, ◌∙◌, arith}
use Rattle.feature_trees.specs.declared.kind.Kind.{Kind}
use Rattle.feature_trees.specs.declared.kind.Kind.TheVariants.{Absent, Reg, Link, Special, Dir}
use Rattle.feature_trees.specs.declared.kind.Special.TheVariants.{Fifo, Socket, Block, Char}
use Rattle.feature_trees.specs.declared.kind.Kinds.{Kinds}
use Rattle.feature_trees.specs.declared.value.Value.{Value}
use Rattle.feature_trees.specs.declared.value.Value.TheVariants as value
use Rattle.feature_trees.specs.Kinds.{has, of, all, but, either, two}
use Rattle.feature_trees.specs.Tree.{entry, at, kind_of, is_dir, has_parents}
use Rattle.feature_trees.proofs.Laws.{and_parts, and_made}
use Rattle.tree_clauses.proofs.KindSets.{has_both}
use Rattle.utility_calls.specs.Table.{file}
use Rattle.utility_calls.specs.Ways.{in_dir}
use Rattle.utility_calls.specs.Ways.{NoLinkOnWay}
use Rattle.act_cases.specs.Looks.{kinds_from, Sees}
use Rattle.act_cases.specs.Tables.{fitting, free, through, beside}

-- ---- kinds

pub no_link : (k : Kind) → IsTrue (has (but Link) k) → k ≢ Link
no_link Absent h = λ e. cc
no_link Reg h = λ e. cc
no_link Link h = cc
no_link (Special s) h = λ e. cc
no_link Dir h = λ e. cc

pub link_no : (k : Kind) → k ≢ Link → IsTrue (has (but Link) k)
link_no Absent h = refl
link_no Reg h = refl
link_no Link h = absurd (h refl)
link_no (Special Fifo) h = refl
link_no (Special Socket) h = refl
link_no (Special Block) h = refl
link_no (Special Char) h = refl
link_no Dir h = refl

pub has_all : (k : Kind) → IsTrue (has all k)
has_all Absent = refl
has_all Reg = refl
has_all Link = refl
has_all (Special Fifo) = refl
has_all (Special Socket) = refl
has_all (Special Block) = refl
has_all (Special Char) = refl
has_all Dir = refl

-- what holds the last name and is no directory
beside_no_link : (k : Kind) → IsTrue (has (either (of Absent) file) k) → k ≢ Link
beside_no_link Absent h = λ e. cc
beside_no_link Reg h = λ e. cc
beside_no_link Link h = cc
beside_no_link (Special s) h = λ e. cc
beside_no_link Dir h = cc

beside_no_dir : (v : Value) → IsTrue (has (either (of Absent) file) (kind_of v)) → is_dir v ≡ false
beside_no_dir value.Absent h = refl
beside_no_dir value.Reg h = refl
beside_no_dir (value.Link b) h = refl
beside_no_dir (value.Special s) h = refl
beside_no_dir (value.Dir es) h = absurd (cc)

no_dir_beside : (v : Value) → is_dir v ≡ false → kind_of v ≢ Link → IsTrue (has (either (of Absent) file) (kind_of v))
no_dir_beside value.Absent h n = refl
no_dir_beside value.Reg h n = refl
no_dir_beside (value.Link b) h n = absurd (n refl)
no_dir_beside (value.Special Fifo) h n = refl
no_dir_beside (value.Special Socket) h n = refl
no_dir_beside (value.Special Block) h n = refl
no_dir_beside (value.Special Char) h n = refl
no_dir_beside (value.Dir es) h n = absurd (cc)

pub dir_has : (v : Value) → has (of Dir) (kind_of v) ≡ is_dir v
dir_has value.Absent = refl
dir_has value.Reg = refl
dir_has (value.Link b) = refl
dir_has (value.Special Fifo) = refl
dir_has (value.Special Socket) = refl
dir_has (value.Special Block) = refl
dir_has (value.Special Char) = refl
dir_has (value.Dir es) = refl

-- ---- a slash

abbrev pub Fits : Bool → Kind → Type 0
Fits s k = IsTrue s → (k ≡ Absent) ⊎ (k ≡ Dir)

pub fits_by : (k : Kind) → IsTrue (has (two Absent Dir) k) → (k ≡ Absent) ⊎ (k ≡ Dir)
fits_by Absent h = inl refl
fits_by Reg h = cc
fits_by Link h = cc
fits_by (Special Fifo) h = cc
fits_by (Special Socket) h = cc
fits_by (Special Block) h = cc
fits_by (Special Char) h = cc
fits_by Dir h = inr refl

by_fits : (k : Kind) → (k ≡ Absent) ⊎ (k ≡ Dir) → IsTrue (has (two Absent Dir) k)
by_fits k h = elim h [ inl e ↦ rw e refl | inr e ↦ rw e refl ]

pub fit_from : (s : Bool) (kinds : Kinds) (k : Kind) → IsTrue (has (fitting s kinds) k) → IsTrue (has kinds k) × Fits s k
fit_from false kinds k h = (h, λ x. absurd (cc))
fit_from true kinds k h =
    let parts = and_parts (has kinds k) (has (two Absent Dir) k) (sym (has_both kinds (two Absent Dir) k) ∙ h) in
    (parts.0, λ x. fits_by k parts.1)

pub fit_to : (s : Bool) (kinds : Kinds) (k : Kind) → IsTrue (has kinds k) → Fits s k → IsTrue (has (fitting s kinds) k)
fit_to false kinds k h f = h
fit_to true kinds k h f = has_both kinds (two Absent Dir) k ∙ and_made (has kinds k) (has (two Absent Dir) k) h (by_fits k (f refl))

-- ---- no link on the way

pub clear_more : (v : Value) (f : List ℕ) (rest : List (List ℕ)) → kind_of v ≢ Link → NoLinkOnWay (entry v f) rest → NoLinkOnWay v (f ∷ rest)
clear_more v f rest h more zero lt = h
clear_more v f rest h more (suc k) lt = more k (omega arith)

pub clear_rest : (v : Value) (f : List ℕ) (rest : List (List ℕ)) → NoLinkOnWay v (f ∷ rest) → NoLinkOnWay (entry v f) rest
clear_rest v f rest clear k lt = clear (suc k) (omega arith)

free_kinds : (kinds : Kinds) (f : List ℕ) (rest : List (List ℕ)) → kinds_from (free kinds) (f ∷ rest) ≡ but Link
free_kinds kinds f [] = refl
free_kinds kinds f (g ∷ rest) = refl

pub free_from : (kinds : Kinds) (v : Value) (names : List (List ℕ)) → Sees (free kinds) v names → NoLinkOnWay v names × IsTrue (has kinds (kind_of (at v names)))
free_from kinds v [] s = (λ k lt. absurd (omega arith), s)
free_from kinds v (f ∷ rest) s =
    let more = free_from kinds (entry v f) rest s.1 in
    (clear_more v f rest (no_link (kind_of v) (subst (λ ks. IsTrue (has ks (kind_of v))) (free_kinds kinds f rest) s.0)) more.0, more.1)

pub free_to : (kinds : Kinds) (v : Value) (names : List (List ℕ)) → NoLinkOnWay v names → IsTrue (has kinds (kind_of (at v names))) → Sees (free kinds) v names
free_to kinds v [] clear h = h
free_to kinds v (f ∷ rest) clear h = (
  subst (λ ks. IsTrue (has ks (kind_of v))) (sym (free_kinds kinds f rest)) (link_no (kind_of v) (clear 0 (omega arith))),
  free_to kinds (entry v f) rest (clear_rest v f rest clear) h,
)

-- ---- directories all the way

through_kinds : (kinds : Kinds) (f : List ℕ) (rest : List (List ℕ)) → kinds_from (through kinds) (f ∷ rest) ≡ of Dir
through_kinds kinds f [] = refl
through_kinds kinds f (g ∷ rest) = refl

pub through_from : (kinds : Kinds) (v : Value) (names : List (List ℕ)) → Sees (through kinds) v names → IsTrue (has_parents v names) × IsTrue (has kinds (kind_of (at v names)))
through_from kinds v [] s = (refl, s)
through_from kinds v (f ∷ rest) s =
    let more = through_from kinds (entry v f) rest s.1 in
    (and_made (is_dir v) (has_parents (entry v f) rest) (sym (dir_has v) ∙ subst (λ ks. IsTrue (has ks (kind_of v))) (through_kinds kinds f rest) s.0) more.0, more.1)

pub through_to : (kinds : Kinds) (v : Value) (names : List (List ℕ)) → IsTrue (has_parents v names) → IsTrue (has kinds (kind_of (at v names))) → Sees (through kinds) v names
through_to kinds v [] p h = h
through_to kinds v (f ∷ rest) p h =
    let parts = and_parts (is_dir v) (has_parents (entry v f) rest) p in
    (subst (λ ks. IsTrue (has ks (kind_of v))) (sym (through_kinds kinds f rest)) (dir_has v ∙ parts.0), through_to kinds (entry v f) rest parts.1 h)

dir_no_link : (v : Value) → IsTrue (is_dir v) → kind_of v ≢ Link
dir_no_link value.Absent h = λ e. cc
dir_no_link value.Reg h = λ e. cc
dir_no_link (value.Link b) h = cc
dir_no_link (value.Special s) h = λ e. cc
dir_no_link (value.Dir es) h = λ e. cc

pub parents_clear : (v : Value) (names : List (List ℕ)) → IsTrue (has_parents v names) → NoLinkOnWay v names
parents_clear v [] p = λ k lt. absurd (omega arith)
parents_clear v (f ∷ rest) p =
    let parts = and_parts (is_dir v) (has_parents (entry v f) rest) p in
    clear_more v f rest (dir_no_link v parts.0) (parents_clear (entry v f) rest parts.1)

-- ---- beside a directory

pub beside_from : (kinds : Kinds) (v : Value) (f : List ℕ) (rest : List (List ℕ)) → Sees (beside kinds) v (f ∷ rest)
    → NoLinkOnWay v (f ∷ rest) × (in_dir v (f ∷ rest) ≡ false) × IsTrue (has kinds (kind_of (at v (f ∷ rest))))
beside_from kinds v f [] s =
    (clear_more v f [] (beside_no_link (kind_of v) s.0) (λ k lt. absurd (omega arith)), beside_no_dir v s.0, s.1)
beside_from kinds v f (g ∷ rest) s =
    let more = beside_from kinds (entry v f) g rest s.1 in
    (clear_more v f (g ∷ rest) (no_link (kind_of v) s.0) more.0, more.1, more.2)

pub beside_to : (kinds : Kinds) (v : Value) (f : List ℕ) (rest : List (List ℕ)) → NoLinkOnWay v (f ∷ rest) → in_dir v (f ∷ rest) ≡ false
    → IsTrue (has kinds (kind_of (at v (f ∷ rest)))) → Sees (beside kinds) v (f ∷ rest)
beside_to kinds v f [] clear out h = (no_dir_beside v out (clear 0 (omega arith)), h)
beside_to kinds v f (g ∷ rest) clear out h =
    (link_no (kind_of v) (clear 0 (omega arith)), beside_to kinds (entry v f) g rest (clear_rest v f (g ∷ rest) clear) out h)

-- ---- one name more

pub at_more : (v : Value) (names : List (List ℕ)) (f : List ℕ) → at v (names ++ f ∷ []) ≡ entry (at v names) f
at_more v [] f = refl
at_more v (g ∷ names) f = at_more (entry v g) names f
