-- The greatest kind of a set of kinds, and the set of all.
use Rattle.std.proofs.Common.{◌≡◌, ◌≢◌, ◌⊎◌, inl, inr, Bool, true, false, if◌then◌else◌, IsTrue, refl, sym, ◌∙◌}
use Rattle.feature_trees.specs.declared.kind.Kind.{Kind}
use Rattle.feature_trees.specs.declared.kind.Kind.TheVariants.{Absent, Reg, Link, Special, Dir}
use Rattle.feature_trees.specs.declared.kind.Special.TheVariants.{Fifo, Socket, Block, Char}
use Rattle.feature_trees.specs.declared.kind.Kinds.{Kinds}
use Rattle.feature_trees.specs.Kinds.{has}
use Rattle.clause_solver.specs.Greatest.{choose, is_dir}
use Rattle.clause_solver.specs.Written.{is_all}

abbrev set_of : Bool → Bool → Bool → Bool → Bool → Bool → Bool → Bool → Kinds
set_of a r l f s b c d = record { absent = a; reg = r; link = l; fifo = f; socket = s; block = b; char = c; dir = d }

all_by : (a r l f s b c d : Bool) (k : Kind) → IsTrue (is_all (set_of a r l f s b c d)) → IsTrue (has (set_of a r l f s b c d) k)
all_by true true true true true true true true Absent h = refl
all_by true true true true true true true true Reg h = refl
all_by true true true true true true true true Link h = refl
all_by true true true true true true true true (Special Fifo) h = refl
all_by true true true true true true true true (Special Socket) h = refl
all_by true true true true true true true true (Special Block) h = refl
all_by true true true true true true true true (Special Char) h = refl
all_by true true true true true true true true Dir h = refl
all_by false r l f s b c d k h = cc
all_by true false l f s b c d k h = cc
all_by true true false f s b c d k h = cc
all_by true true true false s b c d k h = cc
all_by true true true true false b c d k h = cc
all_by true true true true true false c d k h = cc
all_by true true true true true true false d k h = cc
all_by true true true true true true true false k h = cc

-- the set of all kinds has each
pub all_have : (s : Kinds) (k : Kind) → IsTrue (is_all s) → IsTrue (has s k)
all_have s k h = all_by s.absent s.reg s.link s.fifo s.socket s.block s.char s.dir k h

-- where a kind is in the set, the greatest one is, and it is absent only where that kind is
chosen : (a r l f s b c d : Bool) (k : Kind) → IsTrue (has (set_of a r l f s b c d) k)
    → IsTrue (has (set_of a r l f s b c d) (choose (set_of a r l f s b c d))) × (k ≢ Absent → choose (set_of a r l f s b c d) ≢ Absent)
chosen a r l f s b c true k h = (refl, λ ne e. cc)
chosen a true l f s b c false k h = (refl, λ ne e. cc)
chosen a false true f s b c false k h = (refl, λ ne e. cc)
chosen a false false true s b c false k h = (refl, λ ne e. cc)
chosen a false false false true b c false k h = (refl, λ ne e. cc)
chosen a false false false false true c false k h = (refl, λ ne e. cc)
chosen a false false false false false true false k h = (refl, λ ne e. cc)
chosen a false false false false false false false Absent h = (h, λ ne e. ne refl)
chosen a false false false false false false false Reg h = cc
chosen a false false false false false false false Link h = cc
chosen a false false false false false false false (Special Fifo) h = cc
chosen a false false false false false false false (Special Socket) h = cc
chosen a false false false false false false false (Special Block) h = cc
chosen a false false false false false false false (Special Char) h = cc
chosen a false false false false false false false Dir h = cc

pub choose_in : (s : Kinds) (k : Kind) → IsTrue (has s k) → IsTrue (has s (choose s))
choose_in s k h = (chosen s.absent s.reg s.link s.fifo s.socket s.block s.char s.dir k h).0

pub choose_present : (s : Kinds) (k : Kind) → IsTrue (has s k) → k ≢ Absent → choose s ≢ Absent
choose_present s k h = (chosen s.absent s.reg s.link s.fifo s.socket s.block s.char s.dir k h).1

chosen_dir : (a r l f s b c d : Bool) → IsTrue d → choose (set_of a r l f s b c d) ≡ Dir
chosen_dir a r l f s b c true h = refl
chosen_dir a r l f s b c false h = cc

pub choose_dir : (s : Kinds) → IsTrue (has s Dir) → choose s ≡ Dir
choose_dir s h = chosen_dir s.absent s.reg s.link s.fifo s.socket s.block s.char s.dir h

chosen_is : (a r l f s b c d : Bool) → choose (set_of a r l f s b c d) ≡ Dir → IsTrue d
chosen_is a r l f s b c true e = refl
chosen_is a true l f s b c false e = let bad : Reg ≡ Dir = e in absurd (cc)
chosen_is a false true f s b c false e = let bad : Link ≡ Dir = e in absurd (cc)
chosen_is a false false true s b c false e = let bad : Special Fifo ≡ Dir = e in absurd (cc)
chosen_is a false false false true b c false e = let bad : Special Socket ≡ Dir = e in absurd (cc)
chosen_is a false false false false true c false e = let bad : Special Block ≡ Dir = e in absurd (cc)
chosen_is a false false false false false true false e = let bad : Special Char ≡ Dir = e in absurd (cc)
chosen_is a false false false false false false false e = let bad : Absent ≡ Dir = e in absurd (cc)

pub choose_is_dir : (s : Kinds) → choose s ≡ Dir → IsTrue (has s Dir)
choose_is_dir s e = chosen_is s.absent s.reg s.link s.fifo s.socket s.block s.char s.dir e

pub is_dir_cases : (k : Kind) → (k ≡ Dir) ⊎ (is_dir k ≡ false)
is_dir_cases Absent = inr refl
is_dir_cases Reg = inr refl
is_dir_cases Link = inr refl
is_dir_cases (Special s) = inr refl
is_dir_cases Dir = inl refl

bare : (a r l f s b c d : Bool) → ((k : Kind) → k ≢ Absent → IsTrue (has (set_of a r l f s b c d) k) → ⊥) → choose (set_of a r l f s b c d) ≡ Absent
bare a r l f s b c true h = absurd (h Dir (λ e. cc) refl)
bare a true l f s b c false h = absurd (h Reg (λ e. cc) refl)
bare a false true f s b c false h = absurd (h Link (λ e. cc) refl)
bare a false false true s b c false h = absurd (h (Special Fifo) (λ e. cc) refl)
bare a false false false true b c false h = absurd (h (Special Socket) (λ e. cc) refl)
bare a false false false false true c false h = absurd (h (Special Block) (λ e. cc) refl)
bare a false false false false false true false h = absurd (h (Special Char) (λ e. cc) refl)
bare a false false false false false false false h = refl

-- where the greatest kind of a set is absent, so is that of a smaller one
pub choose_fewer : (few many : Kinds) → ((k : Kind) → IsTrue (has few k) → IsTrue (has many k)) → choose many ≡ Absent → choose few ≡ Absent
choose_fewer few many more e = bare few.absent few.reg few.link few.fifo few.socket few.block few.char few.dir (λ k ne h. choose_present many k (more k h) ne e)

-- of an entry that was narrowed, whose kind was absent
pub still_absent : (may : Bool) (few many : Kinds) (kind : Kind) → ((k : Kind) → IsTrue (has few k) → IsTrue (has many k))
    → kind ≡ (if may then choose many else Absent) → kind ≡ Absent → Absent ≡ (if may then choose few else Absent)
still_absent true few many kind more is e = sym (choose_fewer few many more (sym is ∙ e))
still_absent false few many kind more is e = refl

-- of an entry that was narrowed, whose kind was not absent
pub now_chosen : (may : Bool) (few many : Kinds) (kind : Kind) → kind ≡ (if may then choose many else Absent) → kind ≢ Absent
    → choose few ≡ (if may then choose few else Absent)
now_chosen true few many kind is ne = refl
now_chosen false few many kind is ne = absurd (ne is)
