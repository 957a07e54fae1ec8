-- A variable that is to be a symbolic link to a target.
use Rattle.std.proofs.Common.{◌≡◌, ◌↔◌, ℕ, ◌<◌, Bool, true, false, None, IsTrue, if◌then◌else◌, List, length, refl, sym, ap, ◌∙◌, length-set, get_or-set_same}
use Rattle.feature_trees.specs.declared.kind.Kind.{Kind}
use Rattle.feature_trees.specs.declared.kind.Kind.TheVariants as kind
use Rattle.feature_trees.specs.declared.kind.Special.TheVariants.{Fifo, Socket, Block, Char}
use Rattle.feature_trees.specs.declared.kind.Kinds.{Kinds}
use Rattle.feature_trees.specs.declared.value.Value.{Value}
use Rattle.feature_trees.specs.declared.value.Value.TheVariants as value
use Rattle.feature_trees.specs.Kinds.{has, none, of, both}
use Rattle.feature_trees.specs.Tree.{kind_of}
use Rattle.tree_clauses.specs.Literals.{Valuation, value_of_variable}
use Rattle.std.proofs.lemmas.Bool.{and_parts}
use Rattle.tree_clauses.proofs.KindSets.{has_both}
use Rattle.clause_solver.specs.declared.leading.Aim.TheVariants.{Missed, Open}
use Rattle.clause_solver.specs.declared.variable.Definition.{Definition}
use Rattle.clause_solver.specs.declared.variable.Definition.TheVariants.{Start, Child, Derived, Ensured, Made}
use Rattle.clause_solver.specs.declared.variable.Variable.{Variable}
use Rattle.clause_solver.specs.Aims.{IsAim, IsLed}
use Rattle.clause_solver.specs.Stands.{Stands}
use Rattle.clause_solver.specs.Variables.{var_at, is_node, Ordered, AlwaysDir, IsLinkPlace, narrowed, fixed_in, aimed}
use Rattle.clause_solver.proofs.Aimed.{aimed_fits, fits_aimed, aimed_only}
use Rattle.clause_solver.proofs.Narrowed.{narrowed_definition, narrowed_target, narrowed_fits, fits_narrowed, narrowed_only}
use Rattle.clause_solver.proofs.OneMore.{seen_of}
use Rattle.clause_solver.proofs.Pairs.{fits_from, fits_to}

-- ---- sets of kinds

has_none : (k : Kind) → IsTrue (has none k) → ⊥
has_none kind.Absent h = cc
has_none kind.Reg h = cc
has_none kind.Link h = cc
has_none (kind.Special Fifo) h = cc
has_none (kind.Special Socket) h = cc
has_none (kind.Special Block) h = cc
has_none (kind.Special Char) h = cc
has_none kind.Dir h = cc

of_link : (k : Kind) → IsTrue (has (of kind.Link) k) → k ≡ kind.Link
of_link kind.Absent h = cc
of_link kind.Reg h = cc
of_link kind.Link h = refl
of_link (kind.Special Fifo) h = cc
of_link (kind.Special Socket) h = cc
of_link (kind.Special Block) h = cc
of_link (kind.Special Char) h = cc
of_link kind.Dir h = cc

-- ---- what is left

place_fixes_none : (d : Definition) (k : Kinds) → IsTrue (is_node d) → fixed_in d k ≡ false
place_fixes_none Start k t = refl
place_fixes_none (Child p f) k t = refl
place_fixes_none (Derived x f y) k t = cc
place_fixes_none (Ensured x) k t = cc
place_fixes_none (Made m) k t = cc

link_alone : (fixed : Bool) (ks : Kinds) (k : Kind) → fixed ≡ false → IsTrue (has (if fixed then ks else both ks (of kind.Link)) k) → k ≡ kind.Link
link_alone true ks k e h = cc
link_alone false ks k e h = of_link k (and_parts (has ks k) (has (of kind.Link) k) (rw has_both at h)).1

module _ (vars : List Variable) (x : ℕ) (b : List ℕ) (inside : x < length vars) where
  -- a place whose kinds allow a link at most
  abbrev limited : List Variable
  limited = narrowed vars x (of kind.Link)

  pub limited_place : IsTrue (is_node (var_at vars x).definition) → IsLinkPlace (var_at limited x)
  limited_place node = (
    ap is_node (narrowed_definition vars x (of kind.Link) inside x) ∙ node,
    λ q h. link_alone (fixed_in (var_at vars x).definition (of kind.Link)) (var_at vars x).kinds q (place_fixes_none (var_at vars x).definition (of kind.Link) node) (rw get_or-set_same at h),
  )

  pub led_missed : IsAim (var_at vars x) b Missed → IsLed vars x b (narrowed vars x none)
  led_missed missed = record {
    long = length-set vars x _;
    first = narrowed_only vars x none inside 0;
    down = λ g fits. absurd (has_none (kind_of (value_of_variable g x)) (narrowed_fits vars x none inside g fits).1);
    up = λ g fits link. absurd (missed g x (fits x inside) link);
  }

  pub led_open : IsAim (var_at vars x) b Open → IsLed vars x b (aimed limited x b)
  led_open (node, unknown) =
      let known : x < length limited = rw length-set inside in
      let still : (var_at limited x).target ≡ None = narrowed_target vars x (of kind.Link) inside x ∙ unknown in
      record {
        long = length-set limited x _ ∙ length-set vars x _;
        first = λ h. aimed_only limited x b known 0 (narrowed_only vars x (of kind.Link) inside 0 h);
        down = λ g fits. let parts = aimed_fits limited x b known still g fits in ((narrowed_fits vars x (of kind.Link) inside g parts.0).0, parts.1);
        up = λ g fits link. fits_aimed limited x b known g (fits_narrowed vars x (of kind.Link) inside g fits (rw link refl)) link;
      }

module _ (old new : List Variable) (x : ℕ) (b : List ℕ) (led : IsLed old x b new) where
  pub led_always : (i : ℕ) → AlwaysDir old i → AlwaysDir new i
  led_always i h g l s fits = h g (l ∙ led.long) s (led.down g fits).0

  pub led_exact : (now : ℕ) → Ordered old → Ordered new → (t : Value) (g : Valuation) → Stands (seen_of new now) t g ↔ (Stands (seen_of old now) t g × (value_of_variable g x ≡ value.Link b))
  led_exact now old_order order t g = (
    λ h.
        let parts = led.down g (fits_from new g order h.values h.met) in
        (record { counted = h.counted ∙ led.long; starts = h.starts; tree = h.tree; ends = h.ends; met = fits_to old g h.values parts.0; values = h.values }, parts.1),
    λ (h, link).
        record { counted = h.counted ∙ sym led.long; starts = h.starts; tree = h.tree; ends = h.ends; met = fits_to new g h.values (led.up g (fits_from old g old_order h.values h.met) link); values = h.values },
  )
