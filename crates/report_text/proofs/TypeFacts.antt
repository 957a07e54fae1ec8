-- What the types of bytes and of trees keep.
use Rattle.std.proofs.Common.{◌≡◌, ℕ, zero, suc, ◌+◌, ◌≤◌, ◌<◌, true, nat_lt, List, [], ◌∷◌, drop, Some, refl, sym, ap, ◌∙◌, subst, arith}
use Rattle.std.specs.Prelude.{slice_index, slice_get, ◌&&◌}
use Rattle.std.proofs.lemmas.Bool.{lt-ltb, and_from}
use Rattle.shown_texts.specs.Show.{are_bytes}
use Rattle.feature_trees.specs.declared.shape.Entry.{Entry}
use Rattle.feature_trees.specs.declared.value.Value.{Value}
use Rattle.feature_trees.specs.declared.value.Value.TheVariants.{Dir}
use Rattle.feature_trees.specs.Readable.{node_bytes, entries_bytes, of_bytes}
use Rattle.feature_trees.specs.Shape.{weight, weight_Dir, count_all, entry_weight, entry_weight_of}
use Rattle.feature_trees.specs.View.{node_of, value_of-node_of, IsThere}
use Rattle.feature_trees.proofs.LinesBack.{bytes_of}

-- ---- bytes

pub bytes_are : (xs : List ℕ) → ((k : ℕ) → slice_index xs k < 256) → are_bytes xs ≡ true
bytes_are [] f = refl
bytes_are (x ∷ xs) f = and_from (nat_lt x 256) (are_bytes xs) (lt-ltb x 256 (f 0)) (bytes_are xs (λ k. f (suc k)))

-- ---- trees

-- a directory weighs what its entries do
pub directory_weight : (tree : Value) (es : List Entry) → tree ≡ Dir es → weight (node_of tree) ≡ count_all es
directory_weight tree es is = ap (λ v. weight (node_of v)) is ∙ weight_Dir es

-- what stands in an entry weighs less than all entries
pub entry_lighter : (es : List Entry) (at : ℕ) (e : Entry) → slice_get es at ≡ Some e → weight e.node + 1 ≤ count_all es
entry_lighter [] at e is = cc
entry_lighter (x ∷ es) zero e is =
    let same : x ≡ e = cc in
    subst (λ (y : Entry). weight y.node + 1 ≤ entry_weight x + count_all es) same (omega (arith, entry_weight_of x))
entry_lighter (x ∷ es) (suc at) e is = omega (arith, entry_lighter es at e is)

-- behind an entry of bytes
pub bytes_behind : (es : List Entry) (at : ℕ) (name : List ℕ) (v : Value) → IsThere v
    → slice_get es at ≡ Some (record { name = name; node = node_of v }) → are_bytes name ≡ true → of_bytes v ≡ true
    → entries_bytes (drop (suc at) es) ≡ entries_bytes (drop at es)
bytes_behind [] at name v there is n b = cc
bytes_behind (x ∷ es) zero name v there is n b =
    let e : Entry = record { name = name; node = node_of v } in
    let same : x ≡ e = cc in
    let whole : of_bytes v ≡ node_bytes (node_of v) = sym (bytes_of (node_of v) ∙ ap of_bytes (value_of-node_of v there)) in
    let first : (are_bytes e.name && node_bytes e.node) ≡ true = and_from (are_bytes name) (node_bytes (node_of v)) n (sym whole ∙ b) in
    sym (ap (λ t. t && entries_bytes es) (ap (λ (y : Entry). are_bytes y.name && node_bytes y.node) same ∙ first))
bytes_behind (x ∷ es) (suc at) name v there is n b = bytes_behind es at name v there is n b
