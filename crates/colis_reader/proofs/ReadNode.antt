-- What a part is read as in each place, from its word and its members.
use Rattle.std.proofs.Common.{◌≡◌, ℕ, List, map, sym, ap, ◌∙◌}
use Rattle.colis_reader.specs.declared.nest.Nest.{Nest}
use Rattle.colis_reader.specs.declared.nest.Nest.TheVariants as v
use Rattle.colis_reader.specs.declared.nest.Nest.TheOpen as o
use Rattle.colis_reader.specs.declared.nest.Nest.TheFolds.{fold-Nest, fold-roll-Nest}
use Rattle.colis_reader.specs.Readings.{Read, read, reads, nest_layer, node_read, member, behind, string_from, piece_headed, field_headed, stmt_headed}

pub node_is : (word : List ℕ) (ns : List Nest) → read (v.Node word ns) ≡ node_read word (reads ns)
unfolding read
node_is word ns = ap (fold-Nest Read nest_layer) (sym (v.rolls-Node word ns)) ∙ fold-roll-Nest Read nest_layer (o.Node word ns)

pub word_node : (word : List ℕ) (ns : List Nest) → (read (v.Node word ns)).word ≡ word
unfolding node_read
word_node word ns = ap (λ r. r.word) (node_is word ns)

pub string_node : (word : List ℕ) (ns : List Nest) → (read (v.Node word ns)).string ≡ string_from word (reads ns)
unfolding node_read
string_node word ns = ap (λ r. r.string) (node_is word ns)

pub piece_node : (word : List ℕ) (ns : List Nest) → (read (v.Node word ns)).piece ≡ piece_headed (member (reads ns) 0).word (behind (reads ns))
unfolding node_read
piece_node word ns = ap (λ r. r.piece) (node_is word ns)

pub pieces_node : (word : List ℕ) (ns : List Nest) → (read (v.Node word ns)).pieces ≡ map (λ r. r.piece) (behind (reads ns))
unfolding node_read
pieces_node word ns = ap (λ r. r.pieces) (node_is word ns)

pub patterns_node : (word : List ℕ) (ns : List Nest) → (read (v.Node word ns)).patterns ≡ map (λ r. r.pieces) (reads ns)
unfolding node_read
patterns_node word ns = ap (λ r. r.patterns) (node_is word ns)

pub field_node : (word : List ℕ) (ns : List Nest) → (read (v.Node word ns)).field ≡ field_headed (member (reads ns) 0).word (behind (reads ns))
unfolding node_read
field_node word ns = ap (λ r. r.field) (node_is word ns)

pub fields_node : (word : List ℕ) (ns : List Nest) → (read (v.Node word ns)).fields ≡ map (λ r. r.field) (reads ns)
unfolding node_read
fields_node word ns = ap (λ r. r.fields) (node_is word ns)

pub stmt_node : (word : List ℕ) (ns : List Nest) → (read (v.Node word ns)).stmt ≡ stmt_headed (member (reads ns) 0).word (behind (reads ns))
unfolding node_read
stmt_node word ns = ap (λ r. r.stmt) (node_is word ns)

pub set_node : (word : List ℕ) (ns : List Nest) → (read (v.Node word ns)).set ≡ (node_read word (reads ns)).set
unfolding node_read
set_node word ns = ap (λ r. r.set) (node_is word ns)

pub part_node : (word : List ℕ) (ns : List Nest) → (read (v.Node word ns)).part ≡ (node_read word (reads ns)).part
unfolding node_read
part_node word ns = ap (λ r. r.part) (node_is word ns)

pub arm_node : (word : List ℕ) (ns : List Nest) → (read (v.Node word ns)).arm ≡ (node_read word (reads ns)).arm
unfolding node_read
arm_node word ns = ap (λ r. r.arm) (node_is word ns)

pub pat_arm_node : (word : List ℕ) (ns : List Nest) → (read (v.Node word ns)).pat_arm ≡ (node_read word (reads ns)).pat_arm
unfolding node_read
pat_arm_node word ns = ap (λ r. r.pat_arm) (node_is word ns)

pub def_node : (word : List ℕ) (ns : List Nest) → (read (v.Node word ns)).def ≡ (node_read word (reads ns)).def
unfolding node_read
def_node word ns = ap (λ r. r.def) (node_is word ns)

pub program_node : (word : List ℕ) (ns : List Nest) → (read (v.Node word ns)).program ≡ (node_read word (reads ns)).program
unfolding node_read
program_node word ns = ap (λ r. r.program) (node_is word ns)
