-- The members of a list, read.
use Rattle.std.proofs.Common.{◌≡◌, ℕ, zero, suc, ◌<◌, ◌≤◌, List, [], ◌∷◌, ◌-◌, length, get_or, take, refl, ap, ◌∙◌, arith}
use Rattle.colis_reader.specs.declared.nest.Nest.{Nest}
use Rattle.colis_reader.specs.Readings.{read, reads, member, nothing, but_last}

-- a member that is there
pub member_here : (ns : List Nest) (at : ℕ) (d : Nest) → at < length ns → member (reads ns) at ≡ read (get_or ns at d)
member_here [] at d h = absurd (omega (arith, h))
member_here (n ∷ ns) zero d h = refl
member_here (n ∷ ns) (suc at) d h = member_here ns at d (omega arith)

-- a member that lacks
pub member_past : (ns : List Nest) (at : ℕ) → length ns ≤ at → member (reads ns) at ≡ nothing
member_past [] at h = refl
member_past (n ∷ ns) zero h = absurd (omega arith)
member_past (n ∷ ns) (suc at) h = member_past ns at (omega arith)

reads_take : (ns : List Nest) (k : ℕ) → take k (reads ns) ≡ reads (take k ns)
reads_take ns zero = refl
reads_take [] (suc k) = refl
reads_take (n ∷ ns) (suc k) = ap (λ l. read n ∷ l) (reads_take ns k)

reads_length : (ns : List Nest) → length (reads ns) ≡ length ns
reads_length [] = refl
reads_length (n ∷ ns) = ap suc (reads_length ns)

-- the members before the last
pub but_last_reads : (ns : List Nest) → but_last (reads ns) ≡ reads (take (length ns - 1) ns)
but_last_reads ns = ap (λ k. take (k - 1) (reads ns)) (reads_length ns) ∙ reads_take ns (length ns - 1)

pub ruleset of_members = (member_here, member_past)
