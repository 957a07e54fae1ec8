-- Chunks that make up a list.
use Rattle.std.specs.Prelude.{◌≡◌, ℕ, ◌-◌, ◌≤◌, List, [], ◌∷◌, take, drop}
use Rattle.tree_predictions.specs.declared.chunks.Chunk.{Chunk}

-- one after the other the chunks go from a place to the end
abbrev pub Follow : ℕ → ℕ → List Chunk → Type 0
Follow from end [] = from ≡ end
Follow from end (chunk ∷ chunks) =
    (chunk.from ≡ from) × (from ≤ chunk.to) × (chunk.to ≤ end) × Follow chunk.to end chunks

-- the chunk is one of a list of so many
pub record IsWithin (count : ℕ) (chunk : Chunk) : Type 0 where
  pub rises : chunk.from ≤ chunk.to
  pub ends : chunk.to ≤ count

-- what stands at the places of a chunk
abbrev pub part : {A : Type 0} → List A → Chunk → List A
part xs chunk = take (chunk.to - chunk.from) (drop chunk.from xs)
