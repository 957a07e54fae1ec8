-- What reading the rest of a file takes of it.
use Rattle.std.proofs.Common.{◌≡◌, ◌<◌, ◌≤◌, ◌+◌, ◌-◌, ℕ, min, List, ◌++◌, length, take, Option, Some, None, Result, Ok, Err, sym, ap, ◌∙◌, arith, append_assoc}
use Rattle.std.proofs.lemmas.List.{length-append, length-take, length-take-le}
use Rattle.std.specs.Io.KnownBytes.{Consumes}
use Rattle.checker_io.specs.DirShelf.{TakesAtMost, OrNoMemory}
use Rattle.checker_io.specs.declared.shelf.ShelfFault.{ShelfFault}
use Rattle.checker_io.specs.declared.shelf.ShelfFault.TheVariants.{Missing, TooLong, Failed, Memory}

both : (old mid new : Option (List ℕ)) (bytes more : List ℕ) → Consumes old mid bytes → Consumes mid new more → Consumes old new (bytes ++ more)
both None mid new bytes more first second = tt
both (Some xs) None new bytes more first second = absurd first
both (Some xs) (Some ys) None bytes more first second = absurd second
both (Some xs) (Some ys) (Some zs) bytes more first second = first ∙ ap (λ rest. bytes ++ rest) second ∙ sym (append_assoc bytes more zs)

at_most : (size len room count max : ℕ) → len ≡ size → count ≤ room → len + room ≤ max + 1 → size + count ≤ max + 1
at_most size len room count max is few fits = omega arith

just_past : (size len room count max : ℕ) → len ≡ size → count ≤ room → len + room ≤ max + 1 → max - len < count → size + count ≡ max + 1
just_past size len room count max is few fits more = omega arith

joined_length : (bytes buffer : List ℕ) (count : ℕ) → count ≤ length buffer → length (bytes ++ take count buffer) ≡ length bytes + count
joined_length bytes buffer count le = length-append bytes (take count buffer) ∙ ap (λ n. length bytes + n) (length-take-le count buffer le)

-- what one more read of at most `room` bytes took, into the first part of a buffer
few_read : (room count : ℕ) (whole buffer : List ℕ) → count ≤ length (take room whole) → length buffer ≡ length (take room whole)
    → (count ≤ length buffer) × (count ≤ room)
few_read room count whole buffer le same =
    let size : length (take room whole) ≡ min room (length whole) = length-take room whole in
    let few : count ≤ min room (length whole) = rw size at le in
    (rw same le, omega arith)

-- one more read took its count of bytes
pub takes_more : (old mid new : Option (List ℕ)) (bytes whole buffer : List ℕ) (len room count max : ℕ) → Consumes old mid bytes
    → Consumes mid new (take count buffer) → count ≤ length (take room whole) → length buffer ≡ length (take room whole)
    → len ≡ length bytes → len + room ≤ max + 1 → TakesAtMost old new (max + 1)
takes_more old mid new bytes whole buffer len room count max first second le same is fits =
    let few = few_read room count whole buffer le same in (
      bytes ++ take count buffer,
      both old mid new bytes (take count buffer) first second,
      rw (joined_length bytes buffer count few.0) (at_most (length bytes) len room count max is few.1 fits),
    )

-- one more read took its count of bytes, past the greatest length
pub takes_all : (old mid new : Option (List ℕ)) (bytes whole buffer : List ℕ) (len room count max : ℕ) → Consumes old mid bytes
    → Consumes mid new (take count buffer) → count ≤ length (take room whole) → length buffer ≡ length (take room whole)
    → len ≡ length bytes → len + room ≤ max + 1 → max - len < count
    → (taken : List ℕ) × Consumes old new taken × (length taken ≡ max + 1)
takes_all old mid new bytes whole buffer len room count max first second le same is fits more =
    let few = few_read room count whole buffer le same in (
      bytes ++ take count buffer,
      both old mid new bytes (take count buffer) first second,
      joined_length bytes buffer count few.0 ∙ just_past (length bytes) len room count max is few.1 fits more,
    )

-- what holds of an answer holds of it, or memory is missing
pub or_no_memory : (P : Result (List ℕ) ShelfFault → Type 0) (result : Result (List ℕ) ShelfFault) → P result → OrNoMemory P result
or_no_memory P (Ok bytes) h = h
or_no_memory P (Err Missing) h = h
or_no_memory P (Err TooLong) h = h
or_no_memory P (Err Failed) h = h
or_no_memory P (Err Memory) h = tt
