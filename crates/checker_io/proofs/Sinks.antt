-- A text that is written in pieces.
use Rattle.std.proofs.Common.{◌≡◌, ◌<◌, ◌≤◌, ◌+◌, ◌-◌, ℕ, zero, suc, min, List, [], ◌∷◌, ◌++◌, length, take, drop, Option, Some, None, Err, refl, sym, ap, subst, ◌∙◌, arith, append_assoc, zero-add}
use Rattle.std.proofs.lemmas.List.{length-drop, length-take, take_min}
use Rattle.std.proofs.Math.Seq.{take-length}
use Rattle.std.proofs.lemmas.Grind.{common_steps}
use Rattle.std.specs.Io.KnownBytes.{Appends}
use Rattle.checker_io.specs.declared.sink.SinkFault.{SinkFault}
use Rattle.checker_io.specs.declared.sink.SinkFault.TheVariants.{Failed, Memory}
use Rattle.checker_io.specs.Sink.{Took, TookPrefix, WriteTakes}

abbrev the_empty : List ℕ
the_empty = []

take_nothing : (n : ℕ) → take n (the_empty) ≡ the_empty
take_nothing zero = refl
take_nothing (suc n) = refl

take_more : (m n : ℕ) (xs : List ℕ) → take (m + n) xs ≡ take m xs ++ take n (drop m xs)
take_more zero n xs = rw zero-add refl
take_more (suc m) n [] = rw (take_nothing (suc m + n), take_nothing n) refl
take_more (suc m) n (x ∷ xs) = let e : suc m + n ≡ suc (m + n) = omega arith in rw e (ap (λ ys. x ∷ ys) (take_more m n xs))

take_twice : (m n : ℕ) (xs : List ℕ) → take m (take n xs) ≡ take (min m n) xs
take_twice m n xs = grind (arith, common_steps)

same_size : (m n : ℕ) → m + n - m ≡ n
same_size m n = omega arith

-- the next piece is no longer than what is left
pub piece_is : (done : ℕ) (text : List ℕ) → take (done + min 65536 (length text - done) - done) (drop done text) ≡ take 65536 (drop done text)
piece_is done text =
    let left : length text - done ≡ length (drop done text) = sym (length-drop done text) in
    rw (same_size done (min 65536 (length text - done)), left) (take_min 65536 (drop done text))

-- how long the next piece is
pub piece_length : (done size : ℕ) (text piece : List ℕ) → piece ≡ take size (drop done text) → length piece ≡ min size (length text - done)
piece_length done size text piece e = ap length e ∙ length-take size (drop done text) ∙ ap (min size) (length-drop done text)

-- the next piece is not empty before the end
pub smaller : (done : ℕ) (text piece : List ℕ) → piece ≡ take 65536 (drop done text) → done < length text
    → length text - (done + length piece) < length text - done
smaller done text piece e before = let size = piece_length done 65536 text piece e in rw size (omega arith)

pub within : (done size : ℕ) (text piece : List ℕ) → piece ≡ take size (drop done text) → done ≤ length text → done + length piece ≤ length text
within done size text piece e before = let long = piece_length done size text piece e in rw long (omega arith)

joined : (done size : ℕ) (text piece : List ℕ) → piece ≡ take size (drop done text) → take done text ++ piece ≡ take (done + length piece) text
joined done size text piece e =
    let long : length piece ≡ min size (length (drop done text)) = ap length e ∙ length-take size (drop done text) in
    let same : take (length piece) (drop done text) ≡ piece = rw long (take_min size (drop done text) ∙ sym e) in
    sym (take_more done (length piece) text ∙ ap (λ rest. take done text ++ rest) same)

-- one more piece was taken
pub goes_on : (old mid new : Option (List ℕ)) (done size : ℕ) (text piece : List ℕ) → piece ≡ take size (drop done text)
    → Took old mid (take done text) → Took mid new piece → Took old new (take (done + length piece) text)
goes_on None mid new done size text piece e first second = tt
goes_on (Some before) mid new done size text piece e first second =
    let both : new ≡ Some ((before ++ take done text) ++ piece) = rw first at second in
    both ∙ ap Some (append_assoc before (take done text) piece ∙ ap (λ rest. before ++ rest) (joined done size text piece e))

stops_part : (before : List ℕ) (new : Option (List ℕ)) (done size n : ℕ) (text : List ℕ)
    → new ≡ Some (before ++ take done text ++ take n (take size (drop done text))) → TookPrefix (Some before) new text
stops_part before new done size n text e =
    (done + min n size, rw (e, take_twice n size (drop done text), take_more done (min n size) text, append_assoc) refl)

stops_at : (old mid new : Option (List ℕ)) (done size : ℕ) (text : List ℕ) (fault : SinkFault) → Took old mid (take done text)
    → WriteTakes mid new (take size (drop done text)) (Err fault) → TookPrefix old new text
stops_at None mid new done size text fault first second = tt
stops_at (Some before) mid new done size text Failed first second =
    let P : Option (List ℕ) → Type 0 = λ m. TookPrefix m new (take size (drop done text)) in
    let part : P (Some (before ++ take done text)) = subst P first second in
    stops_part before new done size part.0 text part.1
stops_at (Some before) mid new done size text Memory first second = (done, second ∙ first)

-- the next piece was not taken whole
pub stops : (old mid new : Option (List ℕ)) (done size : ℕ) (text piece : List ℕ) (fault : SinkFault) → piece ≡ take size (drop done text)
    → Took old mid (take done text) → WriteTakes mid new piece (Err fault) → TookPrefix old new text
stops old mid new done size text piece fault e first second =
    stops_at old mid new done size text fault first (subst (λ p. WriteTakes mid new p (Err fault)) e second)

whole : (done : ℕ) (text : List ℕ) → take (length text - done) (drop done text) ≡ drop done text
whole done text = let left : length text - done ≡ length (drop done text) = sym (length-drop done text) in rw left (take-length (drop done text))

-- a writer took some more bytes of a piece
pub grows_within : (done count : ℕ) (text : List ℕ) → done ≤ length text → count ≤ length (take (length text - done) (drop done text))
    → done + count ≤ length text
grows_within done count text before few =
    let size : length (take (length text - done) (drop done text)) ≡ length text - done = ap length (whole done text) ∙ length-drop done text in
    let left : count ≤ length text - done = rw size at few in
    omega arith

more_taken : (old mid new : Option (List ℕ)) (done count : ℕ) (text : List ℕ)
    → Took old mid (take done text) → Appends mid new (take count (drop done text)) → Took old new (take (done + count) text)
more_taken None mid new done count text first more = tt
more_taken (Some before) None new done count text first more = absurd (cc)
more_taken (Some before) (Some file_at) None done count text first more = absurd more
more_taken (Some before) (Some file_at) (Some now) done count text first more =
    let start : file_at ≡ before ++ take done text = cc in
    ap Some (more ∙ ap (λ xs. xs ++ take count (drop done text)) start ∙ append_assoc before (take done text) (take count (drop done text))
    ∙ ap (λ rest. before ++ rest) (sym (take_more done count text)))

pub grows : (old mid new : Option (List ℕ)) (done count : ℕ) (text : List ℕ) → Took old mid (take done text)
    → Appends mid new (take count (take (length text - done) (drop done text))) → Took old new (take (done + count) text)
grows old mid new done count text first more =
    more_taken old mid new done count text first (subst (λ rest. Appends mid new (take count rest)) (whole done text) more)
