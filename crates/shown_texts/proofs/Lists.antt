-- Tests of lists, and reading and printing put together.
use Rattle.std.proofs.Common.{◌≡◌, ℕ, Bool, true, List, [], ◌∷◌, ◌++◌, Option, Some, None, IsTrue, refl, sym, ap, ◌∙◌}
use Rattle.std.specs.List.{list_all}
use Rattle.std.proofs.lemmas.Bool.{and_parts, and_from}
use Rattle.std.proofs.lemmas.List.Folds.{list_all-append}
use Rattle.shown_texts.specs.Laws.{ReadsBack}

-- a weaker test passes too
pub all_weaker : {X : Type 0} (p q : X → Bool) → ((x : X) → p x ≡ true → q x ≡ true) → (xs : List X) → list_all p xs ≡ true → list_all q xs ≡ true
all_weaker p q w [] h = refl
all_weaker p q w (x ∷ xs) h = let k = and_parts (p x) (list_all p xs) h in and_from (q x) (list_all q xs) (w x k.0) (all_weaker p q w xs k.1)

-- all of two lists
pub all_both : {X : Type 0} (p : X → Bool) (xs ys : List X) → list_all p xs ≡ true → list_all p ys ≡ true → list_all p (xs ++ ys) ≡ true
all_both p xs ys g h = list_all-append p xs ys ∙ and_from (list_all p xs) (list_all p ys) g h

not_both : {A X : Type 0} (o : Option X) (x : X) → o ≡ Some x → o ≡ None → A
not_both o x e f = cc

-- what is refused is no value's text
pub reads_back : {X : Type 0} (is_value : X → Bool) (text_of : X → List ℕ) (value_of : List ℕ → Option X)
    → ((x : X) → IsTrue (is_value x) → value_of (text_of x) ≡ Some x) → ((text : List ℕ) (x : X) → value_of text ≡ Some x → text_of x ≡ text)
    → ReadsBack is_value text_of value_of
reads_back is_value text_of value_of inverts spelled = record {
  inverts = inverts;
  spelled = spelled;
  refuses = λ text none x is same. not_both (value_of text) x (ap value_of (sym same) ∙ inverts x is) none;
}
