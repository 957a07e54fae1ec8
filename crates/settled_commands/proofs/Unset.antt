-- What is settled depends on no more of the variables than which have a value.
use Rattle.std.proofs.Common.{◌≡◌, ℕ, Bool, not, ◌&&◌, ◌||◌, List, [], ◌∷◌, ◌++◌, Option, Some, None, if◌then◌else◌, refl, ap, ◌∙◌}
use Rattle.std.specs.List.{list_any, flat_map}
use Rattle.std.specs.Option.{option_map}
use Rattle.std.specs.Str.{bytes_eq}
use Rattle.shell_syntax.specs.declared.syntax.Command.{Command}
use Rattle.shell_rules.specs.OwnNames.{is_shells_own}
use Rattle.settled_commands.specs.declared.given.Given.{Given}
use Rattle.settled_commands.specs.declared.seen.SeenPart.{SeenPart}
use Rattle.settled_commands.specs.declared.seen.SeenPart.TheVariants.{Literal, Variable, Unknown}
use Rattle.settled_commands.specs.Given.{is_given}
use Rattle.settled_commands.specs.Joined.{joined, all_joined}
use Rattle.settled_commands.specs.KnownNames.{are_given, is_unset}
use Rattle.settled_commands.specs.Seen.{Seen, commands_in}
use Rattle.settled_commands.specs.Settled.{script_name, has_no_value, is_empty, settled_part, is_quoted, one_field, settled_field, settled_fields, listed, settled, settled_commands}

-- the same lists joined
joined_same : {X A : Type 0} (f g : X → Option (List A)) → ((x : X) → f x ≡ g x) → (xs : List X)
    → all_joined f xs ≡ all_joined g xs
joined_same f g e [] = refl
joined_same f g e (x ∷ xs) = ap (λ y. joined y (all_joined f xs)) (e x) ∙ ap (joined (g x)) (joined_same f g e xs)

module _ (u v : List ℕ → Bool) (e : (name : List ℕ) → u name ≡ v name) where
  part_same : (part : SeenPart) → settled_part u part ≡ settled_part v part
  part_same (Literal bytes quoted) = refl
  part_same (Variable name default quoted) =
      ap (λ b. if b && (quoted || is_empty default) then Some default else None) (e name)
  part_same Unknown = refl

  field_same : (word : List SeenPart) → settled_field u word ≡ settled_field v word
  field_same word = ap (one_field (list_any is_quoted word)) (joined_same (settled_part u) (settled_part v) part_same word)

  fields_same : (words : List (List SeenPart)) → settled_fields u words ≡ settled_fields v words
  fields_same words =
      joined_same (λ word. option_map (λ field. field ∷ []) (settled_field u word))
      (λ word. option_map (λ field. field ∷ []) (settled_field v word))
      (λ word. ap (option_map (λ field. field ∷ [])) (field_same word)) words

  all_same : (commands : Seen) → flat_map (settled u) commands ≡ flat_map (settled v) commands
  all_same [] = refl
  all_same (command ∷ commands) =
      ap (λ f. listed f ++ flat_map (settled u) commands) (fields_same command.words)
      ∙ ap (λ l. settled v command ++ l) (all_same commands)

-- the settled commands, by the variables that are known to have no value
pub settled_is : (given : Given) (seen also : Seen) (fields : List (List (List ℕ))) (body : Command)
    → seen ≡ commands_in body → also ≡ commands_in body → ((name : List ℕ) → are_given given name ≡ is_given seen name)
    → fields ≡ flat_map (settled (is_unset given)) also → fields ≡ settled_commands body
settled_is given seen also fields body is_seen is_also knows is =
    is ∙ ap (flat_map (settled (is_unset given))) is_also
    ∙ all_same (is_unset given) (has_no_value (commands_in body))
    (λ name. ap (λ b. not (is_shells_own name) && (not (bytes_eq name script_name) && not b))
    (knows name ∙ ap (λ s. is_given s name) is_seen)) (commands_in body)
