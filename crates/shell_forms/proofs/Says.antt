-- What words say, by the fold over a script, is what is read off their syntax.
use Rattle.std.proofs.Common.{◌≡◌, ℕ, ◌||◌, List, [], ◌∷◌, ◌++◌, map, Option, Some, None, codes, refl, sym, ap, ◌∙◌}
use Rattle.std.specs.List.{list_any}
use Rattle.std.specs.Str.{bytes_eq}
use Rattle.shell_syntax.specs.declared.syntax.Part.{Part, out-Part, roll-Part, roll-out-Part}
use Rattle.shell_syntax.specs.declared.syntax.Assign.{Assign}
use Rattle.shell_syntax.specs.declared.syntax.Word.{Word}
use Rattle.shell_syntax.specs.declared.syntax.Command.TheOpen as o
use Rattle.shell_syntax.specs.declared.syntax.Command.TheFolds.{fold-roll-Part}
use Rattle.shell_forms.specs.Names.{Text}
use Rattle.shell_forms.specs.Words.{PartSays, WordSays, AssignSays, both_bytes, static, has_unquoted, command_of, commands_of, is_all_alone}
use Rattle.shell_forms.specs.Forms.{Forms, command_layer, part_layer, assign_layer, case_arm_layer, if_arm_layer, link_layer, word_layer, part_says, assign_says, word_says, is_there, are_any, is_named, static_name, operands, is_one_flag, sets_ifs, some_runs, some_unquoted, is_prefix}
use Rattle.shell_forms.specs.Seen.{Layer, layer_bytes, bytes_of, static_of, static_name_of, is_one_flag_in, layer_unquoted, is_unquoted, some_unquoted_in, layer_runs, is_run, some_runs_in, sets_ifs_in, layer_all, is_all, is_all_alone_in, operands_of, is_prefix_in}
use Rattle.shell_forms.proofs.Finds.{says_word, says_assign}

module _ (first : Text → Option ℕ) where
  bytes_layer : (x : Layer) → (part_says first (roll-Part x)).bytes ≡ layer_bytes x
  bytes_layer (o.Plain bytes) = ap (λ (s : PartSays Forms). s.bytes) (fold-roll-Part Forms (PartSays Forms) (AssignSays Forms) (List (WordSays Forms) × Forms) (Forms × Forms) Forms (WordSays Forms) (command_layer first) (part_layer first) (assign_layer first) (case_arm_layer first) (if_arm_layer first) (link_layer first) (word_layer first) (o.Plain bytes))
  bytes_layer (o.Quoted bytes) = ap (λ (s : PartSays Forms). s.bytes) (fold-roll-Part Forms (PartSays Forms) (AssignSays Forms) (List (WordSays Forms) × Forms) (Forms × Forms) Forms (WordSays Forms) (command_layer first) (part_layer first) (assign_layer first) (case_arm_layer first) (if_arm_layer first) (link_layer first) (word_layer first) (o.Quoted bytes))
  bytes_layer (o.Param key default quoted) = ap (λ (s : PartSays Forms). s.bytes) (fold-roll-Part Forms (PartSays Forms) (AssignSays Forms) (List (WordSays Forms) × Forms) (Forms × Forms) Forms (WordSays Forms) (command_layer first) (part_layer first) (assign_layer first) (case_arm_layer first) (if_arm_layer first) (link_layer first) (word_layer first) (o.Param key default quoted))
  bytes_layer o.All = ap (λ (s : PartSays Forms). s.bytes) (fold-roll-Part Forms (PartSays Forms) (AssignSays Forms) (List (WordSays Forms) × Forms) (Forms × Forms) Forms (WordSays Forms) (command_layer first) (part_layer first) (assign_layer first) (case_arm_layer first) (if_arm_layer first) (link_layer first) (word_layer first) (o.All))
  bytes_layer (o.Run at body quoted) = ap (λ (s : PartSays Forms). s.bytes) (fold-roll-Part Forms (PartSays Forms) (AssignSays Forms) (List (WordSays Forms) × Forms) (Forms × Forms) Forms (WordSays Forms) (command_layer first) (part_layer first) (assign_layer first) (case_arm_layer first) (if_arm_layer first) (link_layer first) (word_layer first) (o.Run at body quoted))

  pub bytes_says : (part : Part) → (part_says first part).bytes ≡ bytes_of part
  bytes_says part = ap (λ q. (part_says first q).bytes) (sym (roll-out-Part part)) ∙ bytes_layer (out-Part part)

  unquoted_layer : (x : Layer) → (part_says first (roll-Part x)).unquoted ≡ layer_unquoted x
  unquoted_layer (o.Plain bytes) = ap (λ (s : PartSays Forms). s.unquoted) (fold-roll-Part Forms (PartSays Forms) (AssignSays Forms) (List (WordSays Forms) × Forms) (Forms × Forms) Forms (WordSays Forms) (command_layer first) (part_layer first) (assign_layer first) (case_arm_layer first) (if_arm_layer first) (link_layer first) (word_layer first) (o.Plain bytes))
  unquoted_layer (o.Quoted bytes) = ap (λ (s : PartSays Forms). s.unquoted) (fold-roll-Part Forms (PartSays Forms) (AssignSays Forms) (List (WordSays Forms) × Forms) (Forms × Forms) Forms (WordSays Forms) (command_layer first) (part_layer first) (assign_layer first) (case_arm_layer first) (if_arm_layer first) (link_layer first) (word_layer first) (o.Quoted bytes))
  unquoted_layer (o.Param key default quoted) = ap (λ (s : PartSays Forms). s.unquoted) (fold-roll-Part Forms (PartSays Forms) (AssignSays Forms) (List (WordSays Forms) × Forms) (Forms × Forms) Forms (WordSays Forms) (command_layer first) (part_layer first) (assign_layer first) (case_arm_layer first) (if_arm_layer first) (link_layer first) (word_layer first) (o.Param key default quoted))
  unquoted_layer o.All = ap (λ (s : PartSays Forms). s.unquoted) (fold-roll-Part Forms (PartSays Forms) (AssignSays Forms) (List (WordSays Forms) × Forms) (Forms × Forms) Forms (WordSays Forms) (command_layer first) (part_layer first) (assign_layer first) (case_arm_layer first) (if_arm_layer first) (link_layer first) (word_layer first) (o.All))
  unquoted_layer (o.Run at body quoted) = ap (λ (s : PartSays Forms). s.unquoted) (fold-roll-Part Forms (PartSays Forms) (AssignSays Forms) (List (WordSays Forms) × Forms) (Forms × Forms) Forms (WordSays Forms) (command_layer first) (part_layer first) (assign_layer first) (case_arm_layer first) (if_arm_layer first) (link_layer first) (word_layer first) (o.Run at body quoted))

  pub unquoted_says : (part : Part) → (part_says first part).unquoted ≡ is_unquoted part
  unquoted_says part = ap (λ q. (part_says first q).unquoted) (sym (roll-out-Part part)) ∙ unquoted_layer (out-Part part)

  all_layer : (x : Layer) → (part_says first (roll-Part x)).is_all ≡ layer_all x
  all_layer (o.Plain bytes) = ap (λ (s : PartSays Forms). s.is_all) (fold-roll-Part Forms (PartSays Forms) (AssignSays Forms) (List (WordSays Forms) × Forms) (Forms × Forms) Forms (WordSays Forms) (command_layer first) (part_layer first) (assign_layer first) (case_arm_layer first) (if_arm_layer first) (link_layer first) (word_layer first) (o.Plain bytes))
  all_layer (o.Quoted bytes) = ap (λ (s : PartSays Forms). s.is_all) (fold-roll-Part Forms (PartSays Forms) (AssignSays Forms) (List (WordSays Forms) × Forms) (Forms × Forms) Forms (WordSays Forms) (command_layer first) (part_layer first) (assign_layer first) (case_arm_layer first) (if_arm_layer first) (link_layer first) (word_layer first) (o.Quoted bytes))
  all_layer (o.Param key default quoted) = ap (λ (s : PartSays Forms). s.is_all) (fold-roll-Part Forms (PartSays Forms) (AssignSays Forms) (List (WordSays Forms) × Forms) (Forms × Forms) Forms (WordSays Forms) (command_layer first) (part_layer first) (assign_layer first) (case_arm_layer first) (if_arm_layer first) (link_layer first) (word_layer first) (o.Param key default quoted))
  all_layer o.All = ap (λ (s : PartSays Forms). s.is_all) (fold-roll-Part Forms (PartSays Forms) (AssignSays Forms) (List (WordSays Forms) × Forms) (Forms × Forms) Forms (WordSays Forms) (command_layer first) (part_layer first) (assign_layer first) (case_arm_layer first) (if_arm_layer first) (link_layer first) (word_layer first) (o.All))
  all_layer (o.Run at body quoted) = ap (λ (s : PartSays Forms). s.is_all) (fold-roll-Part Forms (PartSays Forms) (AssignSays Forms) (List (WordSays Forms) × Forms) (Forms × Forms) Forms (WordSays Forms) (command_layer first) (part_layer first) (assign_layer first) (case_arm_layer first) (if_arm_layer first) (link_layer first) (word_layer first) (o.Run at body quoted))

  pub all_says : (part : Part) → (part_says first part).is_all ≡ is_all part
  all_says part = ap (λ q. (part_says first q).is_all) (sym (roll-out-Part part)) ∙ all_layer (out-Part part)

  runs_layer : (x : Layer) → is_there (part_says first (roll-Part x)).runs ≡ layer_runs x
  runs_layer (o.Plain bytes) = ap (λ (s : PartSays Forms). is_there s.runs) (fold-roll-Part Forms (PartSays Forms) (AssignSays Forms) (List (WordSays Forms) × Forms) (Forms × Forms) Forms (WordSays Forms) (command_layer first) (part_layer first) (assign_layer first) (case_arm_layer first) (if_arm_layer first) (link_layer first) (word_layer first) (o.Plain bytes))
  runs_layer (o.Quoted bytes) = ap (λ (s : PartSays Forms). is_there s.runs) (fold-roll-Part Forms (PartSays Forms) (AssignSays Forms) (List (WordSays Forms) × Forms) (Forms × Forms) Forms (WordSays Forms) (command_layer first) (part_layer first) (assign_layer first) (case_arm_layer first) (if_arm_layer first) (link_layer first) (word_layer first) (o.Quoted bytes))
  runs_layer (o.Param key default quoted) = ap (λ (s : PartSays Forms). is_there s.runs) (fold-roll-Part Forms (PartSays Forms) (AssignSays Forms) (List (WordSays Forms) × Forms) (Forms × Forms) Forms (WordSays Forms) (command_layer first) (part_layer first) (assign_layer first) (case_arm_layer first) (if_arm_layer first) (link_layer first) (word_layer first) (o.Param key default quoted))
  runs_layer o.All = ap (λ (s : PartSays Forms). is_there s.runs) (fold-roll-Part Forms (PartSays Forms) (AssignSays Forms) (List (WordSays Forms) × Forms) (Forms × Forms) Forms (WordSays Forms) (command_layer first) (part_layer first) (assign_layer first) (case_arm_layer first) (if_arm_layer first) (link_layer first) (word_layer first) (o.All))
  runs_layer (o.Run at body quoted) = ap (λ (s : PartSays Forms). is_there s.runs) (fold-roll-Part Forms (PartSays Forms) (AssignSays Forms) (List (WordSays Forms) × Forms) (Forms × Forms) Forms (WordSays Forms) (command_layer first) (part_layer first) (assign_layer first) (case_arm_layer first) (if_arm_layer first) (link_layer first) (word_layer first) (o.Run at body quoted))

  pub runs_says : (part : Part) → is_there (part_says first part).runs ≡ is_run part
  runs_says part = ap (λ q. is_there (part_says first q).runs) (sym (roll-out-Part part)) ∙ runs_layer (out-Part part)

  static_parts : (parts : List Part) → static (map (part_says first) parts) ≡ static_of parts
  static_parts [] = refl
  static_parts (part ∷ parts) =
      ap (λ b. both_bytes b (static (map (part_says first) parts))) (bytes_says part) ∙ ap (both_bytes (bytes_of part)) (static_parts parts)

  static_word : (word : Word) → static (word_says first word).parts ≡ static_of word.parts
  static_word word = ap (λ (w : WordSays Forms). static w.parts) (says_word first word) ∙ static_parts word.parts

  pub static_says : (words : List Word) → static_name (map (word_says first) words) ≡ static_name_of words
  static_says [] = refl
  static_says (word ∷ words) = static_word word

  pub operands_say : (words : List Word) → operands (map (word_says first) words) ≡ map (word_says first) (operands_of words)
  operands_say [] = refl
  operands_say (word ∷ words) = refl

  pub flag_says : (words : List Word) → is_one_flag (map (word_says first) words) ≡ is_one_flag_in words
  flag_says [] = refl
  flag_says (word ∷ []) = ap (λ t. is_named t (codes "-e" ∷ codes "+e" ∷ [])) (static_word word)
  flag_says (word ∷ other ∷ words) = refl

  unquoted_parts : (parts : List Part) → has_unquoted (map (part_says first) parts) ≡ list_any is_unquoted parts
  unquoted_parts [] = refl
  unquoted_parts (part ∷ parts) =
      ap (λ b. b || has_unquoted (map (part_says first) parts)) (unquoted_says part) ∙ ap (λ b. is_unquoted part || b) (unquoted_parts parts)

  unquoted_word : (word : Word) → has_unquoted (word_says first word).parts ≡ list_any is_unquoted word.parts
  unquoted_word word = ap (λ (w : WordSays Forms). has_unquoted w.parts) (says_word first word) ∙ unquoted_parts word.parts

  pub some_unquoted_say : (words : List Word) → some_unquoted (map (word_says first) words) ≡ some_unquoted_in words
  some_unquoted_say [] = refl
  some_unquoted_say (word ∷ words) =
      ap (λ b. b || some_unquoted (map (word_says first) words)) (unquoted_word word)
      ∙ ap (λ b. list_any is_unquoted word.parts || b) (some_unquoted_say words)

  any_more : {A : Type 0} (x : Option A) (xs : List A) → are_any (command_of x ++ xs) ≡ (is_there x || are_any xs)
  any_more None xs = refl
  any_more (Some x) xs = refl

  runs_parts : (parts : List Part) → are_any (commands_of (map (part_says first) parts)) ≡ list_any is_run parts
  runs_parts [] = refl
  runs_parts (part ∷ parts) =
      any_more (part_says first part).runs (commands_of (map (part_says first) parts))
      ∙ ap (λ b. b || are_any (commands_of (map (part_says first) parts))) (runs_says part) ∙ ap (λ b. is_run part || b) (runs_parts parts)

  runs_word : (word : Word) → are_any (commands_of (word_says first word).parts) ≡ list_any is_run word.parts
  runs_word word = ap (λ (w : WordSays Forms). are_any (commands_of w.parts)) (says_word first word) ∙ runs_parts word.parts

  pub some_runs_say : (assigns : List Assign) → some_runs (map (assign_says first) assigns) ≡ some_runs_in assigns
  some_runs_say [] = refl
  some_runs_say (assign ∷ assigns) =
      ap (λ (a : AssignSays Forms). are_any (commands_of a.value.parts) || some_runs (map (assign_says first) assigns)) (says_assign first assign)
      ∙ ap (λ b. b || some_runs (map (assign_says first) assigns)) (runs_word assign.value)
      ∙ ap (λ b. list_any is_run assign.value.parts || b) (some_runs_say assigns)

  pub sets_ifs_say : (assigns : List Assign) → sets_ifs (map (assign_says first) assigns) ≡ sets_ifs_in assigns
  sets_ifs_say [] = refl
  sets_ifs_say (assign ∷ assigns) =
      ap (λ (a : AssignSays Forms). bytes_eq a.name (codes "IFS") || sets_ifs (map (assign_says first) assigns)) (says_assign first assign)
      ∙ ap (λ b. bytes_eq assign.name (codes "IFS") || b) (sets_ifs_say assigns)

  pub any_says : {A B : Type 0} (g : A → B) (xs : List A) → are_any (map g xs) ≡ are_any xs
  any_says g [] = refl
  any_says g (x ∷ xs) = refl

  pub prefix_says : (assigns : List Assign) (words : List Word)
      → is_prefix first (map (assign_says first) assigns) (map (word_says first) words) ≡ is_prefix_in first assigns words
  prefix_says assigns words =
      rw (any_says (assign_says first) assigns, any_says (word_says first) words, static_says words, some_runs_say assigns) refl

  all_alone_parts : (parts : List Part) → is_all_alone (map (part_says first) parts) ≡ is_all_alone_in parts
  all_alone_parts [] = refl
  all_alone_parts (part ∷ []) = all_says part
  all_alone_parts (part ∷ other ∷ parts) = refl

  pub all_alone_says : (word : Word) → is_all_alone (word_says first word).parts ≡ is_all_alone_in word.parts
  all_alone_says word = ap (λ (w : WordSays Forms). is_all_alone w.parts) (says_word first word) ∙ all_alone_parts word.parts

  pub at_says : (word : Word) → (word_says first word).at ≡ word.at
  at_says word = ap (λ (w : WordSays Forms). w.at) (says_word first word)
