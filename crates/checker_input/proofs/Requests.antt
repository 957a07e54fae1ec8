-- What is read by whether something is named, and by the request.
use Rattle.std.proofs.Common.{◌≡◌, ℕ, List, Option, Some, None, Result, Ok, Err, sym, subst}
use Rattle.checker_io.specs.Reading.{done}
use Rattle.checker_io.specs.Shelf.{ShelfState}
use Rattle.checker_io.specs.declared.stop.Stop.{Stop}
use Rattle.checker_io.proofs.Readings.{reads_done, reads_next, reads_stop}
use Rattle.command_words.specs.declared.request.Folders.{Folders}
use Rattle.command_words.specs.declared.request.Layout.{Layout}
use Rattle.command_words.specs.declared.request.View.{View}
use Rattle.command_words.specs.declared.request.Request.{Request}
use Rattle.command_words.specs.declared.request.Request.TheVariants as request
use Rattle.dpkg_scenarios.specs.declared.scenario.Scenario.{Scenario}
use Rattle.dpkg_scenarios.specs.declared.scenario.Scenario.TheVariants.{Twice}
use Rattle.feature_trees.specs.declared.value.Value.{Value}
use Rattle.system_base.specs.declared.base.Base.{Base}
use Rattle.system_base.specs.Bases.{usual}
use Rattle.shell_syntax.specs.declared.script.Script.{Script}
use Rattle.checker_input.specs.declared.asked.Asked.{Asked}
use Rattle.checker_input.specs.declared.asked.Asked.TheVariants.{Prediction, Task as AskedTask}
use Rattle.checker_input.specs.declared.faults.InputRefusal.{InputRefusal}
use Rattle.checker_input.specs.declared.package.Packages.{Packages}
use Rattle.checker_input.specs.declared.sources.KeptPackage.{KeptPackage}
use Rattle.checker_input.specs.declared.sources.Kept.{Kept}
use Rattle.checker_input.specs.declared.task.Task.TheVariants as task
use Rattle.checker_input.specs.Input.{BaseComes, ReadsInput, base_in, input, one_file, packages_in, pair_in, twice_in, start_in, translated_in, kept_in, kept_none, kept_old_in, kept_package_in, kept_some}
use Rattle.checker_input.proofs.Plans.{after_packages, after_pair, after_start, after_translated, before_start, after_kept, after_kept_old_package}

module _ (s t u : ShelfState) where
  -- ---- the base

  pub base_usual : (named : Option (List ℕ)) (base : Base) → named ≡ None → base ≡ usual → ReadsInput s s (base_in named) (Ok base)
  unfolding base_in
  base_usual named base none is =
      subst (λ (n : Option (List ℕ)). ReadsInput s s (base_in n) (Ok base)) (sym none)
      (subst (λ (l : Base). ReadsInput s s (done (Ok usual)) (Ok l)) (sym is) (reads_done (λ n. n) s usual))

  pub base_named : (named : Option (List ℕ)) (file : List ℕ) (result : Result Base (Stop (List ℕ) InputRefusal)) → named ≡ Some file
      → ReadsInput s t (one_file file BaseComes) result → ReadsInput s t (base_in named) result
  unfolding base_in
  base_named named file result some reads = subst (λ (n : Option (List ℕ)). ReadsInput s t (base_in n) result) (sym some) reads

  -- ---- the old package

  pub kept_old_none : (named : Option (List ℕ)) → named ≡ None → ReadsInput s s (kept_old_in named) (Ok kept_none)
  unfolding kept_old_in
  kept_old_none named none =
      subst (λ (n : Option (List ℕ)). ReadsInput s s (kept_old_in n) (Ok kept_none)) (sym none) (reads_done (λ n. n) s kept_none)

  pub kept_old_some : (named : Option (List ℕ)) (folder : List ℕ) (own : KeptPackage) → named ≡ Some folder
      → ReadsInput s t (kept_package_in folder) (Ok own) → ReadsInput s t (kept_old_in named) (Ok (kept_some own))
  unfolding kept_old_in
  kept_old_some named folder own some reads =
      subst (λ (n : Option (List ℕ)). ReadsInput s t (kept_old_in n) (Ok (kept_some own))) (sym some)
      (reads_next (λ n. n) s t t (kept_package_in folder) after_kept_old_package own (Ok (kept_some own)) reads (reads_done (λ n. n) t (kept_some own)))

  pub kept_old_stops : (named : Option (List ℕ)) (folder : List ℕ) (stop : Stop (List ℕ) InputRefusal) → named ≡ Some folder
      → ReadsInput s t (kept_package_in folder) (Err stop) → ReadsInput s t (kept_old_in named) (Err stop)
  unfolding kept_old_in
  kept_old_stops named folder stop some reads =
      subst (λ (n : Option (List ℕ)). ReadsInput s t (kept_old_in n) (Err stop)) (sym some)
      (reads_stop (λ n. n) s t (kept_package_in folder) after_kept_old_package stop reads)

  -- ---- a request for a report

  module _ (asked : Request) (folders : Folders) (scenario : Option Scenario) (turns limit : ℕ) (layout : Layout)
      (is : asked ≡ request.Check folders scenario turns limit layout) where
    pub check_ok : (packages : Packages) → ReadsInput s t (packages_in folders) (Ok packages) → ReadsInput s t (input asked) (Ok (AskedTask (task.Check packages scenario turns limit layout)))
    unfolding input
    check_ok packages reads =
        subst (λ (r : Request). ReadsInput s t (input r) (Ok (AskedTask (task.Check packages scenario turns limit layout)))) (sym is)
        (reads_next (λ n. n) s t t (packages_in folders) (after_packages scenario turns limit layout) packages (Ok (AskedTask (task.Check packages scenario turns limit layout))) reads (reads_done (λ n. n) t (AskedTask (task.Check packages scenario turns limit layout))))

    pub check_stops : (stop : Stop (List ℕ) InputRefusal) → ReadsInput s t (packages_in folders) (Err stop) → ReadsInput s t (input asked) (Err stop)
    unfolding input
    check_stops stop reads =
        subst (λ (r : Request). ReadsInput s t (input r) (Err stop)) (sym is) (reads_stop (λ n. n) s t (packages_in folders) (after_packages scenario turns limit layout) stop reads)

  -- ---- a request for a run

  module _ (asked : Request) (folders : Folders) (tree : List ℕ) (scenario : Scenario) (turns : ℕ) (is : asked ≡ request.Run folders tree scenario turns) where
    pub run_ok : (packages : Packages) (start : Value) → ReadsInput s t (packages_in folders) (Ok packages) → ReadsInput t u (start_in tree) (Ok start)
        → ReadsInput s u (input asked) (Ok (AskedTask (task.Run packages start scenario turns)))
    unfolding input
    run_ok packages start first second =
        subst (λ (r : Request). ReadsInput s u (input r) (Ok (AskedTask (task.Run packages start scenario turns)))) (sym is)
        (reads_next (λ n. n) s t u (packages_in folders) (before_start tree scenario turns) packages (Ok (AskedTask (task.Run packages start scenario turns))) first
        (reads_next (λ n. n) t u u (start_in tree) (after_start scenario turns packages) start (Ok (AskedTask (task.Run packages start scenario turns))) second (reads_done (λ n. n) u (AskedTask (task.Run packages start scenario turns)))))

    pub run_unpacked : (stop : Stop (List ℕ) InputRefusal) → ReadsInput s t (packages_in folders) (Err stop) → ReadsInput s t (input asked) (Err stop)
    unfolding input
    run_unpacked stop reads =
        subst (λ (r : Request). ReadsInput s t (input r) (Err stop)) (sym is) (reads_stop (λ n. n) s t (packages_in folders) (before_start tree scenario turns) stop reads)

    pub run_stops : (packages : Packages) (stop : Stop (List ℕ) InputRefusal) → ReadsInput s t (packages_in folders) (Ok packages)
        → ReadsInput t u (start_in tree) (Err stop) → ReadsInput s u (input asked) (Err stop)
    unfolding input
    run_stops packages stop first second =
        subst (λ (r : Request). ReadsInput s u (input r) (Err stop)) (sym is)
        (reads_next (λ n. n) s t u (packages_in folders) (before_start tree scenario turns) packages (Err stop) first (reads_stop (λ n. n) t u (start_in tree) (after_start scenario turns packages) stop second))

  -- ---- a request for a translation

  module _ (asked : Request) (file : List ℕ) (is : asked ≡ request.Translate file) where
    pub translate_ok : (script : Script) → ReadsInput s t (translated_in file) (Ok script) → ReadsInput s t (input asked) (Ok (AskedTask (task.Translate script)))
    unfolding input
    translate_ok script reads =
        subst (λ (r : Request). ReadsInput s t (input r) (Ok (AskedTask (task.Translate script)))) (sym is)
        (reads_next (λ n. n) s t t (translated_in file) after_translated script (Ok (AskedTask (task.Translate script))) reads (reads_done (λ n. n) t (AskedTask (task.Translate script))))

    pub translate_stops : (stop : Stop (List ℕ) InputRefusal) → ReadsInput s t (translated_in file) (Err stop) → ReadsInput s t (input asked) (Err stop)
    unfolding input
    translate_stops stop reads =
        subst (λ (r : Request). ReadsInput s t (input r) (Err stop)) (sym is) (reads_stop (λ n. n) s t (translated_in file) after_translated stop reads)

  -- ---- a request for an explanation

  module _ (asked : Request) (folders : Folders) (scenario : Option Scenario) (turns limit : ℕ) (view : View)
      (is : asked ≡ request.Explain folders scenario turns limit view) where
    pub explain_ok : (kept : Kept) → ReadsInput s t (kept_in folders) (Ok kept)
        → ReadsInput s t (input asked) (Ok (AskedTask (task.Explain kept.packages kept.sources scenario turns limit view)))
    unfolding input
    explain_ok kept reads =
        let asks = AskedTask (task.Explain kept.packages kept.sources scenario turns limit view) in
        subst (λ (r : Request). ReadsInput s t (input r) (Ok asks)) (sym is)
        (reads_next (λ n. n) s t t (kept_in folders) (after_kept scenario turns limit view) kept (Ok asks) reads (reads_done (λ n. n) t asks))

    pub explain_stops : (stop : Stop (List ℕ) InputRefusal) → ReadsInput s t (kept_in folders) (Err stop) → ReadsInput s t (input asked) (Err stop)
    unfolding input
    explain_stops stop reads =
        subst (λ (r : Request). ReadsInput s t (input r) (Err stop)) (sym is)
        (reads_stop (λ n. n) s t (kept_in folders) (after_kept scenario turns limit view) stop reads)

  -- ---- a request for a load

  module _ (asked : Request) (number limit : ℕ) (is : asked ≡ request.Load number limit) where
    pub load_reads : ReadsInput s s (input asked) (Ok (AskedTask (task.Load number limit)))
    unfolding input
    load_reads = subst (λ (r : Request). ReadsInput s s (input r) (Ok (AskedTask (task.Load number limit)))) (sym is) (reads_done (λ n. n) s (AskedTask (task.Load number limit)))

  -- ---- a request for a report on a pair

  module _ (asked : Request) (dir other : List ℕ) (base : Option (List ℕ)) (scenario : Scenario) (turns limit : ℕ)
      (is : asked ≡ request.Pair dir other base scenario turns limit) where
    pub pair_ok : (packages : Packages) → ReadsInput s t (pair_in dir other base) (Ok packages) → ReadsInput s t (input asked) (Ok (AskedTask (task.Pair packages scenario turns limit)))
    unfolding input
    pair_ok packages reads =
        subst (λ (r : Request). ReadsInput s t (input r) (Ok (AskedTask (task.Pair packages scenario turns limit)))) (sym is)
        (reads_next (λ n. n) s t t (pair_in dir other base) (after_pair scenario turns limit) packages (Ok (AskedTask (task.Pair packages scenario turns limit))) reads (reads_done (λ n. n) t (AskedTask (task.Pair packages scenario turns limit))))

    pub pair_stops : (stop : Stop (List ℕ) InputRefusal) → ReadsInput s t (pair_in dir other base) (Err stop) → ReadsInput s t (input asked) (Err stop)
    unfolding input
    pair_stops stop reads =
        subst (λ (r : Request). ReadsInput s t (input r) (Err stop)) (sym is) (reads_stop (λ n. n) s t (pair_in dir other base) (after_pair scenario turns limit) stop reads)

  -- ---- a request for a report on a package that is configured twice

  module _ (asked : Request) (dir : List ℕ) (base : Option (List ℕ)) (turns limit : ℕ) (is : asked ≡ request.Twice dir base turns limit) where
    pub twice_ok : (packages : Packages) → ReadsInput s t (twice_in dir base) (Ok packages) → ReadsInput s t (input asked) (Ok (AskedTask (task.Pair packages Twice turns limit)))
    unfolding input
    twice_ok packages reads =
        subst (λ (r : Request). ReadsInput s t (input r) (Ok (AskedTask (task.Pair packages Twice turns limit)))) (sym is)
        (reads_next (λ n. n) s t t (twice_in dir base) (after_pair Twice turns limit) packages (Ok (AskedTask (task.Pair packages Twice turns limit))) reads (reads_done (λ n. n) t (AskedTask (task.Pair packages Twice turns limit))))

    pub twice_stops : (stop : Stop (List ℕ) InputRefusal) → ReadsInput s t (twice_in dir base) (Err stop) → ReadsInput s t (input asked) (Err stop)
    unfolding input
    twice_stops stop reads =
        subst (λ (r : Request). ReadsInput s t (input r) (Err stop)) (sym is) (reads_stop (λ n. n) s t (twice_in dir base) (after_pair Twice turns limit) stop reads)

  -- ---- a request for a prediction

  module _ (asked : Request) (report trees : List ℕ) (is : asked ≡ request.Predict report trees) where
    pub predict_reads : (what : Asked) → what ≡ Prediction report trees → ReadsInput s s (input asked) (Ok what)
    unfolding input
    predict_reads what same =
        subst (λ (w : Asked). ReadsInput s s (input asked) (Ok w)) (sym same)
        (subst (λ (r : Request). ReadsInput s s (input r) (Ok (Prediction report trees))) (sym is)
        (reads_done (λ n. n) s (Prediction report trees)))
