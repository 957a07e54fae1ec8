-- That the acts of a package's files can be done on every tree, and put back, has one proof at most, so that a ghost
-- field may say it.
use Rattle.std.specs.Prelude.{List, [], All}
use Rattle.utility_calls.specs.declared.backs.Back.{Back}
use Rattle.utility_calls.specs.Backs.{IsNamed}
use Rattle.utility_calls.specs.PerformedOnce.{all_once, other_once}
use Rattle.scenario_runs.specs.declared.job.Files.{Files}
use Rattle.scenario_runs.specs.Performed.{ArePerformed}

named_once : (backs : List Back) → IsProp (All IsNamed backs)
named_once backs x y = λ i k d lt. other_once _ [] (x k d lt) (y k d lt) i

pub files_once : (files : Files) → IsProp (ArePerformed files)
files_once files x y = λ i. record {
  unpack = all_once files.unpack x.unpack y.unpack i;
  named = named_once files.backs x.named y.named i;
  remove_files = all_once files.remove_files x.remove_files y.remove_files i;
  remove_old = all_once files.remove_old x.remove_old y.remove_old i;
  remove_conf = all_once files.remove_conf x.remove_conf y.remove_conf i;
}
