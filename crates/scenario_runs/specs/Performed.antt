-- What holds of all acts on files of a job.
use Rattle.std.specs.Prelude.{All}
use Rattle.utility_calls.specs.Acts.{IsPerformed}
use Rattle.utility_calls.specs.Backs.{IsNamed}
use Rattle.scenario_runs.specs.declared.job.Files.{Files}

-- each act on files can be done on every tree, and what undoes an unpacking has a path with a name
pub record ArePerformed (files : Files) : Type 0 where
  pub unpack : All IsPerformed files.unpack
  pub named : All IsNamed files.backs
  pub remove_files : All IsPerformed files.remove_files
  pub remove_old : All IsPerformed files.remove_old
  pub remove_conf : All IsPerformed files.remove_conf
