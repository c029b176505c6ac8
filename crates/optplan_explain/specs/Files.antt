-- The files that a command has read.
use Rattle.std.specs.Prelude.{ℕ, List, Option, Some, None, option_map}
use Rattle.optplan_replies.specs.declared.fault.FileWord.{FileWord}
use Rattle.optplan_replies.specs.declared.fault.FileWord.TheVariants as file
use Rattle.optplan_explain.specs.declared.source.Source.{Source}
use Rattle.optplan_explain.specs.declared.source.Sources.{Sources}

-- a file: its path, as in the arguments, and its bytes
pub record ReadFile : Type 0 where
  pub path : List ℕ
  pub text : List ℕ

-- the files that a fault may name, each none if it was not read
pub record ReadFiles : Type 0 where
  pub domain : Option ReadFile
  pub problem : Option ReadFile
  pub plan : Option ReadFile
  pub sas : Option ReadFile
  pub cert : Option ReadFile

-- a file that was read
abbrev pub read : List ℕ → List ℕ → Option ReadFile
read path text = Some (record { path = path; text = text })

-- no file was read
abbrev pub no_files : ReadFiles
no_files = record { domain = None; problem = None; plan = None; sas = None; cert = None }

-- the two files of a planning task
abbrev pub task_files : List ℕ → List ℕ → List ℕ → List ℕ → ReadFiles
task_files domain d problem p = record no_files { domain = read domain d; problem = read problem p }

-- these files with that of a plan
abbrev pub with_plan : ReadFiles → List ℕ → List ℕ → ReadFiles
with_plan files path text = record files { plan = read path text }

-- these files with that of a finite-domain task
abbrev pub with_sas : ReadFiles → List ℕ → List ℕ → ReadFiles
with_sas files path text = record files { sas = read path text }

-- these files with that of a certificate
abbrev pub with_cert : ReadFiles → List ℕ → List ℕ → ReadFiles
with_cert files path text = record files { cert = read path text }

-- the file that a word names, if it was read
abbrev pub file_named : ReadFiles → FileWord → Option ReadFile
file_named files file.Domain = files.domain
file_named files file.Problem = files.problem
file_named files file.Plan = files.plan
file_named files file.Sas = files.sas
file_named files file.Cert = files.cert
file_named files file.Output = None

abbrev pub file_of : Source → ReadFile
file_of source = record { path = source.path.now; text = source.text.now }

abbrev pub files_of : Sources → ReadFiles
files_of sources = record {
  domain = option_map file_of sources.domain;
  problem = option_map file_of sources.problem;
  plan = option_map file_of sources.plan;
  sas = option_map file_of sources.sas;
  cert = option_map file_of sources.cert;
}
