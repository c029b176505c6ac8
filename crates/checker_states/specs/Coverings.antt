-- The closed list of a certificate, prepared for the test whether a state is covered.
use Rattle.std.specs.Prelude.{◌≡◌, ◌<◌, ◌^◌, Bool, List, All}
use Rattle.cost.specs.Distances.{IsWithin}
use Rattle.fdr.specs.Tasks.{FiniteDomainTask, IsTask}
use Rattle.cert_value.specs.Certificates.{Table, Entry, CertificateValue}
use Rattle.checker_tables.specs.Changes.{changes_of}

pub record Covering : Type 0 where
  pub task : FiniteDomainTask
  pub certificate : CertificateValue

-- the parts belong to the task and the certificate, whose numbers are below 2^64
pub record IsCovering
    (task : FiniteDomainTask) (c : CertificateValue) (indexed : List Entry)
    (generated : FiniteDomainTask) (changes : List Bool) (bounded : FiniteDomainTask) (columns : List (List Table))
    : Type 0 where
  pub well : IsTask task
  pub costs : All (λ e. e.cost < 2 ^ 64) c.closed
  pub bound : IsWithin (2 ^ 63) c.bound
  pub index : indexed ≡ c.closed
  pub generator : generated ≡ task
  pub changing : changes ≡ changes_of task
  pub heuristic_task : bounded ≡ task
  pub heuristic_columns : columns ≡ c.columns
