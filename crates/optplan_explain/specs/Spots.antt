-- The spots of faults, and their files.
use Rattle.std.specs.Prelude.{Option, Some, None}
use Rattle.sexp.specs.declared.fault.SexpFault.{SexpFault}
use Rattle.sexp.specs.declared.fault.SexpFault.TheVariants as tree
use Rattle.pddl_syntax.specs.declared.fault.PlanningFile.{PlanningFile}
use Rattle.pddl_syntax.specs.declared.fault.PlanningFile.TheVariants as planning_file
use Rattle.pddl.specs.declared.fault.PddlFault.{PddlFault}
use Rattle.pddl.specs.declared.fault.PddlFault.TheVariants as task
use Rattle.validate.specs.declared.plan.PlanFault.{PlanFault}
use Rattle.validate.specs.declared.plan.PlanFault.TheVariants as plan
use Rattle.sasfile_reader.specs.declared.fault.SasFault.{SasFault}
use Rattle.sasfile_reader.specs.declared.fault.SasFault.TheVariants as sas
use Rattle.cert_text.specs.declared.fault.CertFault.{CertFault}
use Rattle.cert_text.specs.declared.fault.CertFault.TheVariants as cert
use Rattle.optplan_replies.specs.declared.fault.FileWord.{FileWord}
use Rattle.optplan_replies.specs.declared.fault.FileWord.TheVariants as file
use Rattle.optplan_replies.specs.declared.fault.Fault.{Fault}
use Rattle.optplan_replies.specs.declared.fault.Fault.TheVariants.{OutOfMemory, CannotRead, CannotWrite, Task, Plan, Sas, Cert, GroundLimit, TaskTooLarge, TotalTooLarge}
use Rattle.optplan_explain.specs.declared.source.Source.{Source}
use Rattle.optplan_explain.specs.declared.source.Sources.{Sources}
use Rattle.optplan_explain.specs.declared.spot.Spot.{Spot}
use Rattle.optplan_explain.specs.declared.spot.Spot.TheVariants.{Byte, End, Line, LastLine}

-- the spot of a fault of a tree
abbrev pub tree_spot : SexpFault → Option Spot
tree_spot tree.OutOfMemory = None
tree_spot (tree.NotAscii at) = Some (Byte at)
tree_spot (tree.Unclosed at) = Some (Byte at)
tree_spot (tree.StrayClose at) = Some (Byte at)
tree_spot (tree.TooDeep at) = Some (Byte at)
tree_spot tree.TooLong = None
tree_spot tree.Empty = Some End
tree_spot (tree.Trailing at) = Some (Byte at)

-- the word for a file of a planning task
abbrev pub file_word : PlanningFile → FileWord
file_word planning_file.Domain = file.Domain
file_word planning_file.Problem = file.Problem

-- the file's word with the spot, if there is one
abbrev pub in_file : FileWord → Option Spot → Option (FileWord × Spot)
in_file word None = None
in_file word (Some spot) = Some (word, spot)

-- the file of a fault of a planning task, and its spot
abbrev pub task_spot : PddlFault → Option (FileWord × Spot)
task_spot task.OutOfMemory = None
task_spot (task.Tree word e) = in_file (file_word word) (tree_spot e)
task_spot (task.Section word e) = Some (file_word word, Byte e.at)

-- the spot of a fault of a plan's text
abbrev pub plan_spot : PlanFault → Option Spot
plan_spot plan.OutOfMemory = None
plan_spot (plan.Tree e) = tree_spot e
plan_spot (plan.PlanShape at) = Some (Byte at)
plan_spot plan.PlanLimit = Some (Byte 0)

-- the spot of a fault of the text of a finite-domain task
abbrev pub sas_spot : SasFault → Option Spot
sas_spot sas.OutOfMemory = None
sas_spot (sas.Limit table) = None
sas_spot (sas.Version line) = Some (Line line)
sas_spot (sas.Expected line) = Some (Line line)
sas_spot (sas.Range line) = Some (Line line)
sas_spot (sas.Axioms line) = Some (Line line)
sas_spot (sas.ConditionalEffect line) = Some (Line line)
sas_spot sas.Truncated = Some LastLine
sas_spot (sas.Trailing line) = Some (Line line)

-- the spot of a fault of a certificate's text
abbrev pub cert_spot : CertFault → Option Spot
cert_spot cert.OutOfMemory = None
cert_spot cert.Header = Some (Line 1)
cert_spot (cert.Expected line) = Some (Line line)
cert_spot (cert.Number line) = Some (Line line)
cert_spot cert.Truncated = Some LastLine
cert_spot (cert.Trailing line) = Some (Line line)
cert_spot (cert.Order line) = Some (Line line)
cert_spot (cert.Classes line) = Some (Line line)
cert_spot cert.TooLong = None

-- the file of a fault, and its spot; none if it is at no byte and in no line of a text
abbrev pub spot_of : Fault → Option (FileWord × Spot)
spot_of OutOfMemory = None
spot_of (CannotRead word) = None
spot_of (CannotWrite word) = None
spot_of (Task e word) = task_spot e
spot_of (Plan e) = in_file file.Plan (plan_spot e)
spot_of (Sas e) = in_file file.Sas (sas_spot e)
spot_of (Cert e) = in_file file.Cert (cert_spot e)
spot_of GroundLimit = None
spot_of (TaskTooLarge table) = None
spot_of TotalTooLarge = None

-- the file that a word names, if it was read
abbrev pub source_of : Sources → FileWord → Option Source
source_of sources file.Domain = sources.domain
source_of sources file.Problem = sources.problem
source_of sources file.Plan = sources.plan
source_of sources file.Sas = sources.sas
source_of sources file.Cert = sources.cert
source_of sources file.Output = None
