-- When a fault is explained.
use Rattle.std.proofs.Common.{◌≡◌, ◌∙◌, ap, sym, subst, ℕ, Bool, true, false, List, Some, None, refl}
use Rattle.std.specs.Prelude.{Option, option_map}
use Rattle.optplan_replies.specs.declared.fault.Fault.{Fault}
use Rattle.optplan_replies.specs.declared.fault.Fault.TheVariants.{OutOfMemory}
use Rattle.optplan_replies.specs.declared.fault.FileWord.{FileWord}
use Rattle.optplan_replies.specs.declared.fault.FileWord.TheVariants as file
use Rattle.optplan_explain.specs.declared.source.Source.{Source}
use Rattle.optplan_explain.specs.declared.source.Sources.{Sources}
use Rattle.optplan_explain.specs.declared.spot.Spot.{Spot}
use Rattle.optplan_explain.specs.Explanations.{IsExplanation, IsExplained}
use Rattle.optplan_explain.specs.Files.{ReadFiles, file_named, file_of, files_of}
use Rattle.optplan_explain.specs.Layouts.{IsExplanationAt}
use Rattle.optplan_explain.specs.Spots.{source_of, spot_of}

-- the file that a word names is that of its source
named : (sources : Sources) (word : FileWord) → file_named (files_of sources) word ≡ option_map file_of (source_of sources word)
named sources file.Domain = refl
named sources file.Problem = refl
named sources file.Plan = refl
named sources file.Sas = refl
named sources file.Cert = refl
named sources file.Output = refl

-- a fault without a spot
pub without_spot : (fault : Fault) (sources : Sources) → spot_of fault ≡ None → IsExplanation fault (files_of sources) None
without_spot fault sources spot_is = rw (spot_is) refl

-- a fault in a text that was not read
pub without_source : (fault : Fault) (sources : Sources) (word : FileWord) (spot : Spot)
    → spot_of fault ≡ Some (word, spot) → source_of sources word ≡ None → IsExplanation fault (files_of sources) None
without_source fault sources word spot spot_is source_is =
    let file_is : file_named (files_of sources) word ≡ None = named sources word ∙ ap (option_map file_of) source_is in
    rw (spot_is, file_is) refl

-- a fault at a spot of a text
pub with_text : (fault : Fault) (sources : Sources) (word : FileWord) (spot : Spot) (source : Source) (text : List ℕ)
    → spot_of fault ≡ Some (word, spot) → source_of sources word ≡ Some source
    → IsExplanationAt source.path.now source.text.now spot text → IsExplanation fault (files_of sources) (Some text)
with_text fault sources word spot source text spot_is source_is explained =
    let file_is : file_named (files_of sources) word ≡ Some (file_of source) = named sources word ∙ ap (option_map file_of) source_is in
    rw (spot_is, file_is) explained

pub ruleset explaining = (without_spot, without_source, with_text)

-- want of memory is never explained
pub memory_unexplained : (explains : Bool) (files : ReadFiles) (fault : Fault) (explanation : Option (List ℕ)) → fault ≡ OutOfMemory → explanation ≡ None
    → IsExplained explains files fault explanation
memory_unexplained false files fault explanation memory none = none
memory_unexplained true files fault explanation memory none = subst (λ (x : Fault). IsExplanation x files explanation) (sym memory) none

-- an explanation that was not requested
pub explained_unasked : (explains : Bool) (files : ReadFiles) (fault : Fault) (explanation : Option (List ℕ)) → explains ≡ false → explanation ≡ None
    → IsExplained explains files fault explanation
explained_unasked explains files fault explanation unasked none = rw (unasked) none

-- an explanation that was requested
pub explained_asked : (explains : Bool) (files : ReadFiles) (fault : Fault) (explanation : Option (List ℕ)) → explains ≡ true
    → IsExplained true files fault explanation → IsExplained explains files fault explanation
explained_asked explains files fault explanation asked explained = rw (asked) explained

pub ruleset choosing = (memory_unexplained, explained_unasked, explained_asked)
