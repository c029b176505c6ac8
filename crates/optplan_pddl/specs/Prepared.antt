-- A planning task that is prepared for a search.
use Rattle.std.specs.Prelude.{◌≡◌, ℕ, Bool, List}
use Rattle.std.specs.Option.{option_map}
use Rattle.std.specs.Bool.{then_some}
use Rattle.pddl_task.specs.Planning.{PlanningTask}
use Rattle.pddl.specs.Texts.{SpellTask}
use Rattle.cert_value.specs.Views.{kind_of}
use Rattle.translate.specs.Translated.{IsTranslation, HasSamePlans}
use Rattle.optplan_pddl.specs.Kinds.{translation_kind}
use Rattle.optplan_pddl.specs.declared.preparing.Prepared.{Prepared}

-- the texts spell a task; this is a translation of it with the same plans, and the kind of certificates for it, if a
-- certificate is wanted
pub record IsPrepared (wanted : Bool) (domain problem : List ℕ) (p : Prepared) : Type 0 where
  pub task : PlanningTask
  pub spelled : SpellTask domain problem task
  pub translation : IsTranslation task p.translated
  pub same : HasSamePlans task p.translated
  pub kind_is : option_map kind_of p.wanted ≡ then_some wanted (translation_kind task p.translated)
