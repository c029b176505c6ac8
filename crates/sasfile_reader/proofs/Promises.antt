-- What the public calls promise.
use Rattle.std.proofs.Common.{◌⊎◌, inl, inr, ◌≡◌, ℕ, ◌<◌, ◌-◌, ◌^◌, List, length, refl, sym, subst, ◌∙◌, Result, Ok, Err}
use Rattle.std.specs.Prelude.{IfOk}
use Rattle.fdr.specs.Tasks.{FiniteDomainTask}
use Rattle.sasfile_reader.specs.declared.fault.SasFault.{SasFault}
use Rattle.sasfile_reader.specs.SasTexts.{SpellsTask}
use Rattle.sasfile_reader.specs.Reading.{Gives, task_in}
use Rattle.sasfile_reader.proofs.Steps.{ok_is}
use Rattle.sasfile_reader.proofs.SoundWhole.{task_sound}
use Rattle.sasfile_reader.proofs.CompleteWhole.{task_complete}

-- a result that gives what reading gives is right where reading is
pub found_by : (P : FiniteDomainTask → Type 0) (r q : Result FiniteDomainTask SasFault) → Gives (λ x. x) r q → ((t : FiniteDomainTask) → q ≡ Ok t → P t) → IfOk r P
found_by P (Ok t) q h p = p t h
found_by P (Err e) q h p = tt

pub only_by : (r q s : Result FiniteDomainTask SasFault) → q ≡ s → Gives (λ x. x) r q → Gives (λ x. x) r s
only_by r q s e h = subst (λ (z : Result FiniteDomainTask SasFault). Gives (λ x. x) r z) e h

pub one_reading_is : (text : List ℕ) (s t : FiniteDomainTask) → length text < 2 ^ 64 - 1 → SpellsTask text s → SpellsTask text t → s ≡ t
one_reading_is text s t room h k = ok_is s t (sym (task_complete text s room h) ∙ task_complete text t room k)

pub no_fault_is : (text : List ℕ) (task : FiniteDomainTask) (e : SasFault) → length text < 2 ^ 64 - 1 → SpellsTask text task → task_in text ≡ Err e → ⊥
no_fault_is text task e room h f = let z : Ok task ≡ Err e = sym (task_complete text task room h) ∙ f in absurd cc

spelled_or : (text : List ℕ) → length text < 2 ^ 64 - 1 → (r : Result FiniteDomainTask SasFault) → task_in text ≡ r → ((task : FiniteDomainTask) × SpellsTask text task) ⊎ ((e : SasFault) × (task_in text ≡ Err e))
spelled_or text room (Ok t) h = inl (t, task_sound text t room h)
spelled_or text room (Err e) h = inr (e, h)

pub spelled_or_not_is : (text : List ℕ) → length text < 2 ^ 64 - 1 → ((task : FiniteDomainTask) × SpellsTask text task) ⊎ ((e : SasFault) × (task_in text ≡ Err e))
spelled_or_not_is text room = spelled_or text room (task_in text) refl
